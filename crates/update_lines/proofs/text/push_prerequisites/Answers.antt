use Rattle.std.specs.Prelude.{string_bytes}
use Rattle.update_lines.specs.Texts.{prerequisite_line}
use Rattle.update_lines.proofs.TextLemmas.{line_all}
use Rattle.update_lines.proofs.text.push_prerequisites.Goals as goal

pub returns : goal.returns
returns c =
    let l = c.loop-prerequisite in
    line_all prerequisite_line (string_bytes c.args.text.now) c.args.prerequisites.now l.prerequisite-index (string_bytes l.text) c.loop-prerequisite-test.false l.invariant
