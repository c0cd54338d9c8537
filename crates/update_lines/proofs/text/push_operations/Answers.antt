use Rattle.std.specs.Prelude.{string_bytes}
use Rattle.update_lines.specs.Texts.{operation_line}
use Rattle.update_lines.proofs.TextLemmas.{line_all}
use Rattle.update_lines.proofs.text.push_operations.Goals as goal

pub returns : goal.returns
returns c =
    let l = c.loop-operation in
    line_all operation_line (string_bytes c.args.text.now) c.args.operations.now l.operation-index (string_bytes l.text) c.loop-operation-test.false l.invariant
