use Rattle.std.specs.Prelude.{string_bytes}
use Rattle.update_lines.proofs.TextLemmas.{line_all}
use Rattle.cli_updates.specs.Plan.{signed_line}
use Rattle.cli_updates.proofs.plan.push_signed.Goals as goal

pub returns : goal.returns
returns c =
    let l = c.loop-record in
    line_all (signed_line c.args.sign.now) (string_bytes c.args.text.now) c.args.records.now l.record-index (string_bytes l.text) c.loop-record-test.false l.invariant
