use Rattle.std.specs.Prelude.{string_bytes}
use Rattle.cli_updates.specs.Filling.{part_view}
use Rattle.cli_updates.proofs.PartLineLemmas.{part_line}
use Rattle.cli_updates.proofs.split.part_body.Goals as goal

pub returns-clause-read : goal.returns-clause-read
returns-clause-read c =
    let text = c.in_ok-update_text in
    part_line c.args.word.now c.args.before (part_view c.args.part.now) c.in_ok-id.id c.in_ok-update.update (string_bytes text.field-0) c.body_line.result
    c.in_ok-id.ensures c.in_ok-update.ensures text.ensures.again c.body_line.ensures
