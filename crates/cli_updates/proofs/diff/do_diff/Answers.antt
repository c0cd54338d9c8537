use Rattle.cli_updates.specs.Diff.{new_read, IsDiffText}
use Rattle.cli_updates.proofs.ToldLemmas.{told_behind}
use Rattle.cli_updates.proofs.diff.do_diff.Goals as goal

pub returns-in-Ok-write_diff : goal.returns-in-Ok-write_diff
returns-in-Ok-write_diff g c =
    let read = c.in-Ok.ensures in
    (c.in-Ok.zone, read.0, read.1, told_behind (IsDiffText c.args.what.1 c.in-Ok.zone) (new_read c.in-Ok.zone) _ _ _ _ _ _ c.write_diff.result _ _ _ _ read.2 read.3 c.in-Ok-write_diff.is c.write_diff.ensures)

pub returns-in-Err-write_diff : goal.returns-in-Err-write_diff
returns-in-Err-write_diff g c =
    let read = c.in-Ok.ensures in
    (c.in-Ok.zone, read.0, read.1, told_behind (IsDiffText c.args.what.1 c.in-Ok.zone) (new_read c.in-Ok.zone) _ _ _ _ _ _ c.write_diff.result _ _ _ _ read.2 read.3 c.in-Err-write_diff.is c.write_diff.ensures)
