use Rattle.std.proofs.Common.{◌≡◌, map, take}
use Rattle.zone_core.specs.Sets.{listing}
use Rattle.zone_answers.specs.ChangeTests.{row_of, rows_for}
use Rattle.zone_answers.proofs.changes.rows_for.Given as goal

abbrev pub invariant-loop-name : goal.invariant-loop-name
invariant-loop-name l = map row_of l.rows.items ≡ rows_for l.old.origin (listing l.old.records) (listing l.new.records) (take l.name-index l.names)
