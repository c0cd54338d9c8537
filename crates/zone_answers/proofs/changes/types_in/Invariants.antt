use Rattle.std.proofs.Common.{◌≡◌, take}
use Rattle.std.specs.List.{filter}
use Rattle.zone_core.specs.Sets.{listing}
use Rattle.zone_answers.specs.AnswerChanges.{query_types}
use Rattle.zone_answers.specs.ChangeTests.{differs}
use Rattle.zone_answers.proofs.changes.types_in.Given as goal

abbrev pub invariant-loop-asked : goal.invariant-loop-asked
invariant-loop-asked l = l.types.items ≡ filter (differs l.old.origin (listing l.old.records) (listing l.new.records) l.group) (take l.asked-index query_types)
