use Rattle.std.proofs.Common.{◌≡◌, take}
use Rattle.std.specs.List.{filter}
use Rattle.zone_core.specs.Sets.{listing}
use Rattle.zone_answers.specs.AnswerChanges.{query_types}
use Rattle.answer_reach.specs.ReachTests.{reaches_in}
use Rattle.answer_reach.proofs.asker.Asker.types_in.Given as goal

abbrev pub invariant-loop-asked : goal.invariant-loop-asked
invariant-loop-asked l = l.types.items ≡ filter (reaches_in l.self.rights.now.rules l.self.rights.now.caller l.self.index.now.origin (listing l.self.index.now.records) l.lists l.names) (take l.asked-index query_types)
