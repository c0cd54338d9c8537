use Rattle.std.proofs.Common.{◌≡◌, take}
use Rattle.std.specs.List.{list_any}
use Rattle.zone_core.specs.Sets.{listing}
use Rattle.answer_reach.specs.ReachTests.{may_change_inside}
use Rattle.answer_reach.proofs.asker.Asker.any_may_change.Given as goal

abbrev pub invariant-loop-name : goal.invariant-loop-name
invariant-loop-name l = l.found ≡ list_any (may_change_inside l.self.rights.now.rules l.self.rights.now.caller l.self.index.now.origin (listing l.self.index.now.records) l.lists l.asked) (take l.name-index l.names)
