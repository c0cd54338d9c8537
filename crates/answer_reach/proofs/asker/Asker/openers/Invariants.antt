use Rattle.std.proofs.Common.{◌≡◌, take}
use Rattle.std.specs.List.{filter}
use Rattle.zone_core.specs.Sets.{listing}
use Rattle.answer_reach.specs.ReachTests.{opens}
use Rattle.answer_reach.proofs.asker.Asker.openers.Given as goal

abbrev pub invariant-loop-name : goal.invariant-loop-name
invariant-loop-name l = l.names.items ≡ filter (opens l.self.rights.now.rules l.self.rights.now.caller l.self.index.now.origin (listing l.self.index.now.records) l.cuts) (take l.name-index l.known)
