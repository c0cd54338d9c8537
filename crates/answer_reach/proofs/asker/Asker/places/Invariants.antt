use Rattle.std.proofs.Common.{◌≡◌, take}
use Rattle.std.specs.List.{filter}
use Rattle.zone_core.specs.Sets.{listing}
use Rattle.answer_reach.specs.ReachTests.{may_be_cut}
use Rattle.answer_reach.proofs.asker.Asker.places.Given as goal

abbrev pub invariant-loop-name : goal.invariant-loop-name
invariant-loop-name l = l.names.items ≡ filter (may_be_cut l.self.rights.now.rules l.self.rights.now.caller l.self.index.now.origin (listing l.self.index.now.records) l.cuts) (take l.name-index l.known)
