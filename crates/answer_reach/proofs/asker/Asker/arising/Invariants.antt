use Rattle.std.proofs.Common.{◌≡◌, take}
use Rattle.std.specs.List.{flat_map}
use Rattle.zone_core.specs.Sets.{listing}
use Rattle.answer_reach.specs.ReachTests.{arising_from}
use Rattle.answer_reach.proofs.asker.Asker.arising.Given as goal

abbrev pub invariant-loop-name : goal.invariant-loop-name
invariant-loop-name l = l.names.items ≡ flat_map (arising_from l.self.rights.now.rules l.self.rights.now.caller l.self.index.now.origin (listing l.self.index.now.records)) (take l.name-index l.known)
