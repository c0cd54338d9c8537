use Rattle.std.proofs.Common.{◌≡◌, take}
use Rattle.std.specs.List.{flat_map}
use Rattle.zone_core.specs.Sets.{listing}
use Rattle.answer_reach.specs.ReachTests.{staying_from}
use Rattle.answer_reach.proofs.asker.Asker.staying.Given as goal

abbrev pub invariant-loop-record : goal.invariant-loop-record
invariant-loop-record l = l.names.items ≡ flat_map (staying_from l.self.rights.now.rules l.self.rights.now.caller l.self.index.now.origin (listing l.self.index.now.records)) (take l.record-index l.records)
