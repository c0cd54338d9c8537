use Rattle.std.proofs.Common.{◌≡◌, take}
use Rattle.zone_core.specs.Delegations.{cut_owners}
use Rattle.zone_core.proofs.report.cuts.Given as goal

abbrev pub invariant-loop-record : goal.invariant-loop-record
invariant-loop-record l = l.names.items ≡ cut_owners l.origin (take l.record-index l.records)
