use Rattle.std.proofs.Common.{take}
use Rattle.std.specs.List.{AllByRecursion}
use Rattle.dns_data.specs.Rdata.{IsRecord}
use Rattle.zone_tools.proofs.shared.reveal_records.Given as goal

abbrev pub invariant-loop-record : goal.invariant-loop-record
invariant-loop-record l = AllByRecursion IsRecord (take l.record-index l.records)
