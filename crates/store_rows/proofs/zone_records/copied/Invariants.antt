use Rattle.std.proofs.Common.{◌≡◌, map, take}
use Rattle.store_rows.proofs.zone_records.copied.Given as goal

abbrev pub invariant-loop-record : goal.invariant-loop-record
invariant-loop-record l = l.copies.items ≡ map (λ r. r.rr) (take l.record-index l.records)
