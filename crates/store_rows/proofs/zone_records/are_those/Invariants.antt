use Rattle.std.proofs.Common.{◌≡◌, length, map, take}
use Rattle.store_rows.proofs.zone_records.are_those.Given as goal

-- the same so far
abbrev pub invariant-loop-place : goal.invariant-loop-place
invariant-loop-place l = record {
  long : length l.first ≡ length l.second;
  same : take l.place l.first ≡ map (λ r. r.rr) (take l.place l.second);
}
