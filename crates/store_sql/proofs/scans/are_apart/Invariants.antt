use Rattle.std.proofs.Common.{◌≡◌, ℕ, ℤ, ◌+◌, ◌<◌, false, get_or}
use Rattle.std.specs.Ordering.{int_eq}
use Rattle.store_sql.proofs.scans.are_apart.Given as goal

abbrev pub invariant-loop-place : goal.invariant-loop-place
invariant-loop-place l = (k : ℕ) (d : ℤ) → k + 1 < l.place → int_eq (get_or l.numbers.items k d) (get_or l.numbers.items (k + 1) d) ≡ false
