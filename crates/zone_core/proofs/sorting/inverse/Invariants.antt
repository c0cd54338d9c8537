use Rattle.std.proofs.Common.{◌≡◌, ℕ, ◌<◌, length, get_or}
use Rattle.zone_core.proofs.sorting.inverse.Given as goal

abbrev pub invariant-loop-i : goal.invariant-loop-i
invariant-loop-i l = (length l.positions.items ≡ length l.sources) × ((m : ℕ) → m < l.i → get_or l.positions.items (get_or l.sources m 0) 0 ≡ m)
