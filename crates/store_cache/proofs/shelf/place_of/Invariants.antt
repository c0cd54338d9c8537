use Rattle.std.proofs.Common.{◌≡◌, false, ℕ, ◌<◌}
use Rattle.std.specs.Prelude.{slice_index_or}
use Rattle.dns_names.specs.Order.{same_name}
use Rattle.store_cache.proofs.shelf.place_of.Given as goal

abbrev pub invariant-loop-i : goal.invariant-loop-i
invariant-loop-i g l = (k : ℕ) (d : g.row.T.Denot) → k < l.i → same_name (g.T.OfZone.zone_origin (slice_index_or l.kept k d)) l.origin ≡ false
