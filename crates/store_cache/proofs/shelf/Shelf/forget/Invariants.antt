use Rattle.std.proofs.Common.{◌≡◌, not, length}
use Rattle.std.specs.List.{filter}
use Rattle.dns_names.specs.Order.{same_name}
use Rattle.store_cache.specs.Shelf.{on}
use Rattle.store_cache.proofs.shelf.Shelf.forget.Given as goal

abbrev pub invariant-loop : goal.invariant-loop
invariant-loop g l = filter (λ x. not (same_name (g.T.OfZone.zone_origin x) l.origin)) (on l.self) ≡ filter (λ x. not (same_name (g.T.OfZone.zone_origin x) l.origin)) (on l.initial.self)

abbrev pub decreases-loop : goal.decreases-loop
decreases-loop g l = length (on l.self)
