use Rattle.std.proofs.Common.{◌∙◌}
use Rattle.dns_names.specs.Order.{same_name}
use Rattle.store_cache.proofs.ShelfLemmas.{taken_at}
use Rattle.store_cache.proofs.shelf.Shelf.take.Goals as goal

pub returns : goal.returns
returns g c =
    let found = rw c.deref.ensures.value at c.in_ok-place.ensures.found in
    let taken = taken_at (λ x. same_name (g.T.OfZone.zone_origin x) c.args.origin.now) c.args.self.now.kept.items c.in_ok-place.place c.remove-found.result found.0 c.remove-found.ensures.value found.1 in
    (taken.0, taken.1, taken.2, c.remove-found.ensures.items ∙ taken.3, taken.4)
