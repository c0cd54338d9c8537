use Rattle.dns_names.specs.Order.{same_name}
use Rattle.store_cache.specs.Shelf.{on}
use Rattle.store_cache.proofs.ShelfLemmas.{forgotten}
use Rattle.store_cache.proofs.shelf.Shelf.forget.Goals as goal

pub returns : goal.returns
returns g c =
    forgotten (λ x. same_name (g.T.OfZone.zone_origin x) c.args.origin.now) (on c.args.self.now) (on c.loop.self) (on c.take.new.self) c.take.result c.take.ensures (let none = c.if-is_some.false in cc) c.loop.invariant
