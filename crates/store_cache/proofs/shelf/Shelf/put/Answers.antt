use Rattle.std.proofs.Common.{◌∙◌, ap, suc, length, drop}
use Rattle.store_cache.specs.Shelf.{on}
use Rattle.store_cache.proofs.ShelfLemmas.{drop_each}
use Rattle.store_cache.proofs.shelf.Shelf.put.Goals as goal
use Rattle.store_cache.proofs.shelf.Shelf.put.Goals.{in-Ok, in-Err}

pub returns : goal.returns
returns g c = elim c.match-push.branch [
  | in-Ok w ↦ (w.make_room.ensures.0, ap on w.self-is ∙ w.make_room.ensures.1 ∙ ap (drop w.make_room.ensures.0) w.in-Ok.ensures.items)
  | in-Err w ↦ (suc (length (on c.args.self.now)), ap on w.self-is ∙ w.clear.ensures.items ∙ drop_each (on c.args.self.now) c.args.one)
]
