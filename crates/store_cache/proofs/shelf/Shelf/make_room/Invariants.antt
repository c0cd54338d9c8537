use Rattle.std.proofs.Common.{◌≡◌, ℕ, drop}
use Rattle.store_cache.specs.Shelf.{on}
use Rattle.store_cache.proofs.shelf.Shelf.make_room.Given as goal

abbrev pub invariant-loop-self : goal.invariant-loop-self
invariant-loop-self g l = (n : ℕ) × (on l.self ≡ drop n (on l.initial.self))

abbrev pub decreases-loop-self : goal.decreases-loop-self
decreases-loop-self g l = goal.left-loop-self g l
