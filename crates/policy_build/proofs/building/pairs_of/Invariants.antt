use Rattle.std.proofs.Common.{◌≡◌, [], drop, map}
use Rattle.policy_build.specs.Making.{pair_of, products}
use Rattle.policy_build.proofs.building.pairs_of.Given as goal

-- the pairs so far, before those of the other callers
abbrev pub invariant-loop-one : goal.invariant-loop-one
invariant-loop-one l = products [] (map (λ c. c.now) l.callers) (map (λ n. n.now) l.names) ≡ products (map pair_of l.pairs.items) (drop l.one-index (map (λ c. c.now) l.callers)) (map (λ n. n.now) l.names)
