use Rattle.std.proofs.Common.{◌≡◌, ◌++◌, map, take}
use Rattle.policy_build.specs.Making.{pair_of, pairs_with}
use Rattle.policy_build.proofs.building.push_pairs.Given as goal

-- the pairs of the names so far were appended
abbrev pub invariant-loop-one : goal.invariant-loop-one
invariant-loop-one l = map pair_of l.pairs.items ≡ map pair_of l.initial.pairs.items ++ pairs_with l.callers (take l.one-index (map (λ n. n.now) l.names))
