use Rattle.std.proofs.Common.{◌≡◌, ◌+◌, drop, length, map}
use Rattle.policy_build.specs.Entries.{entry_of}
use Rattle.policy_build.specs.Making.{made_of, numbered, pair_of}
use Rattle.policy_build.proofs.building.push_rules.Given as goal

-- the rules so far, before those of the other pairs
abbrev pub invariant-loop-i : goal.invariant-loop-i
invariant-loop-i l =
    numbered (entry_of l.entry) l.number (length l.pairs) 1 (map made_of l.initial.rules.items) (map pair_of l.pairs)
    ≡ numbered (entry_of l.entry) l.number (length l.pairs) (l.i + 1) (map made_of l.rules.items) (drop l.i (map pair_of l.pairs))
