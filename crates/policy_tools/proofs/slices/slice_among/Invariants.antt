use Rattle.std.proofs.Common.{map, take}
use Rattle.policy_tools.specs.Slices.{AreKept, Matters}
use Rattle.policy_tools.proofs.slices.slice_among.Given as goal

-- those of the rules so far are kept that matter
abbrev pub invariant-loop-rule : goal.invariant-loop-rule
invariant-loop-rule l = AreKept (Matters l.origins) (take l.rule-index l.rules) (map (λ rule. rule.now) l.slice.items)
