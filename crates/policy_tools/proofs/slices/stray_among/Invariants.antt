use Rattle.std.proofs.Common.{map, take}
use Rattle.policy_tools.specs.Slices.{AreKept, Matters}
use Rattle.policy_tools.proofs.slices.stray_among.Given as goal

-- those of the rules so far are kept that do not matter
abbrev pub invariant-loop-rule : goal.invariant-loop-rule
invariant-loop-rule l = AreKept (λ rule. ¬ Matters l.origins rule) (take l.rule-index l.rules) (map (λ rule. rule.now) l.stray.items)
