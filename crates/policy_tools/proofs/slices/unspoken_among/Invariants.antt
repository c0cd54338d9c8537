use Rattle.std.proofs.Common.{map, take}
use Rattle.policy_tools.specs.Slices.{AreKept, IsSpokenOf}
use Rattle.policy_tools.proofs.slices.unspoken_among.Given as goal

-- those of the origins so far are kept of which no rule speaks
abbrev pub invariant-loop-origin : goal.invariant-loop-origin
invariant-loop-origin l = AreKept (λ origin. ¬ IsSpokenOf l.rules origin) (take l.origin-index l.origins) (map (λ origin. origin.now) l.unspoken.items)
