use Rattle.std.proofs.Common.{◌≡◌, ◌++◌, map, take}
use Rattle.policy_build.proofs.resolving.push_all.Given as goal

-- the members so far were appended
abbrev pub invariant-loop-member : goal.invariant-loop-member
invariant-loop-member g l = map (λ m. m.now) l.members.items ≡ map (λ m. m.now) l.initial.members.items ++ map (λ m. m.now) (take l.member-index l.more)
