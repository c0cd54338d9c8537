use Rattle.std.proofs.Common.{◌≡◌, ◌≤◌, [], drop, length, map}
use Rattle.policy_build.specs.Resolving.{members_from}
use Rattle.policy_build.proofs.resolving.members_of.Given as goal

-- the members so far, before those of the rest of the list
abbrev pub invariant-loop-member : goal.invariant-loop-member
invariant-loop-member g l = record {
  read : members_from l.place l.rows [] l.list ≡ members_from l.place l.rows (map (λ m. m.now) l.members.items) (drop l.member-index l.list);
  few : length l.members.items ≤ 1024;
}
