use Rattle.std.proofs.Common.{◌≡◌, ◌≤◌, [], drop, length, map}
use Rattle.policy_build.specs.Entries.{entry_of}
use Rattle.policy_build.specs.Making.{made_from, made_of}
use Rattle.policy_build.proofs.building.rules_of.Given as goal

-- the rules so far, before those of the other entries
abbrev pub invariant-loop-i : goal.invariant-loop-i
invariant-loop-i l = record {
  read : made_from l.groups.callers.items l.groups.names.items 0 [] (map entry_of l.entries) ≡ made_from l.groups.callers.items l.groups.names.items l.i (map made_of l.rules.items) (drop l.i (map entry_of l.entries));
  few : length l.rules.items ≤ 1024;
}
