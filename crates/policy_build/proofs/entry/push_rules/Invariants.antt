use Rattle.std.proofs.Common.{◌≡◌, ◌++◌, map, take}
use Rattle.policy_build.specs.Entries.{entry_of, used}
use Rattle.policy_build.proofs.entry.push_rules.Given as goal

-- the entries of the rules so far were appended
abbrev pub invariant-loop-rule : goal.invariant-loop-rule
invariant-loop-rule l = map entry_of l.entries.items ≡ map entry_of l.initial.entries.items ++ map (used l.usage) (take l.rule-index l.rules)
