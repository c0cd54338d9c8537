use Rattle.std.proofs.Common.{◌≡◌, ◌++◌, map, take}
use Rattle.std.specs.List.{All}
use Rattle.dns_names.specs.Labels.{IsName}
use Rattle.policy_tools.proofs.name_groups.add_names.Given as goal

-- the names of the rules so far are added
abbrev pub invariant-loop-rule : goal.invariant-loop-rule
invariant-loop-rule l = record { added : l.names.items ≡ l.initial.names.items ++ map (λ r. r.at) (take l.rule-index l.rules); valid : All IsName l.initial.names.items → All IsName l.names.items }
