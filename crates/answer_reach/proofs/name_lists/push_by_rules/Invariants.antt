use Rattle.std.proofs.Common.{◌≡◌, ◌++◌, take}
use Rattle.std.specs.List.{flat_map}
use Rattle.answer_reach.specs.ReachTests.{named_by_rule}
use Rattle.answer_reach.proofs.name_lists.push_by_rules.Given as goal

abbrev pub invariant-loop-rule : goal.invariant-loop-rule
invariant-loop-rule l = l.names.items ≡ l.fn.names.items ++ flat_map (named_by_rule l.origin) (take l.rule-index l.rules)
