use Rattle.std.proofs.Common.{◌≤◌, map, take}
use Rattle.std.specs.List.{All}
use Rattle.toml.specs.Data.{items_depth}
use Rattle.toml.specs.View.{items_view}
use Rattle.grant_policy.specs.Documents.{SpellsRules}
use Rattle.policy_build.proofs.printing.rule_tables.Given as goal

-- the tables of the rules so far
abbrev pub invariant-loop-rule : goal.invariant-loop-rule
invariant-loop-rule g l = record {
  spells : All g.T.Printed.selects l.rules → SpellsRules (map g.T.Printed.rule (take l.rule-index l.rules)) (items_view l.tables.items);
  shallow : items_depth (items_view l.tables.items) ≤ 2;
}
