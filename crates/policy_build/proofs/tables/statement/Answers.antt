use Rattle.std.proofs.Common.{codes}
use Rattle.toml.specs.View.{table_view, view}
use Rattle.toml.proofs.Views.{table_get}
use Rattle.policy_build.proofs.ReadingLemmas.{stated_rule, stated_use}
use Rattle.policy_build.proofs.tables.statement.Goals as goal

pub returns-in-Some : goal.returns-in-Some
returns-in-Some c =
    let found = table_get c.get.result (codes "template") c.args.table.now.entries c.get.ensures.value in
    stated_use (λ v. view v.now) c.get.result c.args.place (table_view c.args.table.now) found c.in-Some.field-0 c.use_statement.result c.in-Some.is c.use_statement.ensures

pub returns-in-None : goal.returns-in-None
returns-in-None c =
    let found = table_get c.get.result (codes "template") c.args.table.now.entries c.get.ensures.value in
    stated_rule (λ v. view v.now) c.get.result c.args.place (table_view c.args.table.now) found c.rule_statement.result c.in-None.is c.rule_statement.ensures
