use Rattle.std.proofs.Common.{codes, refl}
use Rattle.toml.proofs.Views.{table_get}
use Rattle.grant_policy.proofs.document.document_tables.Goals as goal

pub returns-in-None : goal.returns-in-None
returns-in-None c =
    let found = table_get c.get.result (codes "rule") c.args.top.now.entries c.get.ensures.value in
    rw (← found, c.in-None.is, c.new.ensures.items) refl

pub returns-in-Some : goal.returns-in-Some
returns-in-Some c =
    let found = table_get c.get.result (codes "rule") c.args.top.now.entries c.get.ensures.value in
    rw (← found, c.in-Some.is) c.value_tables.ensures
