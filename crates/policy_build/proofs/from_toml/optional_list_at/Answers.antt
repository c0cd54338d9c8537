use Rattle.std.proofs.Common.{refl}
use Rattle.toml.proofs.Views.{table_get}
use Rattle.policy_build.proofs.from_toml.optional_list_at.Goals as goal

pub returns-in-Some : goal.returns-in-Some
returns-in-Some g c =
    let found = table_get c.get.result c.text.result.now c.args.table.now.entries c.get.ensures.value in
    rw (← c.text.ensures, ← found, c.in-Some.is) (rw c.at.ensures at c.list.ensures)

pub returns-in-None : goal.returns-in-None
returns-in-None g c =
    let found = table_get c.get.result c.text.result.now c.args.table.now.entries c.get.ensures.value in
    rw (← c.text.ensures, ← found, c.in-None.is, c.new.ensures.items) refl
