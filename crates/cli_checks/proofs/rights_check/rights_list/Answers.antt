use Rattle.std.proofs.lemmas.Result.{IfOk-weaker}
use Rattle.cli_checks.proofs.rights_check.rights_list.Goals as goal

pub returns-in_ok-rights-in-Some : goal.returns-in_ok-rights-in-Some
returns-in_ok-rights-in-Some c =
    rw c.in-Some.is (IfOk-weaker c.name_text.result _ _ (λ text same. (c.in_ok-rights-in-Some.rights, c.in_ok-rights-in-Some.ensures, same)) c.name_text.ensures)

pub returns-in_ok-rows-in-None : goal.returns-in_ok-rows-in-None
returns-in_ok-rows-in-None c =
    let told = rw c.deref.ensures.value at c.groups_text.ensures in
    rw c.in-None.is (IfOk-weaker c.groups_text.result _ _ (λ text same. (c.in_ok-rows-in-None.rows.items, c.in_ok-rows-in-None.ensures, same)) told)
