use Rattle.std.proofs.Common.{inl, inr, subst, refl}
use Rattle.sqlite.specs.Held.{state}
use Rattle.store_faults.specs.StoreFaults.{IsFailure}
use Rattle.cli_store.specs.Stores.{IsNoStore}
use Rattle.cli_store.proofs.FilesLemmas.{map_err, left_as}
use Rattle.cli_store.proofs.store_file.made_or_adopted.Goals as goal

pub returns-in-Ok-clause-opened : goal.returns-in-Ok-clause-opened
returns-in-Ok-clause-opened g c =
    let e = c.in-Ok.ensures in
    inr (record { bare = λ some. e.wrong.1 some; holds = e.made; left = e.kept; honest = e.honest })

pub returns-in-WrongVersion-clause-refused : goal.returns-in-WrongVersion-clause-refused
returns-in-WrongVersion-clause-refused g c =
    let same = c.in-Err.ensures.same c.in-WrongVersion.is in
    map_err c.adopted.result (λ un refused. left_as un.conn (λ after none. inl (subst (λ conn. IsNoStore (state g.S.Store conn) (state g.S.Store after) un.fault) same none)) refused)
    c.adopted.ensures.refused

pub returns-in_default-clause-refused : goal.returns-in_default-clause-refused
returns-in_default-clause-refused g c =
    let e = c.in-Err.ensures in
    let other = c.in_default.not-WrongVersion in
    let failed : IsFailure c.in-Err.refused.fault = elim e.named [ inl is ↦ absurd (other is) | inr failed ↦ failed ] in
    (c.in-Err.refused.conn, refl, inr (record { bare = λ some. other (e.wrong.1 some); failed = failed; none = e.failed other; crash = e.crash }))
