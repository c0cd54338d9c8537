use Rattle.std.proofs.Common.{inl, inr, refl}
use Rattle.std.proofs.lemmas.Result.{err_from_is_err_and}
use Rattle.cli_store.proofs.service.serve_table.Goals as goal

pub returns-in-Err-clause-told : goal.returns-in-Err-clause-told
returns-in-Err-clause-told g c = inl (c.in-Err.fault, c.in-Err.ensures.refused, c.write_refusal.ensures, (refl, refl, refl))

pub returns-in_err-write_text-clause-told : goal.returns-in_err-write_text-clause-told
returns-in_err-write_text-clause-told g c =
    let e = err_from_is_err_and c.from_residual.result c.from_residual.ensures.1 in
    let told = c.in-Ok.ensures.told in
    let sent = rw told.2 at (rw c.as_bytes.ensures.value at c.in_err-write_text.ensures) in
    rw (e.1, e.2) (inr (_, told.0, told.1, inl (refl, sent.0, sent.1, (refl, refl, refl))))

pub returns-clause-told : goal.returns-clause-told
returns-clause-told g c =
    let told = c.in-Ok.ensures.told in
    let sent = rw told.2 at (rw c.as_bytes.ensures.value at c.in_ok-write_text.ensures) in
    let e = c.serve_listening.ensures in
    inr (_, told.0, told.1, inr (_, sent.0, rw sent.1 at e.written, e.served.0, rw sent.1 at e.served.1))
