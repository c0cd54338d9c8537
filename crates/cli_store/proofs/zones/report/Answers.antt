use Rattle.std.proofs.lemmas.Result.{err_from_is_err_and}
use Rattle.cli_store.proofs.zones.report.Goals as goal

pub returns-in_err-write_text-in-Ok : goal.returns-in_err-write_text-in-Ok
returns-in_err-write_text-in-Ok g c =
    let p = err_from_is_err_and c.from_residual.result c.from_residual.ensures.1 in
    rw (c.in-Ok.is, p.1, p.2) (rw c.as_bytes.ensures.value at c.in_err-write_text-in-Ok.ensures)

pub returns-in_ok-write_text-in-Ok : goal.returns-in_ok-write_text-in-Ok
returns-in_ok-write_text-in-Ok g c = rw c.in-Ok.is (rw c.as_bytes.ensures.value at c.in_ok-write_text-in-Ok.ensures)
