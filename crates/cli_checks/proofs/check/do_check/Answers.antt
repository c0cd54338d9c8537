use Rattle.std.proofs.lemmas.Result.{err_from_is_err_and}
use Rattle.cli_checks.proofs.CheckLemmas.{checked_front, checked_told}
use Rattle.cli_checks.proofs.check.do_check.Goals as goal

pub returns-in_err-write_text-in-Ok : goal.returns-in_err-write_text-in-Ok
returns-in_err-write_text-in-Ok g c =
    let p = err_from_is_err_and c.from_residual.result c.from_residual.ensures.1 in
    let made = c.in-Ok.ensures in
    let sent = rw c.deref.ensures.value at c.in_err-write_text-in-Ok.ensures in
    rw (p.1, p.2) (checked_front c.args.wanted _ _ _ _ _ _ _ c.in-Ok.report.findings c.in-Ok.report.text.items made.0 made.1 sent)

pub returns-in-Err : goal.returns-in-Err
returns-in-Err g c = checked_told c.args.wanted _ _ _ _ _ _ _ c.in-Err.fault c.write_refusal.result c.in-Err.ensures c.write_refusal.ensures
