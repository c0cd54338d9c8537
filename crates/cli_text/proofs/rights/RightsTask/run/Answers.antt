use Rattle.std.proofs.Common.{Err, Vec, Global, ℕ}
use Rattle.std.proofs.lemmas.Result.{err_from_is_err_and}
use Rattle.cli_text.specs.Rights.{rights_text}
use Rattle.cli_core.proofs.JobLemmas.{answered_front, answered_told}
use Rattle.cli_text.proofs.rights.RightsTask.run.Goals as goal

pub returns-in_err-write_text-in-Ok : goal.returns-in_err-write_text-in-Ok
returns-in_err-write_text-in-Ok g c =
    let p = err_from_is_err_and c.from_residual.result c.from_residual.ensures.1 in
    let made = c.in-Ok.ensures in
    let sent = rw c.deref.ensures.value at c.in_err-write_text-in-Ok.ensures in
    rw (p.1, p.2) (answered_front _ (rights_text c.args.self.form c.args.self.asked) _ _ _ _ _ _ c.in-Ok.line.items made.0 made.1 sent)

pub returns-in-Err : goal.returns-in-Err
returns-in-Err g c =
    answered_told _ (rights_text c.args.self.form c.args.self.asked) _ _ _ _ _ _ (λ (line : Vec ℕ Global). line.items) c.in-Err.fault (Err c.write_refusal.result) c.in-Err.ensures c.write_refusal.ensures
