use Rattle.std.proofs.Common.{Ok, Err, sym, ap}
use Rattle.grant_policy.proofs.WordLemmas.{type_read}
use Rattle.cli_core.specs.LineFaults.{or_refused}
use Rattle.cli_core.specs.declared.refusal.Refusal.TheVariants.{TypeNotKept}
use Rattle.cli_text.proofs.rights.read_type.Goals as goal

pub returns-in-Ok : goal.returns-in-Ok
returns-in-Ok c =
    ap (λ o. or_refused o TypeNotKept) (sym (rw c.as_bytes.ensures.value at (type_read c.as_bytes.result.now (Ok c.in-Ok.record_type) c.in-Ok.ensures.found)))

pub returns-in-Err : goal.returns-in-Err
returns-in-Err c =
    ap (λ o. or_refused o TypeNotKept) (sym (rw c.as_bytes.ensures.value at (type_read c.as_bytes.result.now (Err c.in-Err.field-0) c.in-Err.ensures.found)))
