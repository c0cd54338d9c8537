use Rattle.std.proofs.Common.{◌∙◌, ◌+◌, ap}
use Rattle.wire_tcp.specs.Waits.{writing}
use Rattle.wire_tcp.proofs.TryLemmas.{kept_done, kept_none, kept_write, some_taken}
use Rattle.wire_tcp.proofs.PatienceLemmas.{took_none}
use Rattle.wire_tcp.proofs.patience.PatientStreamStream.write_some.Goals as goal

pub returns-in-Ok-eq0-clause-written : goal.returns-in-Ok-eq0-clause-written
returns-in-Ok-eq0-clause-written g c = took_none _ _ _ _ (rw c.in-Ok-eq0.field-0-test at c.in-Ok-eq0.ensures.written)

pub returns-in-Ok-eq0-clause-kept : goal.returns-in-Ok-eq0-clause-kept
returns-in-Ok-eq0-clause-kept g c =
    let e = c.in-Ok-eq0.ensures in
    (e.pace, e.paced, e.ages, kept_none _ _ _ _ _ _ (rw c.in-Ok-eq0.field-0-test at e.tried) (ap (λ s. s.amount) e.reads) (c.add.ensures.amount ∙ ap (λ s. s.amount + 1) e.writes))

pub returns-in-Ok-clause-kept : goal.returns-in-Ok-clause-kept
returns-in-Ok-clause-kept g c =
    let e = c.in-Ok.ensures in
    (e.pace, e.paced, e.ages, kept_done writing c.in-Ok.count _ _ _ _ _ _ e.tried (λ is. some_taken c.in-Ok.count c.in-Ok.count-test.1) (ap (λ s. s.amount) e.reads) (ap (λ s. s.amount) e.writes))

pub returns-in-Err-clause-kept : goal.returns-in-Err-clause-kept
returns-in-Err-clause-kept g c =
    let e = c.in-Err.ensures in
    (e.pace, e.paced, e.ages, kept_write c.in-Err.field-0 _ _ _ _ _ _ e.tried (ap (λ s. s.amount) e.reads) (c.add-in-Err.ensures.amount ∙ ap (λ s. s.amount + 1) e.writes))
