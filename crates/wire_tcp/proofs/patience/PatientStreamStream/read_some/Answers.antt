use Rattle.std.proofs.Common.{◌∙◌, ◌+◌, ap}
use Rattle.wire_tcp.specs.Waits.{reading}
use Rattle.wire_tcp.proofs.TryLemmas.{kept_done, kept_read}
use Rattle.wire_tcp.proofs.patience.PatientStreamStream.read_some.Goals as goal

pub returns-in-Ok-clause-kept : goal.returns-in-Ok-clause-kept
returns-in-Ok-clause-kept g c =
    let e = c.in-Ok.ensures in
    (e.pace, e.paced, e.ages, kept_done reading c.in-Ok.count _ _ _ _ _ _ e.tried (λ is. absurd cc) (ap (λ s. s.amount) e.reads) (ap (λ s. s.amount) e.writes))

pub returns-in-Err-clause-kept : goal.returns-in-Err-clause-kept
returns-in-Err-clause-kept g c =
    let e = c.in-Err.ensures in
    (e.pace, e.paced, e.ages, kept_read c.in-Err.field-0 _ _ _ _ _ _ e.tried (c.add.ensures.amount ∙ ap (λ s. s.amount + 1) e.reads) (ap (λ s. s.amount) e.writes))
