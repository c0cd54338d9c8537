use Rattle.std.proofs.Common.{ap}
use Rattle.std.proofs.lemmas.Result.{err_from_is_err_and}
use Rattle.store_rows.specs.declared.ordered.ZoneRecord.{ZoneRecord}
use Rattle.store_rows.proofs.RowSteps.{done, ok_is, refuses_any}
use Rattle.store_rows.proofs.records.read_record.Goals as goal

pub returns-in_err-read-clause-only : goal.returns-in_err-read-clause-only
returns-in_err-read-clause-only c = λ origin r is rec e.
    let one : ZoneRecord = record { origin = origin; rr = r } in
    let p = err_from_is_err_and c.from_residual.result c.from_residual.ensures.1 in
    rw (p.1, p.2) (refuses_any c.in_err-read.field-0.0 one (origin, r) (c.in_err-read.ensures.only one (record { origin = is; rr = rec }) e))

pub returns-clause-only : goal.returns-clause-only
returns-clause-only c = λ origin r is rec e.
    let one : ZoneRecord = record { origin = origin; rr = r } in
    let same = ok_is one c.in_ok-read.read (c.in_ok-read.ensures.only one (record { origin = is; rr = rec }) e) in
    ap (λ (x : ZoneRecord). done (x.origin, x.rr)) same
