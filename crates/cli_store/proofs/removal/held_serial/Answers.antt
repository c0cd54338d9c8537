use Rattle.std.proofs.Common.{ℕ, Result, Ok, sym, ap, ◌∙◌}
use Rattle.std.proofs.lemmas.Result.{err_from_is_err_and}
use Rattle.store_faults.specs.declared.store_fault.StoreFault.{StoreFault}
use Rattle.office_store.proofs.FaultLemmas.{says_nothing}
use Rattle.cli_store.proofs.RemovalLemmas.{serial_found, serial_missing}
use Rattle.cli_store.proofs.removal.held_serial.Goals as goal

pub returns-in_err-zone-clause-answer : goal.returns-in_err-zone-clause-answer
returns-in_err-zone-clause-answer g c =
    λ clean s h.
    let p = err_from_is_err_and c.from_residual.result c.from_residual.ensures.1 in
    rw (p.1, p.2) (says_nothing _ _ c.in_err-zone.ensures.named)

pub returns-in_default-clause-answer : goal.returns-in_default-clause-answer
returns-in_default-clause-answer g c = λ clean s h. serial_missing s c.args.origin.now ((rw c.in_default.is at (c.in_ok-zone.ensures.answer clean)) s h)

pub returns-clause-answer : goal.returns-clause-answer
returns-clause-answer g c =
    λ clean s h.
    serial_found s c.args.origin.now _ ((rw c.in-Some.is at (c.in_ok-zone.ensures.answer clean)) s h)
    ∙ ap (λ (n : ℕ). let r : Result ℕ StoreFault = Ok n in r) (sym c.serial.ensures)
