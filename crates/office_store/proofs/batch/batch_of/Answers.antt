use Rattle.std.proofs.Common.{sym, subst, rules}
use Rattle.std.specs.Int.{w64}
use Rattle.std.specs.Prelude.{FitsSigned}
use Rattle.std.proofs.lemmas.Int.{to_z-of_z}
use Rattle.store_rows.specs.Batches.{IsNext}
use Rattle.office_store.proofs.AdditionLemmas.{with_next}
use Rattle.office_store.proofs.batch.batch_of.Goals as goal

pub returns-clause-exact : goal.returns-clause-exact
returns-clause-exact g c = λ clean s h fits.
    let number = c.in_ok-number.number in
    let small : FitsSigned w64 number = search rules in
    let next = subst (λ n. IsNext s c.args.addition.now.receipt.origin n) (sym (to_z-of_z w64 number small)) (c.in_ok-number.ensures.next clean s h) in
    with_next s _ c.args.addition.now.change _ _ _ fits.change next c.in_ok-addition_batch.ensures.exact

pub returns-clause-leads : goal.returns-clause-leads
returns-clause-leads g c = λ clean s h fits.
    let number = c.in_ok-number.number in
    let small : FitsSigned w64 number = search rules in
    c.in_ok-addition_batch.ensures.leads s fits (λ _. subst (λ n. IsNext s c.args.addition.now.receipt.origin n) (sym (to_z-of_z w64 number small)) (c.in_ok-number.ensures.next clean s h))
