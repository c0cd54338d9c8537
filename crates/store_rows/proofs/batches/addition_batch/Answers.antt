use Rattle.std.proofs.Common.{◌≡◌, ℕ, pos, Option, Some, IsSome, option_map, w64, refl, sym, ap, subst, ◌∙◌}
use Rattle.std.specs.Prelude.{MatchOption}
use Rattle.std.proofs.lemmas.Int.{to_z-of_z}
use Rattle.zone_core.specs.Changes.{change_in}
use Rattle.zone_core.specs.declared.change.Change.{Change}
use Rattle.office_model.specs.States.{State}
use Rattle.office_model.specs.Tables.{Fits, addition_in, committed}
use Rattle.store_sql.specs.Rows.{BatchOf}
use Rattle.store_rows.specs.Batches.{Leads, IsNext, change_batch, receipt_rows, receipts_batch}
use Rattle.store_rows.proofs.BatchLaws.{if_number, change_leads}
use Rattle.store_rows.proofs.batches.addition_batch.Goals as goal

pub returns-clause-exact : goal.returns-clause-exact
returns-clause-exact c =
    let a = addition_in c.args.addition.now in
    let o = a.receipt.origin in
    let number = to_z-of_z w64 c.args.number c.ranges.number in
    let Is : BatchOf → Option Change → Type 0 =
    λ w some. MatchOption some (w ≡ receipts_batch (receipt_rows a)) (λ (change : Change). (n : ℕ) → c.args.number ≡ pos n → w ≡ change_batch o n (change_in change) (receipt_rows a)) in
    if_number c.change_batch.result (λ n. c.args.number ≡ pos n) (λ n (w : BatchOf). w ≡ change_batch o n (change_in c.in-Some.change) c.in_ok-receipts.receipts.items) (λ (w : BatchOf). Is w c.args.addition.now.change)
    (λ n e. c.change_batch.ensures n (number ∙ e))
    (λ w told. subst (Is w) (sym c.in-Some.is) (λ n e. told n e ∙ ap (change_batch o n (change_in c.in-Some.change)) c.in_ok-receipts.ensures.rows))

pub returns-clause-leads : goal.returns-clause-leads
returns-clause-leads c =
    let a = addition_in c.args.addition.now in
    let o = a.receipt.origin in
    let number = to_z-of_z w64 c.args.number c.ranges.number in
    let some : a.change ≡ Some (change_in c.in-Some.change) = ap (option_map change_in) c.in-Some.is in
    let there : IsSome c.args.addition.now.change = subst (λ (q : Option Change). IsSome q) (sym c.in-Some.is) refl in
    if_number c.change_batch.result (λ n. c.args.number ≡ pos n) (λ n (w : BatchOf). w ≡ change_batch o n (change_in c.in-Some.change) c.in_ok-receipts.receipts.items)
    (λ (w : BatchOf). (s : State) → Fits s a → (IsSome c.args.addition.now.change → IsNext s o c.args.number) → Leads w s (committed a s))
    (λ n e. c.change_batch.ensures n (number ∙ e))
    (λ w told s fits next. change_leads a (change_in c.in-Some.change) c.args.number w some c.receipt_rows.ensures.receipt
    (λ n e. told n e ∙ ap (change_batch o n (change_in c.in-Some.change)) c.in_ok-receipts.ensures.rows) s fits (next there))
