use Rattle.std.proofs.Common.{rules, subst}
use Rattle.std.proofs.lemmas.Result.{err_from_is_err_and}
use Rattle.std.proofs.lemmas.List.Sorted.{ranks_by, answers_always}
use Rattle.std.specs.Ordering.{is_lt}
use Rattle.store_rows.specs.Listed.{kept_order, kept_total}
use Rattle.store_rows.specs.RowFaults.{Refuses}
use Rattle.store_rows.proofs.ListedLemmas.{rows_read, receipts_listed}
use Rattle.store_rows.proofs.RowSteps.{refuses_none}
use Rattle.store_rows.proofs.ordered.kept_receipts.Goals as goal

pub returns-in_err-kept-clause-held : goal.returns-in_err-kept-clause-held
returns-in_err-kept-clause-held c = λ version all s st moved.
    let rows = c.args.rows.now in
    let read = rows_read version all s st rows moved in
    let p = err_from_is_err_and c.from_residual.result c.from_residual.ensures.1 in
    rw (p.1, p.2) (refuses_none c.in_err-kept.field-0.0 read.0 (subst (Refuses c.in_err-kept.field-0.0) read.1 c.in_err-kept.ensures))

pub returns-clause-found : goal.returns-clause-found
returns-clause-found c = (
  c.in_ok-kept.kept.items,
  c.in_ok-kept.ensures,
  c.sort_unstable_by.ensures.permutation,
  c.sort_unstable_by.ensures.sorted (λ a b. is_lt (kept_order a b)) (ranks_by kept_total (λ x. x)) (answers_always _ _ _ (λ f a r g called. search rules)),
)

pub returns-clause-held : goal.returns-clause-held
returns-clause-held c = λ version all s st moved.
    receipts_listed version all s st c.args.rows.now moved c.in_ok-kept.kept.items c.sort_unstable_by.new.self.items c.in_ok-kept.ensures c.sort_unstable_by.ensures.permutation
    (c.sort_unstable_by.ensures.sorted (λ a b. is_lt (kept_order a b)) (ranks_by kept_total (λ x. x)) (answers_always _ _ _ (λ f a r g called. search rules)))
