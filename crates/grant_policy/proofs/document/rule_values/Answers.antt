use Rattle.std.proofs.lemmas.Result.{err_from_is_err_and}
use Rattle.toml.specs.View.{view, table_view}
use Rattle.grant_policy.proofs.ReadLemmas.{Refuses-on}
use Rattle.grant_policy.proofs.DocumentLaws.{no_id, no_effect, no_caller, no_scope, no_at, no_types, no_actions, upto_actions}
use Rattle.grant_policy.proofs.document.rule_values.Goals as goal

pub returns-in_err-value_at : goal.returns-in_err-value_at
returns-in_err-value_at c =
    let p = err_from_is_err_and c.from_residual.result c.from_residual.ensures.1 in
    rw (p.1, p.2) (Refuses-on _ _ _ (λ fault e. no_id c.args.number (table_view c.args.table.now) fault e) c.in_err-value_at.ensures)

pub returns-in_err-value_at-2 : goal.returns-in_err-value_at-2
returns-in_err-value_at-2 c =
    let p = err_from_is_err_and c.from_residual-in_err-value_at-2.result c.from_residual-in_err-value_at-2.ensures.1 in
    rw (p.1, p.2) (Refuses-on _ _ _ (λ fault e. no_effect c.args.number (table_view c.args.table.now) (view c.in_ok-value_at.field-0.now) c.in_ok-value_at.ensures fault e) c.in_err-value_at-2.ensures)

pub returns-in_err-value_at-3 : goal.returns-in_err-value_at-3
returns-in_err-value_at-3 c =
    let p = err_from_is_err_and c.from_residual-in_err-value_at-3.result c.from_residual-in_err-value_at-3.ensures.1 in
    rw (p.1, p.2) (Refuses-on _ _ _ (λ fault e. no_caller c.args.number (table_view c.args.table.now) (view c.in_ok-value_at.field-0.now) c.in_ok-value_at.ensures (view c.in_ok-value_at-2.field-0.now) c.in_ok-value_at-2.ensures fault e) c.in_err-value_at-3.ensures)

pub returns-in_err-value_at-4 : goal.returns-in_err-value_at-4
returns-in_err-value_at-4 c =
    let p = err_from_is_err_and c.from_residual-in_err-value_at-4.result c.from_residual-in_err-value_at-4.ensures.1 in
    rw (p.1, p.2) (Refuses-on _ _ _ (λ fault e. no_scope c.args.number (table_view c.args.table.now) (view c.in_ok-value_at.field-0.now) c.in_ok-value_at.ensures (view c.in_ok-value_at-2.field-0.now) c.in_ok-value_at-2.ensures (view c.in_ok-value_at-3.field-0.now) c.in_ok-value_at-3.ensures fault e) c.in_err-value_at-4.ensures)

pub returns-in_err-value_at-5 : goal.returns-in_err-value_at-5
returns-in_err-value_at-5 c =
    let p = err_from_is_err_and c.from_residual-in_err-value_at-5.result c.from_residual-in_err-value_at-5.ensures.1 in
    rw (p.1, p.2) (Refuses-on _ _ _ (λ fault e. no_at c.args.number (table_view c.args.table.now) (view c.in_ok-value_at.field-0.now) c.in_ok-value_at.ensures (view c.in_ok-value_at-2.field-0.now) c.in_ok-value_at-2.ensures (view c.in_ok-value_at-3.field-0.now) c.in_ok-value_at-3.ensures (view c.in_ok-value_at-4.field-0.now) c.in_ok-value_at-4.ensures fault e) c.in_err-value_at-5.ensures)

pub returns-in_err-value_at-6 : goal.returns-in_err-value_at-6
returns-in_err-value_at-6 c =
    let p = err_from_is_err_and c.from_residual-in_err-value_at-6.result c.from_residual-in_err-value_at-6.ensures.1 in
    rw (p.1, p.2) (Refuses-on _ _ _ (λ fault e. no_types c.args.number (table_view c.args.table.now) (view c.in_ok-value_at.field-0.now) c.in_ok-value_at.ensures (view c.in_ok-value_at-2.field-0.now) c.in_ok-value_at-2.ensures (view c.in_ok-value_at-3.field-0.now) c.in_ok-value_at-3.ensures (view c.in_ok-value_at-4.field-0.now) c.in_ok-value_at-4.ensures (view c.in_ok-value_at-5.field-0.now) c.in_ok-value_at-5.ensures fault e) c.in_err-value_at-6.ensures)

pub returns-in_err-value_at-7 : goal.returns-in_err-value_at-7
returns-in_err-value_at-7 c =
    let p = err_from_is_err_and c.from_residual-in_err-value_at-7.result c.from_residual-in_err-value_at-7.ensures.1 in
    rw (p.1, p.2) (Refuses-on _ _ _ (λ fault e. no_actions c.args.number (table_view c.args.table.now) (view c.in_ok-value_at.field-0.now) c.in_ok-value_at.ensures (view c.in_ok-value_at-2.field-0.now) c.in_ok-value_at-2.ensures (view c.in_ok-value_at-3.field-0.now) c.in_ok-value_at-3.ensures (view c.in_ok-value_at-4.field-0.now) c.in_ok-value_at-4.ensures (view c.in_ok-value_at-5.field-0.now) c.in_ok-value_at-5.ensures (view c.in_ok-value_at-6.field-0.now) c.in_ok-value_at-6.ensures fault e) c.in_err-value_at-7.ensures)

pub returns : goal.returns
returns c = upto_actions c.args.number (table_view c.args.table.now) (view c.in_ok-value_at.field-0.now) c.in_ok-value_at.ensures (view c.in_ok-value_at-2.field-0.now) c.in_ok-value_at-2.ensures (view c.in_ok-value_at-3.field-0.now) c.in_ok-value_at-3.ensures (view c.in_ok-value_at-4.field-0.now) c.in_ok-value_at-4.ensures (view c.in_ok-value_at-5.field-0.now) c.in_ok-value_at-5.ensures (view c.in_ok-value_at-6.field-0.now) c.in_ok-value_at-6.ensures (view c.in_ok-value_at-7.field-0.now) c.in_ok-value_at-7.ensures
