use Rattle.std.proofs.lemmas.Result.{err_from_is_err_and}
use Rattle.grant_policy.specs.Reading.{data_of}
use Rattle.grant_policy.proofs.ReadLemmas.{Refuses-on}
use Rattle.grant_policy.proofs.DocumentLaws.{bad_text, bad_free, bad_effect, bad_callers, bad_scope, bad_name, bad_types, bad_actions}
use Rattle.grant_policy.proofs.document.rule_from.Goals as goal

pub returns-in_err-id-clause-exact : goal.returns-in_err-id-clause-exact
returns-in_err-id-clause-exact c = λ before same.
    let p = err_from_is_err_and c.from_residual.result c.from_residual.ensures.1 in
    rw (p.1, p.2) (Refuses-on _ _ _ (λ fault e. bad_text c.args.number before (data_of c.args.values.now) fault e) c.in_err-id.ensures)

pub returns-in_err-add-clause-exact : goal.returns-in_err-add-clause-exact
returns-in_err-add-clause-exact c = λ before same.
    let p = err_from_is_err_and c.from_residual-in_err-add.result c.from_residual-in_err-add.ensures.1 in
    rw (p.1, p.2) (Refuses-on _ _ _ (λ fault e. bad_free c.args.number before (data_of c.args.values.now) c.in_ok-id.id c.in_ok-id.ensures fault e) (c.in_err-add.ensures.exact before same))

pub returns-in_err-word_of-clause-exact : goal.returns-in_err-word_of-clause-exact
returns-in_err-word_of-clause-exact c = λ before same.
    let p = err_from_is_err_and c.from_residual-in_err-word_of.result c.from_residual-in_err-word_of.ensures.1 in
    rw (p.1, p.2) (Refuses-on _ _ _ (λ fault e. bad_effect c.args.number before (data_of c.args.values.now) c.in_ok-id.id c.in_ok-id.ensures c.in_ok-id.id (c.in_ok-add.ensures.exact before same) fault e) c.in_err-word_of.ensures)

pub returns-in_err-word_of-2-clause-exact : goal.returns-in_err-word_of-2-clause-exact
returns-in_err-word_of-2-clause-exact c = λ before same.
    let p = err_from_is_err_and c.from_residual-in_err-word_of-2.result c.from_residual-in_err-word_of-2.ensures.1 in
    rw (p.1, p.2) (Refuses-on _ _ _ (λ fault e. bad_callers c.args.number before (data_of c.args.values.now) c.in_ok-id.id c.in_ok-id.ensures c.in_ok-id.id (c.in_ok-add.ensures.exact before same) c.in_ok-word_of.field-0 c.in_ok-word_of.ensures fault e) c.in_err-word_of-2.ensures)

pub returns-in_err-word_of-3-clause-exact : goal.returns-in_err-word_of-3-clause-exact
returns-in_err-word_of-3-clause-exact c = λ before same.
    let p = err_from_is_err_and c.from_residual-in_err-word_of-3.result c.from_residual-in_err-word_of-3.ensures.1 in
    rw (p.1, p.2) (Refuses-on _ _ _ (λ fault e. bad_scope c.args.number before (data_of c.args.values.now) c.in_ok-id.id c.in_ok-id.ensures c.in_ok-id.id (c.in_ok-add.ensures.exact before same) c.in_ok-word_of.field-0 c.in_ok-word_of.ensures c.in_ok-word_of-2.field-0 c.in_ok-word_of-2.ensures fault e) c.in_err-word_of-3.ensures)

pub returns-in_err-rule_name-clause-exact : goal.returns-in_err-rule_name-clause-exact
returns-in_err-rule_name-clause-exact c = λ before same.
    let p = err_from_is_err_and c.from_residual-in_err-rule_name.result c.from_residual-in_err-rule_name.ensures.1 in
    rw (p.1, p.2) (Refuses-on _ _ _ (λ fault e. bad_name c.args.number before (data_of c.args.values.now) c.in_ok-id.id c.in_ok-id.ensures c.in_ok-id.id (c.in_ok-add.ensures.exact before same) c.in_ok-word_of.field-0 c.in_ok-word_of.ensures c.in_ok-word_of-2.field-0 c.in_ok-word_of-2.ensures c.in_ok-word_of-3.field-0 c.in_ok-word_of-3.ensures fault e) c.in_err-rule_name.ensures.exact)

pub returns-in_err-rule_types-clause-exact : goal.returns-in_err-rule_types-clause-exact
returns-in_err-rule_types-clause-exact c = λ before same.
    let p = err_from_is_err_and c.from_residual-in_err-rule_types.result c.from_residual-in_err-rule_types.ensures.1 in
    rw (p.1, p.2) (Refuses-on _ _ _ (λ fault e. bad_types c.args.number before (data_of c.args.values.now) c.in_ok-id.id c.in_ok-id.ensures c.in_ok-id.id (c.in_ok-add.ensures.exact before same) c.in_ok-word_of.field-0 c.in_ok-word_of.ensures c.in_ok-word_of-2.field-0 c.in_ok-word_of-2.ensures c.in_ok-word_of-3.field-0 c.in_ok-word_of-3.ensures c.in_ok-rule_name.field-0 c.in_ok-rule_name.ensures.exact fault e) c.in_err-rule_types.ensures)

pub returns-in_err-rule_actions-clause-exact : goal.returns-in_err-rule_actions-clause-exact
returns-in_err-rule_actions-clause-exact c = λ before same.
    let p = err_from_is_err_and c.from_residual-in_err-rule_actions.result c.from_residual-in_err-rule_actions.ensures.1 in
    rw (p.1, p.2) (Refuses-on _ _ _ (λ fault e. bad_actions c.args.number before (data_of c.args.values.now) c.in_ok-id.id c.in_ok-id.ensures c.in_ok-id.id (c.in_ok-add.ensures.exact before same) c.in_ok-word_of.field-0 c.in_ok-word_of.ensures c.in_ok-word_of-2.field-0 c.in_ok-word_of-2.ensures c.in_ok-word_of-3.field-0 c.in_ok-word_of-3.ensures c.in_ok-rule_name.field-0 c.in_ok-rule_name.ensures.exact c.in_ok-rule_types.field-0 c.in_ok-rule_types.ensures fault e) c.in_err-rule_actions.ensures)
