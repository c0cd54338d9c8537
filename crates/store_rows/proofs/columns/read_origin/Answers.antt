use Rattle.std.proofs.Common.{◌≡◌, false, sym, ap, ◌∙◌}
use Rattle.std.proofs.lemmas.Result.{err_from_is_err_and}
use Rattle.dns_names.specs.Spelling.{name_text}
use Rattle.store_rows.specs.RowReading.{name_from}
use Rattle.store_rows.specs.RowFaults.{canonical}
use Rattle.store_rows.proofs.RowSteps.{done, ok_is, refuses_given, refuses_step, no_other, spelled_other, spelled_so}
use Rattle.store_rows.proofs.StoredLaws.{name_stored}
use Rattle.store_rows.proofs.columns.read_origin.Goals as goal

pub returns-in_err-name-clause-only : goal.returns-in_err-name-clause-only
returns-in_err-name-clause-only c = λ name is e.
    let p = err_from_is_err_and c.from_residual.result c.from_residual.ensures.1 in
    rw (p.1, p.2) (refuses_given c.in_err-name.field-0.0 (name_from c.args.text.now) name name (ap name_from e ∙ name_stored name is) c.in_err-name.ensures.exact)

pub returns-then-ne-clause-only : goal.returns-then-ne-clause-only
returns-then-ne-clause-only c = λ name is e.
    let read = ok_is name c.in_ok-name.name (sym (ap name_from e ∙ name_stored name is) ∙ c.in_ok-name.ensures.exact) in
    let spelled = c.as_str.ensures.value ∙ c.in_ok-text.ensures.canonical ∙ ap name_text (sym read) ∙ sym e in
    let same : c.ne.result ≡ false = no_other c.as_str.result.now c.args.text.now c.ne.result c.ne.ensures spelled in
    absurd (let no = c.if-ne.true in cc)

pub returns-clause-only : goal.returns-clause-only
returns-clause-only c = λ name is e. ap done (ok_is name c.in_ok-name.name (sym (ap name_from e ∙ name_stored name is) ∙ c.in_ok-name.ensures.exact))

pub returns-in_err-name-clause-exact : goal.returns-in_err-name-clause-exact
returns-in_err-name-clause-exact c =
    let text = c.args.text.now in
    let p = err_from_is_err_and c.from_residual.result c.from_residual.ensures.1 in
    rw (p.1, p.2) (refuses_step c.in_err-name.field-0.0 (name_from text) (λ name. canonical (name_text name) text name) c.in_err-name.ensures.exact)

pub returns-then-ne-clause-exact : goal.returns-then-ne-clause-exact
returns-then-ne-clause-exact c =
    let told = c.as_str.ensures.value ∙ c.in_ok-text.ensures.canonical in
    spelled_other name_text c.args.text.now (name_from c.args.text.now) c.in_ok-name.name c.as_str.result.now c.ne.result c.in_ok-name.ensures.exact told c.ne.ensures c.if-ne.true

pub returns-clause-exact : goal.returns-clause-exact
returns-clause-exact c =
    let told = c.as_str.ensures.value ∙ c.in_ok-text.ensures.canonical in
    spelled_so name_text c.args.text.now (name_from c.args.text.now) c.in_ok-name.name c.as_str.result.now c.ne.result c.in_ok-name.ensures.exact told c.ne.ensures c.if-ne.false
