use Rattle.std.proofs.Common.{◌≡◌, ◌∙◌, ◌++◌, ◌||◌, true, false, map, sym}
use Rattle.zone_core.specs.Sets.{listing}
use Rattle.zone_answers.specs.declared.changes.QuestionGroup.TheVariants.{At, Others}
use Rattle.zone_answers.specs.AnswerTests.{is_there}
use Rattle.zone_answers.specs.ChangeTests.{row_of, row_for}
use Rattle.zone_answers.proofs.KnownLemmas.{if_same}
use Rattle.zone_answers.proofs.RowLemmas.{rows_one, rows_two}
use Rattle.zone_answers.proofs.changes.push_rows.Goals as goal

pub returns-then-exists : goal.returns-then-exists
returns-then-exists c =
    let origin = c.args.old.now.origin in
    let old = listing c.args.old.now.records in
    let new = listing c.args.new.now.records in
    let n = c.args.name.now in
    let rows = map row_of c.args.rows.now.items in
    let there : (is_there old n || is_there new n) ≡ true =
    (λ i. is_there (listing (sym c.zone.ensures i).records) n || is_there (listing (sym c.zone-2.ensures i).records) n) ∙ sym c.exists.ensures ∙ c.if-exists.true in
    let first : map row_of c.push_row.new.rows.items ≡ rows ++ row_for origin old new (At n) =
    c.in_ok-push_row.ensures ∙ (λ i. rows ++ row_for origin old new (At (c.in_ok-try_copy.ensures i))) in
    if_same c.push_row-then-exists.result _ _ _ c.push_row-then-exists.ensures
    ((λ i. first i ++ row_for origin old new (Others (c.in_ok-try_copy-2.ensures i))) ∙ rows_two origin old new rows n there)

pub returns : goal.returns
returns c =
    let origin = c.args.old.now.origin in
    let old = listing c.args.old.now.records in
    let new = listing c.args.new.now.records in
    let n = c.args.name.now in
    let rows = map row_of c.args.rows.now.items in
    let none : (is_there old n || is_there new n) ≡ false =
    (λ i. is_there (listing (sym c.zone.ensures i).records) n || is_there (listing (sym c.zone-2.ensures i).records) n) ∙ sym c.exists.ensures ∙ c.if-exists.false in
    c.in_ok-push_row.ensures ∙ (λ i. rows ++ row_for origin old new (At (c.in_ok-try_copy.ensures i))) ∙ rows_one origin old new rows n none
