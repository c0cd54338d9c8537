use Rattle.std.proofs.Common.{◌≡◌, ℕ, suc, pos, length, map, option_map, sym, ap, subst, ◌∙◌, rules}
use Rattle.std.proofs.lemmas.Int.{to_z-of_z}
use Rattle.std.specs.Int.{w64}
use Rattle.std.specs.Prelude.{FitsSigned, Some}
use Rattle.zone_core.specs.Changes.{change_in}
use Rattle.store_rows.specs.ChangeRows.{gathered}
use Rattle.office_store.specs.MigratedContents.{change_for}
use Rattle.office_store.specs.MigrationSteps.{Goes}
use Rattle.office_store.proofs.NextNumberLemmas.{last_counts}
use Rattle.office_store.proofs.migration_steps.MigrationSteps.with_zone.Goals as goal

pub returns-in_ok-with_change-in-Some-clause-more : goal.returns-in_ok-with_change-in-Some-clause-more
returns-in_ok-with_change-in-Some-clause-more c =
    let o = c.args.origin.now in
    let rs = map (λ r. r.rr) c.args.records.now in
    let count = length (gathered c.args.changes.now) in
    let counts = last_counts o c.args.changes.now c.requires.changes (sym c.are_numbered.ensures ∙ c.if-not-are_numbered.false) in
    let number : c.in_ok-number-in-Some.number ≡ pos (suc count) = c.in_ok-number-in-Some.ensures ∙ ap (λ (n : ℕ). pos (suc n)) counts in
    let change : Some (change_in c.in-Some.change) ≡ change_for o rs = ap (option_map change_in) (sym c.in-Some.is) ∙ c.in_ok-change.ensures.change in
    let fits : FitsSigned w64 c.in_ok-number-in-Some.number = search rules in
    subst (Goes c.args.self c.in_ok-with_change-in-Some.field-0 o (suc count)) change (c.in_ok-with_change-in-Some.ensures (suc count) (to_z-of_z w64 c.in_ok-number-in-Some.number fits ∙ number))
