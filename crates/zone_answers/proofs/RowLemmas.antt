-- Rows that are appended.
use Rattle.std.proofs.Common.{◌≡◌, List, [], ◌∷◌, ◌++◌, length, true, false, ◌||◌, cond, refl, sym, ap, ◌∙◌, append-nil, append_assoc, arith}
use Rattle.std.specs.List.{flat_map}
use Rattle.dns_data.specs.declared.record.Record.{Record}
use Rattle.zone_answers.specs.declared.query_type.QueryType.{QueryType}
use Rattle.zone_answers.specs.declared.changes.QuestionGroup.{QuestionGroup}
use Rattle.zone_answers.specs.declared.changes.QuestionGroup.TheVariants.{At, Others}
use Rattle.zone_answers.specs.Answers.{Name}
use Rattle.zone_answers.specs.AnswerTests.{is_there}
use Rattle.zone_answers.specs.ChangeTests.{RowOf, if_types, row_for, rows_at}

module _ (origin : Name) (old new : List Record) where
  pub row_none : (g : QuestionGroup) (ts : List QueryType) → length ts ≡ 0 → if_types origin old new g ts ≡ []
  row_none g [] e = refl
  row_none g (t ∷ ts) e = absurd (omega (arith, e))

  pub row_some : (g : QuestionGroup) (ts : List QueryType) → ¬ (length ts ≡ 0) → if_types origin old new g ts ≡ record { group = g; types = ts } ∷ []
  row_some g [] e = absurd (e refl)
  row_some g (t ∷ ts) e = refl

  pub rows_one : (rows : List RowOf) (n : Name) → (is_there old n || is_there new n) ≡ false → rows ++ row_for origin old new (At n) ≡ rows ++ rows_at origin old new n
  rows_one rows n e =
      ap (λ (l : List RowOf). rows ++ l)
      (sym (append-nil (row_for origin old new (At n))) ∙ ap (λ b. row_for origin old new (At n) ++ flat_map (row_for origin old new) (cond b (Others n ∷ []) [])) (sym e))

  pub rows_two : (rows : List RowOf) (n : Name) → (is_there old n || is_there new n) ≡ true
      → (rows ++ row_for origin old new (At n)) ++ row_for origin old new (Others n) ≡ rows ++ rows_at origin old new n
  rows_two rows n e =
      append_assoc rows (row_for origin old new (At n)) (row_for origin old new (Others n))
      ∙ ap (λ (l : List RowOf). rows ++ (row_for origin old new (At n) ++ l)) (sym (append-nil (row_for origin old new (Others n))))
      ∙ ap (λ b. rows ++ (row_for origin old new (At n) ++ flat_map (row_for origin old new) (cond b (Others n ∷ []) []))) (sym e)
