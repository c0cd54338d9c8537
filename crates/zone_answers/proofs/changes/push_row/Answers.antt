use Rattle.std.proofs.Common.{◌≡◌, ◌∙◌, ◌++◌, ◌==◌, List, ◌∷◌, [], ap, sym, map, append-nil, length, vec_len, arith}
use Rattle.std.proofs.lemmas.Bool.Decides.{Decides-eqb, not_from_Decides}
use Rattle.std.proofs.lemmas.List.{map-append}
use Rattle.zone_core.specs.Sets.{listing}
use Rattle.zone_answers.specs.declared.changes.ChangedAnswers.{ChangedAnswers}
use Rattle.zone_answers.specs.ChangeTests.{RowOf, row_of, if_types}
use Rattle.zone_answers.proofs.RowLemmas.{row_none, row_some}
use Rattle.zone_answers.proofs.changes.push_row.Goals as goal

pub returns-then-is_empty : goal.returns-then-is_empty
returns-then-is_empty c =
    let origin = c.args.old.now.origin in
    let old = listing c.args.old.now.records in
    let new = listing c.args.new.now.records in
    let g = c.args.group in
    let rows = map row_of c.args.rows.now.items in
    let types = c.in_ok-types.types in
    let bare : vec_len types ≡ 0 = (Decides-eqb (vec_len types) 0).0 (sym c.is_empty.ensures ∙ c.if-is_empty.true) in
    let none : length types.items ≡ 0 = omega (arith, bare) in
    sym (append-nil rows)
    ∙ ap (λ (l : List RowOf). rows ++ l)
    (sym (ap (if_types origin old new g) (sym c.in_ok-types.ensures) ∙ row_none origin old new g types.items none))

pub returns : goal.returns
returns c =
    let origin = c.args.old.now.origin in
    let old = listing c.args.old.now.records in
    let new = listing c.args.new.now.records in
    let g = c.args.group in
    let rows = map row_of c.args.rows.now.items in
    let types = c.in_ok-types.types in
    let row : ChangedAnswers = record { group = g; types = types } in
    let some : ¬ (length types.items ≡ 0) =
    λ none. not_from_Decides (vec_len types == 0) (Decides-eqb (vec_len types) 0) (sym c.is_empty.ensures ∙ c.if-is_empty.false) (omega (arith, none)) in
    ap (map row_of) c.in_ok-push.ensures.items ∙ map-append row_of c.args.rows.now.items (row ∷ [])
    ∙ ap (λ (l : List RowOf). rows ++ l) (sym (ap (if_types origin old new g) (sym c.in_ok-types.ensures) ∙ row_some origin old new g types.items some))
