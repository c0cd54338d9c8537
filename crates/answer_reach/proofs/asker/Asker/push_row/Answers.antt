use Rattle.std.proofs.Common.{◌≡◌, ◌∙◌, ◌++◌, ◌==◌, List, ◌∷◌, [], ap, sym, map, append-nil, length, vec_len, arith}
use Rattle.std.proofs.lemmas.Bool.Decides.{Decides-eqb, not_from_Decides}
use Rattle.std.proofs.lemmas.List.{map-append}
use Rattle.answer_reach.specs.declared.reached.ReachedAnswers.{ReachedAnswers}
use Rattle.answer_reach.specs.ReachTests.{RowOf, row_of, if_types}
use Rattle.answer_reach.proofs.GrowLemmas.{row_none, row_some}
use Rattle.answer_reach.proofs.asker.Asker.push_row.Goals as goal

pub returns-then-is_empty : goal.returns-then-is_empty
returns-then-is_empty c =
    let g = c.args.names in
    let rows = map row_of c.args.rows.now.items in
    let types = c.in_ok-types.types in
    let bare : vec_len types ≡ 0 = (Decides-eqb (vec_len types) 0).0 (sym c.is_empty.ensures ∙ c.if-is_empty.true) in
    let none : length types.items ≡ 0 = omega (arith, bare) in
    sym (append-nil rows) ∙ ap (λ (l : List RowOf). rows ++ l) (sym (ap (if_types g) (sym c.in_ok-types.ensures) ∙ row_none g types.items none))

pub returns : goal.returns
returns c =
    let g = c.args.names in
    let rows = map row_of c.args.rows.now.items in
    let types = c.in_ok-types.types in
    let row : ReachedAnswers = record { names = g; types = types } in
    let some : ¬ (length types.items ≡ 0) =
    λ none. not_from_Decides (vec_len types == 0) (Decides-eqb (vec_len types) 0) (sym c.is_empty.ensures ∙ c.if-is_empty.false) (omega (arith, none)) in
    ap (map row_of) c.in_ok-push.ensures.items ∙ map-append row_of c.args.rows.now.items (row ∷ [])
    ∙ ap (λ (l : List RowOf). rows ++ l) (sym (ap (if_types g) (sym c.in_ok-types.ensures) ∙ row_some g types.items some))
