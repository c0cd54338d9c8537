use Rattle.std.proofs.Common.{◌∷◌, List, ℕ, Some, sym, ap, subst, ◌∙◌}
use Rattle.dns_names.specs.Labels.{IsName}
use Rattle.dns_names.specs.Rows.{AreRowsOf}
use Rattle.dns_names.proofs.RowLemmas.{first_fits, parent_is, parent_name, parent_rows, rows_of_labels, rows_hold}
use Rattle.dns_names.proofs.name.Name.parent.Goals as goal

pub slice_bounds-row-count : goal.slice_bounds-row-count
slice_bounds-row-count c =
    let cut = c.in-Some.ensures.cases.0 ∙ ap (λ (n : ℕ). n ∷ c.in-Some.lengths.now) (sym c.from.ensures) in
    first_fits _ _ _ _ _ _ cut c.rows.invariant

pub invariant_of-joined : goal.invariant_of-joined
invariant_of-joined c =
    let cut = c.in-Some.ensures.cases.0 ∙ ap (λ (n : ℕ). n ∷ c.in-Some.lengths.now) (sym c.from.ensures) in
    let are = subst (λ (n : List (List ℕ)). AreRowsOf n c.rows.inside.lengths.now c.rows.inside.row.now c.rows.inside.key.now) (c.rows.view_is ∙ c.rows-rows.ensures.rows) c.rows.invariant in
    rows_of_labels _ _ _ _ (parent_rows c.args.self.now _ _ _ _ c.from.result are cut c.in-Some-ancestor_key.key.now (sym c.in-Some-ancestor_key.ensures.key))

pub joined-requires-clause-name : goal.joined-requires-clause-name
joined-requires-clause-name c =
    let cut = c.in-Some.ensures.cases.0 ∙ ap (λ (n : ℕ). n ∷ c.in-Some.lengths.now) (sym c.from.ensures) in
    let are = subst (λ (n : List (List ℕ)). AreRowsOf n c.rows.inside.lengths.now c.rows.inside.row.now c.rows.inside.key.now) (c.rows.view_is ∙ c.rows-rows.ensures.rows) c.rows.invariant in
    let rows = parent_rows c.args.self.now _ _ _ _ c.from.result are cut c.in-Some-ancestor_key.key.now (sym c.in-Some-ancestor_key.ensures.key) in
    subst IsName (sym (rows_hold _ _ _ _ rows)) (parent_name c.args.self.now _ _ _ _ c.from.result are cut c.rows-rows.ensures.name)

pub returns : goal.returns
returns c =
    let cut = c.in-Some.ensures.cases.0 ∙ ap (λ (n : ℕ). n ∷ c.in-Some.lengths.now) (sym c.from.ensures) in
    let are = subst (λ (n : List (List ℕ)). AreRowsOf n c.rows.inside.lengths.now c.rows.inside.row.now c.rows.inside.key.now) (c.rows.view_is ∙ c.rows-rows.ensures.rows) c.rows.invariant in
    let rows = parent_rows c.args.self.now _ _ _ _ c.from.result are cut c.in-Some-ancestor_key.key.now (sym c.in-Some-ancestor_key.ensures.key) in
    ap (λ (n : List (List ℕ)). Some n) (c.in_ok-parent.ensures ∙ rows_hold _ _ _ _ rows) ∙ parent_is c.args.self.now _ _ _ _ c.from.result are cut
