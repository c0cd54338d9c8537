use Rattle.std.proofs.Common.{List, map, IsPermutation, subst}
use Rattle.std.proofs.lemmas.List.Sorted.{IsPermutation-map, IsPermutation-sym}
use Rattle.store_sql.specs.Rows.{ChangeRowOf}
use Rattle.store_rows.specs.ChangeRows.{row_of, IsChanged}
use Rattle.store_rows.proofs.ListLemmas.{all_permutation}
use Rattle.store_rows.proofs.gathering.sorted_changes.Goals as goal

pub returns-clause-found : goal.returns-clause-found
returns-clause-found c =
    let rows = c.args.rows.now in
    let old = c.in_ok-changed.changed.items in
    let new = c.in_ok-in_order.field-0.items in
    let found = c.in_ok-changed.ensures.found in
    let same = c.in_ok-in_order.ensures.0 in
    let moved = subst (λ (l : List ChangeRowOf). IsPermutation l (map row_of new)) found.0 (IsPermutation-map row_of old new same) in
    (IsPermutation-sym rows (map row_of new) moved, all_permutation IsChanged old new same found.1, c.in_ok-in_order.ensures.1)
