use Rattle.std.proofs.Common.{List, map, IsPermutation, subst}
use Rattle.std.proofs.lemmas.List.Sorted.{IsPermutation-map, IsPermutation-sym}
use Rattle.store_sql.specs.Rows.{RecordRowOf}
use Rattle.store_rows.specs.Checks.{row_of_record, IsZoneRecord}
use Rattle.store_rows.proofs.ListLemmas.{all_permutation}
use Rattle.store_rows.proofs.ordered.records.Goals as goal

pub returns-clause-found : goal.returns-clause-found
returns-clause-found c =
    let rows = c.args.rows.now in
    let old = c.in_ok-records.records.items in
    let new = c.in_ok-sorted_records.field-0.items in
    let found = c.in_ok-records.ensures.found in
    let same = c.in_ok-sorted_records.ensures.0 in
    let moved = subst (λ (l : List RecordRowOf). IsPermutation l (map row_of_record new)) found.0 (IsPermutation-map row_of_record old new same) in
    (IsPermutation-sym rows (map row_of_record new) moved, all_permutation IsZoneRecord old new same found.1, c.in_ok-sorted_records.ensures.1)
