-- The records of a set after a change.
use Rattle.std.proofs.Common.{◌≡◌, Bool, cond, not, List, [], ◌∷◌, ◌++◌, map, filter, Some, None, IsPermutation, Ordering, Less, Equal, Greater, is_eq, refl, sym, ap, subst, ◌∙◌}
use Rattle.std.specs.List.{AllByRecursion, list_any}
use Rattle.std.specs.List.Sorted.{IsStrictlySortedBy}
use Rattle.std.specs.Option.{option_or}
use Rattle.std.specs.FinMap.{get, find, put, entries, from_entries, get-entries, entries-insert}
use Rattle.std.specs.FinMap.Entries.{by_order}
use Rattle.std.proofs.lemmas.List.{map-append}
use Rattle.std.proofs.lemmas.List.Sorted.{IsPermutation-refl, IsPermutation-trans, IsPermutation-cons, IsPermutation-map, IsPermutation-sym, IsPermutation-append_comm}
use Rattle.dns_data.specs.declared.record.Record.{Record}
use Rattle.dns_data.specs.Rdata.{IsRecord}
use Rattle.dns_data.specs.RecordOrder.{key_total}
use Rattle.zone_core.specs.Sets.{Records, Key, key_of, key_cmp, record_order, same_key, keyed, set_of, listing, InOrder, IsIn}
use Rattle.zone_core.specs.Zones.{AreKept}
use Rattle.zone_core.specs.Changes.{without, changed, FitsIn}
use Rattle.zone_core.proofs.RowLemmas.{get-set_of, entries_of, set_of-filter, InOrder-filter, each_in}
use Rattle.zone_core.proofs.MergeLemmas.{found_append}
use Rattle.zone_core.proofs.ChangedLemmas.{get-changed}
use Rattle.sqlite_trees.proofs.ListLemmas.{all_weaker}
use Rattle.store_rows.proofs.ListLemmas.{turned_first}

-- ---- the listing of a list's set

-- an entry whose key is new goes among the others
put_new : (k : Key) (r : Record) (es : List (Key × Record)) → find key_cmp k es ≡ None → IsPermutation ((k, r) ∷ es) (put key_cmp k r es)
put_new k r [] none = IsPermutation-refl ((k, r) ∷ [])
put_new k r (e ∷ es) none = in_place (key_cmp k e.0) none (put_new k r es)
  where
    in_place : (o : Ordering) → cond (is_eq o) (Some e.1) (find key_cmp k es) ≡ None → (find key_cmp k es ≡ None → IsPermutation ((k, r) ∷ es) (put key_cmp k r es))
        → IsPermutation ((k, r) ∷ e ∷ es) (by_order o ((k, r) ∷ e ∷ es) ((e.0, r) ∷ es) (e ∷ put key_cmp k r es))
    in_place Less free later = IsPermutation-refl ((k, r) ∷ e ∷ es)
    in_place Equal free later = absurd cc
    in_place Greater free later =
        IsPermutation-trans ((k, r) ∷ e ∷ es) (e ∷ (k, r) ∷ es) (e ∷ put key_cmp k r es) (turned_first (k, r) e es) (IsPermutation-cons e ((k, r) ∷ es) (put key_cmp k r es) (later free))

-- no two of some records are the same
abbrev Fresh : List Record → Type 0
Fresh [] = Unit {0}
Fresh (r ∷ rs) = (find key_cmp (key_of r) (keyed rs) ≡ None) × Fresh rs

no_order : InOrder []
unfolding IsStrictlySortedBy
no_order = tt

entries_of_fresh : (rs : List Record) → Fresh rs → IsPermutation (keyed rs) (entries (set_of rs))
entries_of_fresh [] fresh = subst (IsPermutation []) (sym (entries_of [] no_order)) (IsPermutation-refl [])
entries_of_fresh (r ∷ rs) fresh =
    let later = entries_of_fresh rs fresh.1 in
    let free = sym (get-entries (set_of rs) (key_of r)) ∙ get-set_of rs (key_of r) ∙ fresh.0 in
    subst (IsPermutation (keyed (r ∷ rs))) (sym (entries-insert key_total (set_of rs) (key_of r) r))
    (IsPermutation-trans (keyed (r ∷ rs)) ((key_of r, r) ∷ entries (set_of rs)) (put key_cmp (key_of r) r (entries (set_of rs)))
    (IsPermutation-cons (key_of r, r) (keyed rs) (entries (set_of rs)) later)
    (put_new (key_of r) r (entries (set_of rs)) free))

unkeyed : (rs : List Record) → map (λ (e : Key × Record). e.1) (keyed rs) ≡ rs
unkeyed [] = refl
unkeyed (r ∷ rs) = ap (λ xs. r ∷ xs) (unkeyed rs)

listing_of_fresh : (rs : List Record) → Fresh rs → IsPermutation rs (listing (set_of rs))
listing_of_fresh rs fresh =
    subst (λ xs. IsPermutation xs (listing (set_of rs))) (unkeyed rs) (IsPermutation-map (λ (e : Key × Record). e.1) (keyed rs) (entries (set_of rs)) (entries_of_fresh rs fresh))

-- ---- records that are not the same

none_above : (r : Record) (rs : List Record) → AllByRecursion (λ s. record_order r s ≡ Less) rs → find key_cmp (key_of r) (keyed rs) ≡ None
none_above r [] all = refl
none_above r (s ∷ rs) all = ap (λ o. cond (is_eq o) (Some s) (find key_cmp (key_of r) (keyed rs))) all.0 ∙ none_above r rs all.1

-- records in order, and others that none of them is the same as
fresh_before : (xs ys : List Record) → InOrder xs → Fresh ys → AllByRecursion (λ r. find key_cmp (key_of r) (keyed ys) ≡ None) xs → Fresh (xs ++ ys)
unfolding IsStrictlySortedBy
fresh_before [] ys order fresh apart = fresh
fresh_before (x ∷ xs) ys order fresh apart = (
  found_append (key_of x) xs ys ∙ (λ i. option_or (none_above x xs order.0 i) (apart.0 i)),
  fresh_before xs ys order.1 fresh apart.1,
)

fresh_order : (rs : List Record) → InOrder rs → Fresh rs
unfolding IsStrictlySortedBy
fresh_order [] order = tt
fresh_order (r ∷ rs) order = (none_above r rs order.0, fresh_order rs order.1)

-- ---- the listing of a set that is changed

-- whether a key is that of one of some records
abbrev pub named : List Record → Key → Bool
named rs k = list_any (λ r. same_key (key_of r) k) rs

-- the records that a change leaves
abbrev pub left : List Record → List Record → List Record
left rs removed = filter (λ r. not (named removed (key_of r))) rs

module _ (rs removed added : List Record) (order : InOrder rs) (fits : FitsIn (set_of rs) removed added) where
  left_order : InOrder (left rs removed)
  left_order = InOrder-filter (λ r. not (named removed (key_of r))) rs order

  left_set : set_of (left rs removed) ≡ without (set_of rs) removed
  left_set = set_of-filter (λ k. not (named removed k)) rs

  changed_is : changed (set_of rs) removed added ≡ set_of (added ++ left rs removed)
  changed_is =
      ap (λ es. from_entries (keyed added ++ es)) (ap (λ (s : Records). entries s) (sym left_set) ∙ entries_of (left rs removed) left_order)
      ∙ ap (λ es. from_entries es) (sym (map-append (λ (r : Record). (key_of r, r)) added (left rs removed)))

  fresh : Fresh (added ++ left rs removed)
  fresh =
      fresh_before added (left rs removed) fits.added_order (fresh_order (left rs removed) left_order)
      (all_weaker (λ r. get (without (set_of rs) removed) (key_of r) ≡ None) (λ r. find key_cmp (key_of r) (keyed (left rs removed)) ≡ None)
      (λ r free. sym (get-set_of (left rs removed) (key_of r)) ∙ ap (λ (s : Records). get s (key_of r)) left_set ∙ free) added fits.free)

  -- they are those that are left and those that came
  pub listing_changed : IsPermutation (listing (changed (set_of rs) removed added)) (left rs removed ++ added)
  listing_changed =
      subst (λ (s : Records). IsPermutation (listing s) (left rs removed ++ added)) (sym changed_is)
      (IsPermutation-trans (listing (set_of (added ++ left rs removed))) (added ++ left rs removed) (left rs removed ++ added)
      (IsPermutation-sym (added ++ left rs removed) (listing (set_of (added ++ left rs removed))) (listing_of_fresh (added ++ left rs removed) fresh))
      (IsPermutation-append_comm added (left rs removed)))

-- ---- they are records

-- those of a row in order
pub row_records : (rs : List Record) → InOrder rs → AreKept (set_of rs) → AllByRecursion IsRecord rs
row_records rs order kept =
    all_weaker (λ r. find key_cmp (key_of r) (keyed rs) ≡ Some r) IsRecord (λ r e. (kept (key_of r) r (get-set_of rs (key_of r) ∙ e)).1) rs (each_in rs order)

-- those that go out of a set
pub removed_records : (set : Records) (removed added : List Record) → AreKept set → FitsIn set removed added → AllByRecursion IsRecord removed
removed_records set removed added kept fits = all_weaker (λ r. IsIn r set) IsRecord (λ r here. (kept (key_of r) r here).1) removed fits.there

-- and those that come into it
pub added_records : (set : Records) (removed added : List Record) → AreKept (changed set removed added) → FitsIn set removed added → AllByRecursion IsRecord added
added_records set removed added kept fits =
    all_weaker (λ r. find key_cmp (key_of r) (keyed added) ≡ Some r) IsRecord
    (λ r e. (kept (key_of r) r (get-changed set removed added (key_of r) ∙ ap (λ o. option_or o (get (without set removed) (key_of r))) e)).1) added (each_in added fits.added_order)
