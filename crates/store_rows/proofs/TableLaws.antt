-- Rows are those of zones exactly where those of each table are of zones of the same origins.
use Rattle.std.proofs.Common.{◌≡◌, ◌≢◌, ℕ, Bool, true, false, cond, List, [], ◌∷◌, ◌++◌, map, IsPermutation, IsSorted, refl, sym, ap, ap₂, subst, ◌∙◌}
use Rattle.std.proofs.lemmas.List.Sorted.{IsPermutation-sym, IsPermutation-trans, IsPermutation-map}
use Rattle.std.specs.declared.cmp.Ordering.{Ordering}
use Rattle.std.specs.declared.cmp.Ordering.TheVariants.{Less, Equal, Greater}
use Rattle.std.specs.Cmp.{IsTotalOrder}
use Rattle.std.specs.List.{AllByRecursion, flat_map}
use Rattle.std.specs.Ordering.{is_gt, ordering_reverse}
use Rattle.sqlite_trees.specs.Tree.{IsAscending}
use Rattle.sqlite_trees.proofs.ListLemmas.{IsPermutation-flat_map}
use Rattle.sqlite_keyed.specs.Lists.{insert_sorted, sort_by}
use Rattle.sqlite_keyed.proofs.ListLemmas.{all_weaker, all_map, ascending-map, ascending_from_map, ascending_weaker, map-map}
use Rattle.sqlite_keyed.proofs.SortLemmas.{IsPermutation-sort_by}
use Rattle.dns_names.specs.Labels.{IsName}
use Rattle.dns_names.specs.Order.{canonical_cmp, canonical_total}
use Rattle.dns_names.specs.Spelling.{name_text}
use Rattle.store_sql.specs.Rows.{RecordRowOf, ChangeRowOf}
use Rattle.store_rows.specs.Contents.{ZoneRows, zone_records, zone_changes, IsZoneRows}
use Rattle.store_rows.specs.Orders.{rises}
use Rattle.store_rows.specs.Checks.{AreZoneRows, AreOriginRows, HasItsRecords, AreRecordsOf, HasItsChanges, AreChangesOf, RowsAreByTable, IsOriginText}
use Rattle.store_rows.proofs.ContentLemmas.{Apart}
use Rattle.store_rows.proofs.ListLemmas.{all_permutation, apart_moved, ascending_from_pairs, moved_back, pairs_from_ascending}
use Rattle.store_rows.proofs.NameLemmas.{text_one}
use Rattle.store_rows.proofs.OrderLemmas.{below_other, rises_from, rises_up, sorted_strict, up_sorted}
use Rattle.store_rows.proofs.ZoneCheckLemmas.{IsTied, not_tied, InOrderOf, ordered}

abbrev Labels : Type 0
Labels = List (List ℕ)

abbrev Up : List Labels → Type 0
Up = IsAscending (λ a b. canonical_cmp a b ≡ Less)

-- ---- names in order

-- names that differ can be put into canonical order
module _ {X : Type 0} (cmp : X → X → Ordering) (total : IsTotalOrder cmp) where
  abbrev Below : X → X → Type 0
  Below a b = cmp a b ≡ Less

  all_inserted : (P : X → Type 0) (x : X) (ys : List X) → P x → AllByRecursion P ys → AllByRecursion P (insert_sorted cmp x ys)
  all_inserted P x [] here all = (here, tt)
  all_inserted P x (y ∷ ys) here all = by_test (is_gt (cmp x y)) (all_inserted P x ys here all.1)
    where
      by_test : (b : Bool) → AllByRecursion P (insert_sorted cmp x ys) → AllByRecursion P (cond b (y ∷ insert_sorted cmp x ys) (x ∷ y ∷ ys))
      by_test true later = (all.0, later)
      by_test false later = (here, all)

  from_greater : (a b : Ordering) → b ≡ ordering_reverse a → is_gt a ≡ true → b ≡ Less
  from_greater Less b e t = absurd cc
  from_greater Equal b e t = absurd cc
  from_greater Greater b e t = e

  from_other : (a : Ordering) → is_gt a ≡ false → (a ≡ Equal → ⊥) → a ≡ Less
  from_other Less f apart = refl
  from_other Equal f apart = absurd (apart refl)
  from_other Greater f apart = absurd cc

  inserted_up : (x : X) (ys : List X) → AllByRecursion (λ y. ¬ (cmp x y ≡ Equal)) ys → IsAscending Below ys → IsAscending Below (insert_sorted cmp x ys)
  inserted_up x [] apart up = (tt, tt)
  inserted_up x (y ∷ ys) apart up = by_test (is_gt (cmp x y)) refl (inserted_up x ys apart.1 up.1)
    where
      by_test : (b : Bool) → is_gt (cmp x y) ≡ b → IsAscending Below (insert_sorted cmp x ys) → IsAscending Below (cond b (y ∷ insert_sorted cmp x ys) (x ∷ y ∷ ys))
      by_test true t later = (all_inserted (Below y) x ys (from_greater (cmp x y) (cmp y x) (total.antisymm y x) t) up.0, later)
      by_test false f later =
          let first = from_other (cmp x y) f apart.0 in
          ((first, all_weaker (Below y) (Below x) (λ z. total.trans x y z first) ys up.0), up)

  pub sorted_up : (xs : List X) → IsAscending (λ a b. ¬ (cmp a b ≡ Equal)) xs → IsAscending Below (sort_by cmp xs)
  sorted_up [] apart = tt
  sorted_up (x ∷ xs) apart =
      inserted_up x (sort_by cmp xs) (all_permutation (λ y. ¬ (cmp x y ≡ Equal)) xs (sort_by cmp xs) (IsPermutation-sym (sort_by cmp xs) xs (IsPermutation-sort_by cmp total xs)) apart.0) (sorted_up xs apart.1)

-- the origins of rows of `zones`, in whatever order they are read, are apart where the rows are those of origins
module _ (origins : List Labels) (rows : List (List ℕ)) (are : AreOriginRows origins rows) where
  pub texts_are : AllByRecursion IsOriginText rows
  texts_are =
      all_permutation IsOriginText (map name_text origins) rows are.same
      (all_map IsOriginText name_text origins (all_weaker IsName (λ o. IsOriginText (name_text o)) (λ o is. (o, is, refl)) origins are.are.each))

  pub origins_apart : (os : List Labels) → IsPermutation (map name_text os) rows → AllByRecursion IsName os → IsSorted canonical_cmp os → rises canonical_cmp os ≡ true
  origins_apart os same named sorted =
      let texts = IsPermutation-trans (map name_text origins) rows (map name_text os) are.same (IsPermutation-sym (map name_text os) rows same) in
      let moved = moved_back IsName name_text (λ a b is also e. text_one a b is also e) origins os are.are.each named texts in
      let differ : IsAscending (λ a b. a ≢ b) origins =
      ascending_weaker (λ a b. canonical_cmp a b ≡ Less) (λ a b. a ≢ b) (below_other canonical_cmp canonical_total) origins (rises_up canonical_cmp canonical_total origins are.are.order) in
      let apart = apart_moved (λ a b. a ≢ b) (λ a b h e. h (sym e)) origins os moved differ in
      rises_from canonical_cmp os (sorted_strict canonical_cmp canonical_total os sorted (ascending_weaker (λ a b. a ≢ b) (λ a b. ¬ (IsTied a b)) not_tied os apart))

-- ---- from all tables to each

module _ (texts : List (List ℕ)) (records : List RecordRowOf) (changes : List ChangeRowOf) (are : AreZoneRows texts records changes) where
  module _ (origins : List Labels) (of : AreOriginRows origins texts) where
    sorted : IsSorted canonical_cmp origins
    sorted = up_sorted canonical_cmp canonical_total origins (rises_up canonical_cmp canonical_total origins of.are.order)

    in_order : InOrderOf texts records changes are origins of.same of.are.each sorted
    in_order = ordered texts records changes are origins of.same of.are.each sorted

    pub records_by_table : AreRecordsOf origins records
    records_by_table =
        let o = in_order in
        record {
          zones = o.zones;
          origins_are = sym o.origins;
          each = all_weaker IsZoneRows HasItsRecords (λ z is. record { origin = is.origin; zone = is.zone }) o.zones o.each;
          same =
              IsPermutation-trans (flat_map zone_records o.zones) (flat_map zone_records are.zones) records
              (IsPermutation-flat_map zone_records o.zones are.zones (IsPermutation-sym are.zones o.zones o.moved)) are.same_records;
        }

    pub changes_by_table : AreChangesOf origins changes
    changes_by_table =
        let o = in_order in
        record {
          zones = o.zones;
          origins_are = sym o.origins;
          each = all_weaker IsZoneRows HasItsChanges (λ z is. record { origin = is.origin; changes = is.changes }) o.zones o.each;
          same =
              IsPermutation-trans (flat_map zone_changes o.zones) (flat_map zone_changes are.zones) changes
              (IsPermutation-flat_map zone_changes o.zones are.zones (IsPermutation-sym are.zones o.zones o.moved)) are.same_changes;
        }

  pub origins_by_table : (origins : List Labels) × AreOriginRows origins texts
  origins_by_table =
      let all = map (λ (z : ZoneRows). z.origin) are.zones in
      let sorted = sort_by canonical_cmp all in
      let same = IsPermutation-sort_by canonical_cmp canonical_total all in
      let back = IsPermutation-sym sorted all same in
      let apart = ascending-map (λ a b. ¬ (IsTied a b)) (λ (z : ZoneRows). z.origin) are.zones
      (ascending_weaker Apart (λ a b. ¬ (IsTied a.origin b.origin)) (λ a b h. not_tied a.origin b.origin h) are.zones (ascending_from_pairs Apart are.zones are.apart)) in
      let named = all_map IsName (λ (z : ZoneRows). z.origin) are.zones (all_weaker IsZoneRows (λ z. IsName z.origin) (λ z is. is.origin) are.zones are.each) in (
        sorted,
        record {
          are = record { each = all_permutation IsName all sorted back named; order = rises_from canonical_cmp sorted (sorted_up canonical_cmp canonical_total all apart) };
          same =
              IsPermutation-trans (map name_text sorted) (map name_text all) texts (IsPermutation-map name_text sorted all same)
              (subst (λ l. IsPermutation l texts) (sym (map-map name_text (λ (z : ZoneRows). z.origin) are.zones)) are.same_origins);
        },
      )

-- ---- from each table to all

-- zones that have the records of the ones and the changes of the others
abbrev joined : List ZoneRows → List ZoneRows → List ZoneRows
joined [] ws = []
joined (z ∷ zs) [] = []
joined (z ∷ zs) (w ∷ ws) = record { origin = z.origin; records = z.records; changes = w.changes } ∷ joined zs ws

-- they are of the same origins
abbrev Alike : List ZoneRows → List ZoneRows → Type 0
Alike zs ws = map (λ z. z.origin) zs ≡ map (λ z. z.origin) ws

first_same : (z w : ZoneRows) (zs ws : List ZoneRows) → Alike (z ∷ zs) (w ∷ ws) → z.origin ≡ w.origin
first_same z w zs ws e = cc

later_same : (z w : ZoneRows) (zs ws : List ZoneRows) → Alike (z ∷ zs) (w ∷ ws) → Alike zs ws
later_same z w zs ws e = cc

joined_origins : (zs ws : List ZoneRows) → Alike zs ws → map (λ z. z.origin) (joined zs ws) ≡ map (λ z. z.origin) zs
joined_origins [] ws e = refl
joined_origins (z ∷ zs) [] e = absurd cc
joined_origins (z ∷ zs) (w ∷ ws) e = ap (λ l. z.origin ∷ l) (joined_origins zs ws (later_same z w zs ws e))

joined_records : (zs ws : List ZoneRows) → Alike zs ws → flat_map zone_records (joined zs ws) ≡ flat_map zone_records zs
joined_records [] ws e = refl
joined_records (z ∷ zs) [] e = absurd cc
joined_records (z ∷ zs) (w ∷ ws) e = ap (λ l. zone_records z ++ l) (joined_records zs ws (later_same z w zs ws e))

joined_changes : (zs ws : List ZoneRows) → Alike zs ws → flat_map zone_changes (joined zs ws) ≡ flat_map zone_changes ws
joined_changes [] [] e = refl
joined_changes [] (w ∷ ws) e = absurd cc
joined_changes (z ∷ zs) [] e = absurd cc
joined_changes (z ∷ zs) (w ∷ ws) e =
    ap₂ ◌++◌ (ap (λ o. zone_changes (record { origin = o; records = w.records; changes = w.changes })) (first_same z w zs ws e)) (joined_changes zs ws (later_same z w zs ws e))

joined_each : (zs ws : List ZoneRows) → Alike zs ws → AllByRecursion HasItsRecords zs → AllByRecursion HasItsChanges ws → AllByRecursion IsZoneRows (joined zs ws)
joined_each [] ws e each also = tt
joined_each (z ∷ zs) [] e each also = tt
joined_each (z ∷ zs) (w ∷ ws) e each also =
    (record { origin = each.0.origin; zone = each.0.zone; changes = also.0.changes }, joined_each zs ws (later_same z w zs ws e) each.1 also.1)

pub from_tables : (texts : List (List ℕ)) (records : List RecordRowOf) (changes : List ChangeRowOf) (origins : List Labels) → AreOriginRows origins texts → AreRecordsOf origins records → AreChangesOf origins changes
    → AreZoneRows texts records changes
from_tables texts records changes origins names rs cs =
    let alike : Alike rs.zones cs.zones = rs.origins_are ∙ sym cs.origins_are in
    let zones = joined rs.zones cs.zones in
    let is : map (λ z. z.origin) zones ≡ origins = joined_origins rs.zones cs.zones alike ∙ rs.origins_are in
    let up : IsAscending (λ (a : ZoneRows) b. canonical_cmp a.origin b.origin ≡ Less) zones =
    ascending_from_map (λ a b. canonical_cmp a b ≡ Less) (λ (z : ZoneRows). z.origin) zones (subst Up (sym is) (rises_up canonical_cmp canonical_total origins names.are.order)) in
    record {
      zones = zones;
      apart = pairs_from_ascending Apart zones (ascending_weaker (λ (a : ZoneRows) b. canonical_cmp a.origin b.origin ≡ Less) Apart (λ a b. below_other canonical_cmp canonical_total a.origin b.origin) zones up);
      each = joined_each rs.zones cs.zones alike rs.each cs.each;
      same_origins = subst (λ l. IsPermutation l texts) (ap (map name_text) (sym is) ∙ map-map name_text (λ (z : ZoneRows). z.origin) zones) names.same;
      same_records = subst (λ l. IsPermutation l records) (sym (joined_records rs.zones cs.zones alike)) rs.same;
      same_changes = subst (λ l. IsPermutation l changes) (sym (joined_changes rs.zones cs.zones alike)) cs.same;
    }

pub rows_are_by_table : RowsAreByTable
rows_are_by_table texts records changes = (
  λ are. (let os = origins_by_table texts records changes are in
      record { origins = os.0; zones = os.1; records = records_by_table texts records changes are os.0 os.1; changes = changes_by_table texts records changes are os.0 os.1 }),
  λ by. from_tables texts records changes by.origins by.zones by.records by.changes,
)
