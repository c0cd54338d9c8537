-- Rows of zones: they pass the check exactly where they are those of zones with their changes.
use Rattle.std.proofs.Common.{◌≡◌, ◌≢◌, ℕ, zero, suc, ◌+◌, true, not, List, [], ◌∷◌, ◌++◌, length, map, take, drop, IsPermutation, IsSorted, refl, sym, ap, ap₂, subst, ◌∙◌, arith}
use Rattle.std.proofs.lemmas.Bool.{and_from}
use Rattle.std.proofs.lemmas.Cmp.{tied_itself}
use Rattle.std.proofs.lemmas.List.{map-append, take_at, drop_at, take-append-drop}
use Rattle.std.proofs.lemmas.List.Sorted.{IsPermutation-refl, IsPermutation-sym, IsPermutation-trans, IsPermutation-append, list_any-IsPermutation}
use Rattle.std.specs.declared.cmp.Ordering.TheVariants.{Less, Equal}
use Rattle.std.specs.List.{AllByRecursion, flat_map, list_any, position_or_len}
use Rattle.std.specs.List.Sorted.{IsStrictlySortedBy}
use Rattle.std.specs.Ordering.{is_eq, nat_cmp, ordering_then}
use Rattle.sqlite_trees.specs.Tree.{IsAscending}
use Rattle.sqlite_trees.proofs.ListLemmas.{IsPermutation-same, pull_back}
use Rattle.sqlite_keyed.proofs.ListLemmas.{all_of, all_weaker, all_both, all_map, all-append, all-flat_map, ascending-append, ascending-map, ascending_from_map, ascending_weaker, map-map, map-flat_map, flat_map_same_on, test_from_all}
use Rattle.sqlite_keyed.proofs.SortLemmas.{sorted_unique}
use Rattle.dns_names.specs.Labels.{IsName}
use Rattle.dns_names.specs.Order.{canonical_cmp, canonical_total, same_name}
use Rattle.dns_names.specs.Spelling.{name_text}
use Rattle.dns_data.specs.declared.record.Record.{Record}
use Rattle.dns_data.specs.Rdata.{IsRecord}
use Rattle.dns_data.specs.RecordOrder.{record_order}
use Rattle.zone_core.specs.Sets.{InOrder}
use Rattle.zone_core.specs.Views.{AreOfZone}
use Rattle.zone_core.proofs.SetLemmas.{by_cases, name_is, name_self, name_other}
use Rattle.zone_core.specs.Changes.{ChangeOf}
use Rattle.store_sql.specs.Rows.{RecordRowOf, ChangeRowOf}
use Rattle.store_rows.specs.declared.changes.ChangedRecord.{ChangedRecord}
use Rattle.store_rows.specs.RecordRows.{record_row}
use Rattle.store_rows.specs.ChangeRows.{row_of, IsChanged, IsChangeRow, IsChange, changes_rows, changed_order, changed_order_total, side_cmp, are_numbered, are_of_one, gathered}
use Rattle.store_rows.specs.Contents.{ZoneRows, zone_records, zone_changes, IsZoneRows}
use Rattle.store_rows.proofs.ChangeRowLaws.{change_rows_are_apart}
use Rattle.store_rows.proofs.GatheringLaws.{entries, entries_rows, entries_are, entries_up, entries_numbered, ChangeBelow}
use Rattle.store_rows.proofs.GatheredLaws.{are_gathered}
use Rattle.store_rows.proofs.RecordRowLaws.{record_rows_are_apart}
use Rattle.store_rows.specs.declared.ordered.ZoneRecord.{ZoneRecord}
use Rattle.store_rows.specs.Orders.{rises}
use Rattle.store_rows.specs.Checks.{AreZoneRows, AreOrigins, HasItsRecords, AreRecordsOf, HasItsChanges, AreChangesOf, IsOriginText, row_of_record, IsZoneRecord, IsZoneRecordRow, zone_record_order, zone_record_total, records_first, changes_first, AreInTurn, AreRecordsIn, AreRecordsInTurn, AreChangesIn, AreChangesInTurn}
use Rattle.store_rows.proofs.ContentLemmas.{Apart, changes_each}
use Rattle.store_rows.proofs.ListLemmas.{list_any-map, ascending_from_pairs, all_permutation, moved_back, apart_moved}
use Rattle.store_rows.proofs.NameLemmas.{text_one}
use Rattle.store_rows.proofs.OrderLemmas.{rises_from, rises_up, sorted_strict}
use Rattle.store_rows.proofs.ZoneReadLemmas.{records_of_zone}

abbrev Labels : Type 0
Labels = List (List ℕ)

-- ---- what the rows of zones have

abbrev pub tag : Labels → Record → ZoneRecord
tag o r = record { origin = o; rr = r }

-- the records of zones
abbrev pub zone_tagged : ZoneRows → List ZoneRecord
zone_tagged z = map (tag z.origin) z.records

abbrev pub tagged : List ZoneRows → List ZoneRecord
tagged = flat_map zone_tagged

-- what the changes of zones have
abbrev pub zone_entries : ZoneRows → List ChangedRecord
zone_entries z = entries z.origin 1 z.changes

abbrev pub all_entries : List ZoneRows → List ChangedRecord
all_entries = flat_map zone_entries

pub tagged_rows : (zs : List ZoneRows) → map row_of_record (tagged zs) ≡ flat_map zone_records zs
tagged_rows zs = map-flat_map row_of_record zone_tagged zs ∙ flat_map_same_on (λ z. map row_of_record (zone_tagged z)) zone_records (λ z. map-map row_of_record (tag z.origin) z.records) zs

pub entries_all_rows : (zs : List ZoneRows) → map row_of (all_entries zs) ≡ flat_map zone_changes zs
entries_all_rows zs = map-flat_map row_of zone_entries zs ∙ flat_map_same_on (λ z. map row_of (zone_entries z)) zone_changes (λ z. entries_rows z.origin 1 z.changes) zs

pub tag_each : (o : Labels) (rs : List Record) → IsName o → AllByRecursion IsRecord rs → AllByRecursion IsZoneRecord (map (tag o) rs)
tag_each o [] named all = tt
tag_each o (r ∷ rs) named all = (record { origin = named; rr = all.0 }, tag_each o rs named all.1)

tagged_each : (zs : List ZoneRows) → AllByRecursion HasItsRecords zs → AllByRecursion IsZoneRecord (tagged zs)
tagged_each zs each =
    all-flat_map IsZoneRecord zone_tagged zs
    (all_weaker HasItsRecords (λ z. AllByRecursion IsZoneRecord (zone_tagged z)) (λ z is. tag_each z.origin z.records is.origin (records_of_zone z.origin z.records is.zone)) zs each)

entries_each : (zs : List ZoneRows) → AllByRecursion HasItsChanges zs → AllByRecursion IsChanged (all_entries zs)
entries_each zs each =
    all-flat_map IsChanged zone_entries zs
    (all_weaker HasItsChanges (λ z. AllByRecursion IsChanged (zone_entries z)) (λ z is. entries_are z.origin 1 z.changes is.origin (omega arith) is.changes) zs each)

-- their origins
pub tag_of : (o : Labels) (rs : List Record) → AllByRecursion (λ r. r.origin ≡ o) (map (tag o) rs)
tag_of o [] = tt
tag_of o (r ∷ rs) = (refl, tag_of o rs)

pub entries_of : (o : Labels) (n : ℕ) (cs : List ChangeOf) → AllByRecursion (λ c. c.origin ≡ o) (entries o n cs)
entries_of o n [] = tt
entries_of o n (c ∷ cs) =
    all-append (λ c. c.origin ≡ o) _ (entries o (suc n) cs) (all-append (λ c. c.origin ≡ o) _ _ (all_map (λ (x : ChangedRecord). x.origin ≡ o) _ c.removed (all_of (λ r. o ≡ o) (λ r. refl) c.removed)) (all_map (λ (x : ChangedRecord). x.origin ≡ o) _ c.added (all_of (λ r. o ≡ o) (λ r. refl) c.added)))
    (entries_of o (suc n) cs)

-- ---- they ascend where the zones do

-- one zone stands before another
abbrev pub Before : ZoneRows → ZoneRows → Type 0
Before a b = canonical_cmp a.origin b.origin ≡ Less

module _ {X : Type 0} (R : X → X → Type 0) (f : ZoneRows → List X)
    (apart : (a b : ZoneRows) → Before a b → AllByRecursion (λ x. AllByRecursion (R x) (f b)) (f a)) where
  across : (xs : List X) (zs : List ZoneRows) → AllByRecursion (λ b. AllByRecursion (λ x. AllByRecursion (R x) (f b)) xs) zs → AllByRecursion (λ x. AllByRecursion (R x) (flat_map f zs)) xs
  across xs [] all = all_of (λ x. AllByRecursion (R x) []) (λ x. tt) xs
  across xs (b ∷ zs) all =
      all_both (λ x. AllByRecursion (R x) (f b)) (λ x. AllByRecursion (R x) (flat_map f zs)) (λ x. AllByRecursion (R x) (f b ++ flat_map f zs)) (λ x p q. all-append (R x) (f b) (flat_map f zs) p q) xs
      all.0 (across xs zs all.1)

  pub zones_up : (zs : List ZoneRows) → AllByRecursion (λ z. IsAscending R (f z)) zs → IsAscending Before zs → IsAscending R (flat_map f zs)
  zones_up [] each up = tt
  zones_up (z ∷ zs) each up =
      ascending-append R (f z) (flat_map f zs) each.0 (zones_up zs each.1 up.1)
      (across (f z) zs (all_weaker (Before z) (λ b. AllByRecursion (λ x. AllByRecursion (R x) (f b)) (f z)) (λ b before. apart z b before) zs up.0))

-- what is of one zone stands before what is of a later one
module _ {X : Type 0} (R : X → X → Type 0) (origin : X → Labels) (less : (x y : X) → canonical_cmp (origin x) (origin y) ≡ Less → R x y) where
  all_before : (o p : Labels) (x : X) (ys : List X) → canonical_cmp o p ≡ Less → origin x ≡ o → AllByRecursion (λ y. origin y ≡ p) ys → AllByRecursion (R x) ys
  all_before o p x ys e is all =
      all_weaker (λ y. origin y ≡ p) (R x) (λ y also. less x y (ap (λ q. canonical_cmp q (origin y)) is ∙ ap (canonical_cmp o) also ∙ e)) ys all

  pub lists_before : (o p : Labels) (xs ys : List X) → canonical_cmp o p ≡ Less → AllByRecursion (λ x. origin x ≡ o) xs → AllByRecursion (λ y. origin y ≡ p) ys → AllByRecursion (λ x. AllByRecursion (R x) ys) xs
  lists_before o p xs ys e all also = all_weaker (λ x. origin x ≡ o) (λ x. AllByRecursion (R x) ys) (λ x is. all_before o p x ys e is also) xs all

abbrev pub RecordBelow : ZoneRecord → ZoneRecord → Type 0
RecordBelow a b = zone_record_order a b ≡ Less

pub by_origin_record : (x y : ZoneRecord) → canonical_cmp x.origin y.origin ≡ Less → RecordBelow x y
by_origin_record x y e = ap (λ o. ordering_then o (record_order x.rr y.rr)) e

pub by_origin_change : (x y : ChangedRecord) → canonical_cmp x.origin y.origin ≡ Less → ChangeBelow x y
by_origin_change x y e = ap (λ o. ordering_then (ordering_then (ordering_then o (nat_cmp x.number y.number)) (side_cmp x.side y.side)) (record_order x.changed y.changed)) e

same_origin : (o : Labels) (r s : Record) → record_order r s ≡ Less → RecordBelow (tag o r) (tag o s)
same_origin o r s e = ap (λ q. ordering_then q (record_order r s)) (tied_itself canonical_total o) ∙ e

records_above : (o : Labels) (r : Record) (rs : List Record) → AllByRecursion (λ s. record_order r s ≡ Less) rs → AllByRecursion (RecordBelow (tag o r)) (map (tag o) rs)
records_above o r [] all = tt
records_above o r (s ∷ rs) all = (same_origin o r s all.0, records_above o r rs all.1)

pub records_up : (o : Labels) (rs : List Record) → InOrder rs → IsAscending RecordBelow (map (tag o) rs)
unfolding IsStrictlySortedBy
records_up o [] h = tt
records_up o (r ∷ rs) h = (records_above o r rs h.0, records_up o rs h.1)

tagged_up : (zs : List ZoneRows) → AllByRecursion HasItsRecords zs → IsAscending Before zs → IsAscending RecordBelow (tagged zs)
tagged_up zs each up =
    zones_up RecordBelow zone_tagged (λ a b before. lists_before RecordBelow (λ x. x.origin) by_origin_record a.origin b.origin (zone_tagged a) (zone_tagged b) before (tag_of a.origin a.records) (tag_of b.origin b.records))
    zs (all_weaker HasItsRecords (λ z. IsAscending RecordBelow (zone_tagged z)) (λ z is. records_up z.origin z.records is.zone.order) zs each) up

all_entries_up : (zs : List ZoneRows) → AllByRecursion HasItsChanges zs → IsAscending Before zs → IsAscending ChangeBelow (all_entries zs)
all_entries_up zs each up =
    zones_up ChangeBelow zone_entries (λ a b before. lists_before ChangeBelow (λ x. x.origin) by_origin_change a.origin b.origin (zone_entries a) (zone_entries b) before (entries_of a.origin 1 a.changes) (entries_of b.origin 1 b.changes))
    zs (all_weaker HasItsChanges (λ z. IsAscending ChangeBelow (zone_entries z)) (λ z is. entries_up z.origin 1 z.changes is.changes) zs each) up

-- ---- those of one origin that stand first

module _ {X : Type 0} (origin : X → Labels) (o : Labels) where
  -- how many are of the origin, as far as they stand first
  abbrev run : List X → ℕ
  run xs = position_or_len (λ x. not (same_name (origin x) o)) xs

  run_none : (rest : List X) → AllByRecursion (λ x. origin x ≢ o) rest → run rest ≡ 0
  run_none [] none = refl
  run_none (x ∷ rest) none = let other = name_other (origin x) o none.0 in rw other refl

  pub run_is : (own rest : List X) → AllByRecursion (λ x. origin x ≡ o) own → AllByRecursion (λ x. origin x ≢ o) rest → run (own ++ rest) ≡ length own
  run_is [] rest all none = run_none rest none
  run_is (x ∷ own) rest all none =
      let here : same_name (origin x) o ≡ true = ap (λ n. same_name n o) all.0 ∙ name_self o in
      let later = run_is own rest all.1 none in
      rw (here, later) (let e : 1 + length own ≡ suc (length own) = omega arith in e)

  pub run_of : (xs : List X) → AllByRecursion (λ x. origin x ≡ o) (take (run xs) xs)
  run_of [] = tt
  run_of (x ∷ xs) =
      by_cases (same_name (origin x) o) (AllByRecursion (λ x. origin x ≡ o) (take (run (x ∷ xs)) (x ∷ xs)))
      (λ t.
      let n : run (x ∷ xs) ≡ suc (run xs) = rw t (let e : 1 + run xs ≡ suc (run xs) = omega arith in e) in
      subst (λ k. AllByRecursion (λ x. origin x ≡ o) (take k (x ∷ xs))) (sym n) (name_is (origin x) o t, run_of xs))
      (λ f. let n : run (x ∷ xs) ≡ 0 = rw f refl in subst (λ k. AllByRecursion (λ x. origin x ≡ o) (take k (x ∷ xs))) (sym n) tt)

-- ---- zones that are a state's pass

-- none of what is of later zones is of this one
pub later_apart : {X : Type 0} (origin : X → Labels) (f : ZoneRows → List X) → ((z : ZoneRows) → AllByRecursion (λ x. origin x ≡ z.origin) (f z)) → (o : Labels) (zs : List ZoneRows)
    → AllByRecursion (λ z. canonical_cmp o z.origin ≡ Less) zs → AllByRecursion (λ x. origin x ≢ o) (flat_map f zs)
later_apart origin f own o zs before =
    all-flat_map (λ x. origin x ≢ o) f zs
    (all_weaker (λ z. canonical_cmp o z.origin ≡ Less) (λ z. AllByRecursion (λ x. origin x ≢ o) (f z)) (λ z less. all_weaker (λ x. origin x ≡ z.origin) (λ x. origin x ≢ o) (λ x is same. not_itself o z.origin less (sym same ∙ is)) (f z) (own z)) zs before)
  where
    not_itself : (o p : Labels) → canonical_cmp o p ≡ Less → o ≡ p → ⊥
    not_itself o p less same = let tie : canonical_cmp o p ≡ Equal = ap (λ q. canonical_cmp q p) same ∙ tied_itself canonical_total p in let bad : Less ≡ Equal = sym less ∙ tie in cc

pub untagged : (o : Labels) (rs : List Record) → map (λ r. r.rr) (map (tag o) rs) ≡ rs
untagged o [] = refl
untagged o (r ∷ rs) = ap (λ l. r ∷ l) (untagged o rs)

-- what is of zones in the order of their origins is taken in turn
module _ {X : Type 0} (origin : X → Labels) (f : ZoneRows → List X) (own : (z : ZoneRows) → AllByRecursion (λ x. origin x ≡ z.origin) (f z)) (P : Labels → List X → Type 0) where
  in_turn : (zs : List ZoneRows) → AllByRecursion (λ z. P z.origin (f z)) zs → IsAscending Before zs → AreInTurn (λ o xs. run origin o xs) P (map (λ z. z.origin) zs) (flat_map f zs)
  in_turn [] each up = refl
  in_turn (z ∷ zs) each up =
      let o = z.origin in
      let xs = flat_map f (z ∷ zs) in
      let n : length (f z) ≡ run origin o xs = sym (run_is origin o (f z) (flat_map f zs) (own z) (later_apart origin f own o zs up.0)) in (
        subst (P o) (sym (take_at (f z) (flat_map f zs) (run origin o xs) n)) each.0,
        subst (AreInTurn (λ p ys. run origin p ys) P (map (λ x. x.origin) zs)) (sym (drop_at (f z) (flat_map f zs) (run origin o xs) n)) (in_turn zs each.1 up.1),
      )

pub records_in_turn : (zs : List ZoneRows) → AllByRecursion HasItsRecords zs → IsAscending Before zs → AreRecordsInTurn (map (λ z. z.origin) zs) (tagged zs)
records_in_turn zs each up =
    in_turn (λ (r : ZoneRecord). r.origin) zone_tagged (λ z. tag_of z.origin z.records) AreRecordsIn zs
    (all_weaker HasItsRecords (λ z. AreRecordsIn z.origin (zone_tagged z)) (λ z is. subst (AreOfZone z.origin) (sym (untagged z.origin z.records)) is.zone) zs each) up

pub changes_in_turn : (zs : List ZoneRows) → AllByRecursion HasItsChanges zs → IsAscending Before zs → AreChangesInTurn (map (λ z. z.origin) zs) (all_entries zs)
changes_in_turn zs each up =
    in_turn (λ (c : ChangedRecord). c.origin) zone_entries (λ z. entries_of z.origin 1 z.changes) AreChangesIn zs
    (all_weaker HasItsChanges (λ z. AreChangesIn z.origin (zone_entries z)) (λ z is. entries_numbered z.origin z.changes is.origin is.changes) zs each) up

abbrev pub IsTied : Labels → Labels → Type 0
IsTied o p = canonical_cmp o p ≡ Equal

pub not_tied : (o p : Labels) → o ≢ p → IsTied o p → ⊥
not_tied o p apart tie = apart (name_is o p (ap is_eq tie))

pub record_one : (a b : ZoneRecord) → IsZoneRecord a → IsZoneRecord b → row_of_record a ≡ row_of_record b → a ≡ b
record_one a b is also e =
    let both = record_rows_are_apart a.origin b.origin a.rr b.rr is.origin also.origin is.rr also.rr e in
    ap₂ tag both.0 both.1

-- what was read of the rows of zones, in order
module _ (zs : List ZoneRows) (up : IsAscending Before zs) where
  pub records_are : (records : List RecordRowOf) (rs : List ZoneRecord) → AllByRecursion HasItsRecords zs → IsPermutation (flat_map zone_records zs) records
      → IsPermutation (map row_of_record rs) records → AllByRecursion IsZoneRecord rs → IsSorted zone_record_order rs → rs ≡ tagged zs
  records_are records rs own rows same each sorted =
      let back = subst (λ l. IsPermutation l (map row_of_record rs)) (sym (tagged_rows zs)) (IsPermutation-trans (flat_map zone_records zs) records (map row_of_record rs) rows (IsPermutation-sym (map row_of_record rs) records same)) in
      let moved = moved_back IsZoneRecord row_of_record record_one (tagged zs) rs (tagged_each zs own) each back in
      sorted_unique zone_record_order zone_record_total (tagged zs) rs (tagged_up zs own up) moved sorted

  pub changes_are : (changes : List ChangeRowOf) (cs : List ChangedRecord) → AllByRecursion HasItsChanges zs → IsPermutation (flat_map zone_changes zs) changes
      → IsPermutation (map row_of cs) changes → AllByRecursion IsChanged cs → IsSorted changed_order cs → cs ≡ all_entries zs
  changes_are changes cs own rows same each sorted =
      let back = subst (λ l. IsPermutation l (map row_of cs)) (sym (entries_all_rows zs)) (IsPermutation-trans (flat_map zone_changes zs) changes (map row_of cs) rows (IsPermutation-sym (map row_of cs) changes same)) in
      let moved = moved_back IsChanged row_of change_rows_are_apart (all_entries zs) cs (entries_each zs own) each back in
      sorted_unique changed_order changed_order_total (all_entries zs) cs (all_entries_up zs own up) moved sorted

pub record_rows : (zs : List ZoneRows) (records : List RecordRowOf) → AllByRecursion HasItsRecords zs → IsPermutation (flat_map zone_records zs) records → AllByRecursion IsZoneRecordRow records
record_rows zs records own same =
    all_permutation IsZoneRecordRow (flat_map zone_records zs) records same
    (subst (AllByRecursion IsZoneRecordRow) (tagged_rows zs) (all_map IsZoneRecordRow row_of_record (tagged zs) (all_weaker IsZoneRecord (λ r. IsZoneRecordRow (row_of_record r)) (λ r is. (r, is, refl)) (tagged zs) (tagged_each zs own))))

pub change_rows : (zs : List ZoneRows) (changes : List ChangeRowOf) → AllByRecursion HasItsChanges zs → IsPermutation (flat_map zone_changes zs) changes → AllByRecursion IsChangeRow changes
change_rows zs changes own same =
    all_permutation IsChangeRow (flat_map zone_changes zs) changes same
    (subst (AllByRecursion IsChangeRow) (entries_all_rows zs) (all_map IsChangeRow row_of (all_entries zs) (all_weaker IsChanged (λ c. IsChangeRow (row_of c)) (λ c is. (c, is, refl)) (all_entries zs) (entries_each zs own))))

module _ (texts : List (List ℕ)) (records : List RecordRowOf) (changes : List ChangeRowOf) (are : AreZoneRows texts records changes) where
  -- each row is one
  pub origin_rows : AllByRecursion IsOriginText texts
  origin_rows =
      all_permutation IsOriginText (map (λ (z : ZoneRows). name_text z.origin) are.zones) texts are.same_origins
      (all_map IsOriginText (λ (z : ZoneRows). name_text z.origin) are.zones (all_weaker IsZoneRows (λ z. IsOriginText (name_text z.origin)) (λ z is. (z.origin, is.origin, refl)) are.zones are.each))

  module _ (os : List Labels) (texts_are : IsPermutation (map name_text os) texts) (named : AllByRecursion IsName os) (sorted : IsSorted canonical_cmp os) where
    -- the zones in the order of their origins
    pub record InOrderOf : Type 0 where
      pub zones : List ZoneRows
      pub moved : IsPermutation are.zones zones
      pub origins : os ≡ map (λ z. z.origin) zones
      pub each : AllByRecursion IsZoneRows zones
      pub up : IsAscending Before zones

    pub ordered : InOrderOf
    ordered =
        let all_named = all_map IsName (λ (z : ZoneRows). z.origin) are.zones (all_weaker IsZoneRows (λ z. IsName z.origin) (λ z is. is.origin) are.zones are.each) in
        let texts_same = subst (λ l. IsPermutation l (map name_text os)) (sym (map-map name_text (λ (z : ZoneRows). z.origin) are.zones))
        (IsPermutation-trans (map (λ (z : ZoneRows). name_text z.origin) are.zones) texts (map name_text os) are.same_origins (IsPermutation-sym (map name_text os) texts texts_are)) in
        let same = moved_back IsName name_text (λ a b is also e. text_one a b is also e) (map (λ (z : ZoneRows). z.origin) are.zones) os all_named named texts_same in
        let to = pull_back (λ (z : ZoneRows). z.origin) (map (λ (z : ZoneRows). z.origin) are.zones) os same are.zones refl in
        let apart = apart_moved Apart (λ a b h e. h (sym e)) are.zones to.0 to.1 (ascending_from_pairs Apart are.zones are.apart) in
        let untied = subst (IsAscending (λ a b. ¬ (IsTied a b))) (sym to.2) (ascending-map (λ a b. ¬ (IsTied a b)) (λ (z : ZoneRows). z.origin) to.0 (ascending_weaker Apart (λ a b. ¬ (IsTied a.origin b.origin)) (λ a b h. not_tied a.origin b.origin h) to.0 apart)) in
        let strict = sorted_strict canonical_cmp canonical_total os sorted untied in
        record {
          zones = to.0;
          moved = to.1;
          origins = to.2;
          each = all_permutation IsZoneRows are.zones to.0 to.1 are.each;
          up = ascending_from_map (λ a b. canonical_cmp a b ≡ Less) (λ (z : ZoneRows). z.origin) to.0 (subst (IsAscending (λ a b. canonical_cmp a b ≡ Less)) to.2 strict);
        }

    abbrev zones : List ZoneRows
    zones = ordered.zones

    pub origins_rise : rises canonical_cmp os ≡ true
    origins_rise =
        rises_from canonical_cmp os (subst (IsAscending (λ a b. canonical_cmp a b ≡ Less)) (sym ordered.origins) (ascending-map (λ a b. canonical_cmp a b ≡ Less) (λ (z : ZoneRows). z.origin) zones ordered.up))

    -- one is among them where it is the origin of a zone
    pub origins_among : (o : Labels) → list_any (λ name. same_name name o) os ≡ list_any (λ z. same_name z.origin o) are.zones
    origins_among o =
        ap (list_any (λ name. same_name name o)) ordered.origins
        ∙ list_any-map (λ name. same_name name o) (λ (z : ZoneRows). z.origin) zones
        ∙ sym (list_any-IsPermutation (λ z. same_name z.origin o) are.zones zones ordered.moved)

-- ---- what passes is a state's

-- all of one zone are tagged with its origin
pub tags_are : (o : Labels) (rs : List ZoneRecord) → AllByRecursion (λ r. r.origin ≡ o) rs → map row_of_record rs ≡ map (record_row o) (map (λ r. r.rr) rs)
tags_are o [] all = refl
tags_are o (r ∷ rs) all = ap₂ (λ (x : RecordRowOf) l. x ∷ l) (ap (λ p. record_row p r.rr) all.0) (tags_are o rs all.1)

-- the changes of rows of one zone
record AreItsChanges (o : Labels) (cs : List ChangedRecord) : Type 0 where
  changes : List ChangeOf
  each : AllByRecursion IsChange changes
  rows : IsPermutation (changes_rows o 1 changes) (map row_of cs)

its_changes : (o : Labels) (cs : List ChangedRecord) → IsName o → AllByRecursion IsChanged cs → AllByRecursion (λ c. c.origin ≡ o) cs → are_numbered cs ≡ true → AreItsChanges o cs
its_changes o [] named each all numbered = record { changes = []; each = tt; rows = IsPermutation-refl [] }
its_changes o (c ∷ cs) named each all numbered =
    let rows = map row_of (c ∷ cs) in
    let all_of_it = gathered (c ∷ cs) in
    let one : are_of_one (c ∷ cs) ≡ true = test_from_all (λ (d : ChangedRecord). same_name d.origin c.origin) cs (all_weaker (λ d. d.origin ≡ o) (λ d. same_name d.origin c.origin ≡ true) (λ d is. ap (λ p. same_name p c.origin) (is ∙ sym all.0) ∙ name_self c.origin) cs all.1) in
    let found = are_gathered rows (c ∷ cs) (IsPermutation-refl rows) each (and_from (are_of_one (c ∷ cs)) (are_numbered (c ∷ cs)) one numbered) in
    let text : name_text found.0 ≡ name_text c.origin =
    sym (all_permutation (λ r. r.origin ≡ name_text found.0) (changes_rows found.0 1 all_of_it) rows found.3 (changes_each (λ r. r.origin ≡ name_text found.0) found.0 (λ n side r. refl) 1 all_of_it)).0 in
    let is : found.0 ≡ o = text_one found.0 c.origin found.1 each.0.origin text ∙ all.0 in
    record { changes = all_of_it; each = found.2; rows = subst (λ p. IsPermutation (changes_rows p 1 all_of_it) rows) is found.3 }

pub front_all : {X : Type 0} (P : X → Type 0) (n : ℕ) (xs : List X) → AllByRecursion P xs → AllByRecursion P (take n xs)
front_all P zero xs all = tt
front_all P (suc n) [] all = tt
front_all P (suc n) (x ∷ xs) all = (all.0, front_all P n xs all.1)

pub back_all : {X : Type 0} (P : X → Type 0) (n : ℕ) (xs : List X) → AllByRecursion P xs → AllByRecursion P (drop n xs)
back_all P zero xs all = all
back_all P (suc n) [] all = tt
back_all P (suc n) (x ∷ xs) all = back_all P n xs all.1

-- zones of which the records were taken one after the other
record RecordsTaken (os : List Labels) (rs : List ZoneRecord) : Type 0 where
  zones : List ZoneRows
  origins : map (λ z. z.origin) zones ≡ os
  each : AllByRecursion HasItsRecords zones
  rows : flat_map zone_records zones ≡ map row_of_record rs

records_taken : (os : List Labels) (rs : List ZoneRecord) → AllByRecursion IsName os → AreRecordsInTurn os rs → RecordsTaken os rs
records_taken [] rs named turn = record { zones = []; origins = refl; each = tt; rows = ap (map row_of_record) (sym turn) }
records_taken (o ∷ os) rs named turn =
    let n = records_first o rs in
    let later = records_taken os (drop n rs) named.1 turn.1 in
    let z : ZoneRows = record { origin = o; records = map (λ r. r.rr) (take n rs); changes = [] } in
    record {
      zones = z ∷ later.zones;
      origins = ap (λ l. o ∷ l) later.origins;
      each = (record { origin = named.0; zone = turn.0 }, later.each);
      rows =
          ap₂ ◌++◌ (sym (tags_are o (take n rs) (run_of (λ (r : ZoneRecord). r.origin) o rs))) later.rows
          ∙ sym (map-append row_of_record (take n rs) (drop n rs)) ∙ ap (map row_of_record) (take-append-drop n rs);
    }

-- zones of which the changes were
record ChangesTaken (os : List Labels) (cs : List ChangedRecord) : Type 0 where
  zones : List ZoneRows
  origins : map (λ z. z.origin) zones ≡ os
  each : AllByRecursion HasItsChanges zones
  rows : IsPermutation (flat_map zone_changes zones) (map row_of cs)

changes_taken : (os : List Labels) (cs : List ChangedRecord) → AllByRecursion IsName os → AllByRecursion IsChanged cs → AreChangesInTurn os cs → ChangesTaken os cs
changes_taken [] cs named changed turn = record { zones = []; origins = refl; each = tt; rows = IsPermutation-same [] (map row_of cs) (ap (map row_of) (sym turn)) }
changes_taken (o ∷ os) cs named changed turn =
    let m = changes_first o cs in
    let later = changes_taken os (drop m cs) named.1 (back_all IsChanged m cs changed) turn.1 in
    let own = its_changes o (take m cs) named.0 (front_all IsChanged m cs changed) (run_of (λ (c : ChangedRecord). c.origin) o cs) turn.0 in
    let z : ZoneRows = record { origin = o; records = []; changes = own.changes } in
    record {
      zones = z ∷ later.zones;
      origins = ap (λ l. o ∷ l) later.origins;
      each = (record { origin = named.0; changes = own.each }, later.each);
      rows =
          subst (IsPermutation (zone_changes z ++ flat_map zone_changes later.zones)) (sym (map-append row_of (take m cs) (drop m cs)) ∙ ap (map row_of) (take-append-drop m cs))
          (IsPermutation-append (zone_changes z) (map row_of (take m cs)) (flat_map zone_changes later.zones) (map row_of (drop m cs)) own.rows later.rows);
    }

-- ---- table by table

module _ (os : List Labels) (are : AreOrigins os) where
  origins_up : IsAscending (λ a b. canonical_cmp a b ≡ Less) os
  origins_up = rises_up canonical_cmp canonical_total os are.order

  zones_before : (zs : List ZoneRows) → map (λ z. z.origin) zs ≡ os → IsAscending Before zs
  zones_before zs is = ascending_from_map (λ a b. canonical_cmp a b ≡ Less) (λ (z : ZoneRows). z.origin) zs (subst (IsAscending (λ a b. canonical_cmp a b ≡ Less)) (sym is) origins_up)

  module _ (rows : List RecordRowOf) (rs : List ZoneRecord) (same : IsPermutation (map row_of_record rs) rows) where
    pub records_pass : AllByRecursion IsZoneRecord rs → IsSorted zone_record_order rs → AreRecordsOf os rows → AreRecordsInTurn os rs
    records_pass each sorted of =
        let up = zones_before of.zones of.origins_are in
        subst (λ l. AreRecordsInTurn l rs) of.origins_are
        (subst (AreRecordsInTurn (map (λ z. z.origin) of.zones)) (sym (records_are of.zones up rows rs of.each of.same same each sorted)) (records_in_turn of.zones of.each up))

    pub are_records_of : AreRecordsInTurn os rs → AreRecordsOf os rows
    are_records_of turn =
        let t = records_taken os rs are.each turn in
        record { zones = t.zones; origins_are = t.origins; each = t.each; same = subst (λ l. IsPermutation l rows) (sym t.rows) same }

  module _ (rows : List ChangeRowOf) (cs : List ChangedRecord) (same : IsPermutation (map row_of cs) rows) (each : AllByRecursion IsChanged cs) where
    pub changes_pass : IsSorted changed_order cs → AreChangesOf os rows → AreChangesInTurn os cs
    changes_pass sorted of =
        let up = zones_before of.zones of.origins_are in
        subst (λ l. AreChangesInTurn l cs) of.origins_are
        (subst (AreChangesInTurn (map (λ z. z.origin) of.zones)) (sym (changes_are of.zones up rows cs of.each of.same same each sorted)) (changes_in_turn of.zones of.each up))

    pub are_changes_of : AreChangesInTurn os cs → AreChangesOf os rows
    are_changes_of turn =
        let t = changes_taken os cs are.each each turn in
        record { zones = t.zones; origins_are = t.origins; each = t.each; same = IsPermutation-trans (flat_map zone_changes t.zones) (map row_of cs) rows t.rows same }
