-- Zones, parts of zones and subtrees that are read from their rows.
use Rattle.std.proofs.Common.{◌≡◌, ℕ, Bool, true, false, cond, not, List, [], ◌∷◌, map, filter, Option, Some, None, Result, Ok, Err, IsPermutation, IsSorted, refl, sym, ap, subst, ◌∙◌, ◌&&◌, ◌||◌}
use Rattle.std.proofs.lemmas.Bool.{and_parts, and_from}
use Rattle.std.proofs.lemmas.List.{append-nil}
use Rattle.std.proofs.lemmas.List.Sorted.{IsPermutation-sym, IsPermutation-trans}
use Rattle.std.specs.Prelude.{ℤ, bytes_eq}
use Rattle.std.specs.FinMap.{find}
use Rattle.std.specs.List.{AllByRecursion, Contains, list_all, list_any}
use Rattle.std.specs.List.Sorted.{IsStrictlySortedBy}
use Rattle.std.specs.declared.cmp.Ordering.{Ordering}
use Rattle.std.specs.declared.cmp.Ordering.TheVariants.{Less, Equal, Greater}
use Rattle.std.specs.Ordering.{is_lt, is_le, nat_cmp, ordering_reverse}
use Rattle.std.specs.Cmp.Lexicographic.{slice_cmp, nat_list_cmp_total}
use Rattle.sqlite_keyed.proofs.ListLemmas.{filter-map, filter_same, all_weaker, all-filter, test_from_all}
use Rattle.sqlite_keyed.proofs.SortLemmas.{sorted_unique}
use Rattle.sqlite_trees.specs.Tree.{IsAscending}
use Rattle.sqlite_trees.proofs.ListLemmas.{pull_back}
use Rattle.sqlite_rules.specs.Lists.{Has}
use Rattle.sqlite_rules.proofs.ListLemmas.{all_has, all_from, has_contained, contains_had}
use Rattle.dns_names.specs.Keys.{key_of, key_end, IsInRange}
use Rattle.dns_names.specs.Labels.{IsName, is_within}
use Rattle.dns_names.specs.Order.{same_name}
use Rattle.dns_names.specs.Spelling.{name_text}
use Rattle.dns_names.proofs.KeyLaws.{key_ranges}
use Rattle.dns_names.proofs.NameLemmas.{is_within-Decides}
use Rattle.dns_data.specs.declared.record.Record.{Record}
use Rattle.dns_data.specs.Rdata.{IsRecord}
use Rattle.dns_data.specs.RecordOrder.{record_order, record_order_total}
use Rattle.zone_core.specs.Sets.{Records, Key, set_of, keyed, key_cmp, listing, part, within, at_name, InOrder, IsIn}
use Rattle.zone_core.specs.Sets as records
use Rattle.zone_core.specs.declared.faults.ZoneFault.{ZoneFault}
use Rattle.zone_core.specs.declared.faults.ZoneFault.TheVariants as faults
use Rattle.zone_core.specs.Faults as zone_faults
use Rattle.store_rows.specs.declared.row_fault.RowFault.TheVariants.{BadRow}
use Rattle.store_rows.specs.RowFaults.{◌>>=◌, Refuses, of_zone, of_zones}
use Rattle.store_rows.specs.RowReading.{each_read, record_in, zone_by}
use Rattle.store_rows.proofs.StoredLaws.{rows_stored}
use Rattle.zone_core.specs.Zones.{ZoneOf, IsZone, built, unless_fault, fault_in, min_rrset_ttls, latest}
use Rattle.zone_core.specs.Views.{zone_in, AreOfZone}
use Rattle.zone_core.specs.Parts.{part_of, at_names}
use Rattle.zone_core.specs.Rebuilt.{AreAllOf}
use Rattle.zone_core.proofs.RowLemmas.{get-set_of, each_in, in_has, listing-part, set_of-filter, InOrder-filter}
use Rattle.zone_core.proofs.RebuiltLemmas.{zones_are_rebuilt}
use Rattle.zone_core.proofs.NeedLemmas.{part_is_zone}
use Rattle.zone_core.proofs.SetLemmas.{name_self}
use Rattle.office_model.specs.States.{State, zone_at}
use Rattle.store_rows.specs.Contents.{AreOfState}
use Rattle.store_sql.specs.Rows.{RecordRowOf, RowsOf}
use Rattle.store_sql.specs.Lookups.{is_below, records_of}
use Rattle.store_rows.specs.RecordRows.{record_row}
use Rattle.store_rows.proofs.RecordRowLaws.{record_rows_are_apart}
use Rattle.store_rows.specs.PartRows.{AreRowsOf, AreRowsAt, rows_at, rows_from, rows_within}
use Rattle.store_rows.proofs.ListLemmas.{has_map, has_image, has_permutation, chosen, all_permutation, list_any-map, list_any_same}
use Rattle.store_rows.proofs.ContentLemmas.{part_held, is_held, zone_there}
use Rattle.store_rows.specs.Orders.{rises}
use Rattle.store_rows.proofs.OrderLemmas.{rises_from}
use Rattle.store_rows.proofs.NameLemmas.{key_same, bytes_same}

abbrev Labels : Type 0
Labels = List (List ℕ)

-- ---- records in order are those of their set

pub there : (rs : List Record) (r : Record) → IsIn r (set_of rs) → Has rs r
there rs r h = in_has (Has rs) rs r (all_from (Has rs) rs (λ x i. i)) h

pub here : (rs : List Record) (r : Record) → InOrder rs → Has rs r → IsIn r (set_of rs)
here rs r order h = get-set_of rs (records.key_of r) ∙ all_has (λ x. find key_cmp (records.key_of x) (keyed rs) ≡ Some x) rs r (each_in rs order) h

-- records of a zone are records
pub record_of : (o : Labels) (zs : List Record) (r : Record) → AreOfZone o zs → Has zs r → IsRecord r
record_of o zs r is h = (is.zone.kept (records.key_of r) r (here zs r is.order h)).1

pub records_of_zone : (o : Labels) (zs : List Record) → AreOfZone o zs → AllByRecursion IsRecord zs
records_of_zone o zs is = all_from IsRecord zs (λ r h. record_of o zs r is h)

-- ---- a zone by its rows

-- what is read of rows of a zone
pub record AreReadOf (o : Labels) (zs : List Record) (rows : List RecordRowOf) : Type 0 where
  pub records : List Record
  pub rows_are : rows ≡ map (record_row o) records
  pub each : AllByRecursion IsRecord records
  pub all : AreAllOf records (set_of zs)

module _ (o : Labels) (named : IsName o) (zs : List Record) (is : AreOfZone o zs) (rows : List RecordRowOf) (of : AreRowsOf o zs rows) where
  image : (row : RecordRowOf) → Contains (map (record_row o) zs) row → (r : Record) × Has zs r × (row ≡ record_row o r)
  image row c = has_image (record_row o) zs row (has_contained (map (record_row o) zs) row c)

  -- a record of the zone is among those that the rows are of
  among : (rs : List Record) → rows ≡ map (record_row o) rs → AllByRecursion (Has zs) rs → (r : Record) → IsIn r (set_of zs) → Contains rs r
  among rs e each r i =
      let h = there zs r i in
      let row = has_contained rows (record_row o r) (all_has (λ y. Contains rows y) (map (record_row o) zs) (record_row o r) of.whole (has_map (record_row o) zs r h)) in
      let found = has_image (record_row o) rs (record_row o r) (subst (λ l. Has l (record_row o r)) e row) in
      let x = found.0 in
      let also = all_has (Has zs) rs x each found.1 in
      let same = record_rows_are_apart o o r x named named (record_of o zs r is h) (record_of o zs x is also) found.2 in
      contains_had rs r (subst (Has rs) (sym same.1) found.1)

  rows_read : AreReadOf o zs rows
  rows_read =
      let c = chosen (Has zs) (record_row o) rows (all_weaker (λ r. Contains (map (record_row o) zs) r) (λ row. (r : Record) × Has zs r × (row ≡ record_row o r)) image rows of.inside) in
      record {
        records = c.0;
        rows_are = c.1;
        each = all_weaker (Has zs) IsRecord (λ r h. record_of o zs r is h) c.0 c.2;
        all = record {
          inside = all_weaker (Has zs) (λ r. IsIn r (set_of zs)) (λ r h. here zs r is.order h) c.0 c.2;
          whole = among c.0 c.1 c.2;
        };
      }

  -- each row has the text of the origin
  rows_here : AllByRecursion (λ r. bytes_eq r.origin (name_text o) ≡ true) rows
  rows_here =
      all_weaker (λ r. Contains (map (record_row o) zs) r) (λ r. bytes_eq r.origin (name_text o) ≡ true)
      (λ row c. let i = image row c in bytes_same row.origin (name_text o) (ap (λ (r : RecordRowOf). r.origin) i.2)) rows of.inside

-- what is built is of the origin that was given
origin_of : (origin : Labels) (set : Records) (fault : Option ZoneFault) (zone : ZoneOf) → unless_fault origin set fault ≡ Ok zone → zone.origin ≡ origin
origin_of origin set None zone e = let same : record { origin = origin; records = set } ≡ zone = cc in sym (ap (λ (z : ZoneOf). z.origin) same)
origin_of origin set (Some fault) zone e = absurd cc

pub built_at : (origin : Labels) (rs : List Record) (zone : ZoneOf) → built origin rs ≡ Ok zone → zone.origin ≡ origin
built_at origin rs zone e = origin_of origin (min_rrset_ttls (latest rs)) (fault_in origin (min_rrset_ttls (latest rs))) zone e

built_is : (zone : ZoneOf) (rs : List Record) → IsZone zone → AreAllOf rs zone.records → built zone.origin rs ≡ Ok zone
built_is = zones_are_rebuilt

abbrev of_origin : Labels → RecordRowOf → Bool
of_origin o r = bytes_eq r.origin (name_text o)

-- rows of which one is of another origin
pub of_other : (o : Labels) (rows : List RecordRowOf) → list_all (of_origin o) rows ≡ false → zone_by o rows ≡ Err BadRow
of_other o rows e = ap (λ b. cond b (each_read record_in rows >>= λ rs. of_zones (built o rs)) (Err BadRow)) e

pub of_own : (o : Labels) (rows : List RecordRowOf) → list_all (of_origin o) rows ≡ true → zone_by o rows ≡ (each_read record_in rows >>= λ rs. of_zones (built o rs))
of_own o rows e = ap (λ b. cond b (each_read record_in rows >>= λ rs. of_zones (built o rs)) (Err BadRow)) e

-- the rows of a zone are read as it
pub zone_stored : (o : Labels) → IsName o → (zs : List Record) → AreOfZone o zs → (rows : List RecordRowOf) → AreRowsOf o zs rows → zone_by o rows ≡ Ok (zone_in o zs)
zone_stored o named zs is rows of =
    let read = rows_read o named zs is rows of in
    of_own o rows (test_from_all (of_origin o) rows (rows_here o named zs is rows of))
    ∙ ap (λ r. r >>= λ rs. of_zones (built o rs)) (ap (each_read record_in) read.rows_are ∙ rows_stored o read.records read.each)
    ∙ ap of_zones (built_is (zone_in o zs) read.records is.zone read.all)

-- rows of a zone in some order are its rows
pub rows_moved : (o : Labels) (zs : List Record) (rows : List RecordRowOf) → IsPermutation (map (record_row o) zs) rows → AreRowsOf o zs rows
rows_moved o zs rows same =
    let all = map (record_row o) zs in
    record {
      inside = all_from (λ r. Contains all r) rows (λ r h. contains_had all r (has_permutation rows all r (IsPermutation-sym all rows same) h));
      whole = all_from (λ r. Contains rows r) all (λ r h. contains_had rows r (has_permutation all rows r same h));
    }

-- ---- a part of a zone

abbrev kept_of : (Key → Bool) → List Record → List Record
kept_of p rs = filter (λ r. p (records.key_of r)) rs

-- the records of a part
pub part_is : (o : Labels) (zs : List Record) (p : Key → Bool) → zone_in o (kept_of p zs) ≡ part_of (zone_in o zs) p
part_is o zs p = ap (λ (set : Records). record { origin = o; records = set }) (set_of-filter p zs)

pub part_order : (o : Labels) (zs : List Record) (p : Key → Bool) → AreOfZone o zs → ((k : Key) → k.0 ≡ o → p k ≡ true) → AreOfZone o (kept_of p zs)
part_order o zs p is own = record {
  order = InOrder-filter (λ r. p (records.key_of r)) zs is.order;
  zone = subst IsZone (sym (part_is o zs p)) (part_is_zone (zone_in o zs) p is.zone own);
}

pub own_names : (o : Labels) (names : List Labels) (k : Key) → k.0 ≡ o → at_names o names k ≡ true
own_names o names k e =
    let t : same_name k.0 o ≡ true = ap (λ n. same_name n o) e ∙ name_self o in
    ap (λ b. b || list_any (λ name. at_name name k) names) t

-- whether the key of an owner is one of those of names
by_keys : (names : List Labels) (r : Record) → list_any (bytes_eq (key_of r.owner)) (map key_of names) ≡ list_any (λ name. at_name name (records.key_of r)) names
by_keys names r =
    list_any-map (bytes_eq (key_of r.owner)) key_of names
    ∙ list_any_same (λ name. bytes_eq (key_of r.owner) (key_of name)) (λ name. at_name name (records.key_of r)) names
    (all_from (λ name. bytes_eq (key_of r.owner) (key_of name) ≡ same_name r.owner name) names (λ name h. key_same r.owner name))

pub by_names : (o : Labels) (names : List Labels) (zs : List Record)
    → filter (λ (r : RecordRowOf). list_any (bytes_eq r.owner_key) (map key_of (o ∷ names))) (map (record_row o) zs) ≡ map (record_row o) (kept_of (at_names o names) zs)
by_names o names zs =
    filter-map (λ (r : RecordRowOf). list_any (bytes_eq r.owner_key) (map key_of (o ∷ names))) (record_row o) zs
    ∙ ap (map (record_row o)) (filter_same (λ r. list_any (bytes_eq (key_of r.owner)) (map key_of (o ∷ names))) (λ r. at_names o names (records.key_of r)) (λ r. by_keys (o ∷ names) r) zs)

-- rows that are those at names are the rows of the part
pub rows_of_part : (o : Labels) (names : List Labels) (zs : List Record) (all rows : List RecordRowOf)
    → IsPermutation (map (record_row o) (kept_of (at_names o names) zs)) (rows_at (name_text o) (map key_of (o ∷ names)) all)
    → AreRowsAt (name_text o) (map key_of (o ∷ names)) all rows → AreRowsOf o (kept_of (at_names o names) zs) rows
rows_of_part o names zs all rows same at =
    let mine = map (record_row o) (kept_of (at_names o names) zs) in
    let asked = rows_at (name_text o) (map key_of (o ∷ names)) all in
    record {
      inside = all_weaker (λ r. Contains asked r) (λ r. Contains mine r) (λ r c. contains_had mine r (has_permutation asked mine r (IsPermutation-sym mine asked same) (has_contained asked r c))) rows at.inside;
      whole = all_from (λ r. Contains rows r) mine (λ r h. all_has (λ y. Contains rows y) asked r at.whole (has_permutation mine asked r same h));
    }

-- ---- a subtree

-- not before is not below
not_below : (a b : Ordering) → a ≡ ordering_reverse b → not (is_lt a) ≡ is_le b
not_below a Less e = rw e refl
not_below a Equal e = rw e refl
not_below a Greater e = rw e refl

abbrev in_range : List ℕ → Option (List ℕ) → List ℕ → Bool
in_range first None key = true
in_range first (Some end) key = not (is_below key first) && is_below key end

from_range : (first : List ℕ) (end : List ℕ) (key : List ℕ) → IsInRange first (Some end) key → in_range first (Some end) key ≡ true
from_range first end key h =
    and_from (not (is_below key first)) (is_below key end) (not_below (slice_cmp nat_cmp key first) (slice_cmp nat_cmp first key) (nat_list_cmp_total.antisymm key first) ∙ h.0) h.1

to_range : (first : List ℕ) (end : List ℕ) (key : List ℕ) → in_range first (Some end) key ≡ true → IsInRange first (Some end) key
to_range first end key t =
    let both = and_parts (not (is_below key first)) (is_below key end) t in
    (sym (not_below (slice_cmp nat_cmp key first) (slice_cmp nat_cmp first key) (nat_list_cmp_total.antisymm key first)) ∙ both.0, both.1)

both_same : (a b : Bool) → (a ≡ true → b ≡ true) → (b ≡ true → a ≡ true) → a ≡ b
both_same true b f g = sym (f refl)
both_same false true f g = absurd (let bad = g refl in cc)
both_same false false f g = refl

-- a name is within another where its key is in its range
range_tells : (top name : Labels) (end : List ℕ) → key_end top ≡ Some end → in_range (key_of top) (Some end) (key_of name) ≡ is_within name top
range_tells top name end e =
    let test = is_within-Decides name top in
    both_same (in_range (key_of top) (Some end) (key_of name)) (is_within name top)
    (λ t. test.1 ((key_ranges top name).1 (subst (λ o. IsInRange (key_of top) o (key_of name)) (sym e) (to_range (key_of top) end (key_of name) t))))
    (λ t. from_range (key_of top) end (key_of name) (subst (λ o. IsInRange (key_of top) o (key_of name)) e ((key_ranges top name).0 (test.0 t))))

root_within : (top name : Labels) → key_end top ≡ None → is_within name top ≡ true
root_within [] name e = (is_within-Decides name []).1 (name, sym (append-nil name))
root_within (label ∷ labels) name e = absurd cc

keep_all : {X : Type 0} (p : X → Bool) (xs : List X) → ((x : X) → p x ≡ true) → filter p xs ≡ xs
keep_all p [] each = refl
keep_all p (x ∷ xs) each = rw (each x) (ap (λ l. x ∷ l) (keep_all p xs each))

-- the rows of the records within a name, among those of a zone
pub subtree_rows : (o top : Labels) (zs : List Record) (all : List RecordRowOf) → IsPermutation (map (record_row o) zs) (records_of (name_text o) all)
    → IsPermutation (map (record_row o) (kept_of (within top) zs)) (rows_within (name_text o) top all)
subtree_rows o top zs all same = go (key_end top) refl where
  go : (end : Option (List ℕ)) → key_end top ≡ end → IsPermutation (map (record_row o) (kept_of (within top) zs)) (rows_from (name_text o) (key_of top) end all)
  go None e = subst (λ l. IsPermutation (map (record_row o) l) (records_of (name_text o) all)) (sym (keep_all (λ r. is_within r.owner top) zs (λ r. root_within top r.owner e))) same
  go (Some end) e =
      let t = λ (r : RecordRowOf). in_range (key_of top) (Some end) r.owner_key in
      let kept : filter t (map (record_row o) zs) ≡ map (record_row o) (kept_of (within top) zs) =
      filter-map t (record_row o) zs ∙ ap (map (record_row o)) (filter_same (λ r. in_range (key_of top) (Some end) (key_of r.owner)) (λ r. is_within r.owner top) (λ r. range_tells top r.owner end e) zs) in
      subst (λ l. IsPermutation l (rows_from (name_text o) (key_of top) (Some end) all)) kept
      (part_held all o (map (record_row o) zs) t same)

-- the listing of a part
pub part_listing : (o : Labels) (zs : List Record) (p : Key → Bool) → AreOfZone o zs → listing (part (set_of zs) p) ≡ kept_of p zs
part_listing o zs p is = listing-part p zs is.order

-- the rows of the records at names, among those of a zone
pub part_rows : (o : Labels) (names : List Labels) (zs : List Record) (all : List RecordRowOf) → IsPermutation (map (record_row o) zs) (records_of (name_text o) all)
    → IsPermutation (map (record_row o) (kept_of (at_names o names) zs)) (rows_at (name_text o) (map key_of (o ∷ names)) all)
part_rows o names zs all same =
    let t = λ (r : RecordRowOf). list_any (bytes_eq r.owner_key) (map key_of (o ∷ names)) in
    subst (λ l. IsPermutation l (rows_at (name_text o) (map key_of (o ∷ names)) all)) (by_names o names zs) (part_held all o (map (record_row o) zs) t same)

-- ---- a zone of a state

-- the records of a zone, and their rows
pub record IsZoneAt (all : List RecordRowOf) (o : Labels) (rs : List Record) : Type 0 where
  pub named : IsName o
  pub zone : AreOfZone o rs
  pub rows : IsPermutation (map (record_row o) rs) (records_of (name_text o) all)

pub zone_of_state : (version : ℤ) (all : RowsOf) (s : State) (o : Labels) (zone : ZoneOf) → AreOfState version all s → zone_at s o ≡ Some zone → (rs : List Record) × IsZoneAt all.records o rs × (zone ≡ zone_in o rs)
zone_of_state version all s o zone st e =
    let found = zone_there version all s st o zone e in
    let z = found.0 in
    let h = is_held version all s st o z found.1 in (
      z.records,
      record {
        named = subst IsName h.origin h.is.origin;
        zone = subst (λ p. AreOfZone p z.records) h.origin h.is.zone;
        rows = subst (λ p. IsPermutation (map (record_row p) z.records) (records_of (name_text o) all.records)) h.origin h.records;
      },
      found.2,
    )

-- ---- a subtree of a state's zone

abbrev Below : Record → Record → Type 0
Below a b = record_order a b ≡ Less

pub order_up : (rs : List Record) → InOrder rs → IsAscending Below rs
unfolding IsStrictlySortedBy
order_up [] h = tt
order_up (r ∷ rs) h = (h.0, order_up rs h.1)

module _ (o top : Labels) (zs : List Record) (all rows : List RecordRowOf) (at : IsZoneAt all o zs) (same : IsPermutation (rows_within (name_text o) top all) rows) where
  abbrev own : List Record
  own = kept_of (within top) zs

  -- the records that the rows are of
  pub record IsSubtree : Type 0 where
    pub records : List Record
    pub moved : IsPermutation own records
    pub rows_are : rows ≡ map (record_row o) records
    pub each : AllByRecursion IsRecord records

  pub subtree_read : IsSubtree
  subtree_read =
      let to = pull_back (record_row o) (map (record_row o) own) rows (IsPermutation-trans (map (record_row o) own) (rows_within (name_text o) top all) rows (subtree_rows o top zs all at.rows) same) own refl in
      record {
        records = to.0;
        moved = to.1;
        rows_are = to.2;
        each = all_permutation IsRecord own to.0 to.1 (all-filter IsRecord (λ r. is_within r.owner top) zs (records_of_zone o zs at.zone));
      }

  -- they are what the rows are read as
  pub subtree_stored : each_read record_in rows ≡ Ok subtree_read.records
  subtree_stored = ap (each_read record_in) subtree_read.rows_are ∙ rows_stored o subtree_read.records subtree_read.each

  own_up : IsAscending Below own
  own_up = order_up own (InOrder-filter (λ r. is_within r.owner top) zs at.zone.order)

  -- in order they are the listing
  pub subtree_sorted : (records sorted : List Record) → IsPermutation own records → IsPermutation records sorted → IsSorted record_order sorted → sorted ≡ own
  subtree_sorted records sorted moved permuted order =
      sorted_unique record_order record_order_total own sorted own_up (IsPermutation-trans own records sorted moved permuted) order

  pub subtree_rises : rises record_order own ≡ true
  subtree_rises = rises_from record_order own own_up

-- ---- records that make a zone

-- what a zone was refused with refuses its rows
pub refused_zone : (fault : ZoneFault) (b : Result ZoneOf ZoneFault) → zone_faults.Refuses fault b → Refuses (of_zone fault) (of_zones b)
refused_zone faults.NoMemory b h = tt
refused_zone faults.NoSoa b h = ap of_zones h
refused_zone faults.TwoSoa b h = ap of_zones h
refused_zone faults.SoaNotAtOrigin b h = ap of_zones h
refused_zone faults.NoOriginNs b h = ap of_zones h
refused_zone faults.CnameAndOther b h = ap of_zones h
refused_zone faults.TwoCnames b h = ap of_zones h
refused_zone faults.OutOfZone b h = ap of_zones h
refused_zone faults.RootOrigin b h = ap of_zones h
