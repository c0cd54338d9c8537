-- One zone: what changes in it, and what it is then.
use Rattle.std.proofs.Common.{◌≡◌, ℕ, Bool, true, false, if◌then◌else◌, List, [], ◌∷◌, ◌++◌, length, map, Option, Some, None, Ok, IsPermutation, refl, sym, ap, subst, ◌∙◌, append-nil, suc}
use Rattle.std.proofs.lemmas.Bool.{both_ways, false_from_ne_true}
use Rattle.std.specs.List.{AllByRecursion}
use Rattle.sqlite_rules.proofs.ListLemmas.{all_from, contains_had}
use Rattle.sqlite_trees.proofs.ListLemmas.{IsPermutation-same, all-append}
use Rattle.dns_data.specs.declared.record.Record.{Record}
use Rattle.dns_data.specs.Rdata.{IsRecord}
use Rattle.dns_data.specs.RecordOrder.{record_order, record_order_total}
use Rattle.sqlite_trees.specs.Tree.{IsAscending}
use Rattle.std.specs.List.Sorted.{IsStrictlySortedBy}
use Rattle.std.specs.declared.cmp.Ordering.TheVariants.{Less}
use Rattle.zone_core.specs.declared.faults.ZoneFault.{ZoneFault}
use Rattle.zone_core.specs.Sets.{Records, set_of, listing, is_same, InOrder, IsIn, AreRows}
use Rattle.zone_core.specs.Zones.{ZoneOf, IsZone, AreKept, zone_of, built, min_rrset_ttls, latest, fault_in, unless_fault}
use Rattle.zone_core.specs.Views.{zone_in, AreOfZone}
use Rattle.zone_core.specs.Changes.{changed, FitsIn, ChangeOf, change_between}
use Rattle.zone_core.proofs.AdvancedLemmas.{advanced_is}
use Rattle.zone_core.proofs.ChangedLemmas.{changes_make, same_sets_are_one, listed}
use Rattle.zone_core.proofs.RebuiltLemmas.{zones_are_rebuilt}
use Rattle.zone_core.proofs.RowLemmas.{listing_of}
use Rattle.zone_core.proofs.WholeLemmas.{kept_of, no_fault}
use Rattle.store_sql.specs.Rows.{RecordRowOf, without}
use Rattle.store_rows.specs.RecordRows.{record_row}
use Rattle.store_rows.specs.ChangeRows.{IsChange}
use Rattle.store_rows.specs.Contents.{ZoneRows, zone_records, zone_changes, IsZoneRows}
use Rattle.store_rows.specs.declared.row_fault.RowFault.{RowFault}
use Rattle.store_rows.specs.declared.row_fault.RowFault.TheVariants.{BadRow, NoMemory}
use Rattle.store_rows.specs.RowFaults.{Refuses, of_zones}
use Rattle.store_rows.specs.declared.ordered.ZoneRecord.{ZoneRecord}
use Rattle.store_rows.specs.Checks.{IsZoneRecord}
use Rattle.store_rows.specs.Orders.{rises}
use Rattle.store_rows.proofs.OrderLemmas.{rises_from, rises_up}
use Rattle.store_rows.proofs.ZoneReadLemmas.{here, there, order_up}
use Rattle.store_rows.proofs.ChangeLemmas.{changes_more}
use Rattle.store_rows.proofs.ListingLemmas.{removed_records, added_records}
use Rattle.store_rows.proofs.RecordLemmas.{without_none, rows_changed}
use Rattle.store_rows.proofs.BatchLaws.{some_differ}
use Rattle.office_store.specs.OldZones.{AreOfOldZone, IsOldZoneRows}
use Rattle.office_store.specs.MigratedContents.{advanced, next_zone, change_for, after, migrated, rows_gone, rows_come, rows_made, zone_gone, zone_come, zone_made}

abbrev Labels : Type 0
Labels = List (List ℕ)

-- what is built of records of a zone, in record order, is their set
evened_records : (o : Labels) (set : Records) (fault : Option ZoneFault) (zone : ZoneOf) → unless_fault o set fault ≡ Ok zone → set ≡ zone.records
evened_records o set None zone e = let is : record { origin = o; records = set } ≡ zone = cc in ap (λ (z : ZoneOf). z.records) is
evened_records o set (Some fault) zone e = absurd cc

pub own_even : (o : Labels) (rs : List Record) → AreOfZone o rs → (zone_of o rs).records ≡ set_of rs
own_even o rs is =
    evened_records o (min_rrset_ttls (latest rs)) (fault_in o (min_rrset_ttls (latest rs))) (zone_in o rs)
    (zones_are_rebuilt (zone_in o rs) rs is.zone (record { inside = all_from (λ r. IsIn r (set_of rs)) rs (λ r h. here rs r is.order h); whole = λ r h. contains_had rs r (there rs r h) }))

-- records that make a zone are built as it
pub built_even : (o : Labels) (rs : List Record) → IsZone (zone_of o rs) → built o rs ≡ Ok (zone_of o rs)
built_even o rs is = ap (unless_fault o (min_rrset_ttls (latest rs))) (no_fault o (min_rrset_ttls (latest rs)) is.kept is)

module _ (o : Labels) (rs : List Record) (is : AreOfOldZone o rs) where
  pub kept : AreKept (set_of rs)
  kept = kept_of rs is.each

  pub next_is : IsZone (next_zone o rs)
  unfolding next_zone
  next_is = advanced_is (zone_of o rs) is.zone

  next_here : IsZone (record { origin = o; records = (next_zone o rs).records })
  unfolding next_zone
  next_here = next_is

  -- where each set has its least TTL they are a zone's
  pub even_is : is_same (set_of rs) (zone_of o rs).records ≡ true → AreOfZone o rs
  even_is same = record {
    order = is.order;
    zone = subst (λ (x : Records). IsZone (record { origin = o; records = x })) (sym ((same_sets_are_one (set_of rs) (zone_of o rs).records kept is.zone.kept).0 same)) is.zone;
  }

  -- else they are not those of the next zone
  differs : is_same (set_of rs) (zone_of o rs).records ≡ false → is_same (set_of rs) (next_zone o rs).records ≡ false
  differs other =
      false_from_ne_true (is_same (set_of rs) (next_zone o rs).records)
      (λ t.
      let set = (same_sets_are_one (set_of rs) (next_zone o rs).records kept next_is.kept).0 t in
      let zone : IsZone (zone_in o rs) = subst (λ (x : Records). IsZone (record { origin = o; records = x })) (sym set) next_here in
      let even = own_even o rs (record { order = is.order; zone = zone }) in
      both_ways (is_same (set_of rs) (zone_of o rs).records) other ((same_sets_are_one (set_of rs) (zone_of o rs).records kept is.zone.kept).1 (sym even)))

  -- a change that is made
  pub record IsMade (c : ChangeOf) : Type 0 where
    pub same : c ≡ change_between (set_of rs) (next_zone o rs).records
    pub fits : FitsIn (set_of rs) c.removed c.added
    pub makes : changed (set_of rs) c.removed c.added ≡ (next_zone o rs).records
    pub change : IsChange c

  made : is_same (set_of rs) (zone_of o rs).records ≡ false → IsMade (change_between (set_of rs) (next_zone o rs).records)
  made other =
      let c = change_between (set_of rs) (next_zone o rs).records in
      let both = changes_make (set_of rs) (next_zone o rs).records kept next_is.kept in
      record {
        same = refl;
        fits = both.0;
        makes = both.1;
        change = record {
          something = some_differ (set_of rs) (next_zone o rs).records (differs other);
          removed = removed_records (set_of rs) c.removed c.added kept both.0;
          removed_order = both.0.removed_order;
          added = added_records (set_of rs) c.removed c.added (subst AreKept (sym both.1) next_is.kept) both.0;
          added_order = both.0.added_order;
        };
      }

  -- what comes of what is changed
  pub by_change : (P : Option ChangeOf → Type 0) → (AreOfZone o rs → P None) → ((c : ChangeOf) → IsMade c → P (Some c)) → P (change_for o rs)
  unfolding change_for
  by_change P none some = by_test (is_same (set_of rs) (zone_of o rs).records) refl
    where
      by_test : (b : Bool) → is_same (set_of rs) (zone_of o rs).records ≡ b → P (if b then None else Some (change_between (set_of rs) (next_zone o rs).records))
      by_test true t = none (even_is t)
      by_test false t = some (change_between (set_of rs) (next_zone o rs).records) (made t)

-- ---- the rows of a zone, before and after

after_origin : (z : ZoneRows) (c : Option ChangeOf) → (after z c).origin ≡ z.origin
after_origin z None = refl
after_origin z (Some c) = refl

-- the same origin
pub migrated_origin : (z : ZoneRows) → (migrated z).origin ≡ z.origin
migrated_origin z = after_origin z (change_for z.origin z.records)

module _ (z : ZoneRows) (is : IsOldZoneRows z) where
  abbrev o : Labels
  o = z.origin

  abbrev rs : List Record
  rs = z.records

  next_rows : AreRows (listing (next_zone o rs).records) (next_zone o rs).records
  next_rows = listed (next_zone o rs).records (next_is o rs is.zone).kept

  next_of_origin : (x : Records) → x ≡ (next_zone o rs).records → IsZone (record { origin = o; records = x })
  unfolding next_zone
  next_of_origin x e = subst (λ (y : Records). IsZone (record { origin = o; records = y })) (sym e) (next_is o rs is.zone)

  pub migrated_is : IsZoneRows (migrated z)
  migrated_is =
      by_change o rs is.zone (λ c. IsZoneRows (after z c)) (λ zone. record { origin = is.origin; zone = zone; changes = is.changes })
      (λ c m. record {
        origin = is.origin;
        zone = record { order = next_rows.order; zone = next_of_origin (set_of (listing (next_zone o rs).records)) next_rows.set };
        changes = all-append IsChange z.changes (c ∷ []) is.changes (m.change, tt);
      })

  -- the records that go are records
  pub gone_records : (P : List RecordRowOf → Type 0) → P [] → ((gone : List Record) → AllByRecursion IsRecord gone → P (map (record_row o) gone)) → P (zone_gone z)
  gone_records P none some = by_change o rs is.zone (λ c. P (rows_gone o c)) (λ zone. none) (λ c m. some c.removed m.change.removed)

  -- its rows are those that do not go and those that come
  pub record_rows_now : IsPermutation (zone_records (migrated z)) (without (zone_gone z) (zone_records z) ++ zone_come z)
  record_rows_now =
      by_change o rs is.zone (λ c. IsPermutation (zone_records (after z c)) (without (rows_gone o c) (zone_records z) ++ rows_come o c))
      (λ zone. IsPermutation-same (zone_records z) (without [] (zone_records z) ++ []) (sym (append-nil (without [] (zone_records z)) ∙ without_none (zone_records z))))
      (λ c m.
      subst (λ (x : Records). IsPermutation (map (record_row o) (listing x)) (without (map (record_row o) c.removed) (map (record_row o) rs) ++ map (record_row o) c.added)) m.makes
      (rows_changed o rs c.removed c.added is.origin is.zone.order is.zone.each m.change.removed m.fits))

  pub change_rows_now : zone_changes (migrated z) ≡ zone_changes z ++ zone_made z
  change_rows_now =
      by_change o rs is.zone (λ c. zone_changes (after z c) ≡ zone_changes z ++ rows_made o (suc (length z.changes)) c)
      (λ zone. sym (append-nil (zone_changes z)))
      (λ c m. changes_more o z.changes c)

-- ---- what is found out of records

up_order : (rs : List Record) → IsAscending (λ a b. record_order a b ≡ Less) rs → InOrder rs
unfolding IsStrictlySortedBy
up_order [] up = tt
up_order (r ∷ rs) up = (up.0, up_order rs up.1)

pub order_from : (rs : List Record) → rises record_order rs ≡ true → InOrder rs
order_from rs t = up_order rs (rises_up record_order record_order_total rs t)

pub order_to : (rs : List Record) → InOrder rs → rises record_order rs ≡ true
order_to rs order = rises_from record_order rs (order_up rs order)

built_one : (o : Labels) (set : Records) (fault : Option ZoneFault) (zone : ZoneOf) → of_zones (unless_fault o set fault) ≡ Ok zone → zone ≡ record { origin = o; records = set }
built_one o set None zone e = let is : record { origin = o; records = set } ≡ zone = cc in sym is
built_one o set (Some fault) zone e = absurd cc

-- what is built is the zone of the records
pub built_zone : (o : Labels) (rs : List Record) (zone : ZoneOf) → of_zones (built o rs) ≡ Ok zone → zone ≡ zone_of o rs
built_zone o rs zone e = built_one o (min_rrset_ttls (latest rs)) (fault_in o (min_rrset_ttls (latest rs))) zone e

-- records of an old zone are refused only when out of memory
pub refused_never : (o : Labels) (rs : List Record) (e : RowFault) → Refuses e (of_zones (built o rs)) → IsZone (zone_of o rs) → e ≡ NoMemory
refused_never o rs BadRow refuses is = absurd (let built_it = ap of_zones (built_even o rs is) in let bad = sym refuses ∙ built_it in cc)
refused_never o rs NoMemory refuses is = refl

module _ (o : Labels) (rs : List Record) (is : AreOfOldZone o rs) (zone : ZoneOf) (own : zone ≡ zone_of o rs) (seen : List Record) (order : InOrder seen) (set : set_of seen ≡ zone.records) where
  even_set : set_of seen ≡ (zone_of o rs).records
  even_set = set ∙ ap (λ (z : ZoneOf). z.records) own

  pub nothing_changes : seen ≡ rs → change_for o rs ≡ None
  unfolding change_for
  nothing_changes same =
      ap (λ b. if b then None else Some (change_between (set_of rs) (next_zone o rs).records))
      ((same_sets_are_one (set_of rs) (zone_of o rs).records (kept o rs is) is.zone.kept).1 (ap set_of (sym same) ∙ even_set))

  pub something_changes : (seen ≡ rs → ⊥) → change_for o rs ≡ Some (change_between (set_of rs) (next_zone o rs).records)
  unfolding change_for
  something_changes other =
      ap (λ b. if b then None else Some (change_between (set_of rs) (next_zone o rs).records))
      (false_from_ne_true (is_same (set_of rs) (zone_of o rs).records)
      (λ t. other (sym (listing_of seen order) ∙ ap listing (even_set ∙ sym ((same_sets_are_one (set_of rs) (zone_of o rs).records (kept o rs is) is.zone.kept).0 t)) ∙ listing_of rs is.order)))

-- records that rows have are records
pub records_each : (rs : List ZoneRecord) → AllByRecursion IsZoneRecord rs → AllByRecursion IsRecord (map (λ r. r.rr) rs)
records_each [] all = tt
records_each (r ∷ rs) all = (all.0.rr, records_each rs all.1)

pub next_records : (o : Labels) (rs : List Record) (zone : ZoneOf) → zone ≡ advanced (zone_of o rs) → zone.records ≡ (next_zone o rs).records
unfolding next_zone
next_records p xs zone e = ap (λ (z : ZoneOf). z.records) e
