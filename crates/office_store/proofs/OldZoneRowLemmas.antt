-- The zones of rows of version 1: rows that are those of such zones are taken one zone after the other, and what is taken so is.
use Rattle.std.proofs.Common.{◌≡◌, ℕ, true, List, [], ◌∷◌, ◌++◌, length, map, take, drop, IsPermutation, IsSorted, refl, sym, ap, ap₂, subst, ◌∙◌, arith}
use Rattle.std.proofs.lemmas.Bool.{and_from}
use Rattle.std.proofs.lemmas.Cmp.{tied_itself}
use Rattle.std.proofs.lemmas.List.{map-append, take_at, drop_at, take-append-drop}
use Rattle.std.proofs.lemmas.List.Sorted.{IsPermutation-refl, IsPermutation-sym, IsPermutation-trans, IsPermutation-append}
use Rattle.std.specs.declared.cmp.Ordering.TheVariants.{Less, Equal}
use Rattle.std.specs.List.{AllByRecursion, flat_map}
use Rattle.sqlite_trees.specs.Tree.{IsAscending}
use Rattle.sqlite_trees.proofs.ListLemmas.{IsPermutation-same, IsPermutation-flat_map, pull_back}
use Rattle.sqlite_keyed.proofs.ListLemmas.{all_weaker, all_map, all-flat_map, ascending-map, ascending_from_map, ascending_weaker, map-map, test_from_all}
use Rattle.sqlite_keyed.proofs.SortLemmas.{sorted_unique}
use Rattle.dns_names.specs.Labels.{IsName}
use Rattle.dns_names.specs.Order.{canonical_cmp, canonical_total, same_name}
use Rattle.dns_names.specs.Spelling.{name_text}
use Rattle.zone_core.proofs.SetLemmas.{name_self}
use Rattle.store_sql.specs.Rows.{RecordRowOf, ChangeRowOf}
use Rattle.store_rows.specs.declared.changes.ChangedRecord.{ChangedRecord}
use Rattle.store_rows.specs.ChangeRows.{row_of, IsChanged, IsChangeRow, IsChange, changes_rows, changed_order, changed_order_total, are_numbered, are_of_one, gathered}
use Rattle.store_rows.specs.Contents.{ZoneRows, zone_records, zone_changes}
use Rattle.store_rows.proofs.ChangeRowLaws.{change_rows_are_apart}
use Rattle.store_rows.proofs.GatheringLaws.{entries_are, entries_up, entries_numbered, ChangeBelow}
use Rattle.store_rows.proofs.GatheredLaws.{are_gathered}
use Rattle.store_rows.specs.declared.ordered.ZoneRecord.{ZoneRecord}
use Rattle.store_rows.specs.Orders.{rises}
use Rattle.store_rows.specs.Checks.{IsOriginText, row_of_record, IsZoneRecord, IsZoneRecordRow, zone_record_order, zone_record_total, records_first, changes_first}
use Rattle.store_rows.proofs.ZoneCheckLemmas.{zone_tagged, tagged, zone_entries, all_entries, tagged_rows, entries_all_rows, tag_each, tag_of, entries_of, Before, zones_up, lists_before, RecordBelow, by_origin_record, by_origin_change, records_up, run_is, run_of, later_apart, untagged, IsTied, not_tied, record_one, tags_are, front_all, back_all}
use Rattle.store_rows.proofs.ContentLemmas.{Apart, changes_each}
use Rattle.store_rows.proofs.ListLemmas.{ascending_from_pairs, pairs_from_ascending, all_permutation, moved_back, apart_moved}
use Rattle.store_rows.proofs.NameLemmas.{text_one}
use Rattle.store_rows.proofs.OrderLemmas.{rises_from, rises_up, sorted_strict}
use Rattle.office_store.specs.OldZones.{AreOfOldZone, IsOldZoneRows}
use Rattle.office_store.specs.MigrationSteps.{AreOldZoneRows, AreOldZonesInTurn, zone_rows_in, zones_in_turn}

abbrev Labels : Type 0
Labels = List (List ℕ)

-- ---- what the rows of zones have

tagged_each : (zs : List ZoneRows) → AllByRecursion IsOldZoneRows zs → AllByRecursion IsZoneRecord (tagged zs)
tagged_each zs each =
    all-flat_map IsZoneRecord zone_tagged zs
    (all_weaker IsOldZoneRows (λ z. AllByRecursion IsZoneRecord (zone_tagged z)) (λ z is. tag_each z.origin z.records is.origin (is.zone.each)) zs each)

entries_each : (zs : List ZoneRows) → AllByRecursion IsOldZoneRows zs → AllByRecursion IsChanged (all_entries zs)
entries_each zs each =
    all-flat_map IsChanged zone_entries zs
    (all_weaker IsOldZoneRows (λ z. AllByRecursion IsChanged (zone_entries z)) (λ z is. entries_are z.origin 1 z.changes is.origin (omega arith) is.changes) zs each)

-- ---- they ascend where the zones do

tagged_up : (zs : List ZoneRows) → AllByRecursion IsOldZoneRows zs → IsAscending Before zs → IsAscending RecordBelow (tagged zs)
tagged_up zs each up =
    zones_up RecordBelow zone_tagged (λ a b before. lists_before RecordBelow (λ x. x.origin) by_origin_record a.origin b.origin (zone_tagged a) (zone_tagged b) before (tag_of a.origin a.records) (tag_of b.origin b.records))
    zs (all_weaker IsOldZoneRows (λ z. IsAscending RecordBelow (zone_tagged z)) (λ z is. records_up z.origin z.records is.zone.order) zs each) up

all_entries_up : (zs : List ZoneRows) → AllByRecursion IsOldZoneRows zs → IsAscending Before zs → IsAscending ChangeBelow (all_entries zs)
all_entries_up zs each up =
    zones_up ChangeBelow zone_entries (λ a b before. lists_before ChangeBelow (λ x. x.origin) by_origin_change a.origin b.origin (zone_entries a) (zone_entries b) before (entries_of a.origin 1 a.changes) (entries_of b.origin 1 b.changes))
    zs (all_weaker IsOldZoneRows (λ z. IsAscending ChangeBelow (zone_entries z)) (λ z is. entries_up z.origin 1 z.changes is.changes) zs each) up

-- ---- zones of version 1 are taken one after the other

pub in_turn : (zs : List ZoneRows) → AllByRecursion IsOldZoneRows zs → IsAscending Before zs → AreOldZonesInTurn (map (λ z. z.origin) zs) (tagged zs) (all_entries zs)
in_turn [] each up = (refl, refl)
in_turn (z ∷ zs) each up =
    let o = z.origin in
    let own = zone_tagged z in
    let changes = zone_entries z in
    let n : length own ≡ records_first o (tagged (z ∷ zs)) = sym (run_is (λ (r : ZoneRecord). r.origin) o own (tagged zs) (tag_of o z.records) (later_apart (λ (r : ZoneRecord). r.origin) zone_tagged (λ x. tag_of x.origin x.records) o zs up.0)) in
    let m : length changes ≡ changes_first o (all_entries (z ∷ zs)) = sym (run_is (λ (c : ChangedRecord). c.origin) o changes (all_entries zs) (entries_of o 1 z.changes) (later_apart (λ (c : ChangedRecord). c.origin) zone_entries (λ x. entries_of x.origin 1 x.changes) o zs up.0)) in
    let zone : AreOfOldZone o (map (λ r. r.rr) (take (records_first o (tagged (z ∷ zs))) (tagged (z ∷ zs)))) =
    subst (AreOfOldZone o) (sym (ap (map (λ (r : ZoneRecord). r.rr)) (take_at own (tagged zs) (records_first o (tagged (z ∷ zs))) n) ∙ untagged o z.records)) each.0.zone in
    let numbered : are_numbered (take (changes_first o (all_entries (z ∷ zs))) (all_entries (z ∷ zs))) ≡ true =
    ap are_numbered (take_at changes (all_entries zs) (changes_first o (all_entries (z ∷ zs))) m) ∙ entries_numbered o z.changes each.0.origin each.0.changes in (
      (zone, numbered),
      subst (λ rs. AreOldZonesInTurn (map (λ x. x.origin) zs) rs (drop (changes_first o (all_entries (z ∷ zs))) (all_entries (z ∷ zs)))) (sym (drop_at own (tagged zs) (records_first o (tagged (z ∷ zs))) n))
          (subst (AreOldZonesInTurn (map (λ x. x.origin) zs) (tagged zs)) (sym (drop_at changes (all_entries zs) (changes_first o (all_entries (z ∷ zs))) m)) (in_turn zs each.1 up.1)),
    )

module _ (texts : List (List ℕ)) (records : List RecordRowOf) (changes : List ChangeRowOf) (are : AreOldZoneRows texts records changes) where
  -- each row is one
  pub origin_rows : AllByRecursion IsOriginText texts
  origin_rows =
      all_permutation IsOriginText (map (λ (z : ZoneRows). name_text z.origin) are.zones) texts are.same_origins
      (all_map IsOriginText (λ (z : ZoneRows). name_text z.origin) are.zones (all_weaker IsOldZoneRows (λ z. IsOriginText (name_text z.origin)) (λ z is. (z.origin, is.origin, refl)) are.zones are.each))

  pub record_rows : AllByRecursion IsZoneRecordRow records
  record_rows =
      all_permutation IsZoneRecordRow (flat_map zone_records are.zones) records are.same_records
      (subst (AllByRecursion IsZoneRecordRow) (tagged_rows are.zones) (all_map IsZoneRecordRow row_of_record (tagged are.zones) (all_weaker IsZoneRecord (λ r. IsZoneRecordRow (row_of_record r)) (λ r is. (r, is, refl)) (tagged are.zones) (tagged_each are.zones are.each))))

  pub change_rows : AllByRecursion IsChangeRow changes
  change_rows =
      all_permutation IsChangeRow (flat_map zone_changes are.zones) changes are.same_changes
      (subst (AllByRecursion IsChangeRow) (entries_all_rows are.zones) (all_map IsChangeRow row_of (all_entries are.zones) (all_weaker IsChanged (λ c. IsChangeRow (row_of c)) (λ c is. (c, is, refl)) (all_entries are.zones) (entries_each are.zones are.each))))

  module _ (os : List Labels) (texts_are : IsPermutation (map name_text os) texts) (named : AllByRecursion IsName os) (sorted : IsSorted canonical_cmp os) where
    -- the zones in the order of their origins
    record InOrderOf : Type 0 where
      zones : List ZoneRows
      moved : IsPermutation are.zones zones
      origins : os ≡ map (λ z. z.origin) zones
      each : AllByRecursion IsOldZoneRows zones
      up : IsAscending Before zones

    ordered : InOrderOf
    ordered =
        let all_named = all_map IsName (λ (z : ZoneRows). z.origin) are.zones (all_weaker IsOldZoneRows (λ z. IsName z.origin) (λ z is. is.origin) are.zones are.each) in
        let texts_same = subst (λ l. IsPermutation l (map name_text os)) (sym (map-map name_text (λ (z : ZoneRows). z.origin) are.zones))
        (IsPermutation-trans (map (λ (z : ZoneRows). name_text z.origin) are.zones) texts (map name_text os) are.same_origins (IsPermutation-sym (map name_text os) texts texts_are)) in
        let same = moved_back IsName name_text (λ a b is also e. text_one a b is also e) (map (λ (z : ZoneRows). z.origin) are.zones) os all_named named texts_same in
        let to = pull_back (λ (z : ZoneRows). z.origin) (map (λ (z : ZoneRows). z.origin) are.zones) os same are.zones refl in
        let apart = apart_moved Apart (λ a b h e. h (sym e)) are.zones to.0 to.1 (ascending_from_pairs Apart are.zones are.apart) in
        let untied = subst (IsAscending (λ a b. ¬ (IsTied a b))) (sym to.2) (ascending-map (λ a b. ¬ (IsTied a b)) (λ (z : ZoneRows). z.origin) to.0 (ascending_weaker Apart (λ a b. ¬ (IsTied a.origin b.origin)) (λ a b h. not_tied a.origin b.origin h) to.0 apart)) in
        let strict = sorted_strict canonical_cmp canonical_total os sorted untied in
        record {
          zones = to.0;
          moved = to.1;
          origins = to.2;
          each = all_permutation IsOldZoneRows are.zones to.0 to.1 are.each;
          up = ascending_from_map (λ a b. canonical_cmp a b ≡ Less) (λ (z : ZoneRows). z.origin) to.0 (subst (IsAscending (λ a b. canonical_cmp a b ≡ Less)) to.2 strict);
        }

    abbrev in_order : List ZoneRows
    in_order = ordered.zones

    pub origins_rise : rises canonical_cmp os ≡ true
    origins_rise =
        rises_from canonical_cmp os (subst (IsAscending (λ a b. canonical_cmp a b ≡ Less)) (sym ordered.origins) (ascending-map (λ a b. canonical_cmp a b ≡ Less) (λ (z : ZoneRows). z.origin) in_order ordered.up))

    records_are : (rs : List ZoneRecord) → IsPermutation (map row_of_record rs) records → AllByRecursion IsZoneRecord rs → IsSorted zone_record_order rs → rs ≡ tagged in_order
    records_are rs same each sorted =
        let rows = subst (λ l. IsPermutation l (map row_of_record rs)) (sym (tagged_rows in_order))
        (IsPermutation-trans (flat_map zone_records in_order) records (map row_of_record rs)
        (IsPermutation-trans (flat_map zone_records in_order) (flat_map zone_records are.zones) records (IsPermutation-flat_map zone_records in_order are.zones (IsPermutation-sym are.zones in_order ordered.moved)) are.same_records)
        (IsPermutation-sym (map row_of_record rs) records same)) in
        let moved = moved_back IsZoneRecord row_of_record record_one (tagged in_order) rs (tagged_each in_order ordered.each) each rows in
        sorted_unique zone_record_order zone_record_total (tagged in_order) rs (tagged_up in_order ordered.each ordered.up) moved sorted

    changes_are : (cs : List ChangedRecord) → IsPermutation (map row_of cs) changes → AllByRecursion IsChanged cs → IsSorted changed_order cs → cs ≡ all_entries in_order
    changes_are cs same each sorted =
        let rows = subst (λ l. IsPermutation l (map row_of cs)) (sym (entries_all_rows in_order))
        (IsPermutation-trans (flat_map zone_changes in_order) changes (map row_of cs)
        (IsPermutation-trans (flat_map zone_changes in_order) (flat_map zone_changes are.zones) changes (IsPermutation-flat_map zone_changes in_order are.zones (IsPermutation-sym are.zones in_order ordered.moved)) are.same_changes)
        (IsPermutation-sym (map row_of cs) changes same)) in
        let moved = moved_back IsChanged row_of change_rows_are_apart (all_entries in_order) cs (entries_each in_order ordered.each) each rows in
        sorted_unique changed_order changed_order_total (all_entries in_order) cs (all_entries_up in_order ordered.each ordered.up) moved sorted

    -- what was read of the rows, in order, is taken zone by zone
    pub taken_in_turn : (rs : List ZoneRecord) (cs : List ChangedRecord) → IsPermutation (map row_of_record rs) records → AllByRecursion IsZoneRecord rs → IsSorted zone_record_order rs
        → IsPermutation (map row_of cs) changes → AllByRecursion IsChanged cs → IsSorted changed_order cs → AreOldZonesInTurn os rs cs
    taken_in_turn rs cs rows each order change_rows changed change_order =
        subst (λ l. AreOldZonesInTurn l rs cs) (sym ordered.origins)
        (subst (λ l. AreOldZonesInTurn (map (λ z. z.origin) in_order) l cs) (sym (records_are rs rows each order))
        (subst (AreOldZonesInTurn (map (λ z. z.origin) in_order) (tagged in_order)) (sym (changes_are cs change_rows changed change_order)) (in_turn in_order ordered.each ordered.up)))

-- ---- what is taken so is zones

-- the changes of rows of one zone
record AreItsChanges (o : Labels) (cs : List ChangedRecord) : Type 0 where
  each : AllByRecursion IsChange (gathered cs)
  rows : IsPermutation (changes_rows o 1 (gathered cs)) (map row_of cs)

its_changes : (o : Labels) (cs : List ChangedRecord) → IsName o → AllByRecursion IsChanged cs → AllByRecursion (λ c. c.origin ≡ o) cs → are_numbered cs ≡ true → AreItsChanges o cs
its_changes o [] named each all numbered = record { each = tt; rows = IsPermutation-refl [] }
its_changes o (c ∷ cs) named each all numbered =
    let rows = map row_of (c ∷ cs) in
    let all_of_it = gathered (c ∷ cs) in
    let one : are_of_one (c ∷ cs) ≡ true = test_from_all (λ (d : ChangedRecord). same_name d.origin c.origin) cs (all_weaker (λ d. d.origin ≡ o) (λ d. same_name d.origin c.origin ≡ true) (λ d is. ap (λ p. same_name p c.origin) (is ∙ sym all.0) ∙ name_self c.origin) cs all.1) in
    let found = are_gathered rows (c ∷ cs) (IsPermutation-refl rows) each (and_from (are_of_one (c ∷ cs)) (are_numbered (c ∷ cs)) one numbered) in
    let text : name_text found.0 ≡ name_text c.origin =
    sym (all_permutation (λ r. r.origin ≡ name_text found.0) (changes_rows found.0 1 all_of_it) rows found.3 (changes_each (λ r. r.origin ≡ name_text found.0) found.0 (λ n side r. refl) 1 all_of_it)).0 in
    let is : found.0 ≡ o = text_one found.0 c.origin found.1 each.0.origin text ∙ all.0 in
    record { each = found.2; rows = subst (λ p. IsPermutation (changes_rows p 1 all_of_it) rows) is found.3 }

-- zones that were taken one after the other
record Taken (zones : List ZoneRows) (os : List Labels) (rs : List ZoneRecord) (cs : List ChangedRecord) : Type 0 where
  origins : map (λ z. z.origin) zones ≡ os
  each : AllByRecursion IsOldZoneRows zones
  records : flat_map zone_records zones ≡ map row_of_record rs
  changes : IsPermutation (flat_map zone_changes zones) (map row_of cs)

taken : (os : List Labels) (rs : List ZoneRecord) (cs : List ChangedRecord) → AllByRecursion IsName os → AllByRecursion IsChanged cs → AreOldZonesInTurn os rs cs → Taken (zones_in_turn os rs cs) os rs cs
taken [] rs cs named changed turn = record {
  origins = refl;
  each = tt;
  records = ap (map row_of_record) (sym turn.0);
  changes = IsPermutation-same [] (map row_of cs) (ap (map row_of) (sym turn.1));
}
taken (o ∷ os) rs cs named changed turn =
    let n = records_first o rs in
    let m = changes_first o cs in
    let later = taken os (drop n rs) (drop m cs) named.1 (back_all IsChanged m cs changed) turn.1 in
    let own = its_changes o (take m cs) named.0 (front_all IsChanged m cs changed) (run_of (λ (c : ChangedRecord). c.origin) o cs) turn.0.1 in
    let z : ZoneRows = zone_rows_in o (take n rs) (take m cs) in
    let zones = zones_in_turn os (drop n rs) (drop m cs) in
    record {
      origins = ap (λ l. o ∷ l) later.origins;
      each = (record { origin = named.0; zone = turn.0.0; changes = own.each }, later.each);
      records =
          ap₂ ◌++◌ (sym (tags_are o (take n rs) (run_of (λ (r : ZoneRecord). r.origin) o rs))) later.records
          ∙ sym (map-append row_of_record (take n rs) (drop n rs)) ∙ ap (map row_of_record) (take-append-drop n rs);
      changes =
          subst (IsPermutation (zone_changes z ++ flat_map zone_changes zones)) (sym (map-append row_of (take m cs) (drop m cs)) ∙ ap (map row_of) (take-append-drop m cs))
          (IsPermutation-append (zone_changes z) (map row_of (take m cs)) (flat_map zone_changes zones) (map row_of (drop m cs)) own.rows later.changes);
    }

-- the zones that were taken have the rows
module _ (texts : List (List ℕ)) (records : List RecordRowOf) (changes : List ChangeRowOf) (os : List Labels) (rs : List ZoneRecord) (cs : List ChangedRecord)
    (texts_are : IsPermutation (map name_text os) texts) (named : AllByRecursion IsName os) (rise : rises canonical_cmp os ≡ true)
    (rows : IsPermutation (map row_of_record rs) records) (change_rows : IsPermutation (map row_of cs) changes) (changed : AllByRecursion IsChanged cs) (turn : AreOldZonesInTurn os rs cs) where
  abbrev now : List ZoneRows
  now = zones_in_turn os rs cs

  whole : Taken now os rs cs
  whole = taken os rs cs named changed turn

  apart_by : (a b : ZoneRows) → Before a b → Apart a b
  apart_by a b before same = let tie : canonical_cmp a.origin b.origin ≡ Equal = ap (λ q. canonical_cmp q b.origin) same ∙ tied_itself canonical_total b.origin in let bad : Less ≡ Equal = sym before ∙ tie in cc

  up : IsAscending Before now
  up = ascending_from_map (λ a b. canonical_cmp a b ≡ Less) (λ (z : ZoneRows). z.origin) now (subst (IsAscending (λ a b. canonical_cmp a b ≡ Less)) (sym whole.origins) (rises_up canonical_cmp canonical_total os rise))

  pub are_old_rows : (are : AreOldZoneRows texts records changes) × (are.zones ≡ zones_in_turn os rs cs)
  are_old_rows = (
    record {
      zones = now;
      apart = pairs_from_ascending Apart now (ascending_weaker Before Apart apart_by now up);
      each = whole.each;
      same_origins = subst (λ l. IsPermutation l texts) (ap (map name_text) (sym whole.origins) ∙ map-map name_text (λ (z : ZoneRows). z.origin) now) texts_are;
      same_records = subst (λ l. IsPermutation l records) (sym whole.records) rows;
      same_changes = IsPermutation-trans (flat_map zone_changes now) (map row_of cs) changes whole.changes change_rows;
    },
    refl,
  )
