-- A content, and the rows that it has once it is migrated.
use Rattle.std.proofs.Common.{◌≡◌, ℕ, pos, false, not, List, [], ◌∷◌, ◌++◌, map, flat_map, IsPermutation, refl, sym, ap, ap₂, subst, ◌∙◌, append-nil}
use Rattle.std.specs.List.{AllByRecursion, list_any}
use Rattle.std.proofs.lemmas.List.Elements.{filter-append}
use Rattle.std.proofs.lemmas.List.Sorted.{IsPermutation-refl, IsPermutation-trans, IsPermutation-append_left}
use Rattle.sqlite_trees.specs.Tree.{IsAscending}
use Rattle.sqlite_trees.proofs.ListLemmas.{IsPermutation-same, IsPermutation-filter, all-flat_map, all_weaker, all_both}
use Rattle.sqlite_keyed.proofs.ListLemmas.{all_map, ascending-map, ascending_weaker}
use Rattle.dns_names.specs.Spelling.{name_text}
use Rattle.store_sql.specs.Rows.{RecordRowOf, RowsOf, BatchOf, same_key, without, written}
use Rattle.store_sql.specs.Holds.{SameRows}
use Rattle.store_rows.specs.Contents.{ZoneRows, ContentOf, zone_records, zone_changes, row_of_receipt, IsZoneRows, IsContent, rows_of}
use Rattle.store_rows.specs.Checks.{AreReceiptRows}
use Rattle.store_rows.proofs.ListLemmas.{one_moved, ascending_from_pairs, pairs_from_ascending}
use Rattle.store_rows.proofs.RecordLemmas.{Stay, others_stay}
use Rattle.office_store.specs.OldZones.{IsOldZoneRows, IsOldContent}
use Rattle.office_store.specs.MigratedContents.{Migrates, migrated, migrated_content, changed_count, zone_gone, zone_come, zone_made, migration_batch}
use Rattle.office_store.specs.MigrationSteps.{AreOldZoneRows}
use Rattle.office_store.proofs.GoneRowLemmas.{stay_none, stay_both, without_first, without_second, joined}
use Rattle.office_store.proofs.MigratedZoneLemmas.{migrated_is, migrated_origin, gone_records, record_rows_now, change_rows_now}
use Rattle.store_rows.proofs.ContentLemmas.{Apart}

-- zones of two origins
-- ---- the records

-- what goes out of a zone is of no other
gone_elsewhere : (y z : ZoneRows) → IsOldZoneRows y → IsOldZoneRows z → Apart y z → Stay (zone_gone y) (zone_records z)
gone_elsewhere y z is also differ =
    gone_records y is (λ gone. Stay gone (zone_records z)) (stay_none (zone_records z))
    (λ gone each. others_stay y.origin z.origin gone z.records is.origin also.origin each also.zone.each differ)

gone_before : (z : ZoneRows) (zs : List ZoneRows) → IsOldZoneRows z → AllByRecursion IsOldZoneRows zs → AllByRecursion (Apart z) zs → Stay (zone_gone z) (flat_map zone_records zs)
gone_before z [] is each apart = tt
gone_before z (y ∷ zs) is each apart =
    all-flat_map (λ r. list_any (λ g. same_key g r) (zone_gone z) ≡ false) zone_records (y ∷ zs)
    (all_both IsOldZoneRows (Apart z) (λ x. Stay (zone_gone z) (zone_records x)) (λ x also differ. gone_elsewhere z x is also differ) (y ∷ zs) each apart)

gone_behind : (z : ZoneRows) (zs : List ZoneRows) → IsOldZoneRows z → AllByRecursion IsOldZoneRows zs → AllByRecursion (Apart z) zs → Stay (flat_map zone_gone zs) (zone_records z)
gone_behind z [] is each apart = stay_none (zone_records z)
gone_behind z (y ∷ zs) is each apart =
    stay_both (zone_gone y) (flat_map zone_gone zs) (zone_records z) (gone_elsewhere y z each.0 is (λ e. apart.0 (sym e))) (gone_behind z zs is each.1 apart.1)

pub records_now : (zs : List ZoneRows) → AllByRecursion IsOldZoneRows zs → IsAscending Apart zs
    → IsPermutation (flat_map zone_records (map migrated zs)) (without (flat_map zone_gone zs) (flat_map zone_records zs) ++ flat_map zone_come zs)
records_now [] each apart = IsPermutation-refl []
records_now (z ∷ zs) each apart =
    let gone = zone_gone z in
    let later = flat_map zone_gone zs in
    let own = zone_records z in
    let others = flat_map zone_records zs in
    let left : without (gone ++ later) (own ++ others) ≡ without gone own ++ without later others =
    filter-append (λ r. not (list_any (λ g. same_key g r) (gone ++ later))) own others
    ∙ ap₂ ◌++◌ (without_first gone later own (gone_behind z zs each.0 each.1 apart.0)) (without_second gone later others (gone_before z zs each.0 each.1 apart.0)) in
    subst (λ (l : List RecordRowOf). IsPermutation (zone_records (migrated z) ++ flat_map zone_records (map migrated zs)) (l ++ (zone_come z ++ flat_map zone_come zs))) (sym left)
    (joined (without gone own) (without later others) (zone_come z) (flat_map zone_come zs) (zone_records (migrated z)) (flat_map zone_records (map migrated zs)) (record_rows_now z each.0) (records_now zs each.1 apart.1))

-- ---- the changes

pub changes_now : (zs : List ZoneRows) → AllByRecursion IsOldZoneRows zs → IsPermutation (flat_map zone_changes (map migrated zs)) (flat_map zone_changes zs ++ flat_map zone_made zs)
changes_now [] each = IsPermutation-refl []
changes_now (z ∷ zs) each =
    joined (zone_changes z) (flat_map zone_changes zs) (zone_made z) (flat_map zone_made zs) (zone_changes (migrated z)) (flat_map zone_changes (map migrated zs))
    (IsPermutation-same (zone_changes (migrated z)) (zone_changes z ++ zone_made z) (change_rows_now z each.0)) (changes_now zs each.1)

-- ---- the whole

origins_same : (zs : List ZoneRows) → map (λ z. name_text z.origin) (map migrated zs) ≡ map (λ z. name_text z.origin) zs
origins_same [] = refl
origins_same (z ∷ zs) = ap₂ (λ (x : List ℕ) l. x ∷ l) (ap name_text (migrated_origin z)) (origins_same zs)

pub content_migrated : (content : ContentOf) → IsOldContent content → IsContent (migrated_content content)
content_migrated content is = record {
  zones_apart = pairs_from_ascending Apart (map migrated content.zones)
      (ascending-map Apart migrated content.zones (ascending_weaker Apart (λ a b. Apart (migrated a) (migrated b)) (λ a b differ e. differ (sym (migrated_origin a) ∙ e ∙ migrated_origin b)) content.zones (ascending_from_pairs Apart content.zones is.zones_apart)));
  zones = all_map IsZoneRows migrated content.zones (all_weaker IsOldZoneRows (λ z. IsZoneRows (migrated z)) migrated_is content.zones is.zones);
  receipts_apart = is.receipts_apart;
  receipts = is.receipts;
}

pub rows_migrated : (content : ContentOf) (rows : RowsOf) → IsOldContent content → SameRows (rows_of (pos 1) content) rows
    → SameRows (rows_of (pos 2) (migrated_content content)) (written (migration_batch content) rows)
rows_migrated content rows is same =
    let zs = content.zones in
    record {
      versions = IsPermutation-refl (pos 2 ∷ []);
      zones =
          subst (IsPermutation (map (λ z. name_text z.origin) (map migrated zs))) (sym (append-nil rows.zones))
          (subst (λ (l : List (List ℕ)). IsPermutation l rows.zones) (sym (origins_same zs)) same.zones);
      records =
          IsPermutation-trans (flat_map zone_records (map migrated zs)) (without (flat_map zone_gone zs) (flat_map zone_records zs) ++ flat_map zone_come zs) (without (flat_map zone_gone zs) rows.records ++ flat_map zone_come zs)
          (records_now zs is.zones (ascending_from_pairs Apart zs is.zones_apart))
          (IsPermutation-append_left (flat_map zone_come zs) (without (flat_map zone_gone zs) (flat_map zone_records zs)) (without (flat_map zone_gone zs) rows.records)
          (IsPermutation-filter (λ r. not (list_any (λ g. same_key g r) (flat_map zone_gone zs))) (flat_map zone_records zs) rows.records same.records));
      receipts = subst (IsPermutation (map row_of_receipt content.receipts)) (sym (append-nil rows.receipts)) same.receipts;
      changes =
          IsPermutation-trans (flat_map zone_changes (map migrated zs)) (flat_map zone_changes zs ++ flat_map zone_made zs) (rows.changes ++ flat_map zone_made zs) (changes_now zs is.zones)
          (IsPermutation-append_left (flat_map zone_made zs) (flat_map zone_changes zs) rows.changes same.changes);
    }

-- ---- rows of version 1, table by table

-- what is written for the zones that rows are
pub migrates : (rows : RowsOf) (batch : BatchOf) (changed : ℕ) → rows.versions ≡ pos 1 ∷ [] → (zones : AreOldZoneRows rows.zones rows.records rows.changes) → (receipts : AreReceiptRows rows.receipts)
    → batch ≡ migration_batch (record { zones = zones.zones; receipts = receipts.receipts }) → changed ≡ changed_count (record { zones = zones.zones; receipts = receipts.receipts }) → Migrates rows batch changed
migrates rows batch changed one zones receipts batch_is counted =
    let content : ContentOf = record { zones = zones.zones; receipts = receipts.receipts } in
    let is : IsOldContent content = record { zones_apart = zones.apart; zones = zones.each; receipts_apart = receipts.apart; receipts = receipts.each } in
    let same : SameRows (rows_of (pos 1) content) rows = record {
      versions = IsPermutation-same (pos 1 ∷ []) rows.versions (sym one);
      zones = zones.same_origins;
      records = zones.same_records;
      receipts = receipts.same;
      changes = zones.same_changes;
    } in
    record {
      content = content;
      is_old = is;
      same = same;
      is_content = content_migrated content is;
      now = subst (λ (w : BatchOf). SameRows (rows_of (pos 2) (migrated_content content)) (written w rows)) (sym batch_is) (rows_migrated content rows is same);
      least = batch_is;
      counted = counted;
    }

module _ (rows : RowsOf) (content : ContentOf) (is : IsOldContent content) (same : SameRows (rows_of (pos 1) content) rows) where
  pub one_version : rows.versions ≡ pos 1 ∷ []
  one_version = one_moved (pos 1) rows.versions same.versions

  pub zone_rows : AreOldZoneRows rows.zones rows.records rows.changes
  zone_rows = record {
    zones = content.zones;
    apart = is.zones_apart;
    each = is.zones;
    same_origins = same.zones;
    same_records = same.records;
    same_changes = same.changes;
  }

  pub receipt_rows : AreReceiptRows rows.receipts
  receipt_rows = record { receipts = content.receipts; apart = is.receipts_apart; each = is.receipts; same = same.receipts }
