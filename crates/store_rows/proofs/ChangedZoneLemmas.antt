-- The rows of a content in which a zone is changed.
use Rattle.std.proofs.Common.{◌≡◌, ◌≢◌, ℕ, suc, Bool, false, not, List, [], ◌∷◌, ◌++◌, length, map, flat_map, Option, Some, IsPermutation, refl, sym, ap, subst, ◌∙◌, append-nil}
use Rattle.std.specs.List.{AllByRecursion, list_any}
use Rattle.std.proofs.lemmas.List.Elements.{filter-append}
use Rattle.std.proofs.lemmas.List.Sorted.{IsPermutation-sym, IsPermutation-map}
use Rattle.sqlite_trees.proofs.ListLemmas.{IsPermutation-same, IsPermutation-flat_map, IsPermutation-filter, all-append, all-flat_map, all_weaker}
use Rattle.dns_names.specs.Labels.{IsName}
use Rattle.dns_names.specs.Order.{same_name}
use Rattle.dns_names.specs.Spelling.{name_text}
use Rattle.dns_data.specs.Rdata.{IsRecord}
use Rattle.zone_core.specs.Sets.{Records, set_of, listing}
use Rattle.zone_core.specs.Changes.{changed, ChangeOf}
use Rattle.zone_core.specs.Zones.{IsZone}
use Rattle.zone_core.proofs.ChangedLemmas.{listed}
use Rattle.office_model.specs.States.{Held, State, hold}
use Rattle.office_model.specs.Tables.{held_with, FitsHeld}
use Rattle.store_sql.specs.Rows.{RecordRowOf, ReceiptRowOf, same_key, without}
use Rattle.store_rows.specs.RecordRows.{record_row}
use Rattle.store_rows.specs.ChangeRows.{IsChange, change_rows, changes_rows}
use Rattle.store_rows.specs.Contents.{ZoneRows, zone_records, zone_changes, held_of, zone_among, IsZoneRows}
use Rattle.store_rows.specs.Batches.{change_batch}
use Rattle.store_rows.proofs.ListLemmas.{part_more, found_has, ascending_from_pairs}
use Rattle.store_rows.proofs.ListingLemmas.{row_records, removed_records, added_records}
use Rattle.store_rows.proofs.RecordLemmas.{Stay, others_stay, without_others, rows_changed}
use Rattle.store_rows.proofs.ChangeLemmas.{changes_more}
use Rattle.store_rows.proofs.ContentZoneLemmas.{others, taken_out, pairs_first, all_first, all_others, means_first, held_in}
use Rattle.store_rows.proofs.WrittenStateLemmas.{ZonesAre, ZonesBecome, zone_row}
use Rattle.store_rows.proofs.ContentLemmas.{Apart}

abbrev Labels : Type 0
Labels = List (List ℕ)

-- a zone, and a change that fits what is held of it
module _ (s : State) (o : Labels) (c : ChangeOf) (zs : List ZoneRows) (are : ZonesAre zs s) (z : ZoneRows) (found : zone_among zs o ≡ Some z) (own : z.origin ≡ o) (fits : FitsHeld o (held_of z) c) where
  is_zone : IsZoneRows z
  is_zone = found_has (λ y. same_name y.origin o) IsZoneRows zs z are.each found

  name : IsName o
  name = subst IsName own is_zone.origin

  abbrev zone_now : ZoneRows
  zone_now = record { origin = o; records = listing (changed (set_of z.records) c.removed c.added); changes = z.changes ++ c ∷ [] }

  -- the zone goes before the others
  taken : IsPermutation zs (z ∷ others o zs)
  taken = taken_out o zs z found (ascending_from_pairs Apart zs are.apart)

  own_records : AllByRecursion IsRecord z.records
  own_records = row_records z.records is_zone.zone.order is_zone.zone.zone.kept

  gone_records : AllByRecursion IsRecord c.removed
  gone_records = removed_records (set_of z.records) c.removed c.added is_zone.zone.zone.kept fits.records

  is_change : IsChange c
  is_change = record {
    something = fits.something;
    removed = gone_records;
    removed_order = fits.records.removed_order;
    added = added_records (set_of z.records) c.removed c.added fits.zone.kept fits.records;
    added_order = fits.records.added_order;
  }

  set_now : set_of zone_now.records ≡ changed (set_of z.records) c.removed c.added
  set_now = (listed (changed (set_of z.records) c.removed c.added) fits.zone.kept).set

  is_zone_now : IsZoneRows zone_now
  is_zone_now = record {
    origin = name;
    zone = record {
      order = (listed (changed (set_of z.records) c.removed c.added) fits.zone.kept).order;
      zone = subst (λ (q : Records). IsZone (record { origin = o; records = q })) (sym set_now) fits.zone;
    };
    changes = all-append IsChange z.changes (c ∷ []) is_zone.changes (is_change, tt);
  }

  others_are : Stay (map (record_row o) c.removed) (flat_map zone_records (others o zs))
  others_are =
      all-flat_map (λ r. list_any (λ g. same_key g r) (map (record_row o) c.removed) ≡ false) zone_records (others o zs)
      (all_weaker (λ y. IsZoneRows y × (o ≢ y.origin)) (λ y. Stay (map (record_row o) c.removed) (zone_records y))
      (λ y both. others_stay o y.origin c.removed y.records name both.0.origin gone_records (row_records y.records both.0.zone.order both.0.zone.zone.kept) both.1)
      (others o zs) (all_others o zs are.each))

  abbrev stays : RecordRowOf → Bool
  stays r = not (list_any (λ g. same_key g r) (map (record_row o) c.removed))

  -- the rows that stay are those of the zone and those of the others
  rows_left : IsPermutation (without (map (record_row o) c.removed) (flat_map zone_records zs)) (without (map (record_row o) c.removed) (map (record_row o) z.records) ++ flat_map zone_records (others o zs))
  rows_left =
      subst (IsPermutation (without (map (record_row o) c.removed) (flat_map zone_records zs)))
      (filter-append stays (zone_records z) (flat_map zone_records (others o zs))
      ∙ (λ i. without (map (record_row o) c.removed) (map (record_row (own i)) z.records) ++ without_others (map (record_row o) c.removed) (flat_map zone_records (others o zs)) others_are i))
      (IsPermutation-filter stays (flat_map zone_records zs) (zone_records z ++ flat_map zone_records (others o zs)) (IsPermutation-flat_map zone_records zs (z ∷ others o zs) taken))

  record_rows_now : IsPermutation (flat_map zone_records (zone_now ∷ others o zs)) (without (map (record_row o) c.removed) (flat_map zone_records zs) ++ map (record_row o) c.added)
  record_rows_now =
      part_more (without (map (record_row o) c.removed) (map (record_row o) z.records)) (map (record_row o) c.added) (flat_map zone_records (others o zs))
      (without (map (record_row o) c.removed) (flat_map zone_records zs)) (zone_records zone_now) rows_left
      (rows_changed o z.records c.removed c.added name is_zone.zone.order own_records gone_records fits.records)

  change_rows_now : IsPermutation (flat_map zone_changes (zone_now ∷ others o zs)) (flat_map zone_changes zs ++ change_rows o (suc (length z.changes)) c)
  change_rows_now =
      part_more (changes_rows o 1 z.changes) (change_rows o (suc (length z.changes)) c) (flat_map zone_changes (others o zs)) (flat_map zone_changes zs) (zone_changes zone_now)
      (subst (λ (q : Labels). IsPermutation (flat_map zone_changes zs) (changes_rows q 1 z.changes ++ flat_map zone_changes (others o zs))) own (IsPermutation-flat_map zone_changes zs (z ∷ others o zs) taken))
      (IsPermutation-same (changes_rows o 1 (z.changes ++ c ∷ [])) (changes_rows o 1 z.changes ++ change_rows o (suc (length z.changes)) c) (changes_more o z.changes c))

  zone_rows_now : IsPermutation (map zone_row (zone_now ∷ others o zs)) (map zone_row zs ++ [])
  zone_rows_now =
      subst (IsPermutation (map zone_row (zone_now ∷ others o zs))) (sym (append-nil (map zone_row zs)))
      (IsPermutation-sym (map zone_row zs) (map zone_row (zone_now ∷ others o zs))
      (subst (λ (q : Labels). IsPermutation (map zone_row zs) (name_text q ∷ map zone_row (others o zs))) own (IsPermutation-map zone_row zs (z ∷ others o zs) taken)))

  held_now : held_of zone_now ≡ held_with c (held_of z)
  held_now = λ i. record { records = set_now i; changes = z.changes ++ c ∷ [] }

  zone_becomes : (rows : List ReceiptRowOf) (q : Option Held) → q ≡ Some (held_with c (held_of z)) → ZonesBecome (change_batch o (suc (length z.changes)) c rows) zs (hold s o q)
  zone_becomes rows q is = record {
    after = zone_now ∷ others o zs;
    are = record {
      apart = pairs_first o zs zone_now refl are.apart;
      each = all_first o zs zone_now is_zone_now are.each;
      means = means_first s o zs zone_now q are.means refl (is ∙ ap (λ (h : Held). Some h) (sym held_now));
    };
    zone_rows = zone_rows_now;
    record_rows = record_rows_now;
    changes = change_rows_now;
  }

-- what is held of an origin is changed
pub zones_changed : (s : State) (o : Labels) (held : Held) (c : ChangeOf) (rows : List ReceiptRowOf) (q : Option Held) → s.zones o ≡ Some held → FitsHeld o held c → q ≡ Some (held_with c held)
    → (zs : List ZoneRows) → ZonesAre zs s → ZonesBecome (change_batch o (suc (length held.changes)) c rows) zs (hold s o q)
zones_changed s o held c rows q here fits is zs are =
    let h = held_in zs o held (sym here ∙ are.means o) in
    subst (λ (x : Held). FitsHeld o x c → q ≡ Some (held_with c x) → ZonesBecome (change_batch o (suc (length x.changes)) c rows) zs (hold s o q)) h.is
    (λ f e. zone_becomes s o c zs are h.zone h.found h.own f rows q e) fits is
