-- The rows of a content with one zone more.
use Rattle.std.proofs.Common.{◌≡◌, List, [], ◌∷◌, ◌++◌, map, flat_map, Some, None, IsPermutation, refl, sym, subst, ◌∙◌}
use Rattle.std.proofs.lemmas.List.Sorted.{IsPermutation-sym, IsPermutation-append_comm, IsPermutation-to_front}
use Rattle.dns_names.specs.Labels.{IsName}
use Rattle.dns_names.specs.Spelling.{name_text}
use Rattle.zone_core.specs.Sets.{Records, listing, set_of}
use Rattle.zone_core.specs.Zones.{ZoneOf, IsZone}
use Rattle.zone_core.proofs.ChangedLemmas.{listed}
use Rattle.office_model.specs.States.{State}
use Rattle.store_sql.specs.Rows.{without}
use Rattle.store_rows.specs.RecordRows.{record_row}
use Rattle.store_rows.specs.Contents.{ZoneRows, zone_records, zone_changes, IsZoneRows}
use Rattle.store_rows.specs.Batches.{with_zone, zone_batch}
use Rattle.store_rows.proofs.RecordLemmas.{without_none}
use Rattle.store_rows.proofs.ContentZoneLemmas.{others, others_none, pairs_first, all_first, means_first, none_held}
use Rattle.store_rows.proofs.WrittenStateLemmas.{ZonesAre, ZonesBecome, zone_row, unchanged}

-- a zone of an origin that has none
module _ (s : State) (zone : ZoneOf) (name : IsName zone.origin) (is : IsZone zone) (new : s.zones zone.origin ≡ None) (zs : List ZoneRows) (are : ZonesAre zs s) where
  abbrev zone_new : ZoneRows
  zone_new = record { origin = zone.origin; records = listing zone.records; changes = [] }

  all_stay : others zone.origin zs ≡ zs
  all_stay = others_none zone.origin zs (none_held zs zone.origin (sym new ∙ are.means zone.origin))

  set_new : set_of (listing zone.records) ≡ zone.records
  set_new = (listed zone.records is.kept).set

  is_zone_new : IsZoneRows zone_new
  is_zone_new = record {
    origin = name;
    zone = record {
      order = (listed zone.records is.kept).order;
      zone = subst (λ (q : Records). IsZone (record { origin = zone.origin; records = q })) (sym set_new) is;
    };
    changes = tt;
  }

  zone_rows_new : IsPermutation (map zone_row (zone_new ∷ others zone.origin zs)) (map zone_row zs ++ name_text zone.origin ∷ [])
  zone_rows_new =
      subst (λ ys. IsPermutation (map zone_row (zone_new ∷ ys)) (map zone_row zs ++ name_text zone.origin ∷ [])) (sym all_stay)
      (IsPermutation-sym (map zone_row zs ++ name_text zone.origin ∷ []) (map zone_row (zone_new ∷ zs)) (IsPermutation-to_front (map zone_row zs) (name_text zone.origin)))

  record_rows_new : IsPermutation (flat_map zone_records (zone_new ∷ others zone.origin zs)) (without [] (flat_map zone_records zs) ++ map (record_row zone.origin) (listing zone.records))
  record_rows_new =
      subst (λ ys. IsPermutation (flat_map zone_records (zone_new ∷ ys)) (without [] (flat_map zone_records zs) ++ map (record_row zone.origin) (listing zone.records))) (sym all_stay)
      (subst (λ rows. IsPermutation (flat_map zone_records (zone_new ∷ zs)) (rows ++ map (record_row zone.origin) (listing zone.records))) (sym (without_none (flat_map zone_records zs)))
      (IsPermutation-append_comm (map (record_row zone.origin) (listing zone.records)) (flat_map zone_records zs)))

  change_rows_new : IsPermutation (flat_map zone_changes (zone_new ∷ others zone.origin zs)) (flat_map zone_changes zs ++ [])
  change_rows_new = subst (λ ys. IsPermutation (flat_map zone_changes (zone_new ∷ ys)) (flat_map zone_changes zs ++ [])) (sym all_stay) (unchanged (flat_map zone_changes zs))

  pub zone_added : ZonesBecome (zone_batch zone) zs (with_zone s zone)
  zone_added = record {
    after = zone_new ∷ others zone.origin zs;
    are = record {
      apart = pairs_first zone.origin zs zone_new refl are.apart;
      each = all_first zone.origin zs zone_new is_zone_new are.each;
      means = means_first s zone.origin zs zone_new (Some (record { records = zone.records; changes = [] })) are.means refl (λ i. Some (record { records = sym set_new i; changes = [] }));
    };
    zone_rows = zone_rows_new;
    record_rows = record_rows_new;
    changes = change_rows_new;
  }
