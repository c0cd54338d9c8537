-- Records after the migration: each has the least TTL of its set.
use Rattle.std.proofs.Common.{◌≡◌, ℕ, Bool, true, false, cond, List, Option, Some, None, is_some, refl, sym, ap, ◌∙◌}
use Rattle.sqlite_rules.proofs.ListLemmas.{all_from, contains_had}
use Rattle.dns_data.specs.declared.record.Record.{Record}
use Rattle.zone_core.specs.Sets.{Records, set_of, listing, is_same, IsIn}
use Rattle.zone_core.specs.Zones.{ZoneOf, zone_of, min_rrset_ttls, latest}
use Rattle.zone_core.specs.Views.{min_ttl_rows}
use Rattle.zone_core.proofs.MinTtlLemmas.{min_ttl_set, min_ttl_order}
use Rattle.zone_core.proofs.RebuiltLemmas.{latest_is}
use Rattle.zone_core.proofs.RowLemmas.{listing_of}
use Rattle.zone_core.specs.Changes.{ChangeOf}
use Rattle.store_rows.specs.Contents.{ZoneRows}
use Rattle.store_rows.proofs.ZoneReadLemmas.{there, here}
use Rattle.office_store.specs.OldZones.{AreOfOldZone}
use Rattle.office_store.specs.MigratedContents.{advanced, after, change_for, next_zone}
use Rattle.office_store.specs.MigratedRecords.{MigratedZonesAreEven}
use Rattle.office_store.proofs.MigratedZoneLemmas.{kept, even_is, own_even}

abbrev Labels : Type 0
Labels = List (List ℕ)

module _ (o : Labels) (rs : List Record) (is : AreOfOldZone o rs) where
  latest_here : latest rs ≡ set_of rs
  latest_here = latest_is (set_of rs) (kept o rs is) rs (record { inside = all_from (λ r. IsIn r (set_of rs)) rs (λ r h. here rs r is.order h); whole = λ r h. contains_had rs r (there rs r h) })

  zone_is : zone_of o rs ≡ record { origin = o; records = set_of (min_ttl_rows rs) }
  zone_is = ap (λ (set : Records). record { origin = o; records = set }) (ap min_rrset_ttls latest_here ∙ sym (min_ttl_set rs is.order))

  records_are : listing (zone_of o rs).records ≡ min_ttl_rows rs
  records_are = ap (λ (z : ZoneOf). listing z.records) zone_is ∙ listing_of (min_ttl_rows rs) (min_ttl_order rs is.order)

  none_changed : is_some (change_for o rs) ≡ false → is_same (set_of rs) (zone_of o rs).records ≡ true
  unfolding change_for
  none_changed e = go (is_same (set_of rs) (zone_of o rs).records) _ e where
    go : (b : Bool) (c : ChangeOf) → is_some (cond b None (Some c)) ≡ false → b ≡ true
    go true c f = refl
    go false c f = absurd cc

  were_even : is_some (change_for o rs) ≡ false → rs ≡ min_ttl_rows rs
  were_even e = sym (listing_of rs is.order) ∙ ap listing (sym (own_even o rs (even_is o rs is (none_changed e)))) ∙ records_are

  next_records : listing (next_zone o rs).records ≡ listing (advanced (record { origin = o; records = set_of (min_ttl_rows rs) })).records
  unfolding next_zone
  next_records = ap (λ (z : ZoneOf). listing (advanced z).records) zone_is

after_none : (z : ZoneRows) (c : Option ChangeOf) → is_some c ≡ false → (after z c).records ≡ z.records
after_none z None e = refl
after_none z (Some c) e = absurd cc

after_some : (z : ZoneRows) (c : Option ChangeOf) → is_some c ≡ true → (after z c).records ≡ listing (next_zone z.origin z.records).records
after_some z None e = absurd cc
after_some z (Some c) e = refl

pub migrated_zones_are_even : MigratedZonesAreEven
migrated_zones_are_even z is = record {
  zone = records_are z.origin z.records is.zone;
  unchanged = λ e. (were_even z.origin z.records is.zone e, after_none z (change_for z.origin z.records) e);
  changed = λ e. after_some z (change_for z.origin z.records) e ∙ next_records z.origin z.records is.zone;
}
