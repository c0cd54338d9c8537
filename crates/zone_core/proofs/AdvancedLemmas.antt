-- The zone with its serial one further.
use Rattle.std.proofs.Common.{◌≡◌, List, [], ◌∷◌, Some, inl, refl, sym, subst, ◌∙◌}
use Rattle.std.specs.List.Sorted.{IsStrictlySortedBy}
use Rattle.dns_data.specs.declared.record.Record.{Record}
use Rattle.zone_core.specs.Sets.{Records, set_of, minus, InOrder, AreRows}
use Rattle.zone_core.specs.Zones.{ZoneOf, IsZone, soa_at}
use Rattle.zone_core.specs.Effects.{next_version, with_next}
use Rattle.zone_core.specs.Changes.{changed, FitsIn}
use Rattle.zone_core.proofs.ChangedLemmas.{zone_fits, zone_gives, zone_made}
use Rattle.zone_core.proofs.ZoneLemmas.{Keys, keys_of, zone_of_keys, soa_is}
use Rattle.zone_core.proofs.VersionLemmas.{next_keys}
use Rattle.zone_core.proofs.SerialAdvanceLemmas.{minus_self, step_removed, step_added}

no_order : InOrder []
unfolding IsStrictlySortedBy
no_order = tt

-- a set has nothing that it has not
none_differ : (a : Records) → AreRows [] (minus a a)
none_differ a = record { order = no_order; set = minus_self a (set_of []) refl }

-- what the zone is then
abbrev pub advanced : ZoneOf → ZoneOf
advanced zone = record zone { records = with_next zone.records (soa_at zone.origin zone.records) }

module _ (zone : ZoneOf) (z : IsZone zone) where
  abbrev there : Keys zone.origin zone.records
  there = keys_of zone.origin zone.records z

  found : soa_at zone.origin zone.records ≡ Some there.soa_there.0
  found = soa_is zone.origin zone.records there

  pub advanced_is : IsZone (advanced zone)
  advanced_is =
      subst (λ o. IsZone (record zone { records = with_next zone.records o })) (sym found)
      (zone_of_keys zone.origin (with_next zone.records (Some there.soa_there.0)) z.not_root (next_keys zone.origin zone.records zone.records there (there, inl refl)).0)

  module _ (soa : Record) (one : soa_at zone.origin zone.records ≡ Some soa) where
    own : there.soa_there.0 ≡ soa
    own = let both : Some there.soa_there.0 ≡ Some soa = sym found ∙ one in cc

    pub soa_goes : AreRows (soa ∷ []) (minus zone.records (advanced zone).records)
    soa_goes =
        subst (λ o. AreRows (soa ∷ []) (minus zone.records (with_next zone.records o))) (sym found)
        (subst (λ x. AreRows (x ∷ []) (minus zone.records (with_next zone.records (Some there.soa_there.0)))) own
        (step_removed zone.origin zone.records zone.records there there refl [] (none_differ zone.records)))

    pub next_comes : AreRows (next_version soa ∷ []) (minus (advanced zone).records zone.records)
    next_comes =
        subst (λ o. AreRows (next_version soa ∷ []) (minus (with_next zone.records o) zone.records)) (sym found)
        (subst (λ x. AreRows (next_version x ∷ []) (minus (with_next zone.records (Some there.soa_there.0)) zone.records)) own
        (step_added zone.origin zone.records zone.records there there refl [] (none_differ zone.records)))

    -- the SOA and its next version are what a change takes and brings
    module _ (removed added : List Record) (removed_is : removed ≡ soa ∷ []) (added_is : added ≡ next_version soa ∷ []) where
      goes : AreRows removed (minus zone.records (advanced zone).records)
      goes = subst (λ rs. AreRows rs (minus zone.records (advanced zone).records)) (sym removed_is) soa_goes

      comes : AreRows added (minus (advanced zone).records zone.records)
      comes = subst (λ rs. AreRows rs (minus (advanced zone).records zone.records)) (sym added_is) next_comes

      pub advanced_fits : FitsIn zone.records removed added
      advanced_fits = zone_fits zone (advanced zone) z advanced_is refl removed added goes comes

      pub advanced_made : IsZone (record zone { records = changed zone.records removed added })
      advanced_made = zone_made zone (advanced zone) z advanced_is refl removed added goes comes

      pub advanced_gives : record zone { records = changed zone.records removed added } ≡ advanced zone
      advanced_gives = zone_gives zone (advanced zone) z advanced_is refl removed added goes comes
