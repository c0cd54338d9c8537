-- What a row in which nothing is wrong, or something is, says of the zone that is built.
use Rattle.std.proofs.Common.{◌≡◌, ℕ, List, Option, Some, None, Result, Ok, Err, sym, ap, ◌∙◌}
use Rattle.dns_data.specs.declared.record.Record.{Record}
use Rattle.zone_core.specs.declared.faults.ZoneFault.{ZoneFault}
use Rattle.zone_core.specs.declared.faults.ZoneFault.TheVariants.{NoMemory}
use Rattle.zone_core.specs.Faults.{Refuses}
use Rattle.zone_core.specs.Sets.{Records, set_of}
use Rattle.zone_core.specs.Zones.{ZoneOf, IsZone, fault_in, unless_fault, built, zone_of, min_rrset_ttls, latest}
use Rattle.zone_core.specs.Views.{zone_in}
use Rattle.zone_core.proofs.WholeLemmas.{no_fault}

refuses_is : (fault : ZoneFault) (x : Result ZoneOf ZoneFault) → x ≡ Err fault → Refuses fault x
refuses_is NoMemory x e = tt
refuses_is fault x e = e

module _ (origin : List (List ℕ)) (records rs : List Record) (same : set_of rs ≡ min_rrset_ttls (latest records)) where
  built_is : (fault : Option ZoneFault) → fault ≡ fault_in origin (set_of rs) → built origin records ≡ unless_fault origin (set_of rs) fault
  built_is fault e = (λ i. unless_fault origin (sym same i) (fault_in origin (sym same i))) ∙ ap (unless_fault origin (set_of rs)) (sym e)

  pub built_ok : (fault : Option ZoneFault) → fault ≡ fault_in origin (set_of rs) → fault ≡ None → built origin records ≡ Ok (zone_in origin rs)
  built_ok fault e none = built_is fault e ∙ ap (unless_fault origin (set_of rs)) none

  pub built_refuses : (fault : Option ZoneFault) (f : ZoneFault) → fault ≡ fault_in origin (set_of rs) → fault ≡ Some f → Refuses f (built origin records)
  built_refuses fault f e some = refuses_is f (built origin records) (built_is fault e ∙ ap (unless_fault origin (set_of rs)) some)

  pub never_refused : (fault : Option ZoneFault) (f : ZoneFault) → fault ≡ fault_in origin (set_of rs) → fault ≡ Some f → IsZone (zone_of origin records) → ⊥
  never_refused fault f e some zone =
      let none = no_fault origin (min_rrset_ttls (latest records)) zone.kept zone in
      let c : Some f ≡ None = sym some ∙ e ∙ ap (fault_in origin) same ∙ none in
      absurd cc

  pub zone_is : zone_of origin records ≡ zone_in origin rs
  zone_is = ap (λ (s : Records). record { origin = origin; records = s }) (sym same)
