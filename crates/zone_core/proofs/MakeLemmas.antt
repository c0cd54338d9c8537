-- The records of a zone after an update are those that the operations make in turn, with the next serial where that is due.
use Rattle.std.proofs.Common.{◌≡◌, ◌≢◌, ℕ, List, [], ◌∷◌, Bool, true, false, ◌==◌, if◌then◌else◌, Some, inl, inr, refl, sym, ap, ◌∙◌}
use Rattle.std.specs.List.{AllByRecursion}
use Rattle.std.proofs.lemmas.Bool.Decides.{Decides-eqb}
use Rattle.dns_names.specs.Labels.{IsWithin}
use Rattle.dns_data.specs.declared.record.Record.{Record}
use Rattle.zone_core.specs.declared.update.Operation.{Operation}
use Rattle.zone_core.specs.Sets.{Records, is_same}
use Rattle.zone_core.specs.Zones.{soa_at, serial_at}
use Rattle.zone_core.specs.Updates.{IsOperation, acted_name}
use Rattle.zone_core.specs.Effects.{effect, effects, with_next, serial_advanced}
use Rattle.zone_core.specs.Accounts.{AllMake, IsNextOf, IsAdvancedTo, UpdatesMake}
use Rattle.zone_core.proofs.ZoneLemmas.{Keys, Heir, keys_of, soa_is, no, effect_heir}
use Rattle.zone_core.proofs.ChangedLemmas.{same_sets_are_one}
use Rattle.zone_core.proofs.VersionLemmas.{next_keys, heir_of}
use Rattle.zone_core.proofs.AccountLemmas.{left_effect}
use Rattle.zone_core.proofs.LeaveLemmas.{next_there}

all_make : (origin : List (List ℕ)) (set : Records) → Keys origin set → (ops : List Operation) → AllByRecursion IsOperation ops → AllByRecursion (λ op. IsWithin (acted_name op) origin) ops
    → AllMake origin set ops (effects origin set ops)
all_make origin set z [] all inside = λ r. (λ here. here, λ here. here)
all_make origin set z (op ∷ ops) all inside =
    let next = (effect_heir origin set z op all.0 inside.0).0 in
    (effect origin set op, next.rows.kept, left_effect origin set z op all.0, all_make origin (effect origin set op) next ops all.1 inside.1)

module _ (origin : List (List ℕ)) (before made : Records) (z : Keys origin before) (heir : Heir origin before z made) where
  abbrev soa : Record
  soa = heir.0.soa_there.0

  next_is : IsNextOf origin made (with_next made (soa_at origin made))
  next_is =
      let n = next_keys origin before made z heir in
      let found = soa_is origin made heir.0 in (
        (soa, found, ap (λ o. soa_at origin (with_next made o)) found ∙ soa_is origin (with_next made (Some soa)) n.0 ∙ ap (λ (x : Record). Some x) n.1),
        λ r other.
            let same = next_there origin before made z heir r other in
            (λ here. sym same ∙ here, λ here. same ∙ here),
      )

  advances_serial : IsAdvancedTo origin before made (serial_advanced origin before made)
  advances_serial = by_same (is_same before made) refl
    where
      by_serial : made ≢ before → (b : Bool) → (serial_at origin before == serial_at origin made) ≡ b → IsAdvancedTo origin before made (if b then with_next made (soa_at origin made) else made)
      by_serial differ true e = inr (differ, sym ((Decides-eqb (serial_at origin before) (serial_at origin made)).0 e), next_is)
      by_serial differ false e =
          inl (inr (λ same. no (serial_at origin before == serial_at origin made) ((Decides-eqb (serial_at origin before) (serial_at origin made)).1 (sym same)) e), refl)

      by_same : (b : Bool) → is_same before made ≡ b
          → IsAdvancedTo origin before made (if b then before else (if serial_at origin before == serial_at origin made then with_next made (soa_at origin made) else made))
      by_same true e = let same = (same_sets_are_one before made z.rows.kept heir.0.rows.kept).0 e in inl (inl (sym same), same)
      by_same false e =
          by_serial (λ same. no (is_same before made) ((same_sets_are_one before made z.rows.kept heir.0.rows.kept).1 (sym same)) e)
          (serial_at origin before == serial_at origin made) refl

pub updates_make : UpdatesMake
updates_make zone update z is acts =
    let there = keys_of zone.origin zone.records z in
    let heir = heir_of zone update z is acts in
    let made = effects zone.origin zone.records update.operations in (
      made,
      heir.0.rows.kept,
      all_make zone.origin zone.records there update.operations is.operations acts.operations,
      advances_serial zone.origin zone.records made there heir,
    )
