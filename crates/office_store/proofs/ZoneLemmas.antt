-- Zones that come, and zones in the place of others.
use Rattle.std.proofs.Common.{◌≡◌, ℕ, true, false, cond, List, [], ◌∷◌, ◌++◌, Option, Some, None, option_map, Result, Ok, Err, IfErr, refl, sym, ap, ◌∙◌, arith}
use Rattle.std.proofs.lemmas.Bool.Decides.{nat_tests}
use Rattle.dns_names.proofs.NameLemmas.{is_within-Decides}
use Rattle.dns_data.specs.declared.record.Record.{Record}
use Rattle.zone_core.specs.Sets.{Records, part, within, is_same}
use Rattle.zone_core.specs.Serials.{is_less}
use Rattle.zone_core.specs.Zones.{ZoneOf, IsZone, built, serial_of}
use Rattle.zone_core.proofs.SetLemmas.{by_cases, same_sets, found_in_part}
use Rattle.zone_core.proofs.ChangedLemmas.{same_sets_are_one}
use Rattle.office_model.specs.States.{Held, State, zone_held}
use Rattle.store_rows.proofs.ZoneReadLemmas.{built_at}
use Rattle.store_faults.specs.declared.store_fault.StoreFault.{StoreFault}
use Rattle.store_faults.specs.declared.store_fault.StoreFault.TheVariants.{SerialNotGreater}
use Rattle.store_faults.specs.StoreFaults.{IsFailure, Gives, of_zones, ◌>>=◌}
use Rattle.office_store.specs.Zones.{if_free, if_later, imported, replaced}
use Rattle.office_store.proofs.FaultLemmas.{says_nothing}

-- ---- what is built

pub imported_is : (s : State) (origin : List (List ℕ)) (rs : List Record) (zone : ZoneOf) → built origin rs ≡ Ok zone → if_free (s.zones zone.origin) zone ≡ imported s origin rs
imported_is s origin rs zone e =
    ap (λ o. if_free (s.zones o) zone) (built_at origin rs zone e) ∙ ap (λ b. of_zones b >>= λ z. if_free (s.zones origin) z) (sym e)

pub replaced_is : (s : State) (origin : List (List ℕ)) (rs : List Record) (zone : ZoneOf) → built origin rs ≡ Ok zone → if_later (s.zones zone.origin) zone ≡ replaced s origin rs
replaced_is s origin rs zone e =
    ap (λ o. if_later (s.zones o) zone) (built_at origin rs zone e) ∙ ap (λ b. of_zones b >>= λ z. if_later (s.zones origin) z) (sym e)

-- ---- answers

-- a batch alone answers by a failure, or by what is to be told
pub gives_written : {X Y : Type 0} (view : X → Y) (r : Result X StoreFault) (told : Result Y StoreFault) → IfErr r IsFailure → ((x : X) → told ≡ Ok (view x)) → Gives view r told
gives_written view (Ok x) told failed is = is x
gives_written view (Err e) told failed is = says_nothing e told failed

-- ---- serials

less_is : (old new : ℕ) → old ≡ new → is_less old new ≡ true → ⊥
less_is old new same less =
    let itself : is_less old old ≡ true = ap (is_less old) same ∙ less in
    never old itself
  where
    never : (n : ℕ) → is_less n n ≡ true → ⊥
    never n e = grind (arith, nat_tests, e)

-- a zone whose serial is less has not the same records
pub serials_differ : (old new : ZoneOf) → IsZone old → IsZone new → old.origin ≡ new.origin → is_less (serial_of old) (serial_of new) ≡ true → is_same old.records new.records ≡ false
serials_differ old new was is origin less =
    by_cases (is_same old.records new.records) (is_same old.records new.records ≡ false)
    (λ same. absurd (less_is (serial_of old) (serial_of new) (one_serial ((same_sets_are_one old.records new.records was.kept is.kept).0 same)) less))
    (λ differ. differ)
  where
    one_serial : old.records ≡ new.records → serial_of old ≡ serial_of new
    one_serial e = λ i. serial_of (record { origin = origin i; records = e i })

-- ---- the zone that is held

pub held_of : (o : Option Held) (origin : List (List ℕ)) (zone : ZoneOf) → Some zone ≡ option_map (zone_held origin) o → (held : Held) × (o ≡ Some held) × (zone_held origin held ≡ zone)
held_of None origin zone e = absurd cc
held_of (Some held) origin zone e = (held, refl, cc)

pub none_of : (o : Option Held) (origin : List (List ℕ)) → None ≡ option_map (zone_held origin) o → o ≡ None
none_of None origin e = refl
none_of (Some held) origin e = absurd cc

-- what is told of a zone whose serial is compared with that of the one that is held
pub told_later : (o : Option Held) (old zone : ZoneOf) → Some old ≡ option_map (zone_held zone.origin) o → is_less (serial_of old) (serial_of zone) ≡ true → if_later o zone ≡ Ok zone
told_later o old zone e less =
    let h = held_of o zone.origin old e in
    ap (λ x. if_later x zone) h.1 ∙ ap (λ z. cond (is_less (serial_of z) (serial_of zone)) (Ok zone) (Err SerialNotGreater)) h.2 ∙ ap (λ b. cond b (Ok zone) (Err SerialNotGreater)) less

pub told_not_later : (o : Option Held) (old zone : ZoneOf) → Some old ≡ option_map (zone_held zone.origin) o → is_less (serial_of old) (serial_of zone) ≡ false → if_later o zone ≡ Err SerialNotGreater
told_not_later o old zone e less =
    let h = held_of o zone.origin old e in
    ap (λ x. if_later x zone) h.1 ∙ ap (λ z. cond (is_less (serial_of z) (serial_of zone)) (Ok zone) (Err SerialNotGreater)) h.2 ∙ ap (λ b. cond b (Ok zone) (Err SerialNotGreater)) less

-- ---- all records

pub all_within : (set : Records) → part set (within []) ≡ set
all_within set = same_sets (part set (within [])) set (λ k. found_in_part set (within []) k ((is_within-Decides k.0 []).1 (k.0, whole k.0)))
  where
    whole : {A : Type 0} (xs : List A) → xs ≡ xs ++ []
    whole [] = refl
    whole (x ∷ xs) = ap (λ l. x ∷ l) (whole xs)
