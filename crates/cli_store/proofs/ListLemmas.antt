-- What is read of a store, step by step.
use Rattle.std.proofs.Common.{◌≡◌, ◌<◌, ◌+◌, ℕ, List, [], ◌∷◌, ◌++◌, length, map, take, get_or, Option, Some, None, IsSome, option_map, Result, Ok, Err, refl, sym, ap, subst, ◌∙◌}
use Rattle.std.proofs.lemmas.List.{map-append, take_more}
use Rattle.std.proofs.lemmas.List.Elements.{Contains-get_or}
use Rattle.std.specs.List.{AllByRecursion}
use Rattle.sqlite.specs.State.{State as Shown, HasCleanDisk}
use Rattle.office_store.specs.Queries.{Asked, AsksOnly, Only}
use Rattle.zone_core.specs.Sets.{listing}
use Rattle.zone_core.specs.Changes.{ChangeOf}
use Rattle.zone_core.specs.Zones.{ZoneOf, serial_of}
use Rattle.office_model.specs.States.{Held, State, zone_held, zone_at, changes_at}
use Rattle.cli_store.specs.declared.zone_list.ZoneSummary.{ZoneSummary}
use Rattle.store_rows.specs.Listed.{AreOriginsOf}
use Rattle.store_rows.proofs.ListedLemmas.{origins_are_of_zones}
use Rattle.cli_store.specs.StoreList.{IsSummary, AreZonesOf}

-- ---- what is answered, or refused

-- a call that only asks, whether it answers or not
pub asks_both : {X E : Type 0} (old new : Shown) (r : Result X E) → Asked old new → (HasCleanDisk new → Only old new) → AsksOnly old new r
asks_both old new (Ok x) asked only = (asked, only)
asks_both old new (Err e) asked only = (asked, λ clean. tt)

-- ---- a zone

no_zone : (origin : List (List ℕ)) (o : Option Held) → None ≡ option_map (zone_held origin) o → IsSome o → ⊥
no_zone origin None same some = absurd (cc some)
no_zone origin (Some held) same some = absurd (cc same)

no_changes : (o : Option Held) → None ≡ option_map (λ held. held.changes) o → IsSome o → ⊥
no_changes None same some = absurd (cc some)
no_changes (Some held) same some = absurd (cc same)

-- where there is no zone, none is held
pub unheld_zone : (s : State) (origin : List (List ℕ)) → None ≡ zone_at s origin → IsSome (s.zones origin) → ⊥
unheld_zone s origin same some = no_zone origin (s.zones origin) same some

pub unheld_changes : (s : State) (origin : List (List ℕ)) → None ≡ changes_at s origin → IsSome (s.zones origin) → ⊥
unheld_changes s origin same some = no_changes (s.zones origin) same some

-- what is held of an origin, by the zone and the changes that were read
summarized : (origin : List (List ℕ)) (o : Option Held) (zone : ZoneOf) (changes : List ChangeOf) → Some zone ≡ option_map (zone_held origin) o → Some changes ≡ option_map (λ held. held.changes) o
    → (held : Held) × (o ≡ Some held) × (zone ≡ zone_held origin held) × (changes ≡ held.changes)
summarized origin None zone changes there listed = absurd (cc there)
summarized origin (Some held) zone changes there listed = (held, refl, cc there, cc listed)

pub summary_of : (s : State) (origin : List (List ℕ)) (zone : ZoneOf) (changes : List ChangeOf) (z : ZoneSummary) → z.origin ≡ origin → Some zone ≡ zone_at s origin → Some changes ≡ changes_at s origin
    → z.serial ≡ serial_of zone → z.records ≡ length (listing zone.records) → z.changes ≡ length changes → IsSummary s z
summary_of s origin zone changes z named there listed serial records count =
    let x = summarized origin (s.zones origin) zone changes there listed in (
      x.0,
      ap s.zones named ∙ x.1,
      serial ∙ ap serial_of x.2 ∙ ap (λ (name : List (List ℕ)). serial_of (zone_held name x.0)) (sym named),
      records ∙ ap (λ (z : ZoneOf). length (listing z.records)) x.2,
      count ∙ ap (λ (cs : List ChangeOf). length cs) x.3,
    )

-- ---- all zones

pub all_more : {X : Type 0} (P : X → Type 0) (xs : List X) (x : X) → AllByRecursion P xs → P x → AllByRecursion P (xs ++ x ∷ [])
all_more P [] x all one = (one, tt)
all_more P (y ∷ xs) x all one = (all.0, all_more P xs x all.1 one)

-- one more after those of the first origins
pub origins_more : (origins : List (List (List ℕ))) (i : ℕ) (d : List (List ℕ)) (zones more : List ZoneSummary) (z : ZoneSummary) → i < length origins → map (λ (z : ZoneSummary). z.origin) zones ≡ take i origins
    → z.origin ≡ get_or origins i d → more ≡ zones ++ z ∷ [] → map (λ (z : ZoneSummary). z.origin) more ≡ take (i + 1) origins
origins_more origins i d zones more z below so_far is e =
    ap (map (λ (z : ZoneSummary). z.origin)) e ∙ map-append (λ (z : ZoneSummary). z.origin) zones (z ∷ [])
    ∙ ap (λ (names : List (List (List ℕ))). names ++ z.origin ∷ []) so_far ∙ ap (λ (name : List (List ℕ)). take i origins ++ name ∷ []) is ∙ sym (take_more origins i d below)

-- a zone is held of an origin that is listed
pub is_held : (s : State) (names : List (List (List ℕ))) (i : ℕ) (d : List (List ℕ)) → AreOriginsOf s names → i < length names → IsSome (s.zones (get_or names i d))
is_held s names i d are below =
    let listed = (origins_are_of_zones s names are).1 (get_or names i d) in
    let held = listed.0 (Contains-get_or names i d below) in
    subst IsSome (sym held.1) refl

pub zones_all : (s : State) (origins : List (List (List ℕ))) (zones : List ZoneSummary) → map (λ (z : ZoneSummary). z.origin) zones ≡ origins → AllByRecursion (IsSummary s) zones → AreOriginsOf s origins → AreZonesOf s zones
zones_all s origins zones same all are = record { origins = subst (AreOriginsOf s) (sym same) are; summaries = all }
