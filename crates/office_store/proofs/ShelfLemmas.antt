-- What is kept beside the connection of several zones.
use Rattle.std.proofs.Common.{◌≡◌, inl, inr, ℕ, zero, suc, List, [], ◌∷◌, ◌++◌, Bool, false, not, cond, drop, Option, Some, None, Result, Ok, Err, IfSome, IsSome, IsNone, refl, sym, ap, subst}
use Rattle.std.proofs.Math.Logic.{∥∥₁_map}
use Rattle.std.specs.List.{AllByRecursion, filter}
use Rattle.sqlite.specs.State.{State as Shown}
use Rattle.dns_names.specs.Order.{same_name}
use Rattle.zone_core.specs.Zones.{ZoneOf}
use Rattle.zone_core.specs.Changes.{ChangeOf}
use Rattle.zone_core.proofs.SetLemmas.{by_cases}
use Rattle.office_model.specs.Tables.{AdditionOf, committed}
use Rattle.store_cache.specs.declared.cached_zone.CachedZone.{CachedZone}
use Rattle.store_cache.specs.declared.history.ZoneHistory.{ZoneHistory}
use Rattle.store_cache.specs.Cache.{cached_after, cached_behind, cached_in, current_zone, with_change}
use Rattle.store_cache.specs.declared.shelf.Shelf.{Shelf}
use Rattle.store_cache.specs.Shelf.{on_any, IsPut, IsTaken, IsTurned}
use Rattle.office_store.specs.Cache.{FitEach, FitsCache, IsZoneIn}
use Rattle.office_store.specs.History.{FitsHistory, RememberEach}
use Rattle.office_store.specs.Queries.{Asked}
use Rattle.office_store.specs.Turns.{Turns}
use Rattle.office_store.proofs.CacheLemmas.{fits_none, fits_asked, fits_turned, in_committed}
use Rattle.office_store.proofs.HistoryLemmas.{history_asked, history_turned, history_committed}

-- ---- what holds of each that is kept

module _ {T : Type 0} (P : T → Type 0) where
  all_joined : (xs ys : List T) → AllByRecursion P xs → AllByRecursion P ys → AllByRecursion P (xs ++ ys)
  all_joined [] ys p q = q
  all_joined (x ∷ xs) ys p q = (p.0, all_joined xs ys p.1 q)

  all_before : (xs ys : List T) → AllByRecursion P (xs ++ ys) → AllByRecursion P xs
  all_before [] ys p = tt
  all_before (x ∷ xs) ys p = (p.0, all_before xs ys p.1)

  all_after : (xs ys : List T) → AllByRecursion P (xs ++ ys) → AllByRecursion P ys
  all_after [] ys p = p
  all_after (x ∷ xs) ys p = all_after xs ys p.1

  all_dropped : (n : ℕ) (xs : List T) → AllByRecursion P xs → AllByRecursion P (drop n xs)
  all_dropped zero [] p = tt
  all_dropped zero (x ∷ xs) p = p
  all_dropped (suc n) [] p = tt
  all_dropped (suc n) (x ∷ xs) p = all_dropped n xs p.1

  all_taken : (test : T → Bool) (old new : List T) (found : Option T) → AllByRecursion P old → IsTaken test old found new → IfSome found P × AllByRecursion P new
  all_taken test old new None all taken = (tt, subst (AllByRecursion P) (sym taken.0) all)
  all_taken test old new (Some x) all taken =
      let parts = subst (AllByRecursion P) taken.2 all in
      let rest = all_after taken.0 (x ∷ taken.1) parts in
      (rest.0, subst (AllByRecursion P) (sym taken.3) (all_joined taken.0 taken.1 (all_before taken.0 (x ∷ taken.1) parts) rest.1))

  all_put : (old new : List T) (hand : Option T) → AllByRecursion P old → IfSome hand P → IsPut old hand new → AllByRecursion P new
  all_put old new None all one put = subst (AllByRecursion P) (sym put) all
  all_put old new (Some x) all one put = subst (AllByRecursion P) (sym put.1) (all_dropped put.0 (old ++ x ∷ []) (all_joined old (x ∷ []) all (one, tt)))

  all_turned : (test : T → Bool) (hand : Option T) (old : List T) (after : Option T) (new : List T) → IfSome hand P → AllByRecursion P old → IsTurned test hand old after new → IfSome after P × AllByRecursion P new
  all_turned test hand old after new one all (inl is) = (subst (λ h. IfSome h P) (sym is.1) one, subst (AllByRecursion P) (sym is.2) all)
  all_turned test hand old after new one all (inr is) =
      let taken = all_taken test old is.1 after all is.2 in
      (taken.0, all_put is.1 new hand taken.1 one is.3)

all_weaker : {T : Type 0} (P Q : T → Type 0) → ((x : T) → P x → Q x) → (xs : List T) → AllByRecursion P xs → AllByRecursion Q xs
all_weaker P Q f [] all = tt
all_weaker P Q f (x ∷ xs) all = (f x all.0, all_weaker P Q f xs all.1)

-- ---- cached zones

abbrev Fits : Shown → CachedZone → Type 0
Fits conn cached = FitsCache conn (Some (current_zone cached))

of_hand : (conn : Shown) (hand : Option CachedZone) → FitsCache conn (cached_in hand) → IfSome hand (Fits conn)
of_hand conn None fits = tt
of_hand conn (Some cached) fits = fits

to_hand : (conn : Shown) (hand : Option CachedZone) → FitsCache conn None → IfSome hand (Fits conn) → FitsCache conn (cached_in hand)
to_hand conn None none fits = none
to_hand conn (Some cached) none fits = fits

-- the zone that is at hand once another is turned to, and those on the shelf
pub cache_turned : (conn : Shown) (test : CachedZone → Bool) (hand : Option CachedZone) (old : List CachedZone) (after : Option CachedZone) (new : List CachedZone) → FitsCache conn (cached_in hand) → FitEach conn old
    → IsTurned test hand old after new → FitsCache conn (cached_in after) × FitEach conn new
cache_turned conn test hand old after new fits each turned =
    let both = all_turned (Fits conn) test hand old after new (of_hand conn hand fits) each turned in
    (to_hand conn after (fits_none conn (cached_in hand) fits) both.0, both.1)

pub fit_asked : (old new : Shown) (zones : List CachedZone) → Asked old new → FitEach old zones → FitEach new zones
fit_asked old new zones asked each = all_weaker (Fits old) (Fits new) (λ cached fits. fits_asked old new (Some (current_zone cached)) asked fits) zones each

-- a zone of another origin is as it was
other_kept : (a : AdditionOf) (zone : ZoneOf) → same_name zone.origin a.receipt.origin ≡ false → cached_after a (Some zone) ≡ Some zone
other_kept a zone other = go a.change
  where
    go : (change : Option ChangeOf) → cached_behind a.receipt.origin change (Some zone) ≡ Some zone
    go None = refl
    go (Some c) = ap (λ b. Some (cond b (with_change zone c) zone)) other

fits_beside : {X E : Type 0} (old new : Shown) (r : Result X E) (a : AdditionOf) (zone : ZoneOf) → Turns old new r (committed a) → same_name zone.origin a.receipt.origin ≡ false → FitsCache old (Some zone) → FitsCache new (Some zone)
fits_beside old new (Ok x) a zone turns other fits =
    record { held = λ clean. ∥∥₁_map (fits.held (turns.honest clean)) (λ it. (committed a it.0, turns.made clean it.0 it.1, subst (IsZoneIn (committed a it.0)) (other_kept a zone other) (in_committed a it.0 (Some zone) it.2))) }
fits_beside old new (Err e) a zone turns other fits = record { held = λ clean. ∥∥₁_map (fits.held (turns.honest clean)) (λ it. (it.0, turns.failed it.0 it.1, it.2)) }

-- the zones of other origins than that of an addition fit after it
pub fit_committed : {X E : Type 0} (old new : Shown) (r : Result X E) (a : AdditionOf) (zones : List CachedZone) → Turns old new r (committed a) → FitEach old zones
    → FitEach new (filter (λ cached. not (same_name cached.origin a.receipt.origin)) zones)
fit_committed old new r a [] turns each = tt
fit_committed old new r a (cached ∷ zones) turns each =
    let p : CachedZone → Bool = λ c. not (same_name c.origin a.receipt.origin) in
    let rest = fit_committed old new r a zones turns each.1 in
    by_cases (same_name cached.origin a.receipt.origin) (FitEach new (filter p (cached ∷ zones)))
    (λ e. subst (λ b. FitEach new (cond (not b) (cached ∷ filter p zones) (filter p zones))) (sym e) rest)
    (λ e. subst (λ b. FitEach new (cond (not b) (cached ∷ filter p zones) (filter p zones))) (sym e) (fits_beside old new r a (current_zone cached) turns e each.0, rest))

-- ---- what is remembered of changes

abbrev Remembered : Shown → ZoneHistory → Type 0
Remembered conn zone = FitsHistory conn (Some zone)

of_history : (conn : Shown) (hand : Option ZoneHistory) → FitsHistory conn hand → IfSome hand (Remembered conn)
of_history conn None fits = tt
of_history conn (Some zone) fits = fits

to_history : (conn : Shown) (hand : Option ZoneHistory) → FitsHistory conn None → IfSome hand (Remembered conn) → FitsHistory conn hand
to_history conn None none fits = none
to_history conn (Some zone) none fits = fits

no_history : (conn : Shown) (history : Option ZoneHistory) → FitsHistory conn history → FitsHistory conn None
no_history conn history fits = record { held = λ clean. ∥∥₁_map (fits.held clean) (λ it. (it.0, it.1, tt)) }

pub history_turned_to : (conn : Shown) (test : ZoneHistory → Bool) (hand : Option ZoneHistory) (old : List ZoneHistory) (after : Option ZoneHistory) (new : List ZoneHistory) → FitsHistory conn hand → RememberEach conn old
    → IsTurned test hand old after new → FitsHistory conn after × RememberEach conn new
history_turned_to conn test hand old after new fits each turned =
    let both = all_turned (Remembered conn) test hand old after new (of_history conn hand fits) each turned in
    (to_history conn after (no_history conn hand fits) both.0, both.1)

-- the same where there may be no shelf, and then nothing happens
pub history_turned_on : (conn : Shown) (test : ZoneHistory → Bool) (hand : Option ZoneHistory) (old : Option (Shelf ZoneHistory)) (after : Option ZoneHistory) (new : Option (Shelf ZoneHistory)) → FitsHistory conn hand
    → RememberEach conn (on_any old) → (IsSome old → IsTurned test hand (on_any old) after (on_any new)) → (IsNone old → (after ≡ hand) × (new ≡ old)) → FitsHistory conn after × RememberEach conn (on_any new)
history_turned_on conn test hand None after new fits each turned same =
    let is = same refl in
    (subst (FitsHistory conn) (sym is.0) fits, subst (λ shelf. RememberEach conn (on_any shelf)) (sym is.1) each)
history_turned_on conn test hand (Some shelf) after new fits each turned same = history_turned_to conn test hand (on_any (Some shelf)) after (on_any new) fits each (turned refl)

pub remember_asked : (old new : Shown) (zones : List ZoneHistory) → Asked old new → RememberEach old zones → RememberEach new zones
remember_asked old new zones asked each = all_weaker (Remembered old) (Remembered new) (λ zone fits. history_asked old new (Some zone) asked fits) zones each

pub remember_committed : {X E : Type 0} (old new : Shown) (r : Result X E) (a : AdditionOf) (zones : List ZoneHistory) → Turns old new r (committed a) → RememberEach old zones → RememberEach new zones
remember_committed old new r a zones turns each = all_weaker (Remembered old) (Remembered new) (λ zone fits. history_committed old new r a (Some zone) turns fits) zones each

-- what a call leaves of what is kept beside the connection
pub ruleset kept = (fits_none, fits_asked, fits_turned, fit_asked, history_asked, history_turned, history_committed, remember_asked, remember_committed)
