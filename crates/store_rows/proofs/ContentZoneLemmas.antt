-- Zones of a content, one of which is put in the place of another or beside them.
use Rattle.std.proofs.Common.{◌≡◌, ◌≢◌, ℕ, Bool, true, false, cond, not, List, [], ◌∷◌, filter, Option, Some, None, option_map, AllPairs, IsPermutation, refl, sym, ap, subst, ◌∙◌}
use Rattle.std.specs.List.{AllByRecursion}
use Rattle.std.proofs.lemmas.Bool.{both_ways, not-true}
use Rattle.std.proofs.lemmas.List.Sorted.{IsPermutation-refl, IsPermutation-trans, IsPermutation-cons}
use Rattle.sqlite_trees.specs.Tree.{IsAscending}
use Rattle.sqlite_trees.proofs.ListLemmas.{all-filter, all_weaker, all_both, ascending-filter, filter_all}
use Rattle.dns_names.specs.Order.{same_name}
use Rattle.zone_core.proofs.SetLemmas.{by_cases, name_is, name_self, name_other}
use Rattle.office_model.specs.States.{Held, State, hold}
use Rattle.store_rows.specs.Contents.{ZoneRows, zone_among, held_of, IsZoneRows}
use Rattle.store_rows.proofs.ListLemmas.{turned_first, ascending_from_pairs, pairs_from_ascending, found_passes, none_passes, all_pass}
use Rattle.store_rows.proofs.ContentLemmas.{Apart}

abbrev Labels : Type 0
Labels = List (List ℕ)

-- the zones of other origins
abbrev pub others : Labels → List ZoneRows → List ZoneRows
others o zs = filter (λ z. not (same_name z.origin o)) zs

-- ---- the zone of an origin and the others

pub found_origin : (o : Labels) (zs : List ZoneRows) (z : ZoneRows) → zone_among zs o ≡ Some z → z.origin ≡ o
found_origin o zs z e = name_is z.origin o (found_passes (λ y. same_name y.origin o) zs z e)

-- others stay where none has the origin
pub others_all : (o : Labels) (zs : List ZoneRows) → AllByRecursion (λ z. same_name z.origin o ≡ false) zs → others o zs ≡ zs
others_all o zs none =
    filter_all (λ z. not (same_name z.origin o)) zs (all_weaker (λ z. same_name z.origin o ≡ false) (λ z. not (same_name z.origin o) ≡ true) (λ z e. ap not e) zs none)

pub others_none : (o : Labels) (zs : List ZoneRows) → zone_among zs o ≡ None → others o zs ≡ zs
others_none o zs none = others_all o zs (none_passes (λ z. same_name z.origin o) zs none)

-- the zone of an origin, and the others
pub taken_out : (o : Labels) (zs : List ZoneRows) (z : ZoneRows) → zone_among zs o ≡ Some z → IsAscending Apart zs → IsPermutation zs (z ∷ others o zs)
taken_out o [] z e apart = absurd cc
taken_out o (y ∷ zs) z e apart = by_test (same_name y.origin o) refl e (λ f. taken_out o zs z f apart.1)
  where
    by_test : (b : Bool) → same_name y.origin o ≡ b → cond b (Some y) (zone_among zs o) ≡ Some z → (zone_among zs o ≡ Some z → IsPermutation zs (z ∷ others o zs))
        → IsPermutation (y ∷ zs) (z ∷ cond (not b) (y ∷ others o zs) (others o zs))
    by_test true t f later =
        let same : y ≡ z = cc in
        let here = name_is y.origin o t in
        let rest = others_all o zs (all_weaker (Apart y) (λ x. same_name x.origin o ≡ false) (λ x differ. name_other x.origin o (λ k. differ (here ∙ sym k))) zs apart.0) in
        subst (IsPermutation (y ∷ zs)) (λ i. same i ∷ sym rest i) (IsPermutation-refl (y ∷ zs))
    by_test false t f later =
        IsPermutation-trans (y ∷ zs) (y ∷ z ∷ others o zs) (z ∷ y ∷ others o zs) (IsPermutation-cons y zs (z ∷ others o zs) (later f)) (turned_first y z (others o zs))

-- another zone is found among the others
pub found_others : (o p : Labels) (zs : List ZoneRows) → same_name p o ≡ false → zone_among (others o zs) p ≡ zone_among zs p
found_others o p [] differ = refl
found_others o p (z ∷ zs) differ = by_test (same_name z.origin o) refl (found_others o p zs differ)
  where
    by_test : (b : Bool) → same_name z.origin o ≡ b → zone_among (others o zs) p ≡ zone_among zs p → zone_among (cond (not b) (z ∷ others o zs) (others o zs)) p ≡ zone_among (z ∷ zs) p
    by_test true t later =
        let other = name_other z.origin p (λ e. both_ways (same_name p o) differ (ap (λ (q : Labels). same_name q o) (sym e) ∙ t)) in
        later ∙ sym (ap (λ b. cond b (Some z) (zone_among zs p)) other)
    by_test false t later = ap (cond (same_name z.origin p) (Some z)) later

-- ---- a zone before the others

pub first_apart : (o : Labels) (zs : List ZoneRows) (z : ZoneRows) → z.origin ≡ o → IsAscending Apart zs → IsAscending Apart (z ∷ others o zs)
first_apart o zs z own apart = (
  all_weaker (λ y. not (same_name y.origin o) ≡ true) (Apart z) (λ y t e. both_ways (same_name y.origin o) (not-true (same_name y.origin o) t) (ap (λ (q : Labels). same_name q o) (sym e ∙ own) ∙ name_self o))
      (others o zs) (all_pass (λ y. not (same_name y.origin o)) zs),
  ascending-filter Apart (λ y. not (same_name y.origin o)) zs apart,
)

pub pairs_first : (o : Labels) (zs : List ZoneRows) (z : ZoneRows) → z.origin ≡ o → AllPairs Apart zs → AllPairs Apart (z ∷ others o zs)
pairs_first o zs z own apart = pairs_from_ascending Apart (z ∷ others o zs) (first_apart o zs z own (ascending_from_pairs Apart zs apart))

pub all_first : (o : Labels) (zs : List ZoneRows) (z : ZoneRows) → IsZoneRows z → AllByRecursion IsZoneRows zs → AllByRecursion IsZoneRows (z ∷ others o zs)
all_first o zs z is all = (is, all-filter IsZoneRows (λ y. not (same_name y.origin o)) zs all)

-- the others are zones of other origins
pub all_others : (o : Labels) (zs : List ZoneRows) → AllByRecursion IsZoneRows zs → AllByRecursion (λ z. IsZoneRows z × (o ≢ z.origin)) (others o zs)
all_others o zs all =
    all_both IsZoneRows (λ z. not (same_name z.origin o) ≡ true) (λ z. IsZoneRows z × (o ≢ z.origin))
    (λ z is t. (is, λ e. both_ways (same_name z.origin o) (not-true (same_name z.origin o) t) (ap (λ (q : Labels). same_name q o) (sym e) ∙ name_self o)))
    (others o zs) (all-filter IsZoneRows (λ y. not (same_name y.origin o)) zs all) (all_pass (λ y. not (same_name y.origin o)) zs)

-- it is what is held of its origin
pub means_first : (s : State) (o : Labels) (zs : List ZoneRows) (z : ZoneRows) (q : Option Held) → ((p : Labels) → s.zones p ≡ option_map held_of (zone_among zs p))
    → z.origin ≡ o → q ≡ Some (held_of z) → (p : Labels) → (hold s o q).zones p ≡ option_map held_of (zone_among (z ∷ others o zs) p)
means_first s o zs z q means own is p =
    by_cases (same_name p o) ((hold s o q).zones p ≡ option_map held_of (zone_among (z ∷ others o zs) p))
    (λ t.
    let here : same_name z.origin p ≡ true = (λ i. same_name (own i) (name_is p o t i)) ∙ name_self o in
    ap (λ b. cond b q (s.zones p)) t ∙ is ∙ sym (ap (λ b. option_map held_of (cond b (Some z) (zone_among (others o zs) p))) here))
    (λ f.
    let there : same_name z.origin p ≡ false = name_other z.origin p (λ e. both_ways (same_name p o) f (ap (λ (r : Labels). same_name r o) (sym e ∙ own) ∙ name_self o)) in
    ap (λ b. cond b q (s.zones p)) f ∙ means p ∙ ap (option_map held_of) (sym (found_others o p zs f))
    ∙ sym (ap (λ b. option_map held_of (cond b (Some z) (zone_among (others o zs) p))) there))

-- what is held of an origin is a zone of it
pub record IsHeldIn (zs : List ZoneRows) (o : Labels) (held : Held) : Type 0 where
  pub zone : ZoneRows
  pub found : zone_among zs o ≡ Some zone
  pub own : zone.origin ≡ o
  pub is : held_of zone ≡ held

pub held_in : (zs : List ZoneRows) (o : Labels) (held : Held) → Some held ≡ option_map held_of (zone_among zs o) → IsHeldIn zs o held
held_in zs o held e = by_found (zone_among zs o) refl e
  where
    by_found : (q : Option ZoneRows) → zone_among zs o ≡ q → Some held ≡ option_map held_of q → IsHeldIn zs o held
    by_found None f g = absurd cc
    by_found (Some z) f g = record { zone = z; found = f; own = found_origin o zs z f; is = (let same : held_of z ≡ held = cc in same) }

pub none_held : (zs : List ZoneRows) (o : Labels) → None ≡ option_map held_of (zone_among zs o) → zone_among zs o ≡ None
none_held zs o e = by_found (zone_among zs o) e
  where
    by_found : (q : Option ZoneRows) → None ≡ option_map held_of q → q ≡ None
    by_found None f = refl
    by_found (Some z) f = absurd cc
