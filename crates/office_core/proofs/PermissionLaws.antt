-- An update is permitted exactly where each point that it asks for is granted, and a denial is that of the first that is not.
use Rattle.std.proofs.Common.{◌≡◌, ◌↔◌, ℕ, zero, suc, ◌<◌, List, [], ◌∷◌, ◌++◌, Option, Some, None, refl, sym, ap, ◌∙◌, subst, arith}
use Rattle.std.specs.Prelude.{option_map, slice_get, IfSome}
use Rattle.std.specs.List.{AllByRecursion, cons_option}
use Rattle.std.specs.Option.{option_or}
use Rattle.dns_data.specs.declared.record_type.RecordType.{RecordType}
use Rattle.dns_data.specs.Types.{kept_types}
use Rattle.dns_data.proofs.KeptLaws.{each_type}
use Rattle.grant_policy.specs.declared.action.Action.{Action}
use Rattle.grant_policy.specs.declared.rule.Rule.{Rule}
use Rattle.grant_policy.specs.Decisions.{Verdict, granted, denied, decision}
use Rattle.zone_core.specs.declared.update.ItemList.{ItemList}
use Rattle.zone_core.specs.declared.update.ItemList.TheVariants as lists
use Rattle.zone_core.specs.declared.update.Place.{Place}
use Rattle.zone_core.specs.Updates.{UpdateOf, tested_name, acted_name, place_in}
use Rattle.office_core.specs.declared.permission.Denial.{Denial}
use Rattle.office_core.specs.Footprints.{Point, PrerequisiteAsks, OperationAsks, prerequisite_action, operation_action, points_at, item_points, points_from, footprint}
use Rattle.office_core.specs.Permissions.{DenialOf, denial_of, question, IsGranted, IsPermitted, IsFirstDenial, denial_at, first_denial}
use Rattle.office_core.proofs.FootprintLemmas.{prerequisite_asked, operation_asked}

same_Some : {T : Type 0} (a b : T) → Some a ≡ Some b → a ≡ b
same_Some a b e = cc

all_append : {X : Type 0} (P : X → Type 0) (xs ys : List X) → AllByRecursion P (xs ++ ys) ↔ (AllByRecursion P xs × AllByRecursion P ys)
all_append P [] ys = (λ all. (tt, all), λ both. both.1)
all_append P (x ∷ xs) ys =
    let rest = all_append P xs ys in
    (λ all. ((all.0, (rest.0 all.1).0), (rest.0 all.1).1), λ both. (both.0.0, rest.1 (both.0.1, both.1)))

module _ (rules : List Rule) (caller : List ℕ) where
  abbrev pub Granted : Point → Type 0
  Granted p = IsGranted rules caller p.name p.record_type p.action

  abbrev verdict : Point → Verdict
  verdict p = decision (question caller p.name p.record_type p.action) rules

  -- ---- the first denial

  pub found_denial : (ps : List Point) (d : DenialOf) → first_denial rules caller ps ≡ Some d → IsFirstDenial rules caller ps d
  found_denial [] d e = absurd cc
  found_denial (p ∷ ps) d e = by_verdict (verdict p) refl (found_denial ps d) e
    where
      later : (id : List ℕ) → verdict p ≡ granted id → IsFirstDenial rules caller ps d → IsFirstDenial rules caller (p ∷ ps) d
      later id v f = record {
        number = suc f.number;
        point = f.point;
        at = f.at;
        place = f.place;
        by = f.by;
        first = λ j earlier lt at. before j earlier lt at;
      }
        where
          before : (j : ℕ) (earlier : Point) → j < suc f.number → slice_get (p ∷ ps) j ≡ Some earlier → Granted earlier
          before zero earlier lt at = subst (λ (q : Point). Granted q) (same_Some p earlier at) (id, v)
          before (suc j) earlier lt at = f.first j earlier (omega arith) at

      by_verdict : (v : Verdict) → verdict p ≡ v → (first_denial rules caller ps ≡ Some d → IsFirstDenial rules caller ps d) → option_or (denial_at p.place v) (first_denial rules caller ps) ≡ Some d → IsFirstDenial rules caller (p ∷ ps) d
      by_verdict (granted id) v rest is = later id v (rest is)
      by_verdict (denied by) v rest is =
          let same : record { place = p.place; by = by } ≡ d = same_Some _ d is in record {
            number = 0;
            point = p;
            at = refl;
            place = sym (ap (λ (x : DenialOf). x.place) same);
            by = v ∙ ap (λ (x : DenialOf). denied x.by) same;
            first = λ j earlier lt at. absurd (omega arith);
          }

  pub if_denied : (ps : List Point) (r : Option Denial) → option_map denial_of r ≡ first_denial rules caller ps → IfSome r (λ d. IsFirstDenial rules caller ps (denial_of d))
  if_denied ps None e = tt
  if_denied ps (Some d) e = found_denial ps (denial_of d) (sym e)

  -- ---- no denial

  pub none_denied : (ps : List Point) → (first_denial rules caller ps ≡ None) ↔ AllByRecursion Granted ps
  none_denied [] = (λ e. tt, λ all. refl)
  none_denied (p ∷ ps) = (
    λ e. by_verdict (verdict p) refl (none_denied ps).0 e,
    λ all. rw (all.0.1) ((none_denied ps).1 all.1),
  )
    where
      by_verdict : (v : Verdict) → verdict p ≡ v → (first_denial rules caller ps ≡ None → AllByRecursion Granted ps) → option_or (denial_at p.place v) (first_denial rules caller ps) ≡ None → Granted p × AllByRecursion Granted ps
      by_verdict (granted id) v rest is = ((id, v), rest is)
      by_verdict (denied by) v rest is = absurd cc

  module _ (place : Place) (name : List (List ℕ)) (asks : RecordType → Option Action) where
    abbrev GrantedAt : RecordType → Type 0
    GrantedAt t = (a : Action) → asks t ≡ Some a → IsGranted rules caller name t a

    one_more : (t : RecordType) (o : Option Action) (ps : List Point) → asks t ≡ o → AllByRecursion Granted (cons_option (option_map (λ a. record { place = place; name = name; record_type = t; action = a }) o) ps) ↔ (GrantedAt t × AllByRecursion Granted ps)
    one_more t None ps is = (λ all. (λ a e. absurd (let f = sym is ∙ e in cc), all), λ both. both.1)
    one_more t (Some b) ps is =
        (λ all. (λ a e. subst (λ (x : Action). IsGranted rules caller name t x) (same_Some b a (sym is ∙ e)) all.0, all.1), λ both. (both.0 b is, both.1))

    at_types : (ts : List RecordType) → AllByRecursion Granted (points_at place name asks ts) ↔ AllByRecursion GrantedAt ts
    at_types [] = (λ all. tt, λ all. tt)
    at_types (t ∷ ts) =
        let rest = at_types ts in
        let more = one_more t (asks t) (points_at place name asks ts) refl in
        (λ all. ((more.0 all).0, rest.0 (more.0 all).1), λ all. more.1 (all.0, rest.1 all.1))

    all_types : ((t : RecordType) → GrantedAt t) → (ts : List RecordType) → AllByRecursion GrantedAt ts
    all_types each [] = tt
    all_types each (t ∷ ts) = (each t, all_types each ts)

    at_item : AllByRecursion Granted (item_points place name asks) ↔ ((t : RecordType) → GrantedAt t)
    unfolding item_points
    at_item = (λ all. each_type GrantedAt ((at_types kept_types).0 all), λ each. (at_types kept_types).1 (all_types each kept_types))

  module _ {X : Type 0} (name : X → List (List ℕ)) (asks : X → RecordType → Option Action) (Asks : X → RecordType → Action → Type 0) (told : (x : X) (t : RecordType) (a : Action) → (asks x t ≡ Some a) ↔ Asks x t a) (list : ItemList) where
    at_items : (i : ℕ) (xs : List X) → AllByRecursion Granted (points_from name asks list i xs) ↔ AllByRecursion (λ x. (t : RecordType) (a : Action) → Asks x t a → IsGranted rules caller (name x) t a) xs
    at_items i [] = (λ all. tt, λ all. tt)
    at_items i (x ∷ xs) =
        let both = all_append Granted (item_points (place_in list i) (name x) (asks x)) (points_from name asks list (suc i) xs) in
        let one = at_item (place_in list i) (name x) (asks x) in
        let rest = at_items (suc i) xs in (
          λ all. (λ t a s. one.0 (both.0 all).0 t a ((told x t a).1 s), rest.0 (both.0 all).1),
          λ all. both.1 (one.1 (λ t a e. all.0 t a ((told x t a).0 e)), rest.1 all.1),
        )

  pub all_granted : (origin : List (List ℕ)) (update : UpdateOf) → AllByRecursion Granted (footprint origin update) ↔ IsPermitted rules caller origin update
  all_granted origin update =
      let tests = points_from tested_name prerequisite_action lists.Prerequisites 0 update.prerequisites in
      let acts = points_from acted_name (operation_action origin) lists.Operations 0 update.operations in
      let both = all_append Granted tests acts in
      let first = at_items tested_name prerequisite_action PrerequisiteAsks prerequisite_asked lists.Prerequisites 0 update.prerequisites in
      let second = at_items acted_name (operation_action origin) (OperationAsks origin) (operation_asked origin) lists.Operations 0 update.operations in (
        λ all. record { prerequisites = first.0 (both.0 all).0; operations = second.0 (both.0 all).1 },
        λ p. both.1 (first.1 p.prerequisites, second.1 p.operations),
      )

  -- where no point is denied, the update is permitted
  pub none_permits : (origin : List (List ℕ)) (update : UpdateOf) → first_denial rules caller (footprint origin update) ≡ None → IsPermitted rules caller origin update
  none_permits origin update e = (all_granted origin update).0 ((none_denied (footprint origin update)).0 e)

  seen_none : (r : Option Denial) → (r ≡ None) ↔ (option_map denial_of r ≡ None)
  seen_none None = (λ e. refl, λ e. refl)
  seen_none (Some d) = (λ e. absurd cc, λ e. absurd cc)

  pub if_permitted : (origin : List (List ℕ)) (update : UpdateOf) (r : Option Denial) → option_map denial_of r ≡ first_denial rules caller (footprint origin update) → (r ≡ None) ↔ IsPermitted rules caller origin update
  if_permitted origin update r is =
      let none = none_denied (footprint origin update) in
      let all = all_granted origin update in
      (λ e. all.0 (none.0 (sym is ∙ (seen_none r).0 e)), λ p. (seen_none r).1 (is ∙ none.1 (all.1 p)))
