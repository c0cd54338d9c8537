-- The first point of an update that is denied.
use Rattle.std.proofs.Common.{◌≡◌, ℕ, suc, ◌+◌, ◌<◌, true, false, List, [], ◌∷◌, ◌++◌, length, get_or, sum_by, count_by, ◌≤◌, ◌*◌, drop, Option, Some, None, refl, sym, ap, ◌∙◌, add-one, arith}
use Rattle.std.specs.Prelude.{option_map}
use Rattle.std.specs.List.{cons_option}
use Rattle.std.specs.Option.{option_or, option_to_list, is_some}
use Rattle.std.proofs.lemmas.List.Sums.{sum_by-cons, sum_by-append}
use Rattle.std.proofs.lemmas.List.{at_drop_more}
use Rattle.dns_data.specs.declared.record_type.RecordType.{RecordType}
use Rattle.dns_data.specs.Types.{kept_types}
use Rattle.grant_policy.specs.declared.action.Action.{Action}
use Rattle.grant_policy.specs.declared.rule.Rule.{Rule}
use Rattle.grant_policy.specs.Decisions.{concerns}
use Rattle.zone_core.specs.declared.update.ItemList.{ItemList}
use Rattle.zone_core.specs.declared.update.Place.{Place}
use Rattle.zone_core.specs.Updates.{place_in}
use Rattle.office_core.specs.declared.permission.Denial.{Denial}
use Rattle.office_core.specs.Footprints.{Point, point_of, points_at, item_points, points_from}
use Rattle.office_core.specs.Permissions.{DenialOf, denial_of, point_denial, first_denial, point_cost}

-- ---- denials in turn

or_assoc : {A : Type 0} (a b c : Option A) → option_or (option_or a b) c ≡ option_or a (option_or b c)
or_assoc None b c = refl
or_assoc (Some x) b c = refl

-- a step that was denied ends the search, and one that was not goes on
pub ended : (r : Option Denial) (one rest whole : Option DenialOf) → whole ≡ option_or one rest → option_map denial_of r ≡ one → is_some r ≡ true → option_map denial_of r ≡ whole
ended None one rest whole is e some = absurd cc
ended (Some d) one rest whole is e some = sym (is ∙ ap (λ (o : Option DenialOf). option_or o rest) (sym e))

pub gone_on : (r : Option Denial) (one rest whole : Option DenialOf) → whole ≡ option_or one rest → option_map denial_of r ≡ one → is_some r ≡ false → whole ≡ rest
gone_on None one rest whole is e none = is ∙ ap (λ (o : Option DenialOf). option_or o rest) (sym e)
gone_on (Some d) one rest whole is e none = absurd cc

module _ (rules : List Rule) (caller : List ℕ) where
  by_point : (o : Option Point) (ps : List Point) → first_denial rules caller (cons_option o ps) ≡ option_or (point_denial rules caller o) (first_denial rules caller ps)
  by_point None ps = refl
  by_point (Some p) ps = refl

  pub first_denial-append : (ps qs : List Point) → first_denial rules caller (ps ++ qs) ≡ option_or (first_denial rules caller ps) (first_denial rules caller qs)
  first_denial-append [] qs = refl
  first_denial-append (p ∷ ps) qs =
      let one = point_denial rules caller (Some p) in
      ap (λ (o : Option DenialOf). option_or one o) (first_denial-append ps qs) ∙ sym (or_assoc one (first_denial rules caller ps) (first_denial rules caller qs))

  -- the next type of an item
  pub next_type : (place : Place) (name : List (List ℕ)) (asks : RecordType → Option Action) (ts : List RecordType) (i : ℕ) (d : RecordType) → i < length ts → first_denial rules caller (points_at place name asks (drop i ts)) ≡ option_or (point_denial rules caller (point_of place name asks (get_or ts i d))) (first_denial rules caller (points_at place name asks (drop (i + 1) ts)))
  next_type place name asks ts i d lt =
      at_drop_more (λ us. first_denial rules caller (points_at place name asks us)) ts i d lt
      ∙ by_point (point_of place name asks (get_or ts i d)) (points_at place name asks (drop (i + 1) ts))

  -- the next item of a list
  pub next_item : {A : Type 0} (name : A → List (List ℕ)) (asks : A → RecordType → Option Action) (list : ItemList) (xs : List A) (i : ℕ) (x : A) → i < length xs → x ≡ get_or xs i x → first_denial rules caller (points_from name asks list i (drop i xs)) ≡ option_or (first_denial rules caller (item_points (place_in list i) (name x) (asks x))) (first_denial rules caller (points_from name asks list (i + 1) (drop (i + 1) xs)))
  next_item {A} name asks list xs i x lt is =
      at_drop_more (λ ys. first_denial rules caller (points_from name asks list i ys)) xs i x lt
      ∙ ap (λ (y : A). first_denial rules caller (points_from name asks list i (y ∷ drop (i + 1) xs))) (sym is)
      ∙ first_denial-append (item_points (place_in list i) (name x) (asks x)) (points_from name asks list (suc i) (drop (i + 1) xs))
      ∙ ap (λ (n : ℕ). option_or (first_denial rules caller (item_points (place_in list i) (name x) (asks x))) (first_denial rules caller (points_from name asks list n (drop (i + 1) xs)))) (sym (add-one i))

  -- the denial of an item is that of its points
  pub of_item : (place : Place) (name : List (List ℕ)) (asks : RecordType → Option Action) (r : Option DenialOf) → r ≡ first_denial rules caller (points_at place name asks kept_types) → r ≡ first_denial rules caller (item_points place name asks)
  unfolding item_points
  of_item place name asks r e = e

  -- ---- two lists of points

  pub by_first : (ps qs : List Point) (x : DenialOf) → Some x ≡ first_denial rules caller ps → Some x ≡ first_denial rules caller (ps ++ qs)
  by_first ps qs x e = ap (λ (o : Option DenialOf). option_or o (first_denial rules caller qs)) e ∙ sym (first_denial-append ps qs)

  pub by_second : (ps qs : List Point) (r : Option DenialOf) → None ≡ first_denial rules caller ps → r ≡ first_denial rules caller qs → r ≡ first_denial rules caller (ps ++ qs)
  by_second ps qs r none e = e ∙ ap (λ (o : Option DenialOf). option_or o (first_denial rules caller qs)) none ∙ sym (first_denial-append ps qs)

  -- ---- cost

  abbrev cost : List Point → ℕ
  cost ps = sum_by (point_cost rules caller) ps

  cost_more : (o : Option Point) (ps : List Point) → cost (cons_option o ps) ≡ cost (option_to_list o) + cost ps
  cost_more None ps = omega arith
  cost_more (Some p) ps = omega (arith, sum_by-cons (point_cost rules caller) p ps, sum_by-cons (point_cost rules caller) p [])

  pub next_type_cost : (place : Place) (name : List (List ℕ)) (asks : RecordType → Option Action) (ts : List RecordType) (i : ℕ) (d : RecordType) (n m all : ℕ) → i < length ts → n ≤ m + cost (option_to_list (point_of place name asks (get_or ts i d))) → m + cost (points_at place name asks (drop i ts)) ≤ all → n + cost (points_at place name asks (drop (i + 1) ts)) ≤ all
  next_type_cost place name asks ts i d n m all lt one rest =
      let more : cost (points_at place name asks (drop i ts)) ≡ cost (option_to_list (point_of place name asks (get_or ts i d))) + cost (points_at place name asks (drop (i + 1) ts)) = at_drop_more (λ us. cost (points_at place name asks us)) ts i d lt ∙ cost_more (point_of place name asks (get_or ts i d)) (points_at place name asks (drop (i + 1) ts)) in
      omega arith

  by_action : (place : Place) (name : List (List ℕ)) (t : RecordType) (o : Option Action) (a : Action) (n m : ℕ) → o ≡ Some a → n ≤ m + 2 * (length name + 1) + count_by (concerns caller name) rules → n ≤ m + cost (option_to_list (option_map (λ b. record { place = place; name = name; record_type = t; action = b }) o))
  by_action place name t None a n m e le = absurd cc
  by_action place name t (Some b) a n m e le = omega (arith, sum_by-cons (point_cost rules caller) (record { place = place; name = name; record_type = t; action = b }) [])

  pub decided_cost : (place : Place) (name : List (List ℕ)) (asks : RecordType → Option Action) (t : RecordType) (a : Action) (n m : ℕ) → asks t ≡ Some a → n ≤ m + 2 * (length name + 1) + count_by (concerns caller name) rules → n ≤ m + cost (option_to_list (point_of place name asks t))
  decided_cost place name asks t a n m e le = by_action place name t (asks t) a n m e le

  pub next_item_cost : {A : Type 0} (name : A → List (List ℕ)) (asks : A → RecordType → Option Action) (list : ItemList) (xs : List A) (i : ℕ) (x : A) → i < length xs → x ≡ get_or xs i x → cost (points_from name asks list i (drop i xs)) ≡ cost (item_points (place_in list i) (name x) (asks x)) + cost (points_from name asks list (i + 1) (drop (i + 1) xs))
  next_item_cost {A} name asks list xs i x lt is =
      at_drop_more (λ ys. cost (points_from name asks list i ys)) xs i x lt
      ∙ ap (λ (y : A). cost (points_from name asks list i (y ∷ drop (i + 1) xs))) (sym is)
      ∙ sum_by-append (point_cost rules caller) (item_points (place_in list i) (name x) (asks x)) (points_from name asks list (suc i) (drop (i + 1) xs))
      ∙ ap (λ (n : ℕ). cost (item_points (place_in list i) (name x) (asks x)) + cost (points_from name asks list n (drop (i + 1) xs))) (sym (add-one i))

  pub of_item_cost : (place : Place) (name : List (List ℕ)) (asks : RecordType → Option Action) (n m : ℕ) → n ≤ m + cost (points_at place name asks kept_types) → n ≤ m + cost (item_points place name asks)
  unfolding item_points
  of_item_cost place name asks n m le = le

  pub of_first_cost : (ps qs : List Point) (n m : ℕ) → n ≤ m + cost ps → n ≤ m + cost (ps ++ qs)
  of_first_cost ps qs n m le = omega (arith, sum_by-append (point_cost rules caller) ps qs)

  pub of_both_cost : (ps qs : List Point) (k n m : ℕ) → n ≤ m + cost ps → k ≤ n + cost qs → k ≤ m + cost (ps ++ qs)
  of_both_cost ps qs k n m first second = omega (arith, sum_by-append (point_cost rules caller) ps qs)
