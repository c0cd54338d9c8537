-- The lines of the points of an update, one after the other.
use Rattle.std.proofs.Common.{◌≡◌, ℕ, suc, ◌+◌, ◌<◌, List, ◌∷◌, ◌++◌, length, get_or, drop, Option, Some, None, refl, sym, ap, ◌∙◌, add-one, append_assoc, append-nil, ◌≤◌}
use Rattle.std.specs.Prelude.{option_map}
use Rattle.std.specs.List.{cons_option}
use Rattle.std.specs.Option.{option_to_list}
use Rattle.std.proofs.lemmas.Grind.{flat_map-append}
use Rattle.std.proofs.lemmas.List.{at_drop_more, drop_all}
use Rattle.dns_data.specs.declared.record_type.RecordType.{RecordType}
use Rattle.dns_data.specs.Types.{kept_types}
use Rattle.grant_policy.specs.declared.action.Action.{Action}
use Rattle.grant_policy.specs.declared.rule.Rule.{Rule}
use Rattle.zone_core.specs.declared.update.ItemList.{ItemList}
use Rattle.zone_core.specs.declared.update.Place.{Place}
use Rattle.zone_core.specs.Updates.{place_in}
use Rattle.office_core.specs.Footprints.{Point, point_of, points_at, item_points, points_from}
use Rattle.cli_core.specs.declared.job.TextForm.{TextForm}
use Rattle.cli_updates.specs.Explained.{point_text, point_texts}

module _ (form : TextForm) (rules : List Rule) (caller : List ℕ) where
  by_point : (o : Option Point) (ps : List Point) → point_texts form rules caller (cons_option o ps) ≡ point_texts form rules caller (option_to_list o) ++ point_texts form rules caller ps
  by_point None ps = refl
  by_point (Some p) ps = flat_map-append (point_text form rules caller) (option_to_list (Some p)) ps

  -- a text that has the lines of a prefix of a list, and what is left of them
  pub gone_on : (text next one rest whole total : List ℕ) → text ++ whole ≡ total → whole ≡ one ++ rest → next ≡ text ++ one → next ++ rest ≡ total
  gone_on text next one rest whole total so is here = ap (λ bs. bs ++ rest) here ∙ (append_assoc text one rest ∙ (ap (λ bs. text ++ bs) (sym is) ∙ so))

  -- the next type of an item
  pub next_type : (place : Place) (name : List (List ℕ)) (asks : RecordType → Option Action) (ts : List RecordType) (i : ℕ) (d : RecordType) → i < length ts
      → point_texts form rules caller (points_at place name asks (drop i ts))
      ≡ point_texts form rules caller (option_to_list (point_of place name asks (get_or ts i d))) ++ point_texts form rules caller (points_at place name asks (drop (i + 1) ts))
  next_type place name asks ts i d lt =
      at_drop_more (λ us. point_texts form rules caller (points_at place name asks us)) ts i d lt
      ∙ by_point (point_of place name asks (get_or ts i d)) (points_at place name asks (drop (i + 1) ts))

  -- the next item of a list
  pub next_item : {A : Type 0} (name : A → List (List ℕ)) (asks : A → RecordType → Option Action) (list : ItemList) (xs : List A) (i : ℕ) (x : A) → i < length xs → x ≡ get_or xs i x
      → point_texts form rules caller (points_from name asks list i (drop i xs))
      ≡ point_texts form rules caller (item_points (place_in list i) (name x) (asks x)) ++ point_texts form rules caller (points_from name asks list (i + 1) (drop (i + 1) xs))
  next_item {A} name asks list xs i x lt is =
      at_drop_more (λ ys. point_texts form rules caller (points_from name asks list i ys)) xs i x lt
      ∙ ap (λ (y : A). point_texts form rules caller (points_from name asks list i (y ∷ drop (i + 1) xs))) (sym is)
      ∙ flat_map-append (point_text form rules caller) (item_points (place_in list i) (name x) (asks x)) (points_from name asks list (suc i) (drop (i + 1) xs))
      ∙ ap (λ (n : ℕ). point_texts form rules caller (item_points (place_in list i) (name x) (asks x)) ++ point_texts form rules caller (points_from name asks list n (drop (i + 1) xs))) (sym (add-one i))

  -- the lines of all types are those of an item
  pub of_item : (place : Place) (name : List (List ℕ)) (asks : RecordType → Option Action) (old new : List ℕ) → new ≡ old ++ point_texts form rules caller (points_at place name asks kept_types) → new ≡ old ++ point_texts form rules caller (item_points place name asks)
  unfolding item_points
  of_item place name asks old new e = e

  -- the line of a type is that of its point
  pub of_point : (place : Place) (name own : List (List ℕ)) (asks : RecordType → Option Action) (t : RecordType) (o : Option Action) (text next : List ℕ) → own ≡ name → o ≡ asks t
      → next ≡ text ++ point_texts form rules caller (option_to_list (option_map (λ a. record { place = place; name = own; record_type = t; action = a }) o))
      → next ≡ text ++ point_texts form rules caller (option_to_list (point_of place name asks t))
  of_point place name own asks t o text next named asked e =
      e ∙ (ap (λ (p : Option Action). text ++ point_texts form rules caller (option_to_list (option_map (λ a. record { place = place; name = own; record_type = t; action = a }) p))) asked
      ∙ ap (λ (n : List (List ℕ)). text ++ point_texts form rules caller (option_to_list (point_of place n asks t))) named)

  -- nothing is left
  pub types_ended : (place : Place) (name : List (List ℕ)) (asks : RecordType → Option Action) (ts : List RecordType) (i : ℕ) (text whole : List ℕ) → length ts ≤ i → text ++ point_texts form rules caller (points_at place name asks (drop i ts)) ≡ whole → text ≡ whole
  types_ended place name asks ts i text whole past e =
      sym (append-nil text) ∙ (ap (λ (us : List RecordType). text ++ point_texts form rules caller (points_at place name asks us)) (sym (drop_all i ts past)) ∙ e)

  pub items_ended : {A : Type 0} (name : A → List (List ℕ)) (asks : A → RecordType → Option Action) (list : ItemList) (xs : List A) (i : ℕ) (text whole : List ℕ) → length xs ≤ i → text ++ point_texts form rules caller (points_from name asks list i (drop i xs)) ≡ whole → text ≡ whole
  items_ended {A} name asks list xs i text whole past e =
      sym (append-nil text) ∙ (ap (λ (ys : List A). text ++ point_texts form rules caller (points_from name asks list i ys)) (sym (drop_all i xs past)) ∙ e)
