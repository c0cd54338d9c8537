-- The footprint of an update: which points it has, and in which order.
use Rattle.std.proofs.Common.{◌≡◌, ◌↔◌, ◌⊎◌, ℕ, zero, suc, ◌+◌, ◌<◌, Bool, true, false, nat_lt, List, [], ◌∷◌, ◌++◌, length, get_or, Option, Some, None, refl, sym, ap, ◌∙◌, subst, inl, inr, ⊎_elim, arith}
use Rattle.std.specs.Prelude.{◌&&◌, option_map, slice_get}
use Rattle.std.specs.List.{Contains, AllPairs, cons_option, list_all}
use Rattle.std.proofs.lemmas.Bool.Decides.{nat_tests}
use Rattle.dns_data.specs.declared.record_type.RecordType.{RecordType}
use Rattle.dns_data.specs.Types.{kept_types, type_number}
use Rattle.dns_data.proofs.KeptLaws.{each_kept}
use Rattle.grant_policy.specs.declared.action.Action.{Action}
use Rattle.zone_core.specs.declared.update.ItemList.{ItemList}
use Rattle.zone_core.specs.declared.update.ItemList.TheVariants as lists
use Rattle.zone_core.specs.declared.update.Place.{Place}
use Rattle.zone_core.specs.Updates.{UpdateOf, tested_name, acted_name, place_in}
use Rattle.office_core.specs.Footprints.{Point, prerequisite_action, operation_action, points_at, item_points, points_from, footprint, AsksIn, list_number, IsBefore, FootprintsAreAsked, FootprintsAreInOrder}
use Rattle.office_core.proofs.FootprintLemmas.{prerequisite_asked, operation_asked}

same_Some : {T : Type 0} (a b : T) → Some a ≡ Some b → a ≡ b
same_Some a b e = cc

-- ---- members of lists

abbrev pub In : {X : Type 0} → X → List X → Type 0
In x [] = ⊥
In x (y ∷ ys) = (y ≡ x) ⊎ In x ys

in_append : {X : Type 0} (x : X) (xs ys : List X) → In x (xs ++ ys) ↔ (In x xs ⊎ In x ys)
in_append x [] ys = (λ i. inr i, λ s. ⊎_elim (λ (n : ⊥). absurd n) (λ i. i) s)
in_append x (z ∷ xs) ys =
    let rest = in_append x xs ys in (
      λ s. ⊎_elim (λ (e : z ≡ x). inl (inl e)) (λ i. ⊎_elim (λ (j : In x xs). inl (inr j)) (λ (j : In x ys). inr j) (rest.0 i)) s,
      λ s. ⊎_elim (λ (h : (z ≡ x) ⊎ In x xs). ⊎_elim (λ (e : z ≡ x). inl e) (λ (j : In x xs). inr (rest.1 (inl j))) h) (λ (j : In x ys). inr (rest.1 (inr j))) s,
    )

in_at : {X : Type 0} (xs : List X) (k : ℕ) (d : X) → k < length xs → In (get_or xs k d) xs
in_at [] k d lt = absurd (omega arith)
in_at (x ∷ xs) zero d lt = inl refl
in_at (x ∷ xs) (suc k) d lt = inr (in_at xs k d (omega arith))

pub contained : {X : Type 0} (xs : List X) (x : X) → Contains xs x → In x xs
contained {X} xs x (k, lt, is) = subst (λ (y : X). In y xs) is (in_at xs k x lt)

pub contains : {X : Type 0} (xs : List X) (x : X) → In x xs → Contains xs x
contains [] x i = absurd i
contains (y ∷ ys) x (inl e) = (0, omega arith, e)
contains (y ∷ ys) x (inr i) = let c = contains ys x i in (suc c.0, omega (arith, c.1), c.2)

-- ---- the points of an item

abbrev made : Place → List (List ℕ) → RecordType → Action → Point
made place name t a = record { place = place; name = name; record_type = t; action = a }

same_point : (place : Place) (name : List (List ℕ)) (t : RecordType) (a : Action) (p : Point) → p.place ≡ place → p.name ≡ name → t ≡ p.record_type → a ≡ p.action → made place name t a ≡ p
same_point place name t a p e f g h =
    ap (λ (x : Place). made x name t a) (sym e) ∙ ap (λ (x : List (List ℕ)). made p.place x t a) (sym f) ∙ ap (λ (x : RecordType). made p.place p.name x a) g
    ∙ ap (λ (x : Action). made p.place p.name p.record_type x) h

module _ (place : Place) (name : List (List ℕ)) (asks : RecordType → Option Action) where
  pub record IsOf (ts : List RecordType) (p : Point) : Type 0 where
    pub at_place : p.place ≡ place
    pub named : p.name ≡ name
    pub among : In p.record_type ts
    pub asked : asks p.record_type ≡ Some p.action

  one_more : (t : RecordType) (ts : List RecordType) (o : Option Action) (ps : List Point) (p : Point) → asks t ≡ o → (In p ps ↔ IsOf ts p) → In p (cons_option (option_map (λ a. made place name t a) o) ps) ↔ IsOf (t ∷ ts) p
  one_more t ts None ps p is rest = (
    λ i. let h = rest.0 i in record { at_place = h.at_place; named = h.named; among = inr h.among; asked = h.asked },
    λ h. ⊎_elim
        (λ (e : t ≡ p.record_type). let f : None ≡ Some p.action = sym is ∙ ap asks e ∙ h.asked in absurd cc)
        (λ (i : In p.record_type ts). rest.1 (record { at_place = h.at_place; named = h.named; among = i; asked = h.asked }))
        h.among,
  )
  one_more t ts (Some b) ps p is rest = (
    λ i. ⊎_elim
        (λ (e : made place name t b ≡ p). record {
          at_place = sym (ap (λ (q : Point). q.place) e);
          named = sym (ap (λ (q : Point). q.name) e);
          among = inl (ap (λ (q : Point). q.record_type) e);
          asked = ap asks (sym (ap (λ (q : Point). q.record_type) e)) ∙ is ∙ ap Some (ap (λ (q : Point). q.action) e);
        })
        (λ (j : In p ps). let h = rest.0 j in record { at_place = h.at_place; named = h.named; among = inr h.among; asked = h.asked })
        i,
    λ h. ⊎_elim
        (λ (e : t ≡ p.record_type). inl (same_point place name t b p h.at_place h.named e (same_Some b p.action (sym is ∙ ap asks e ∙ h.asked))))
        (λ (i : In p.record_type ts). inr (rest.1 (record { at_place = h.at_place; named = h.named; among = i; asked = h.asked })))
        h.among,
  )

  in_types : (ts : List RecordType) (p : Point) → In p (points_at place name asks ts) ↔ IsOf ts p
  in_types [] p = (λ i. absurd i, λ h. absurd h.among)
  in_types (t ∷ ts) p = one_more t ts (asks t) (points_at place name asks ts) p refl (in_types ts p)

  pub in_item : (p : Point) → In p (item_points place name asks) ↔ IsOf kept_types p
  unfolding item_points
  in_item p = in_types kept_types p

-- ---- the points of items

module _ {X : Type 0} (name : X → List (List ℕ)) (asks : X → RecordType → Option Action) (list : ItemList) where
  pub record IsOfItem (i : ℕ) (xs : List X) (p : Point) : Type 0 where
    pub number : ℕ
    pub item : X
    pub at : slice_get xs number ≡ Some item
    pub at_place : p.place ≡ place_in list (i + number)
    pub named : p.name ≡ name item
    pub asked : asks item p.record_type ≡ Some p.action

  in_items : (i : ℕ) (xs : List X) (p : Point) → In p (points_from name asks list i xs) ↔ IsOfItem i xs p
  in_items i [] p = (λ h. absurd h, λ h. let e = h.at in absurd cc)
  in_items i (x ∷ xs) p =
      let both = in_append p (item_points (place_in list i) (name x) (asks x)) (points_from name asks list (suc i) xs) in
      let one = in_item (place_in list i) (name x) (asks x) p in
      let rest = in_items (suc i) xs p in
      (λ h. ⊎_elim (λ j. here (one.0 j)) (λ j. later (rest.0 j)) (both.0 h), λ h. both.1 (back one.1 rest.1 h))
    where
      here : IsOf (place_in list i) (name x) (asks x) kept_types p → IsOfItem i (x ∷ xs) p
      here h =
          let n : i ≡ i + 0 = omega arith in record {
            number = 0;
            item = x;
            at = refl;
            at_place = h.at_place ∙ ap (place_in list) n;
            named = h.named;
            asked = h.asked;
          }

      later : IsOfItem (suc i) xs p → IsOfItem i (x ∷ xs) p
      later h =
          let n : suc i + h.number ≡ i + suc h.number = omega arith in record {
            number = suc h.number;
            item = h.item;
            at = h.at;
            at_place = h.at_place ∙ ap (place_in list) n;
            named = h.named;
            asked = h.asked;
          }

      by_number : (k : ℕ) (y : X) → slice_get (x ∷ xs) k ≡ Some y → p.place ≡ place_in list (i + k) → p.name ≡ name y → asks y p.record_type ≡ Some p.action → IsOf (place_in list i) (name x) (asks x) kept_types p ⊎ IsOfItem (suc i) xs p
      by_number zero y at place named asked =
          let same : y ≡ x = sym (same_Some x y at) in
          let n : i + 0 ≡ i = omega arith in
          inl (record {
            at_place = place ∙ ap (place_in list) n;
            named = named ∙ ap name same;
            among = contained kept_types p.record_type (each_kept p.record_type);
            asked = subst (λ (z : X). asks z p.record_type ≡ Some p.action) same asked;
          })
      by_number (suc k) y at place named asked =
          let n : i + suc k ≡ suc i + k = omega arith in
          inr (record { number = k; item = y; at = at; at_place = place ∙ ap (place_in list) n; named = named; asked = asked })

      back : (IsOf (place_in list i) (name x) (asks x) kept_types p → In p (item_points (place_in list i) (name x) (asks x))) → (IsOfItem (suc i) xs p → In p (points_from name asks list (suc i) xs)) → IsOfItem i (x ∷ xs) p → In p (item_points (place_in list i) (name x) (asks x)) ⊎ In p (points_from name asks list (suc i) xs)
      back one rest h =
          ⊎_elim
          (λ (w : IsOf (place_in list i) (name x) (asks x) kept_types p). inl (one w))
          (λ (w : IsOfItem (suc i) xs p). inr (rest w))
          (by_number h.number h.item h.at h.at_place h.named h.asked)

-- ---- which points a footprint has

module _ (origin : List (List ℕ)) (update : UpdateOf) (p : Point) where
  abbrev tests : List Point
  tests = points_from tested_name prerequisite_action lists.Prerequisites 0 update.prerequisites

  abbrev acts : List Point
  acts = points_from acted_name (operation_action origin) lists.Operations 0 update.operations

  tested : IsOfItem tested_name prerequisite_action lists.Prerequisites 0 update.prerequisites p → AsksIn p.place.list origin update p
  tested h =
      let item : h.number ≡ p.place.item = omega (arith, ap (λ (x : Place). x.item) h.at_place) in
      subst (λ (l : ItemList). AsksIn l origin update p) (sym (ap (λ (x : Place). x.list) h.at_place))
      (h.item, ap (slice_get update.prerequisites) (sym item) ∙ h.at, h.named, (prerequisite_asked h.item p.record_type p.action).0 h.asked)

  acted : IsOfItem acted_name (operation_action origin) lists.Operations 0 update.operations p → AsksIn p.place.list origin update p
  acted h =
      let item : h.number ≡ p.place.item = omega (arith, ap (λ (x : Place). x.item) h.at_place) in
      subst (λ (l : ItemList). AsksIn l origin update p) (sym (ap (λ (x : Place). x.list) h.at_place))
      (h.item, ap (slice_get update.operations) (sym item) ∙ h.at, h.named, (operation_asked origin h.item p.record_type p.action).0 h.asked)

  placed : (l : ItemList) → p.place.list ≡ l → p.place ≡ place_in l (0 + p.place.item)
  placed l is =
      let n : p.place.item ≡ 0 + p.place.item = omega arith in
      ap (λ (m : ItemList). place_in m p.place.item) is ∙ ap (place_in l) n

  from_list : (l : ItemList) → p.place.list ≡ l → AsksIn l origin update p → In p tests ⊎ In p acts
  from_list lists.Prerequisites is (x, at, named, asked) =
      inl ((in_items tested_name prerequisite_action lists.Prerequisites 0 update.prerequisites p).1 (record {
        number = p.place.item;
        item = x;
        at = at;
        at_place = placed lists.Prerequisites is;
        named = named;
        asked = (prerequisite_asked x p.record_type p.action).1 asked;
      }))
  from_list lists.Operations is (x, at, named, asked) =
      inr ((in_items acted_name (operation_action origin) lists.Operations 0 update.operations p).1 (record {
        number = p.place.item;
        item = x;
        at = at;
        at_place = placed lists.Operations is;
        named = named;
        asked = (operation_asked origin x p.record_type p.action).1 asked;
      }))

  told : Contains (footprint origin update) p ↔ AsksIn p.place.list origin update p
  told =
      let both = in_append p tests acts in (
        λ c.
            ⊎_elim
            (λ (i : In p tests). tested ((in_items tested_name prerequisite_action lists.Prerequisites 0 update.prerequisites p).0 i))
            (λ (i : In p acts). acted ((in_items acted_name (operation_action origin) lists.Operations 0 update.operations p).0 i))
            (both.0 (contained (footprint origin update) p c)),
        λ a. contains (footprint origin update) p (both.1 (from_list p.place.list refl a)),
      )

pub are_asked : FootprintsAreAsked
are_asked = told

-- ---- in which order

abbrev Ordered : {X : Type 0} → (X → X → Type 0) → List X → Type 0
Ordered R [] = Unit {0}
Ordered {X} R (x ∷ xs) = ((y : X) → In y xs → R x y) × Ordered R xs

pairs : {X : Type 0} (R : X → X → Type 0) (xs : List X) → Ordered R xs → AllPairs R xs
pairs R [] o = λ i j d lt below. absurd (omega arith)
pairs {X} R (x ∷ xs) o = λ i j d lt below. at i j d lt below (pairs R xs o.1)
  where
    at : (i j : ℕ) (d : X) → i < j → j < suc (length xs) → AllPairs R xs → R (get_or (x ∷ xs) i d) (get_or (x ∷ xs) j d)
    at i zero d lt below rest = absurd (omega arith)
    at zero (suc j) d lt below rest = o.0 (get_or xs j d) (in_at xs j d (omega arith))
    at (suc i) (suc j) d lt below rest = rest i j d (omega arith) (omega arith)

ordered_append : {X : Type 0} (R : X → X → Type 0) (xs ys : List X) → Ordered R xs → Ordered R ys → ((x y : X) → In x xs → In y ys → R x y) → Ordered R (xs ++ ys)
ordered_append R [] ys o p across = p
ordered_append {X} R (x ∷ xs) ys o p across = (
  λ y i. ⊎_elim (λ (j : In y xs). o.0 y j) (λ (j : In y ys). across x y (inl refl) j) ((in_append y xs ys).0 i),
  ordered_append R xs ys o.1 p (λ z y i j. across z y (inr i) j),
)

both_true : (a b : Bool) → (a && b) ≡ true → (a ≡ true) × (b ≡ true)
both_true true b e = (refl, e)
both_true false b e = absurd cc

above : (n : ℕ) (ts : List RecordType) → list_all (λ t. nat_lt n (type_number t)) ts ≡ true → (t : RecordType) → In t ts → n < type_number t
above n [] e t i = absurd i
above n (s ∷ ts) e t (inl is) =
    let h : nat_lt n (type_number s) ≡ true = (both_true (nat_lt n (type_number s)) (list_all (λ t. nat_lt n (type_number t)) ts) e).0 in
    let below : n < type_number s = grind (arith, nat_tests) in
    omega (arith, ap type_number is)
above n (s ∷ ts) e t (inr i) = above n ts (both_true (nat_lt n (type_number s)) (list_all (λ t. nat_lt n (type_number t)) ts) e).1 t i

abbrev Numbered : RecordType → RecordType → Type 0
Numbered s t = type_number s < type_number t

-- types in the order of their numbers
is_numbered : List RecordType → Bool
is_numbered [] = true
is_numbered (t ∷ ts) = list_all (λ s. nat_lt (type_number t) (type_number s)) ts && is_numbered ts

by_numbers : (ts : List RecordType) → is_numbered ts ≡ true → Ordered Numbered ts
unfolding is_numbered
by_numbers [] e = tt
by_numbers (t ∷ ts) e =
    let both = both_true (list_all (λ s. nat_lt (type_number t) (type_number s)) ts) (is_numbered ts) e in
    (above (type_number t) ts both.0, by_numbers ts both.1)

kept_ordered : Ordered Numbered kept_types
unfolding is_numbered
kept_ordered = by_numbers kept_types refl

module _ (place : Place) (name : List (List ℕ)) (asks : RecordType → Option Action) where
  one_before : (t : RecordType) (ts : List RecordType) (o : Option Action) → ((s : RecordType) → In s ts → Numbered t s) → Ordered IsBefore (points_at place name asks ts) → Ordered IsBefore (cons_option (option_map (λ a. made place name t a) o) (points_at place name asks ts))
  one_before t ts None less rest = rest
  one_before t ts (Some a) less rest = (
    λ p i.
        let h = (in_types place name asks ts p).0 i in
        inr (sym (ap (λ (x : Place). x.list) h.at_place), inr (sym (ap (λ (x : Place). x.item) h.at_place), less p.record_type h.among)),
    rest,
  )

  types_ordered : (ts : List RecordType) → Ordered Numbered ts → Ordered IsBefore (points_at place name asks ts)
  types_ordered [] o = tt
  types_ordered (t ∷ ts) o = one_before t ts (asks t) o.0 (types_ordered ts o.1)

  item_ordered : Ordered IsBefore (item_points place name asks)
  unfolding item_points
  item_ordered = types_ordered kept_types kept_ordered

module _ {X : Type 0} (name : X → List (List ℕ)) (asks : X → RecordType → Option Action) (list : ItemList) where
  items_ordered : (i : ℕ) (xs : List X) → Ordered IsBefore (points_from name asks list i xs)
  items_ordered i [] = tt
  items_ordered i (x ∷ xs) =
      ordered_append IsBefore (item_points (place_in list i) (name x) (asks x)) (points_from name asks list (suc i) xs) (item_ordered (place_in list i) (name x) (asks x)) (items_ordered (suc i) xs)
      (λ p q here later.
      let h = (in_item (place_in list i) (name x) (asks x) p).0 here in
      let l = (in_items name asks list (suc i) xs q).0 later in
      let first : p.place.item ≡ i = ap (λ (y : Place). y.item) h.at_place in
      let second : q.place.item ≡ suc i + l.number = ap (λ (y : Place). y.item) l.at_place in
      inr (ap (λ (y : Place). y.list) h.at_place ∙ sym (ap (λ (y : Place). y.list) l.at_place), inl (omega arith)))

in_order : (origin : List (List ℕ)) (update : UpdateOf) → Ordered IsBefore (footprint origin update)
in_order origin update =
    ordered_append IsBefore (points_from tested_name prerequisite_action lists.Prerequisites 0 update.prerequisites) (points_from acted_name (operation_action origin) lists.Operations 0 update.operations) (items_ordered tested_name prerequisite_action lists.Prerequisites 0 update.prerequisites) (items_ordered acted_name (operation_action origin) lists.Operations 0 update.operations)
    (λ p q first second.
    let h = (in_items tested_name prerequisite_action lists.Prerequisites 0 update.prerequisites p).0 first in
    let l = (in_items acted_name (operation_action origin) lists.Operations 0 update.operations q).0 second in
    let a : list_number p.place.list ≡ 0 = ap (λ (y : Place). list_number y.list) h.at_place in
    let b : list_number q.place.list ≡ 1 = ap (λ (y : Place). list_number y.list) l.at_place in
    inl (omega arith))

pub are_in_order : FootprintsAreInOrder
are_in_order origin update = pairs IsBefore (footprint origin update) (in_order origin update)
