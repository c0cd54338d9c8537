-- The rows are in order, each of a known name, and with types.
use Rattle.std.proofs.Common.{◌≡◌, ◌≢◌, ℕ, List, [], ◌∷◌, ◌++◌, map, append-nil, refl, sym, ap, subst, ◌∙◌, inl, inr}
use Rattle.std.specs.declared.cmp.Ordering.{Ordering}
use Rattle.std.specs.declared.cmp.Ordering.TheVariants.{Less}
use Rattle.std.specs.Ordering.{nat_cmp, ordering_then}
use Rattle.std.specs.Cmp.{tied_itself}
use Rattle.std.specs.List.{AllByRecursion, Contains, flat_map}
use Rattle.std.specs.List.Sorted.{IsStrictlySortedBy}
use Rattle.std.proofs.lemmas.List.{map-append}
use Rattle.std.proofs.lemmas.Grind.{flat_map-append}
use Rattle.dns_names.specs.Order.{canonical_cmp, canonical_total}
use Rattle.dns_data.specs.declared.record.Record.{Record}
use Rattle.grant_policy.specs.declared.rule.Rule.{Rule}
use Rattle.zone_core.proofs.MetLemmas.{Among, among_of, among_append}
use Rattle.zone_answers.specs.declared.query_type.QueryType.{QueryType}
use Rattle.zone_answers.specs.AnswerChanges.{AreTypes}
use Rattle.zone_answers.specs.Answers.{Name}
use Rattle.answer_reach.specs.declared.reach_map.ReachMap.{ReachMap}
use Rattle.answer_reach.specs.declared.reached.ReachedNames.{ReachedNames}
use Rattle.answer_reach.specs.declared.reached.ReachedNames.TheVariants.{At, Others}
use Rattle.answer_reach.specs.declared.reached.ReachedAnswers.{ReachedAnswers}
use Rattle.answer_reach.specs.ReachedGroups.{name_in, place_in, group_cmp, IsGroup}
use Rattle.answer_reach.specs.ReachTests.{RowOf, row_of, reaches_in, types_in, if_types, row_for, rows_for, AreRowsOf}
use Rattle.answer_reach.proofs.NamedLemmas.{known_is}

-- ---- lists

all_both : {X : Type 0} (P : X → Type 0) (xs ys : List X) → AllByRecursion P xs → ((y : X) → Among y ys → P y) → AllByRecursion P (xs ++ ys)
all_both P [] [] all each = tt
all_both P [] (y ∷ ys) all each = (each y (inl refl), all_both P [] ys tt (λ z a. each z (inr a)))
all_both P (x ∷ xs) ys all each = (all.0, all_both P xs ys all.1 each)

all_among : {X : Type 0} (P : X → Type 0) (xs : List X) (x : X) → AllByRecursion P xs → Among x xs → P x
all_among P [] x all a = absurd a
all_among P (y ∷ ys) x all a = (elim a [ inl e ↦ subst P (sym e) all.0 | inr later ↦ all_among P ys x all.1 later ])

sorted_both : {X : Type 0} (c : X → X → Ordering) (xs ys : List X) → IsStrictlySortedBy c xs → IsStrictlySortedBy c ys → ((x y : X) → Among x xs → Among y ys → c x y ≡ Less)
    → IsStrictlySortedBy c (xs ++ ys)
unfolding IsStrictlySortedBy
sorted_both c [] ys p q before = q
sorted_both c (x ∷ xs) ys p q before =
    (all_both (λ y. c x y ≡ Less) xs ys p.0 (λ y a. before x y (inl refl) a), sorted_both c xs ys p.1 q (λ z y a b. before z y (inr a) b))

map_map : {X Y Z : Type 0} (f : X → Y) (g : Y → Z) (xs : List X) → map (λ x. g (f x)) xs ≡ map g (map f xs)
map_map f g [] = refl
map_map f g (x ∷ xs) = ap (λ l. g (f x) ∷ l) (map_map f g xs)

-- ---- groups

by_name : (x y : ReachedNames) → canonical_cmp (name_in x) (name_in y) ≡ Less → group_cmp x y ≡ Less
by_name x y e = ap (λ o. ordering_then o (nat_cmp (place_in x) (place_in y))) e

by_place : (n : Name) → group_cmp (At n) (Others n) ≡ Less
by_place n = ap (λ o. ordering_then o (nat_cmp 0 1)) (tied_itself canonical_total n)

abbrev group_of : RowOf → ReachedNames
group_of row = row.names

abbrev groups_at : Name → List ReachedNames
groups_at n = At n ∷ Others n ∷ []

module _ (rules : List Rule) (caller : List ℕ) (origin : Name) (rs : List Record) (m : ReachMap) where
  row_group : (g : ReachedNames) (ts : List QueryType) (y : ReachedNames) → Among y (map group_of (if_types g ts)) → y ≡ g
  row_group g [] y a = absurd a
  row_group g (t ∷ ts) y a = (elim a [ inl same ↦ same | inr none ↦ absurd none ])

  row_sorted : (g : ReachedNames) (ts : List QueryType) → IsStrictlySortedBy group_cmp (map group_of (if_types g ts))
  unfolding IsStrictlySortedBy
  row_sorted g [] = tt
  row_sorted g (t ∷ ts) = (tt, tt)

  -- the groups of rows are among those that rows were made for
  groups_among : (gs : List ReachedNames) (y : ReachedNames) → Among y (map group_of (flat_map (row_for rules caller origin rs m) gs)) → Among y gs
  groups_among [] y a = absurd a
  groups_among (g ∷ gs) y a =
      let row = row_for rules caller origin rs m g in
      let rest = flat_map (row_for rules caller origin rs m) gs in
      (elim ((among_append (map group_of row) (map group_of rest) y).0 (subst (λ (l : List ReachedNames). Among y l) (map-append group_of row rest) a)) [
        | inl here ↦ inl (row_group g (types_in rules caller origin rs m g) y here)
        | inr later ↦ inr (groups_among gs y later)
      ])

  groups_sorted : (gs : List ReachedNames) → IsStrictlySortedBy group_cmp gs → IsStrictlySortedBy group_cmp (map group_of (flat_map (row_for rules caller origin rs m) gs))
  unfolding IsStrictlySortedBy
  groups_sorted [] p = tt
  groups_sorted (g ∷ gs) p =
      let row = row_for rules caller origin rs m g in
      let rest = flat_map (row_for rules caller origin rs m) gs in
      subst (λ (l : List ReachedNames). IsStrictlySortedBy group_cmp l) (sym (map-append group_of row rest))
      (sorted_both group_cmp (map group_of row) (map group_of rest) (row_sorted g (types_in rules caller origin rs m g)) (groups_sorted gs p.1) (λ x y a b.
      subst (λ (z : ReachedNames). group_cmp z y ≡ Less) (sym (row_group g (types_in rules caller origin rs m g) x a)) (all_among (λ z. group_cmp g z ≡ Less) gs y p.0 (groups_among gs y b))))

  at_named : (n : Name) (y : ReachedNames) → Among y (groups_at n) → name_in y ≡ n
  at_named n y a = (elim a [ inl same ↦ ap name_in same | inr rest ↦ (elim rest [ inl same ↦ ap name_in same | inr none ↦ absurd none ]) ])

  at_sorted : (n : Name) → IsStrictlySortedBy group_cmp (groups_at n)
  unfolding IsStrictlySortedBy
  at_sorted n = ((by_place n, tt), (tt, tt))

  all_named : (names : List Name) (y : ReachedNames) → Among y (flat_map (groups_at) names) → Among (name_in y) names
  all_named [] y a = absurd a
  all_named (n ∷ names) y a = (elim ((among_append (groups_at n) (flat_map (groups_at) names) y).0 a) [
    | inl here ↦ inl (at_named n y here)
    | inr later ↦ inr (all_named names y later)
  ])

  all_sorted : (names : List Name) → IsStrictlySortedBy canonical_cmp names → IsStrictlySortedBy group_cmp (flat_map (groups_at) names)
  unfolding IsStrictlySortedBy
  all_sorted [] p = tt
  all_sorted (n ∷ names) p =
      sorted_both group_cmp (groups_at n) (flat_map (groups_at) names) (at_sorted n) (all_sorted names p.1) (λ x y a b.
      by_name x y (subst (λ (m : Name). canonical_cmp m (name_in y) ≡ Less) (sym (at_named n x a)) (all_among (λ m. canonical_cmp n m ≡ Less) names (name_in y) p.0 (all_named names y b))))

  rows_flat : (names : List Name) → rows_for rules caller origin rs m names ≡ flat_map (row_for rules caller origin rs m) (flat_map groups_at names)
  rows_flat [] = refl
  rows_flat (n ∷ names) =
      ap (λ (l : List RowOf). l ++ rows_for rules caller origin rs m names) (ap (λ (l : List RowOf). row_for rules caller origin rs m (At n) ++ l) (sym (append-nil (row_for rules caller origin rs m (Others n)))))
      ∙ ap (λ (l : List RowOf). flat_map (row_for rules caller origin rs m) (groups_at n) ++ l) (rows_flat names)
      ∙ sym (flat_map-append (row_for rules caller origin rs m) (groups_at n) (flat_map groups_at names))

  rows_sorted : (names : List Name) → IsStrictlySortedBy canonical_cmp names → (rows : List ReachedAnswers) → map row_of rows ≡ rows_for rules caller origin rs m names
      → IsStrictlySortedBy group_cmp (map (λ (row : ReachedAnswers). row.names) rows)
  rows_sorted names order rows are =
      subst (λ (l : List ReachedNames). IsStrictlySortedBy group_cmp l)
      (sym (map_map row_of group_of rows ∙ ap (map group_of) (are ∙ rows_flat names)))
      (groups_sorted (flat_map groups_at names) (all_sorted names order))

  -- a row is of a group, and has the types of it
  row_is : (g : ReachedNames) (ts : List QueryType) (row : RowOf) → Among row (if_types g ts) → (row.names ≡ g) × (row.types ≡ ts) × (ts ≢ [])
  row_is g [] row a = absurd a
  row_is g (t ∷ ts) row a = (elim a [ inl same ↦ (ap (λ (r : RowOf). r.names) same, ap (λ (r : RowOf). r.types) same, λ e. absurd cc) | inr none ↦ absurd none ])

  row_among : (gs : List ReachedNames) (row : RowOf) → Among row (flat_map (row_for rules caller origin rs m) gs) → (g : ReachedNames) × Among g gs × Among row (row_for rules caller origin rs m g)
  row_among [] row a = absurd a
  row_among (g ∷ gs) row a = (elim ((among_append (row_for rules caller origin rs m g) (flat_map (row_for rules caller origin rs m) gs) row).0 a) [
    | inl here ↦ (g, inl refl, here)
    | inr later ↦ (let found = row_among gs row later in (found.0, inr found.1, found.2))
  ])

  row_of_rows : (names : List Name) (rows : List ReachedAnswers) → map row_of rows ≡ rows_for rules caller origin rs m names → (row : ReachedAnswers) → Contains rows row
      → (g : ReachedNames) × Among (name_in g) names × (row.names ≡ g) × (row.types.items ≡ types_in rules caller origin rs m g) × (types_in rules caller origin rs m g ≢ [])
  row_of_rows names rows are row c =
      let mapped : Among (row_of row) (map row_of rows) = in_map rows row (among_of rows row c) in
      let found = row_among (flat_map groups_at names) (row_of row) (subst (λ (l : List RowOf). Among (row_of row) l) (are ∙ rows_flat names) mapped) in
      let is = row_is found.0 (types_in rules caller origin rs m found.0) (row_of row) found.2 in
      (found.0, all_named names found.0 found.1, is.0, is.1, is.2)
    where
      in_map : (rows : List ReachedAnswers) (row : ReachedAnswers) → Among row rows → Among (row_of row) (map row_of rows)
      in_map [] row a = absurd a
      in_map (x ∷ xs) row a = (elim a [ inl same ↦ inl (ap row_of same) | inr later ↦ inr (in_map xs row later) ])

module _ (rules : List Rule) (caller : List ℕ) (origin : Name) (rs : List Record) (rows : List ReachedAnswers) (are : AreRowsOf rules caller origin rs rows) where
  pub result_order : IsStrictlySortedBy group_cmp (map (λ (row : ReachedAnswers). row.names) rows)
  result_order = rows_sorted rules caller origin rs are.lists are.names are.known.order rows are.each

  pub result_groups : (row : ReachedAnswers) → Contains rows row → IsGroup origin rules rs row.names
  result_groups row c =
      let found = row_of_rows rules caller origin rs are.lists are.names rows are.each row c in
      subst (IsGroup origin rules rs) (sym found.2) (known_is origin rules rs are.names are.known (name_in found.0) found.1)

  pub result_types : (row : ReachedAnswers) → Contains rows row → AreTypes row.types.items
  result_types row c =
      let found = row_of_rows rules caller origin rs are.lists are.names rows are.each row c in
      record {
        any = λ e. found.4 (sym found.3 ∙ e);
        order = (reaches_in rules caller origin rs are.lists found.0, found.3);
      }
