-- The rows are in order.
use Rattle.std.proofs.Common.{◌≡◌, List, [], ◌∷◌, ◌++◌, map, Bool, true, false, ◌||◌, cond, refl, sym, ap, subst, ◌∙◌, inl, inr}
use Rattle.std.specs.declared.cmp.Ordering.{Ordering}
use Rattle.std.specs.declared.cmp.Ordering.TheVariants.{Less}
use Rattle.std.specs.Ordering.{nat_cmp, ordering_then}
use Rattle.std.specs.Cmp.{tied_itself}
use Rattle.std.specs.List.{AllByRecursion, flat_map}
use Rattle.std.specs.List.Sorted.{IsStrictlySortedBy}
use Rattle.std.proofs.lemmas.List.{map-append}
use Rattle.std.proofs.lemmas.Grind.{flat_map-append}
use Rattle.dns_names.specs.Order.{canonical_cmp, canonical_total}
use Rattle.dns_data.specs.declared.record.Record.{Record}
use Rattle.zone_core.proofs.MetLemmas.{Among, among_append}
use Rattle.zone_answers.specs.declared.query_type.QueryType.{QueryType}
use Rattle.zone_answers.specs.declared.changes.QuestionGroup.{QuestionGroup}
use Rattle.zone_answers.specs.declared.changes.QuestionGroup.TheVariants.{At, Others}
use Rattle.zone_answers.specs.declared.changes.ChangedAnswers.{ChangedAnswers}
use Rattle.zone_answers.specs.Answers.{Name}
use Rattle.zone_answers.specs.AnswerTests.{is_there}
use Rattle.zone_answers.specs.AnswerChanges.{name_in, place_in, group_cmp}
use Rattle.zone_answers.specs.ChangeTests.{RowOf, row_of, types_in, if_types, row_for, groups_at, rows_for}

-- ---- lists

all_both : {X : Type 0} (P : X → Type 0) (xs ys : List X) → AllByRecursion P xs → ((y : X) → Among y ys → P y) → AllByRecursion P (xs ++ ys)
all_both P [] [] all each = tt
all_both P [] (y ∷ ys) all each = (each y (inl refl), all_both P [] ys tt (λ z a. each z (inr a)))
all_both P (x ∷ xs) ys all each = (all.0, all_both P xs ys all.1 each)

all_among : {X : Type 0} (P : X → Type 0) (xs : List X) (x : X) → AllByRecursion P xs → Among x xs → P x
all_among P [] x all a = absurd a
all_among P (y ∷ ys) x all a = (elim a [ inl e ↦ subst P (sym e) all.0 | inr later ↦ all_among P ys x all.1 later ])

sorted_both : {X : Type 0} (c : X → X → Ordering) (xs ys : List X) → IsStrictlySortedBy c xs → IsStrictlySortedBy c ys → ((x y : X) → Among x xs → Among y ys → c x y ≡ Less)
    → IsStrictlySortedBy c (xs ++ ys)
unfolding IsStrictlySortedBy
sorted_both c [] ys p q before = q
sorted_both c (x ∷ xs) ys p q before =
    (all_both (λ y. c x y ≡ Less) xs ys p.0 (λ y a. before x y (inl refl) a), sorted_both c xs ys p.1 q (λ z y a b. before z y (inr a) b))

flat_flat : {X Y Z : Type 0} (f : X → List Y) (g : Y → List Z) (xs : List X) → flat_map (λ x. flat_map g (f x)) xs ≡ flat_map g (flat_map f xs)
flat_flat f g [] = refl
flat_flat f g (x ∷ xs) = ap (λ l. flat_map g (f x) ++ l) (flat_flat f g xs) ∙ sym (flat_map-append g (f x) (flat_map f xs))

map_map : {X Y Z : Type 0} (f : X → Y) (g : Y → Z) (xs : List X) → map (λ x. g (f x)) xs ≡ map g (map f xs)
map_map f g [] = refl
map_map f g (x ∷ xs) = ap (λ l. g (f x) ∷ l) (map_map f g xs)

-- ---- groups

by_name : (x y : QuestionGroup) → canonical_cmp (name_in x) (name_in y) ≡ Less → group_cmp x y ≡ Less
by_name x y e = ap (λ o. ordering_then o (nat_cmp (place_in x) (place_in y))) e

by_place : (n : Name) → group_cmp (At n) (Others n) ≡ Less
by_place n = ap (λ o. ordering_then o (nat_cmp 0 1)) (tied_itself canonical_total n)

abbrev group_of : RowOf → QuestionGroup
group_of row = row.group

module _ (origin : Name) (old new : List Record) where
  row_group : (g : QuestionGroup) (ts : List QueryType) (y : QuestionGroup) → Among y (map group_of (if_types origin old new g ts)) → y ≡ g
  row_group g [] y a = absurd a
  row_group g (t ∷ ts) y a = (elim a [ inl same ↦ same | inr none ↦ absurd none ])

  row_sorted : (g : QuestionGroup) (ts : List QueryType) → IsStrictlySortedBy group_cmp (map group_of (if_types origin old new g ts))
  unfolding IsStrictlySortedBy
  row_sorted g [] = tt
  row_sorted g (t ∷ ts) = (tt, tt)

  -- the groups of rows are among those that rows were made for
  groups_among : (gs : List QuestionGroup) (y : QuestionGroup) → Among y (map group_of (flat_map (row_for origin old new) gs)) → Among y gs
  groups_among [] y a = absurd a
  groups_among (g ∷ gs) y a =
      let row = row_for origin old new g in
      let rest = flat_map (row_for origin old new) gs in
      (elim ((among_append (map group_of row) (map group_of rest) y).0 (subst (λ (l : List QuestionGroup). Among y l) (map-append group_of row rest) a)) [
        | inl here ↦ inl (row_group g (types_in origin old new g) y here)
        | inr later ↦ inr (groups_among gs y later)
      ])

  groups_sorted : (gs : List QuestionGroup) → IsStrictlySortedBy group_cmp gs → IsStrictlySortedBy group_cmp (map group_of (flat_map (row_for origin old new) gs))
  unfolding IsStrictlySortedBy
  groups_sorted [] p = tt
  groups_sorted (g ∷ gs) p =
      let row = row_for origin old new g in
      let rest = flat_map (row_for origin old new) gs in
      subst (λ (l : List QuestionGroup). IsStrictlySortedBy group_cmp l) (sym (map-append group_of row rest))
      (sorted_both group_cmp (map group_of row) (map group_of rest) (row_sorted g (types_in origin old new g)) (groups_sorted gs p.1) (λ x y a b.
      subst (λ (z : QuestionGroup). group_cmp z y ≡ Less) (sym (row_group g (types_in origin old new g) x a)) (all_among (λ z. group_cmp g z ≡ Less) gs y p.0 (groups_among gs y b))))

  at_named : (n : Name) (y : QuestionGroup) → Among y (groups_at origin old new n) → name_in y ≡ n
  at_named n y a = (elim a [ inl same ↦ ap name_in same | inr rest ↦ by_test (is_there old n || is_there new n) rest ])
    where
      by_test : (b : Bool) → Among y (cond b (Others n ∷ []) []) → name_in y ≡ n
      by_test true m = (elim m [ inl same ↦ ap name_in same | inr none ↦ absurd none ])
      by_test false m = absurd m

  at_sorted : (n : Name) → IsStrictlySortedBy group_cmp (groups_at origin old new n)
  unfolding IsStrictlySortedBy
  at_sorted n = by_test (is_there old n || is_there new n)
    where
      by_test : (b : Bool) → IsStrictlySortedBy group_cmp (At n ∷ cond b (Others n ∷ []) [])
      by_test true = ((by_place n, tt), (tt, tt))
      by_test false = (tt, tt)

  all_named : (names : List Name) (y : QuestionGroup) → Among y (flat_map (groups_at origin old new) names) → Among (name_in y) names
  all_named [] y a = absurd a
  all_named (n ∷ names) y a = (elim ((among_append (groups_at origin old new n) (flat_map (groups_at origin old new) names) y).0 a) [
    | inl here ↦ inl (at_named n y here)
    | inr later ↦ inr (all_named names y later)
  ])

  all_sorted : (names : List Name) → IsStrictlySortedBy canonical_cmp names → IsStrictlySortedBy group_cmp (flat_map (groups_at origin old new) names)
  unfolding IsStrictlySortedBy
  all_sorted [] p = tt
  all_sorted (n ∷ names) p =
      sorted_both group_cmp (groups_at origin old new n) (flat_map (groups_at origin old new) names) (at_sorted n) (all_sorted names p.1) (λ x y a b.
      by_name x y (subst (λ (m : Name). canonical_cmp m (name_in y) ≡ Less) (sym (at_named n x a)) (all_among (λ m. canonical_cmp n m ≡ Less) names (name_in y) p.0 (all_named names y b))))

  pub rows_sorted : (names : List Name) → IsStrictlySortedBy canonical_cmp names → (rows : List ChangedAnswers) → map row_of rows ≡ rows_for origin old new names
      → IsStrictlySortedBy group_cmp (map (λ (row : ChangedAnswers). row.group) rows)
  rows_sorted names order rows are =
      subst (λ (l : List QuestionGroup). IsStrictlySortedBy group_cmp l)
      (sym (map_map row_of group_of rows ∙ ap (map group_of) (are ∙ flat_flat (groups_at origin old new) (row_for origin old new) names)))
      (groups_sorted (flat_map (groups_at origin old new) names) (all_sorted names order))
