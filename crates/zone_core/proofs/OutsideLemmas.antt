-- What is told of items outside the origin is the first of them.
use Rattle.std.proofs.Common.{◌≡◌, ◌↔◌, ℕ, zero, suc, ◌+◌, ◌<◌, List, [], ◌∷◌, length, Bool, true, false, cond, not, nat_lt, Option, Some, None, inl, inr, refl, sym, ap, subst, ◌∙◌, arith}
use Rattle.std.specs.Prelude.{slice_get}
use Rattle.std.specs.List.{position, position_or_len}
use Rattle.std.specs.Option.{option_map, option_or}
use Rattle.std.specs.Bool.{Decides}
use Rattle.std.proofs.lemmas.Bool.Decides.{Decides-ltb, Decides-not}
use Rattle.std.proofs.lemmas.Option.{slice_get_within}
use Rattle.dns_names.specs.Labels.{IsWithin, is_within}
use Rattle.dns_names.proofs.NameLemmas.{is_within-Decides}
use Rattle.zone_core.specs.declared.update.ItemList.{ItemList}
use Rattle.zone_core.specs.declared.update.ItemList.TheVariants as lists
use Rattle.zone_core.specs.declared.update.Place.{Place}
use Rattle.zone_core.specs.Updates.{UpdateOf, tested_name, acted_name, place_in, IsNamed, IsFirstOutside, OutsidesAreFirst}
use Rattle.zone_core.proofs.UpdateLemmas.{within_from}
use Rattle.zone_core.proofs.UnmetLemmas.{at_each}

-- ---- the first that passes a test

module _ {A : Type 0} (p : A → Bool) where
  -- an item passes, and none before it does
  record IsAt (xs : List A) (i : ℕ) : Type 0 where
    x : A
    at : slice_get xs i ≡ Some x
    passes : p x ≡ true
    before : (j : ℕ) (y : A) → slice_get xs j ≡ Some y → j < i → p y ≡ false

  -- with one that does not pass before them
  behind : (y : A) (ys : List A) (i : ℕ) → p y ≡ false → IsAt ys i → IsAt (y ∷ ys) (suc i)
  behind y ys i e a = record { x = a.x; at = a.at; passes = a.passes; before = earlier }
    where
      earlier : (j : ℕ) (z : A) → slice_get (y ∷ ys) j ≡ Some z → j < suc i → p z ≡ false
      earlier zero z at less = let same : y ≡ z = cc in subst (λ w. p w ≡ false) same e
      earlier (suc j) z at less = a.before j z at (omega (arith, less))

  len_at : (xs : List A) → position_or_len p xs < length xs → IsAt xs (position_or_len p xs)
  len_at [] less = absurd (omega (arith, less))
  len_at (y ∷ ys) less = by_test (p y) refl less (len_at ys)
    where
      by_test : (b : Bool) → p y ≡ b → cond (not b) (1 + position_or_len p ys) 0 < suc (length ys) → (position_or_len p ys < length ys → IsAt ys (position_or_len p ys))
          → IsAt (y ∷ ys) (cond (not b) (1 + position_or_len p ys) 0)
      by_test true e low rest = record { x = y; at = refl; passes = e; before = λ j z at lower. absurd (omega (arith, lower)) }
      by_test false e low rest =
          let next : suc (position_or_len p ys) ≡ 1 + position_or_len p ys = omega arith in
          subst (IsAt (y ∷ ys)) next (behind y ys (position_or_len p ys) e (rest (omega (arith, low))))

  at_len : (xs : List A) (i : ℕ) (x : A) → slice_get xs i ≡ Some x → p x ≡ true → ((j : ℕ) (y : A) → slice_get xs j ≡ Some y → j < i → p y ≡ false) → position_or_len p xs ≡ i
  at_len [] i x at passes before = absurd cc
  at_len (y ∷ ys) zero x at passes before =
      let same : y ≡ x = cc in
      ap (λ b. cond (not b) (1 + position_or_len p ys) 0) (ap p same ∙ passes)
  at_len (y ∷ ys) (suc i) x at passes before =
      let rest = at_len ys i x at passes (λ j z there less. before (suc j) z there (omega (arith, less))) in
      let next : 1 + position_or_len p ys ≡ suc i = omega (arith, rest) in
      ap (λ b. cond (not b) (1 + position_or_len p ys) 0) (before zero y refl (omega arith)) ∙ next

  -- what `position` tells
  position_is : (xs : List A) (i : ℕ) → (position p xs ≡ Some i) ↔ IsAt xs i
  position_is xs i = (
    by_test (nat_lt (position_or_len p xs) (length xs)) (Decides-ltb (position_or_len p xs) (length xs)),
    λ a.
        let same = at_len xs i a.x a.at a.passes a.before in
        let inside = slice_get_within xs i a.x a.at in
        ap (λ b. cond b (Some (position_or_len p xs)) None) ((Decides-ltb (position_or_len p xs) (length xs)).1 (omega (arith, same, inside))) ∙ ap (λ (n : ℕ). Some n) same,
  )
    where
      by_test : (b : Bool) → Decides b (position_or_len p xs < length xs) → cond b (Some (position_or_len p xs)) None ≡ Some i → IsAt xs i
      by_test true d e = let same : position_or_len p xs ≡ i = cc in subst (IsAt xs) same (len_at xs (d.0 refl))
      by_test false d e = absurd cc

  position_none : (xs : List A) → ((j : ℕ) (y : A) → slice_get xs j ≡ Some y → p y ≡ false) → (o : Option ℕ) → position p xs ≡ o → position p xs ≡ None
  position_none xs none None e = e
  position_none xs none (Some i) e =
      let a = (position_is xs i).0 e in
      let f : true ≡ false = sym a.passes ∙ none i a.x a.at in
      absurd cc

-- ---- names outside the origin

module _ (origin : List (List ℕ)) where
  abbrev out_of : List (List ℕ) → Bool
  out_of name = not (is_within name origin)

  is_out : (name : List (List ℕ)) → Decides (out_of name) (¬ IsWithin name origin)
  is_out name = Decides-not (is_within name origin) (is_within-Decides name origin)

  is_in : (name : List (List ℕ)) → out_of name ≡ false → IsWithin name origin
  is_in name e = (is_within-Decides name origin).0 (turned (is_within name origin) e)
    where
      turned : (b : Bool) → not b ≡ false → b ≡ true
      turned true f = refl
      turned false f = absurd cc

  not_out : (name : List (List ℕ)) → IsWithin name origin → out_of name ≡ false
  not_out name is = ap not ((is_within-Decides name origin).1 is)

  module _ (update : UpdateOf) where
    abbrev tests : Option ℕ
    tests = position (λ q. out_of (tested_name q)) update.prerequisites

    abbrev acts : Option ℕ
    acts = position (λ op. out_of (acted_name op)) update.operations

    abbrev Told : Place → Type 0
    Told place = option_or (option_map (place_in lists.Prerequisites) tests) (option_map (place_in lists.Operations) acts) ≡ Some place

    -- items before one among prerequisites
    first_test : (i : ℕ) → tests ≡ Some i → IsFirstOutside origin update (place_in lists.Prerequisites i)
    first_test i e =
        let a = (position_is (λ q. out_of (tested_name q)) update.prerequisites i).0 e in
        record {
          name = tested_name a.x;
          named = (a.x, a.at, refl);
          outside = (is_out (tested_name a.x)).0 a.passes;
          first = λ earlier other before named. (elim before [
            | inl apart ↦ (let bad : lists.Prerequisites ≡ lists.Operations = apart.1 in absurd cc)
            | inr both ↦
                (let there = subst (λ l. IsNamed l update earlier.item other) both.0 named in
                subst (λ n. IsWithin n origin) there.2 (is_in (tested_name there.0) (a.before earlier.item there.0 there.1 both.1)))
          ]);
        }

    first_act : tests ≡ None → (i : ℕ) → acts ≡ Some i → IsFirstOutside origin update (place_in lists.Operations i)
    first_act none i e =
        let a = (position_is (λ op. out_of (acted_name op)) update.operations i).0 e in
        let inside = (within_from tested_name origin update.prerequisites).0 none in
        record {
          name = acted_name a.x;
          named = (a.x, a.at, refl);
          outside = (is_out (acted_name a.x)).0 a.passes;
          first = λ earlier other before named. (elim before [
            | inl apart ↦
                (let there = subst (λ l. IsNamed l update earlier.item other) apart.0 named in
                subst (λ n. IsWithin n origin) there.2 (at_each (λ q. IsWithin (tested_name q) origin) update.prerequisites earlier.item there.0 inside there.1))
            | inr both ↦
                (let there = subst (λ l. IsNamed l update earlier.item other) both.0 named in
                subst (λ n. IsWithin n origin) there.2 (is_in (acted_name there.0) (a.before earlier.item there.0 there.1 both.1)))
          ]);
        }

    told_first : (place : Place) → Told place → IsFirstOutside origin update place
    told_first place e = by_tests tests refl acts refl e
      where
        by_tests : (o : Option ℕ) → tests ≡ o → (p : Option ℕ) → acts ≡ p → option_or (option_map (place_in lists.Prerequisites) o) (option_map (place_in lists.Operations) p) ≡ Some place → IsFirstOutside origin update place
        by_tests (Some i) is p also f = let same : place_in lists.Prerequisites i ≡ place = cc in subst (IsFirstOutside origin update) same (first_test i is)
        by_tests None is (Some i) also f = let same : place_in lists.Operations i ≡ place = cc in subst (IsFirstOutside origin update) same (first_act is i also)
        by_tests None is None also f = absurd cc

    first_told : (list : ItemList) (i : ℕ) → IsFirstOutside origin update (place_in list i) → Told (place_in list i)
    first_told lists.Prerequisites i f =
        let named = f.named in
        let out : out_of (tested_name named.0) ≡ true = ap out_of named.2 ∙ (is_out f.name).1 f.outside in
        let found : tests ≡ Some i = (position_is (λ q. out_of (tested_name q)) update.prerequisites i).1 (record {
          x = named.0;
          at = named.1;
          passes = out;
          before = λ j q at less. not_out (tested_name q) (f.first (place_in lists.Prerequisites j) (tested_name q) (inr (refl, less)) (q, at, refl));
        }) in
        ap (λ o. option_or (option_map (place_in lists.Prerequisites) o) (option_map (place_in lists.Operations) acts)) found
    first_told lists.Operations i f =
        let named = f.named in
        let out : out_of (acted_name named.0) ≡ true = ap out_of named.2 ∙ (is_out f.name).1 f.outside in
        let none : tests ≡ None =
        position_none (λ q. out_of (tested_name q)) update.prerequisites
        (λ j q at. not_out (tested_name q) (f.first (place_in lists.Prerequisites j) (tested_name q) (inl (refl, refl)) (q, at, refl))) tests refl
        in
        let found : acts ≡ Some i = (position_is (λ op. out_of (acted_name op)) update.operations i).1 (record {
          x = named.0;
          at = named.1;
          passes = out;
          before = λ j op at less. not_out (acted_name op) (f.first (place_in lists.Operations j) (acted_name op) (inr (refl, less)) (op, at, refl));
        }) in
        (λ k. option_or (option_map (place_in lists.Prerequisites) (none k)) (option_map (place_in lists.Operations) (found k)))

pub outsides_are_first : OutsidesAreFirst
outsides_are_first origin update place = (told_first origin update place, first_told origin update place.list place.item)
