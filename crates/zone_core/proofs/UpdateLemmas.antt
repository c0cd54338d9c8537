-- The first item of an update whose name is outside the zone.
use Rattle.std.proofs.Common.{◌≡◌, ◌↔◌, ℕ, suc, ◌+◌, List, [], ◌∷◌, length, Bool, true, false, cond, not, nat_lt, Option, Some, None, refl, sym, ◌∙◌, arith}
use Rattle.std.specs.Prelude.{◌||◌}
use Rattle.std.specs.List.{AllByRecursion, list_any, position, position_or_len}
use Rattle.std.specs.Option.{option_map, option_or}
use Rattle.std.proofs.lemmas.Bool.Decides.{nat_tests}
use Rattle.dns_names.specs.Labels.{IsWithin, is_within}
use Rattle.dns_names.proofs.NameLemmas.{is_within-Decides}
use Rattle.zone_core.specs.declared.update.Place.{Place}
use Rattle.zone_core.specs.declared.update.ItemList.{ItemList}
use Rattle.zone_core.specs.declared.update.ItemList.TheVariants as lists
use Rattle.zone_core.specs.Updates.{UpdateOf, ActsWithin, tested_name, acted_name, place_in, first_outside}

-- ---- the first that passes a test

shorter : (n m : ℕ) → nat_lt (1 + n) (suc m) ≡ nat_lt n m
shorter n m = grind (arith, nat_tests)

by_first : (n m : ℕ) (r b : Bool) → nat_lt n m ≡ r → nat_lt (cond (not b) (1 + n) 0) (suc m) ≡ b || r
by_first n m r true e = grind (arith, nat_tests)
by_first n m r false e = shorter n m ∙ e

found_at : {A : Type 0} (p : A → Bool) (xs : List A) → nat_lt (position_or_len p xs) (length xs) ≡ list_any p xs
found_at p [] = refl
found_at p (x ∷ xs) = by_first (position_or_len p xs) (length xs) (list_any p xs) (p x) (found_at p xs)

by_found : {A : Type 0} (b : Bool) (x : A) → (cond b (Some x) None ≡ None) ↔ (b ≡ false)
by_found true x = (λ e. absurd cc, λ e. absurd cc)
by_found false x = (λ e. refl, λ e. refl)

pub none_at : {A : Type 0} (p : A → Bool) (xs : List A) → (position p xs ≡ None) ↔ (list_any p xs ≡ false)
none_at p xs =
    let test = nat_lt (position_or_len p xs) (length xs) in
    let both = by_found test (position_or_len p xs) in
    (λ e. sym (found_at p xs) ∙ both.0 e, λ e. both.1 (found_at p xs ∙ e))

-- ---- names within the zone

parts : (a b : Bool) → (a || b) ≡ false → (a ≡ false) × (b ≡ false)
parts true b e = absurd cc
parts false b e = (refl, e)

turned : (b : Bool) → not b ≡ false → b ≡ true
turned true e = refl
turned false e = absurd cc

module _ {A : Type 0} (name_of : A → List (List ℕ)) (origin : List (List ℕ)) where
  abbrev is_out : A → Bool
  is_out x = not (is_within (name_of x) origin)

  all_within : (xs : List A) → list_any is_out xs ≡ false → AllByRecursion (λ x. IsWithin (name_of x) origin) xs
  all_within [] e = tt
  all_within (x ∷ xs) e =
      let both = parts (is_out x) (list_any is_out xs) e in
      ((is_within-Decides (name_of x) origin).0 (turned (is_within (name_of x) origin) both.0), all_within xs both.1)

  none_out : (xs : List A) → AllByRecursion (λ x. IsWithin (name_of x) origin) xs → list_any is_out xs ≡ false
  none_out [] all = refl
  none_out (x ∷ xs) all = rw ((is_within-Decides (name_of x) origin).1 all.0) (none_out xs all.1)

  pub within_from : (xs : List A) → (position is_out xs ≡ None) ↔ AllByRecursion (λ x. IsWithin (name_of x) origin) xs
  within_from xs = (λ e. all_within xs ((none_at is_out xs).0 e), λ all. (none_at is_out xs).1 (none_out xs all))

placed_none : (list : ItemList) (o : Option ℕ) → (option_map (place_in list) o ≡ None) ↔ (o ≡ None)
placed_none list None = (λ e. refl, λ e. refl)
placed_none list (Some i) = (λ e. absurd cc, λ e. absurd cc)

or_none : (a b : Option Place) → option_or a b ≡ None → (a ≡ None) × (b ≡ None)
or_none None b e = (refl, e)
or_none (Some x) b e = absurd cc

pub none_outside : (origin : List (List ℕ)) (update : UpdateOf) (place : Option Place) → place ≡ first_outside origin update → (place ≡ None) ↔ ActsWithin origin update
none_outside origin update place is =
    let tests = position (is_out tested_name origin) update.prerequisites in
    let acts = position (is_out acted_name origin) update.operations in (
      λ e.
          let both = or_none (option_map (place_in lists.Prerequisites) tests) (option_map (place_in lists.Operations) acts) (sym is ∙ e) in
          record {
            prerequisites = (within_from tested_name origin update.prerequisites).0 ((placed_none lists.Prerequisites tests).0 both.0);
            operations = (within_from acted_name origin update.operations).0 ((placed_none lists.Operations acts).0 both.1);
          },
      λ within. is ∙ rw ((within_from tested_name origin update.prerequisites).1 within.prerequisites, (within_from acted_name origin update.operations).1 within.operations) refl,
    )
