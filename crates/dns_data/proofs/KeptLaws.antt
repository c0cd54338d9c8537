-- The types that are kept are all types: what holds of all kept types holds of each, and each is found by its number, by its
-- name and by its place.
use Rattle.std.proofs.Common.{◌≡◌, ◌↔◌, ◌<◌, ◌+◌, ℕ, zero, suc, Bool, true, false, cond, List, [], ◌∷◌, Some, length, map, get_or, refl, sym, ap, subst, ◌∙◌, arith}
use Rattle.std.specs.Prelude.{◌==◌, bytes_eq, nat_lt}
use Rattle.std.specs.List.{AllByRecursion, Contains, find, list_all, list_any, range_with_len}
use Rattle.std.specs.Str.{str_to_ascii_lowercase}
use Rattle.std.proofs.lemmas.Bool.{and_parts, or_parts, ltb-true}
use Rattle.std.proofs.lemmas.List.{get_or-map}
use Rattle.std.proofs.lemmas.List.FromFn.{get_or-range_with_len}
use Rattle.std.proofs.lemmas.List.Elements.{All-from_recursion, All-contains}
use Rattle.std.proofs.lemmas.List.Folds.{list_any_at}
use Rattle.std.proofs.lemmas.Slice.Eq.{bytes_eq-Decides}
use Rattle.dns_data.specs.declared.record_type.RecordType.{RecordType}
use Rattle.dns_data.specs.declared.record_type.RecordType.TheVariants.{A}
use Rattle.dns_data.specs.contracts.record_type.RecordType.{the_type}
use Rattle.dns_data.specs.Types.{type_text, type_number, kept_types, place_of, type_named, IsCalled}
use Rattle.dns_data.proofs.WordLemmas.{found_passes}
use denote.Enum.Declared.{tag_of}

pub same_Some : {T : Type 0} (a b : T) → Some a ≡ Some b → a ≡ b
same_Some a b e = cc

-- ---- by number and by name

pub number_found : (t : RecordType) → find (λ u. type_number u == type_number t) kept_types ≡ Some t
number_found A = refl
number_found t = refl

pub name_found : (t : RecordType) → find (λ u. bytes_eq (str_to_ascii_lowercase (type_text u)) (str_to_ascii_lowercase (type_text t))) kept_types ≡ Some t
name_found A = refl
name_found t = refl

-- a number is that of one type
pub one_number : (t u : RecordType) → type_number t ≡ type_number u → t ≡ u
one_number t u e = same_Some t u (sym (number_found t) ∙ ap (λ (n : ℕ). find (λ v. type_number v == n) kept_types) e ∙ number_found u)

-- ---- all and each

behind : {T : Type 0} (x t : T) (xs : List T) → Contains xs t → Contains (x ∷ xs) t
behind x t xs c = (suc c.0, omega (arith, c.1), c.2)

-- what is found is in the list
found_in : {T : Type 0} (test : T → Bool) (xs : List T) (t : T) → find test xs ≡ Some t → Contains xs t
found_in test [] t e = absurd cc
found_in {T} test (x ∷ xs) t e = by_test (test x) (found_in test xs t) e
  where
    by_test : (b : Bool) → (find test xs ≡ Some t → Contains xs t) → cond b (Some x) (find test xs) ≡ Some t → Contains (x ∷ xs) t
    by_test true later is = (zero, omega arith, same_Some x t is)
    by_test false later is = behind x t xs (later is)

-- each type is kept
pub each_kept : (t : RecordType) → Contains kept_types t
each_kept t = found_in (λ u. type_number u == type_number t) kept_types t (number_found t)

-- what holds of all kept types holds of each type
pub each_type : (P : RecordType → Type 0) → AllByRecursion P kept_types → (t : RecordType) → P t
each_type P all t = All-contains P kept_types t (All-from_recursion P kept_types all) (each_kept t)

passing : {T : Type 0} (p : T → Bool) (xs : List T) → list_all p xs ≡ true → AllByRecursion (λ x. p x ≡ true) xs
passing p [] e = tt
passing p (x ∷ xs) e = let both = and_parts (p x) (list_all p xs) e in (both.0, passing p xs both.1)

-- a test that all kept types pass is one that each type passes
pub each_passes : (p : RecordType → Bool) → list_all p kept_types ≡ true → (t : RecordType) → p t ≡ true
each_passes p all = each_type (λ t. p t ≡ true) (passing p kept_types all)

failing : {T : Type 0} (p : T → Bool) (xs : List T) → list_any p xs ≡ false → AllByRecursion (λ x. p x ≡ false) xs
failing p [] e = tt
failing p (x ∷ xs) e = let both = or_parts (p x) (list_any p xs) e in (both.0, failing p xs both.1)

-- one that no kept type passes is one that no type passes
pub none_passes : (p : RecordType → Bool) → list_any p kept_types ≡ false → (t : RecordType) → p t ≡ false
none_passes p none = each_type (λ t. p t ≡ false) (failing p kept_types none)

-- a test that a type passes is one that some kept type passes
pub some_type : (p : RecordType → Bool) (t : RecordType) → p t ≡ true → list_any p kept_types ≡ true
some_type p t e = let c = each_kept t in list_any_at p kept_types c.0 t c.1 (ap p c.2 ∙ e)

-- ---- by place

-- a type is the kept one at its place
pub type_at_place : (t : RecordType) → get_or kept_types (place_of t) A ≡ t
type_at_place A = refl
type_at_place t = refl

pub place_is_low : (t : RecordType) → place_of t < length kept_types
place_is_low t = ltb-true (place_of t) (length kept_types) (each_passes (λ u. nat_lt (place_of u) (length kept_types)) refl t)

-- the kept type at a place has that place
pub place_of_type : (n : ℕ) → n < length kept_types → place_of (get_or kept_types n A) ≡ n
place_of_type n low =
    let places : map place_of kept_types ≡ range_with_len 0 (length kept_types) = refl in
    let plain : 0 + n ≡ n = omega arith in
    sym (get_or-map place_of kept_types n A 0 low)
    ∙ ap (λ (xs : List ℕ). get_or xs n 0) places
    ∙ get_or-range_with_len 0 (length kept_types) n 0 low
    ∙ plain

-- no two types have one place
pub one_place : (t u : RecordType) → place_of t ≡ place_of u → t ≡ u
one_place t u e = sym (type_at_place t) ∙ ap (λ (n : ℕ). get_or kept_types n A) e ∙ type_at_place u

pub tag_is_place : (t : RecordType) → tag_of the_type t ≡ place_of t
tag_is_place A = refl
tag_is_place t = refl

-- ---- the type that a text names

-- a text names the type that it is called
pub named_called : (text : List ℕ) (t : RecordType) → (type_named text ≡ Some t) ↔ IsCalled t text
named_called text t = (
  λ found. sym ((bytes_eq-Decides _ _).0 (found_passes (λ u. bytes_eq (str_to_ascii_lowercase (type_text u)) (str_to_ascii_lowercase text)) kept_types t found)),
  λ called. subst (λ (k : List ℕ). find (λ u. bytes_eq (str_to_ascii_lowercase (type_text u)) k) kept_types ≡ Some t) (sym called) (name_found t),
)
