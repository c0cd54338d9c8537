-- Tests over the data that prerequisites give for a set.
use Rattle.std.proofs.Common.{◌≡◌, ℕ, List, [], ◌∷◌, map, Bool, true, false, refl, sym, ap, ◌∙◌}
use Rattle.std.specs.Prelude.{◌&&◌, ◌||◌}
use Rattle.std.specs.List.{list_any, list_all, flat_map, filter}
use Rattle.std.proofs.lemmas.List.Folds.{list_any-append, list_all-append}
use Rattle.dns_data.specs.declared.record.Record.{Record}
use Rattle.dns_data.specs.declared.rdata.Data.{Data}
use Rattle.dns_data.specs.declared.record_type.RecordType.{RecordType}
use Rattle.zone_core.specs.declared.update.Prerequisite.{Prerequisite}
use Rattle.zone_core.specs.Sets.{key_of, set_of, part, at, InOrder}
use Rattle.zone_core.specs.Prerequisites.{same_data, given_for, all_among, are_data}
use Rattle.zone_core.proofs.RowLemmas.{listing-part}

any-map : {A B : Type 0} (p : B → Bool) (f : A → B) (xs : List A) → list_any p (map f xs) ≡ list_any (λ x. p (f x)) xs
any-map p f [] = refl
any-map p f (x ∷ xs) = ap (λ b. p (f x) || b) (any-map p f xs)

all-map : {A B : Type 0} (p : B → Bool) (f : A → B) (xs : List A) → list_all p (map f xs) ≡ list_all (λ x. p (f x)) xs
all-map p f [] = refl
all-map p f (x ∷ xs) = ap (λ b. p (f x) && b) (all-map p f xs)

any-flat : {A B : Type 0} (p : B → Bool) (f : A → List B) (xs : List A) → list_any p (flat_map f xs) ≡ list_any (λ x. list_any p (f x)) xs
any-flat p f [] = refl
any-flat p f (x ∷ xs) = list_any-append p (f x) (flat_map f xs) ∙ ap (λ b. list_any p (f x) || b) (any-flat p f xs)

all-flat : {A B : Type 0} (p : B → Bool) (f : A → List B) (xs : List A) → list_all p (flat_map f xs) ≡ list_all (λ x. list_all p (f x)) xs
all-flat p f [] = refl
all-flat p f (x ∷ xs) = list_all-append p (f x) (flat_map f xs) ∙ ap (λ b. list_all p (f x) && b) (all-flat p f xs)

all-agree : {A : Type 0} (p q : A → Bool) → ((x : A) → p x ≡ q x) → (xs : List A) → list_all p xs ≡ list_all q xs
all-agree p q same [] = refl
all-agree p q same (x ∷ xs) = λ i. same x i && all-agree p q same xs i

module _ (name : List (List ℕ)) (t : RecordType) (all : List Prerequisite) (rows : List Record) where
  abbrev pub all_given : Bool
  all_given = list_all (λ r. list_any (λ p. list_any (same_data r.rdata) (given_for name t p)) all) rows

  abbrev pub all_there : Bool
  all_there = list_all (λ p. list_all (λ d. list_any (λ r. same_data d r.rdata) rows) (given_for name t p)) all

  given_is : all_among (map (λ r. r.rdata) rows) (flat_map (given_for name t) all) ≡ all_given
  given_is =
      all-map (λ x. list_any (same_data x) (flat_map (given_for name t) all)) (λ (r : Record). r.rdata) rows
      ∙ all-agree _ _ (λ r. any-flat (same_data r.rdata) (given_for name t) all) rows

  there_is : all_among (flat_map (given_for name t) all) (map (λ r. r.rdata) rows) ≡ all_there
  there_is =
      all-flat (λ x. list_any (same_data x) (map (λ (r : Record). r.rdata) rows)) (given_for name t) all
      ∙ all-agree _ _ (λ p. all-agree _ _ (λ d. any-map (same_data d) (λ (r : Record). r.rdata) rows) (given_for name t p)) all

  pub same_tests : (all_given && all_there) ≡ (all_among (map (λ r. r.rdata) rows) (flat_map (given_for name t) all) && all_among (flat_map (given_for name t) all) (map (λ r. r.rdata) rows))
  same_tests i = sym given_is i && sym there_is i

-- both tests, of which the second is made where the first holds
pub both_tests : (a b : Bool) → a ≡ true → b ≡ (a && b)
both_tests true b e = refl
both_tests false b e = absurd cc

pub first_test : (a b : Bool) → a ≡ false → a ≡ (a && b)
first_test true b e = absurd cc
first_test false b e = refl

-- the tests of a set of a row, over the run of its records
pub set_tests : (rows : List Record) → InOrder rows → (name : List (List ℕ)) (t : RecordType) (all : List Prerequisite)
    → (all_given name t all (filter (λ r. at name t (key_of r)) rows) && all_there name t all (filter (λ r. at name t (key_of r)) rows))
    ≡ are_data (part (set_of rows) (at name t)) (flat_map (given_for name t) all)
set_tests rows order name t all =
    same_tests name t all (filter (λ r. at name t (key_of r)) rows)
    ∙ ap (λ (rs : List Record). all_among (map (λ r. r.rdata) rs) (flat_map (given_for name t) all) && all_among (flat_map (given_for name t) all) (map (λ r. r.rdata) rs)) (sym (listing-part (at name t) rows order))

pub all_of_one : (p : Data → Bool) (x : Data) (ds : List Data) → x ∷ [] ≡ ds → p x ≡ list_all p ds
all_of_one p x ds e = and_true (p x) ∙ ap (list_all p) e
  where
    and_true : (b : Bool) → b ≡ (b && true)
    and_true true = refl
    and_true false = refl
