-- Values that are compared, and rows in another order.
use Rattle.std.proofs.Common.{◌≡◌, ℕ, ℤ, Bool, true, false, not, cond, ◌&&◌, List, [], ◌∷◌, ◌++◌, map, filter, Some, refl, sym, ap, subst, ◌∙◌, IsPermutation, bytes_eq, arith, Less, Equal, Greater, Ordering}
use Rattle.std.specs.List.{list_all}
use Rattle.std.specs.Ordering.{is_eq, is_lt, is_ge, int_cmp, int_eq, nat_cmp}
use Rattle.std.specs.Cmp.Lexicographic.{slice_cmp}
use Rattle.std.proofs.lemmas.Bool.Decides.{nat_tests}
use Rattle.std.proofs.lemmas.Cmp.{eq_by_cmp_equiv, nat_list_cmp_total}
use Rattle.std.proofs.lemmas.Int.{ints}
use Rattle.std.proofs.lemmas.List.{map-append}
use Rattle.std.proofs.lemmas.List.Sorted.{IsPermutation-trans, IsPermutation-sym, IsPermutation-append_comm}
use Rattle.std.proofs.lemmas.Map.Text.{is_eq-slice_cmp}
use Rattle.sqlite_value.specs.declared.keys.Collation.TheVariants.{Binary}
use Rattle.sqlite_value.specs.declared.value.Value.{Value}
use Rattle.sqlite_value.specs.declared.value.Value.TheVariants.{Int, Null, Text, Blob}
use Rattle.sqlite_value.specs.Order.{Row, value_cmp}
use Rattle.sqlite_value.proofs.OrderLemmas.{value_cmp-Int, value_cmp-Text, value_cmp-Blob}
use Rattle.sqlite_trees.proofs.ListLemmas.{all-permutation}
use Rattle.sqlite_sql.specs.declared.ops.BinaryOp.TheVariants.{Compare}
use Rattle.sqlite_sql.specs.declared.ops.CompareOp.TheVariants.{Eq, Ge, Lt}
use Rattle.sqlite_sql.specs.Ops.{binary, is_true, unary, from_truth}
use Rattle.sqlite_sql.specs.Term.{Term, holds}
use Rattle.sqlite_schema.specs.declared.schema.Kind.TheVariants.{Integer}
use Rattle.sqlite_rules.specs.Cast.{cast}
use Rattle.store_sql.specs.Lookups.{is_below}
use Rattle.store_sql.specs.Stores.{IsReadableRow, Stores}

pub told : (b : Bool) → is_true (from_truth (Some b)) ≡ b
told true = refl
told false = refl

pub bytes_eq_sym : (a b : List ℕ) → bytes_eq a b ≡ bytes_eq b a
bytes_eq_sym a b = sym (is_eq-slice_cmp a b) ∙ (eq_by_cmp_equiv nat_list_cmp_total).symm a b ∙ is_eq-slice_cmp b a

pub same_text : (a b : List ℕ) → is_true (binary (Compare Eq Binary) (Text a) (Text b)) ≡ bytes_eq a b
unfolding binary
same_text a b = told (is_eq (value_cmp (Text a) (Text b))) ∙ ap is_eq (value_cmp-Text a b) ∙ is_eq-slice_cmp a b

pub same_key_octets : (a b : List ℕ) → is_true (binary (Compare Eq Binary) (Blob a) (Blob b)) ≡ bytes_eq a b
unfolding binary
same_key_octets a b = told (is_eq (value_cmp (Blob a) (Blob b))) ∙ ap is_eq (value_cmp-Blob a b) ∙ is_eq-slice_cmp a b

pub equal_ints : (a b : ℤ) → is_eq (int_cmp a b) ≡ int_eq a b
equal_ints a b = grind (arith, ints, nat_tests)

pub same_number : (a b : ℤ) → is_true (binary (Compare Eq Binary) (Int a) (Int b)) ≡ int_eq a b
unfolding binary
same_number a b = told (is_eq (value_cmp (Int a) (Int b))) ∙ ap is_eq (value_cmp-Int a b) ∙ equal_ints a b

pub below : (a b : List ℕ) → is_true (binary (Compare Lt Binary) (Blob a) (Blob b)) ≡ is_below a b
unfolding binary
below a b = told (is_lt (value_cmp (Blob a) (Blob b))) ∙ ap is_lt (value_cmp-Blob a b)

not_less : (o : Ordering) → is_ge o ≡ not (is_lt o)
not_less Less = refl
not_less Equal = refl
not_less Greater = refl

pub not_below : (a b : List ℕ) → is_true (binary (Compare Ge Binary) (Blob a) (Blob b)) ≡ not (is_below a b)
unfolding binary
not_below a b = told (is_ge (value_cmp (Blob a) (Blob b))) ∙ ap is_ge (value_cmp-Blob a b) ∙ not_less (slice_cmp nat_cmp a b)

pub and_true : (b : Bool) → (b && true) ≡ b
and_true true = refl
and_true false = refl

either : (b : Bool) (x : Value) → cond b x x ≡ x
either true x = refl
either false x = refl

pub cast_null : cast Integer Null ≡ Null
unfolding unary
cast_null = either _ Null

pub cast_int : (n : ℤ) → cast Integer (Int n) ≡ Int n
unfolding unary
cast_int n = either _ (Int n)

-- a row as the filters see it after its rowid
abbrev pub hits : List Term → Row → Row → Bool
hits filters params body = list_all (holds (params ∷ (Null ∷ body) ∷ [])) filters

pub filter_stored : {X : Type 0} (f : X → Row) (p : Row → Bool) (q : X → Bool) → ((x : X) → p (f x) ≡ q x) → (xs : List X) → filter p (map f xs) ≡ map f (filter q xs)
filter_stored f p q each [] = refl
filter_stored f p q each (x ∷ xs) = rw (each x, filter_stored f p q each xs) (elim (q x) as (λ b. cond b (f x ∷ map f (filter q xs)) (map f (filter q xs)) ≡ map f (cond b (x ∷ filter q xs) (filter q xs))) [ true ↦ refl | false ↦ refl ])

pub map_stored : {X : Type 0} (f : X → Row) (g : Row → Row) → ((x : X) → g (f x) ≡ f x) → (xs : List X) → map g (map f xs) ≡ map f xs
map_stored f g each [] = refl
map_stored f g each (x ∷ xs) = rw (each x, map_stored f g each xs) refl

pub stores_order : (rows xs ys : List Row) → IsPermutation xs ys → Stores rows ys → Stores rows xs
stores_order rows xs ys p h = record {
  apart = h.apart;
  numbered = h.numbered;
  same = IsPermutation-trans _ _ _ p h.same;
  readable = all-permutation IsReadableRow ys xs (IsPermutation-sym _ _ p) h.readable;
}

-- a row that came is the last
pub stores_last : {X : Type 0} (f : X → Row) (xs : List X) (x : X) (rows : List Row) → Stores rows (f x ∷ map f xs) → Stores rows (map f (xs ++ x ∷ []))
stores_last f xs x rows h =
    stores_order rows (map f (xs ++ x ∷ [])) (f x ∷ map f xs) (subst (λ l. IsPermutation l (f x ∷ map f xs)) (sym (map-append f xs (x ∷ []))) (IsPermutation-append_comm (map f xs) (f x ∷ []))) h
