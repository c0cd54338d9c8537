-- Rows of lengths and octets are one, or end with others, exactly where their labels do.
use Rattle.std.proofs.Common.{◌≡◌, ℕ, ◌-◌, ◌<◌, ◌≤◌, List, [], ◌++◌, Bool, true, false, length, take, drop, reverse, nat_eq, refl, sym, ap, subst, ◌∙◌, arith, length-append, append-nil}
use Rattle.std.specs.Bool.{Decides}
use Rattle.std.specs.List.{starts_with}
use Rattle.std.specs.declared.cmp.Ordering.{Ordering}
use Rattle.std.specs.declared.cmp.Ordering.TheVariants.{Less, Equal, Greater}
use Rattle.std.specs.Ordering.{is_eq}
use Rattle.std.specs.FinMap.{slice_cmp-IsAntisymmetric, nat_cmp-IsAntisymmetric}
use Rattle.std.specs.Cmp.{tied_itself}
use lib.Pointwise.{pointwise}
use Rattle.std.proofs.lemmas.Bool.Decides.{same_from_decides, Decides-eqb}
use Rattle.std.proofs.lemmas.Slice.Eq.{bytes_eq-Decides, starts_is, ends_is}
use Rattle.std.proofs.lemmas.List.{reverse-reverse, nil_from_length}
use Rattle.dns_names.specs.Labels.{IsWithin, IsBelow, is_within}
use Rattle.dns_names.specs.Order.{canonical_cmp, same_name, canonical_total}
use Rattle.dns_names.specs.Keys.{key_of}
use Rattle.dns_names.proofs.KeyLaws.{key_begins, key_unique}

-- ---- equality

is_tied : (r : Ordering) → is_eq r ≡ true → r ≡ Equal
is_tied Less e = absurd cc
is_tied Equal e = refl
is_tied Greater e = absurd cc

reverse_injective : (a b : List (List ℕ)) → reverse a ≡ reverse b → a ≡ b
reverse_injective a b e = sym (reverse-reverse a) ∙ ap (reverse {A = List ℕ}) e ∙ reverse-reverse b

pub same_name-Decides : (a b : List (List ℕ)) → Decides (same_name a b) (a ≡ b)
same_name-Decides a b =
    (λ e. reverse_injective a b (slice_cmp-IsAntisymmetric (slice_cmp-IsAntisymmetric nat_cmp-IsAntisymmetric) (reverse a) (reverse b) (is_tied (canonical_cmp a b) e)), λ e. subst (λ (x : List (List ℕ)). same_name a x ≡ true) e (ap is_eq (tied_itself canonical_total a)))

-- ---- within

pub is_within-Decides : (name top : List (List ℕ)) → Decides (is_within name top) (IsWithin name top)
is_within-Decides name top =
    let cases = ends_is (λ a b. bytes_eq-Decides a b) name top (is_within name top) refl in
    (λ t. (take (length name - length top) name, cases.0 t), λ w. cases.1 w.0 w.1)

-- a key that begins with another
pub within_from_key : (name top : List (List ℕ)) (key other : List ℕ) (r : Bool) → key ≡ key_of name → other ≡ key_of top → r ≡ starts_with nat_eq key other → Decides r (IsWithin name top)
within_from_key name top key other r is top-is e =
    let cases = starts_is Decides-eqb key other r e in
    let begins = key_begins top name in (
      λ t. begins.1 (drop (length other) key, sym is ∙ cases.0 t ∙ ap (λ (k : List ℕ). k ++ drop (length other) key) top-is),
      λ w. let b = begins.0 w in cases.1 b.0 (is ∙ b.1 ∙ ap (λ (k : List ℕ). k ++ b.0) (sym top-is)),
    )

-- keys that are one
pub same_from_key : (name other : List (List ℕ)) (r : Bool) → r ≡ pointwise nat_eq (key_of name) (key_of other) → r ≡ same_name name other
same_from_key name other r e =
    let octets : Decides (pointwise nat_eq (key_of name) (key_of other)) (key_of name ≡ key_of other) = bytes_eq-Decides (key_of name) (key_of other) in
    same_from_decides r _ (λ t. key_unique other name (octets.0 (sym e ∙ t)), λ s. e ∙ octets.1 (ap key_of s)) (same_name-Decides name other)

-- ---- below

-- a name with a longer key is below where it is within
pub below_then : (name top : List (List ℕ)) (r : Bool) → length (key_of top) < length (key_of name) → Decides r (IsWithin name top) → Decides r (IsBelow name top)
below_then name top r more within =
    (λ t. (within.0 t, λ e. absurd (omega (arith, ap (λ (n : List (List ℕ)). length (key_of n)) e))), λ b. within.1 b.0)

-- and one with a key that is no longer never is
pub below_else : (name top : List (List ℕ)) (r : Bool) → length (key_of name) ≤ length (key_of top) → r ≡ false → Decides r (IsBelow name top)
below_else name top r fewer never =
    (λ yes. absurd cc, λ b. absurd (b.1 (key_unique top name (same b.0))))
  where
    same : IsWithin name top → key_of name ≡ key_of top
    same within =
        let begins = (key_begins top name).0 within in
        let rest : begins.0 ≡ [] = nil_from_length begins.0 (omega (arith, ap (length {A = ℕ}) begins.1, length-append (key_of top) begins.0)) in
        begins.1 ∙ ap (λ (r : List ℕ). key_of top ++ r) rest ∙ append-nil (key_of top)
