-- When names are one, and when one is within another.
use Rattle.std.proofs.Common.{◌≡◌, ◌⊎◌, inl, inr, ℕ, ◌-◌, List, [], ◌∷◌, ◌++◌, true, length, take, reverse, refl, sym, ap, subst, ◌∙◌, append_assoc}
use Rattle.std.specs.Bool.{Decides}
use Rattle.std.specs.declared.cmp.Ordering.{Ordering}
use Rattle.std.specs.declared.cmp.Ordering.TheVariants.{Less, Equal, Greater}
use Rattle.std.specs.Ordering.{is_eq}
use Rattle.std.specs.FinMap.{slice_cmp-IsAntisymmetric, nat_cmp-IsAntisymmetric}
use Rattle.std.specs.Cmp.{tied_itself}
use Rattle.std.proofs.lemmas.Bool.Decides.{Decides-and, Decides-not}
use Rattle.std.proofs.lemmas.Slice.Eq.{bytes_eq-Decides, ends_is}
use Rattle.std.proofs.lemmas.List.{reverse-reverse}
use Rattle.dns_names.specs.Labels.{IsWithin, is_within}
use Rattle.dns_names.specs.Order.{canonical_cmp, same_name, canonical_total}
use Rattle.grant_policy.specs.declared.scope.Scope.{Scope}
use Rattle.grant_policy.specs.declared.scope.Scope.TheVariants.{Name, Subtree, Below}
use Rattle.grant_policy.specs.Scopes.{Covers, covers}

is_tied : (r : Ordering) → is_eq r ≡ true → r ≡ Equal
is_tied Less e = absurd cc
is_tied Equal e = refl
is_tied Greater e = absurd cc

reverse_injective : (a b : List (List ℕ)) → reverse a ≡ reverse b → a ≡ b
reverse_injective a b e = sym (reverse-reverse a) ∙ ap (reverse {A = List ℕ}) e ∙ reverse-reverse b

pub same_name-Decides : (a b : List (List ℕ)) → Decides (same_name a b) (a ≡ b)
same_name-Decides a b =
    (λ e. reverse_injective a b (slice_cmp-IsAntisymmetric (slice_cmp-IsAntisymmetric nat_cmp-IsAntisymmetric) (reverse a) (reverse b) (is_tied (canonical_cmp a b) e)), λ e. subst (λ (x : List (List ℕ)). same_name a x ≡ true) e (ap is_eq (tied_itself canonical_total a)))

pub is_within-Decides : (name top : List (List ℕ)) → Decides (is_within name top) (IsWithin name top)
is_within-Decides name top =
    let cases = ends_is (λ a b. bytes_eq-Decides a b) name top (is_within name top) refl in
    (λ t. (take (length name - length top) name, cases.0 t), λ w. cases.1 w.0 w.1)

pub covers-Decides : (scope : Scope) (at name : List (List ℕ)) → Decides (covers scope at name) (Covers scope at name)
covers-Decides Name at name = same_name-Decides name at
covers-Decides Subtree at name = is_within-Decides name at
covers-Decides Below at name = Decides-and _ _ (is_within-Decides name at) (Decides-not _ (same_name-Decides name at))

-- ---- within

pub within_self : (name : List (List ℕ)) → IsWithin name name
within_self name = ([], refl)

pub within_trans : (a b c : List (List ℕ)) → IsWithin a b → IsWithin b c → IsWithin a c
within_trans a b c (f, e) (g, h) = (f ++ g, e ∙ ap (λ (l : List (List ℕ)). f ++ l) h ∙ sym (append_assoc f g c))

-- a name within another is that one, or has it after a first label
tail_of : {X : Type 0} (x y : X) (xs ys : List X) → x ∷ xs ≡ y ∷ ys → xs ≡ ys
tail_of x y xs ys e = cc

pub within_cons : (label : List ℕ) (name top : List (List ℕ)) → IsWithin (label ∷ name) top → (top ≡ label ∷ name) ⊎ IsWithin name top
within_cons label name top ([], e) = inl (sym e)
within_cons label name top (x ∷ front, e) = inr (front, tail_of label x name (front ++ top) e)
