-- Rows of ids.
use Rattle.std.proofs.Common.{◌≡◌, ℕ, Bool, true, false, not, ◌||◌, cond, List, [], ◌∷◌, ◌++◌, Ok, Err, refl, sym, ap, ◌∙◌, subst, codes}
use Rattle.std.specs.Prelude.{bytes_eq}
use Rattle.std.specs.List.{list_any}
use Rattle.std.specs.Ordering.{nat_cmp, is_eq}
use Rattle.std.specs.Cmp.{tied_itself}
use Rattle.std.specs.Cmp.Lexicographic.{slice_cmp, nat_list_cmp_total}
use Rattle.std.specs.declared.cmp.Ordering.{Ordering}
use Rattle.std.specs.declared.cmp.Ordering.TheVariants.{Less, Equal, Greater}
use Rattle.std.specs.BTreeMap.{is_at}
use Rattle.std.proofs.lemmas.Bool.Decides.{same_from_decides}
use Rattle.std.proofs.lemmas.List.Folds.{list_any-append}
use Rattle.std.proofs.lemmas.Map.Lookups.{exact_bytes}
use Rattle.std.proofs.lemmas.Slice.Eq.{bytes_eq-Decides}
use Rattle.grant_policy.specs.declared.policy_fault.PolicyFault.TheVariants.{IdRepeated}
use Rattle.grant_policy.specs.Reading.{is_among, SameIds, free_id}

is_tied : (r : Ordering) → is_eq r ≡ true → r ≡ Equal
is_tied Less e = absurd cc
is_tied Equal e = refl
is_tied Greater e = absurd cc

tie_tells : (a b : List ℕ) → is_eq (slice_cmp nat_cmp a b) ≡ bytes_eq a b
tie_tells a b = same_from_decides _ _ (λ e. exact_bytes a b (is_tied _ e), λ e. subst (λ (x : List ℕ). is_eq (slice_cmp nat_cmp a x) ≡ true) e (ap is_eq (tied_itself nat_list_cmp_total a))) (bytes_eq-Decides a b)

-- what a set has, and what its row of keys has
pub among_tells : (id : List ℕ) (ids : List (List ℕ)) → list_any (is_at (slice_cmp nat_cmp id)) ids ≡ is_among id ids
among_tells id [] = refl
among_tells id (other ∷ ids) = rw (tie_tells id other, among_tells id ids) refl

or_false : (a : Bool) → (a || false) ≡ a
or_false true = refl
or_false false = refl

or_turned : (a b : Bool) → cond a true b ≡ (b || a)
or_turned true true = refl
or_turned true false = refl
or_turned false true = refl
or_turned false false = refl

pub among_push : (id : List ℕ) (ids : List (List ℕ)) (last : List ℕ) → is_among id (ids ++ last ∷ []) ≡ (is_among id ids || bytes_eq id last)
among_push id ids last = list_any-append (λ other. bytes_eq id other) ids (last ∷ []) ∙ ap (λ (b : Bool). is_among id ids || b) (or_false (bytes_eq id last))

bytes_turned : (a b : List ℕ) → bytes_eq a b ≡ bytes_eq b a
bytes_turned a b = same_from_decides _ _ (λ e. sym ((bytes_eq-Decides a b).0 e), λ e. (bytes_eq-Decides a b).1 (sym e)) (bytes_eq-Decides b a)

-- one id more
pub ids_added : (old new ids : List (List ℕ)) (id : List ℕ) → ((q : List ℕ) → list_any (is_at (slice_cmp nat_cmp q)) new ≡ cond (is_eq (slice_cmp nat_cmp id q)) true (list_any (is_at (slice_cmp nat_cmp q)) old)) → SameIds old ids → SameIds new (ids ++ id ∷ [])
ids_added old new ids id updates same q =
    sym (among_tells q new) ∙ updates q
    ∙ or_turned (is_eq (slice_cmp nat_cmp id q)) (list_any (is_at (slice_cmp nat_cmp q)) old)
    ∙ ap (λ (b : Bool). b || is_eq (slice_cmp nat_cmp id q)) (among_tells q old ∙ same q)
    ∙ ap (λ (b : Bool). is_among q ids || b) (tie_tells id q ∙ bytes_turned id q)
    ∙ sym (among_push q ids id)

pub id_free : (number : ℕ) (seen ids : List (List ℕ)) (id : List ℕ) → bytes_eq id (codes "closing") ≡ false → true ≡ not (list_any (is_at (slice_cmp nat_cmp id)) seen) → SameIds seen ids → free_id number ids id ≡ Ok id
id_free number seen ids id open' new same =
    let fresh : is_among id ids ≡ false = sym (same id) ∙ sym (among_tells id seen) ∙ untrue _ new in
    rw (open', fresh) refl
  where
    untrue : (b : Bool) → true ≡ not b → b ≡ false
    untrue true e = absurd cc
    untrue false e = refl

pub id_repeated : (number : ℕ) (seen ids : List (List ℕ)) (id : List ℕ) → bytes_eq id (codes "closing") ≡ false → false ≡ not (list_any (is_at (slice_cmp nat_cmp id)) seen) → SameIds seen ids → free_id number ids id ≡ Err (IdRepeated number)
id_repeated number seen ids id open' old same =
    let known : is_among id ids ≡ true = sym (same id) ∙ sym (among_tells id seen) ∙ untrue _ old in
    rw (open', known) refl
  where
    untrue : (b : Bool) → false ≡ not b → b ≡ true
    untrue true e = refl
    untrue false e = absurd cc
