-- Names within names.
use Rattle.std.proofs.Common.{◌≡◌, ◌≢◌, ℕ, ◌≤◌, List, [], ◌++◌, Bool, true, false, not, refl, sym, ap, subst, ◌∙◌, arith, append_assoc}
use Rattle.std.specs.declared.cmp.Ordering.{Ordering}
use Rattle.std.specs.declared.cmp.Ordering.TheVariants.{Less, Equal, Greater}
use Rattle.std.specs.Bool.{Decides}
use Rattle.std.specs.Ordering.{is_lt, is_le, is_eq, ordering_index, ordering_reverse}
use Rattle.std.proofs.lemmas.Bool.Decides.{Decides-and, Decides-not}
use Rattle.dns_names.specs.Labels.{IsWithin, IsBelow, is_within}
use Rattle.dns_names.specs.Order.{canonical_cmp, canonical_total, same_name}
use Rattle.dns_names.proofs.NameLemmas.{same_name-Decides, is_within-Decides}
use Rattle.zone_core.specs.Delegations.{is_below}
use Rattle.zone_core.proofs.SetLemmas.{name_is}

abbrev pub Name : Type 0
Name = List (List ℕ)

-- a test that is passed and failed
pub no_test : {P : Type 0} (b : Bool) → b ≡ true → b ≡ false → P
no_test true e f = absurd cc
no_test false e f = absurd cc

pub below-Decides : (name top : Name) → Decides (is_below name top) (IsBelow name top)
below-Decides name top =
    Decides-and (is_within name top) (not (same_name name top)) (is_within-Decides name top) (Decides-not (same_name name top) (same_name-Decides name top))

-- ---- as facts

pub within_itself : (a : Name) → IsWithin a a
within_itself a = ([], refl)

pub within_within : (a b c : Name) → IsWithin a b → IsWithin b c → IsWithin a c
within_within a b c p q = (p.0 ++ q.0, p.1 ∙ ap (λ (x : Name). p.0 ++ x) q.1 ∙ sym (append_assoc p.0 q.0 c))

-- ---- as tests

pub is_within_itself : (a : Name) → is_within a a ≡ true
is_within_itself a = (is_within-Decides a a).1 (within_itself a)

pub is_within_within : (a b c : Name) → is_within a b ≡ true → is_within b c ≡ true → is_within a c ≡ true
is_within_within a b c p q = (is_within-Decides a c).1 (within_within a b c ((is_within-Decides a b).0 p) ((is_within-Decides b c).0 q))

-- ---- in canonical order

pub before_then : (a b c : Name) → canonical_cmp a b ≡ Less → is_le (canonical_cmp b c) ≡ true → is_le (canonical_cmp a c) ≡ true
before_then a b c less le = by_order (canonical_cmp b c) refl le
  where
    by_order : (o : Ordering) → canonical_cmp b c ≡ o → is_le o ≡ true → is_le (canonical_cmp a c) ≡ true
    by_order Less e h = rw (canonical_total.trans a b c less e) refl
    by_order Equal e h = subst (λ (x : Name). is_le (canonical_cmp a x) ≡ true) (name_is b c (ap is_eq e)) (rw less refl)
    by_order Greater e h = absurd cc

-- what is before is not after
pub not_behind : (a b : Name) → canonical_cmp a b ≡ Less → is_lt (canonical_cmp b a) ≡ false
not_behind a b less = rw (canonical_total.antisymm b a, less) refl

-- what is not at or before is after
pub is_behind : (a b : Name) → is_le (canonical_cmp a b) ≡ false → is_lt (canonical_cmp b a) ≡ true
is_behind a b e = by_order (canonical_cmp a b) e (canonical_total.antisymm b a)
  where
    by_order : (o : Ordering) → is_le o ≡ false → canonical_cmp b a ≡ ordering_reverse o → is_lt (canonical_cmp b a) ≡ true
    by_order Less h f = absurd cc
    by_order Equal h f = absurd cc
    by_order Greater h f = rw f refl

-- what is at or before, and another, is before
pub before_other : (a b : Name) → is_le (canonical_cmp a b) ≡ true → a ≢ b → canonical_cmp a b ≡ Less
before_other a b le other = by_order (canonical_cmp a b) refl le
  where
    by_order : (o : Ordering) → canonical_cmp a b ≡ o → is_le o ≡ true → canonical_cmp a b ≡ Less
    by_order Less e h = e
    by_order Equal e h = absurd (other (name_is a b (ap is_eq e)))
    by_order Greater e h = absurd cc

pub not_above : (o p : Ordering) → p ≡ Equal → ordering_index o ≤ ordering_index p → is_le o ≡ true
not_above Less p e le = refl
not_above Equal p e le = refl
not_above Greater Less e le = absurd cc
not_above Greater Equal e le = absurd (omega arith)
not_above Greater Greater e le = absurd cc
