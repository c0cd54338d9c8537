-- The canonical order of names, and its laws.
use Rattle.std.specs.Prelude.{ℕ, List, reverse, Bool, refl}
use Rattle.std.specs.Ordering.{nat_cmp, on, eq_by_cmp, as_partial_cmp}
use Rattle.std.specs.declared.cmp.Ordering.{Ordering}
use Rattle.std.specs.Cmp.{IsTotalOrder, IsEquivalence, IsPartialEquivalence, IsPartialOrder, eq_by_cmp_equiv, on_total, partial_equiv_from_equiv, partial_order_from_agreeing_total}
use Rattle.std.specs.Cmp.Lexicographic.{slice_cmp, lists_total, nat_list_cmp_total}

-- label by label from the right, each label as unsigned octets, a missing octet or label first (RFC 4034 section 6.1)
abbrev pub canonical_cmp : List (List ℕ) → List (List ℕ) → Ordering
canonical_cmp = on reverse (slice_cmp (slice_cmp nat_cmp))

-- whether two names tie in that order, which they do only where they are one
abbrev pub same_name : List (List ℕ) → List (List ℕ) → Bool
same_name = eq_by_cmp canonical_cmp

pub canonical_total : IsTotalOrder canonical_cmp
canonical_total = on_total reverse (lists_total nat_list_cmp_total)

pub same_name_equiv : IsEquivalence same_name
same_name_equiv = eq_by_cmp_equiv canonical_total

pub same_name_partial : IsPartialEquivalence same_name
same_name_partial = partial_equiv_from_equiv same_name_equiv

pub canonical_partial : IsPartialOrder same_name (as_partial_cmp canonical_cmp)
canonical_partial = partial_order_from_agreeing_total canonical_cmp canonical_total (λ x y. refl) (λ x y. refl)
