-- The addresses that several names have.
use Rattle.std.proofs.Common.{◌≡◌, ◌↔◌, ◌⊎◌, ℕ, zero, suc, ◌<◌, ◌≤◌, Bool, true, false, not, ◌&&◌, ◌||◌, List, [], ◌∷◌, length, get_or, take, drop, Option, Some, None, is_some, refl, sym, ap, subst, ◌∙◌, arith, inl, inr}
use Rattle.std.specs.declared.cmp.Ordering.{Ordering}
use Rattle.std.specs.declared.cmp.Ordering.TheVariants.{Less, Equal, Greater}
use Rattle.std.specs.Ordering.{is_lt, is_eq, on, eq_by_cmp, ordering_then, ordering_reverse}
use Rattle.std.specs.Cmp.{tied_itself, IsTotalOrder, IsStrictWeakOrder, eq_by_cmp_equiv, on_total, then_total}
use Rattle.std.specs.List.{AllByRecursion, Contains, filter, list_any, dedup}
use Rattle.std.specs.List.Sorted.{IsPermutation, IsSorted, IsStrictlySortedBy, IsPartitionedBy, IsPartitionPoint}
use Rattle.std.proofs.lemmas.Bool.{and_parts, and_from, false_from_ne_true}
use Rattle.std.proofs.lemmas.List.{take-append-drop}
use Rattle.std.proofs.lemmas.List.Folds.{list_any-append}
use Rattle.std.proofs.lemmas.List.Kept.{Any-dedup, Contains-from_dedup, IsStrictlySortedBy-dedup, IsStrictlySortedBy-filter}
use Rattle.std.proofs.lemmas.List.Sorted.{ranks_by, Contains-permutation}
use Rattle.dns_names.specs.Order.{canonical_cmp, canonical_total, same_name}
use Rattle.dns_data.specs.declared.record.Record.{Record}
use Rattle.dns_data.specs.Rdata.{IsRecord}
use Rattle.dns_data.specs.RecordOrder.{data_order}
use Rattle.dns_data.proofs.RecordOrderLemmas.{data_answers}
use Rattle.zone_core.proofs.BelowLemmas.{Name, no_test}
use Rattle.zone_core.proofs.MetLemmas.{among_of, of_among, any_is, is_any}
use Rattle.zone_core.proofs.SetLemmas.{name_is, name_self}
use Rattle.zone_tools.specs.ReverseNames.{place_of}
use Rattle.zone_tools.specs.HostNames.{is_wildcard}
use Rattle.zone_tools.specs.SharedAddresses.{HasPlace, IsShared, address_order, AreShared, has_place, AreDistinct, is_namesake, is_shared}
use Rattle.zone_tools.proofs.AnswerLemmas.{among_filter}
use Rattle.zone_tools.proofs.PointerLemmas.{place_is, is_place, data_total, both_tied, all_at}

abbrev pub by_data : Record → Record → Ordering
by_data = on (λ r. r.rdata) data_order

by_data_total : IsTotalOrder by_data
by_data_total = on_total (λ (r : Record). r.rdata) data_total

pub address_total : IsTotalOrder address_order
address_total = then_total by_data_total (on_total (λ (r : Record). r.owner) canonical_total)

pub address_ranks : IsStrictWeakOrder (λ r s. is_lt (address_order r s))
address_ranks = ranks_by address_total (λ (r : Record). r)

abbrev pub AreUp : List Record → Type 0
AreUp = IsStrictlySortedBy address_order

-- ---- those of a filter

pub filter_parts : (p : Record → Bool) (rs : List Record) (r : Record) → Contains (filter p rs) r → Contains rs r × (p r ≡ true)
filter_parts p rs r c =
    let both = (among_filter [] p rs r).0 (among_of (filter p rs) r c) in
    (of_among rs r both.0, both.1)

pub in_filter : (p : Record → Bool) (rs : List Record) (r : Record) → Contains rs r → p r ≡ true → Contains (filter p rs) r
in_filter p rs r c e = of_among (filter p rs) r ((among_filter [] p rs r).1 (among_of rs r c, e))

not_true : (b : Bool) → not b ≡ true → b ≡ false
not_true true e = absurd cc
not_true false e = refl

true_not : (b : Bool) → b ≡ false → not b ≡ true
true_not true e = absurd cc
true_not false e = refl

-- ---- records with a place

some_is : (o : Option Name) → is_some o ≡ true → (name : Name) × (o ≡ Some name)
some_is None e = absurd cc
some_is (Some name) e = (name, refl)

placed_is : (origin : Name) (rs : List Record) (r : Record) → Contains (filter (has_place origin) rs) r → HasPlace origin rs r
placed_is origin rs r c =
    let both = filter_parts (has_place origin) rs r c in
    let parts = and_parts (not (is_wildcard r.owner)) (is_some (place_of origin r.rdata)) both.1 in
    let found = some_is (place_of origin r.rdata) parts.1 in
    record { there = both.0; host = not_true (is_wildcard r.owner) parts.0; owner = found.0; place = place_is origin r.rdata found.0 found.1 }

is_placed : (origin : Name) (rs : List Record) (r : Record) → HasPlace origin rs r → Contains (filter (has_place origin) rs) r
is_placed origin rs r has =
    in_filter (has_place origin) rs r has.there
    (and_from (not (is_wildcard r.owner)) (is_some (place_of origin r.rdata)) (true_not (is_wildcard r.owner) has.host) (ap is_some (is_place origin r.rdata has.owner has.place)))

-- ---- distinct records

tie_kept : (rs : List Record) (r : Record) → Contains rs r → (s : Record) × Contains (dedup (eq_by_cmp address_order) rs) s × (eq_by_cmp address_order r s ≡ true)
tie_kept rs r c =
    let found = Any-dedup (eq_by_cmp_equiv address_total) rs r c in
    (found.1, (found.0, found.2, found.3), found.4)

pub distinct_are : (all sorted distinct : List Record) → IsPermutation all sorted → IsPermutation sorted all → IsSorted address_order sorted
    → distinct ≡ dedup (eq_by_cmp address_order) sorted → AreDistinct all distinct
distinct_are all sorted distinct there back up is =
    subst (AreDistinct all) (sym is)
    (record {
      each = λ r c. Contains-permutation sorted all r back (Contains-from_dedup (eq_by_cmp address_order) sorted r c);
      every = λ r c. tie_kept sorted r (Contains-permutation all sorted r there c);
      order = IsStrictlySortedBy-dedup address_total (λ r s. refl) sorted up;
    })

-- ---- the first of an address

is_equal : (o : Ordering) → is_eq o ≡ true → o ≡ Equal
is_equal Less e = absurd cc
is_equal Equal e = refl
is_equal Greater e = absurd cc

is_less : (o : Ordering) → is_lt o ≡ true → o ≡ Less
is_less Less e = refl
is_less Equal e = absurd cc
is_less Greater e = absurd cc

-- an order of two parts is less where the first is, or where that ties and the second is
less_parts : (first second : Ordering) → ordering_then first second ≡ Less → (first ≡ Less) ⊎ ((first ≡ Equal) × (second ≡ Less))
less_parts Less second e = inl refl
less_parts Equal second e = inr (refl, e)
less_parts Greater second e = absurd cc

-- what comes before what is less is less
less_before : (r x z : Record) → address_order x z ≡ Less → is_lt (by_data z r) ≡ true → is_lt (by_data x r) ≡ true
less_before r x z up e =
    (elim (less_parts (by_data x z) (canonical_cmp x.owner z.owner) up) [
      | inl less ↦ ap is_lt (by_data_total.trans x z r less (is_less (by_data z r) e))
      | inr tied ↦ ap is_lt (by_data_total.congr x z r tied.0) ∙ e
    ])

at_index : (P : Record → Type 0) (rs : List Record) (k : ℕ) (d : Record) → AllByRecursion P rs → k < length rs → P (get_or rs k d)
at_index P [] k d all lt = absurd (omega arith)
at_index P (x ∷ rs) zero d all lt = all.0
at_index P (x ∷ rs) (suc k) d all lt = at_index P rs k d all.1 (omega (arith, lt))

pub parted_by_data : (r : Record) (rs : List Record) → AreUp rs → IsPartitionedBy (λ x. is_lt (by_data x r)) rs
unfolding IsStrictlySortedBy
parted_by_data r [] up i j d le lt e = absurd (omega arith)
parted_by_data r (x ∷ rs) up zero zero d le lt e = e
parted_by_data r (x ∷ rs) up zero (suc j) d le lt e =
    less_before r x (get_or rs j d) (at_index (λ z. address_order x z ≡ Less) rs j d up.0 (omega (arith, lt))) e
parted_by_data r (x ∷ rs) up (suc i) zero d le lt e = absurd (omega arith)
parted_by_data r (x ∷ rs) up (suc i) (suc j) d le lt e = parted_by_data r rs up.1 i j d (omega (arith, le)) (omega (arith, lt)) e

-- before the place there is none with the address
none_before : (r : Record) (rs : List Record) (i : ℕ) → ((k : ℕ) (d : Record) → k < i → k < length rs → is_lt (by_data (get_or rs k d) r) ≡ true) → list_any (is_namesake r) (take i rs) ≡ false
none_before r [] zero all = refl
none_before r [] (suc i) all = refl
none_before r (x ∷ rs) zero all = refl
none_before r (x ∷ rs) (suc i) all =
    let less = is_less (by_data x r) (all 0 x (omega arith) (omega arith)) in
    let other : is_namesake r x ≡ false = ap (λ (o : Ordering). is_eq o && not (same_name x.owner r.owner)) less in
    rw other (none_before r rs i (λ k d lt within. all (suc k) d (omega arith) (omega (arith, within))))

-- from the place on all have the address or a later one
all_from : (r : Record) (rs : List Record) (i : ℕ) → ((k : ℕ) (d : Record) → i ≤ k → k < length rs → is_lt (by_data (get_or rs k d) r) ≡ false) → AllByRecursion (λ x. is_lt (by_data x r) ≡ false) (drop i rs)
all_from r [] zero all = tt
all_from r [] (suc i) all = tt
all_from r (x ∷ rs) zero all = (all 0 x (omega arith) (omega arith), all_from r rs zero (λ k d le lt. all (suc k) d (omega arith) (omega (arith, lt))))
all_from r (x ∷ rs) (suc i) all = all_from r rs i (λ k d le lt. all (suc k) d (omega (arith, le)) (omega (arith, lt)))

up_from : (rs : List Record) (i : ℕ) → AreUp rs → AreUp (drop i rs)
unfolding IsStrictlySortedBy
up_from [] zero up = tt
up_from [] (suc i) up = tt
up_from (x ∷ rs) zero up = up
up_from (x ∷ rs) (suc i) up = up_from rs i up.1

-- between two that tie all tie: one that comes before a tied one, and is not less, ties
tied_before : (r x z : Record) → address_order x z ≡ Less → is_lt (by_data x r) ≡ false → by_data z r ≡ Equal → by_data x r ≡ Equal
tied_before r x z up low tied =
    (elim (less_parts (by_data x z) (canonical_cmp x.owner z.owner) up) [
      | inl less ↦ absurd (no_test (is_lt (by_data x r)) (ap is_lt (tied_less less)) low)
      | inr both ↦ by_data_total.congr x z r both.0 ∙ tied
    ])
  where
    turned : by_data r z ≡ Equal
    turned = by_data_total.antisymm r z ∙ ap ordering_reverse tied

    -- x is less than z, and so than what ties with z
    tied_less : by_data x z ≡ Less → by_data x r ≡ Less
    tied_less less =
        let back : by_data z x ≡ ordering_reverse Less = by_data_total.antisymm z x ∙ ap ordering_reverse less in
        by_data_total.antisymm x r ∙ ap ordering_reverse (by_data_total.congr r z x turned ∙ back)

-- of two with one address in order, one has another owner
one_differs : (r x y : Record) → address_order x y ≡ Less → by_data x r ≡ Equal → by_data y r ≡ Equal → is_namesake r x ≡ false → is_namesake r y ≡ true
one_differs r x y up tied also same = by_owner (same_name y.owner r.owner) refl
  where
    named : (z : Record) → by_data z r ≡ Equal → is_namesake r z ≡ not (same_name z.owner r.owner)
    named z e = ap (λ (o : Ordering). is_eq o && not (same_name z.owner r.owner)) e

    first_same : x.owner ≡ r.owner
    first_same = name_is x.owner r.owner (not_false (same_name x.owner r.owner) (sym (named x tied) ∙ same))
      where
        not_false : (b : Bool) → not b ≡ false → b ≡ true
        not_false true e = refl
        not_false false e = absurd cc

    data_tied : by_data x y ≡ Equal
    data_tied = by_data_total.antisymm x y ∙ ap ordering_reverse (by_data_total.congr y r x also ∙ by_data_total.antisymm r x ∙ ap ordering_reverse tied)

    owner_less : y.owner ≡ r.owner → ⊥
    owner_less e =
        let whole : ordering_then (by_data x y) (canonical_cmp x.owner y.owner) ≡ Equal =
        ap (λ (o : Ordering). ordering_then o (canonical_cmp x.owner y.owner)) data_tied ∙ ap (λ (n : Name). canonical_cmp n y.owner) (first_same ∙ sym e) ∙ tied_itself canonical_total y.owner in
        (let f : Less ≡ Equal = sym up ∙ whole in cc)

    by_owner : (b : Bool) → same_name y.owner r.owner ≡ b → is_namesake r y ≡ true
    by_owner true e = absurd (owner_less (name_is y.owner r.owner e))
    by_owner false e = named y also ∙ ap not e

or_right : (a b : Bool) → b ≡ true → (a || b) ≡ true
or_right true b e = refl
or_right false b e = e

-- where a later one has the address, one of the first two has
near : (r x y z : Record) → address_order x y ≡ Less → address_order y z ≡ Less → is_lt (by_data x r) ≡ false → is_lt (by_data y r) ≡ false
    → is_namesake r z ≡ true → (is_namesake r x || is_namesake r y) ≡ true
near r x y z up also low low2 named = by_first (is_namesake r x) refl
  where
    tied : by_data z r ≡ Equal
    tied = is_equal (by_data z r) (and_parts (is_eq (by_data z r)) (not (same_name z.owner r.owner)) named).0

    second : by_data y r ≡ Equal
    second = tied_before r y z also low2 tied

    by_first : (b : Bool) → is_namesake r x ≡ b → (is_namesake r x || is_namesake r y) ≡ true
    by_first true e = ap (λ (b : Bool). b || is_namesake r y) e
    by_first false e = or_right (is_namesake r x) (is_namesake r y) (one_differs r x y up (tied_before r x y up low second) second e)

two_tell : (r : Record) (rs : List Record) → AreUp rs → AllByRecursion (λ x. is_lt (by_data x r) ≡ false) rs → list_any (is_namesake r) rs ≡ list_any (is_namesake r) (take 2 rs)
unfolding IsStrictlySortedBy
two_tell r [] up low = refl
two_tell r (x ∷ []) up low = refl
two_tell r (x ∷ y ∷ rs) up low = by_rest (list_any (is_namesake r) rs) refl
  where
    absorbed : (a b : Bool) → (a || b) ≡ true → (a || (b || true)) ≡ (a || (b || false))
    absorbed true b e = refl
    absorbed false true e = refl
    absorbed false false e = absurd cc

    by_rest : (b : Bool) → list_any (is_namesake r) rs ≡ b → (is_namesake r x || (is_namesake r y || list_any (is_namesake r) rs)) ≡ (is_namesake r x || (is_namesake r y || false))
    by_rest false e = ap (λ (b : Bool). is_namesake r x || (is_namesake r y || b)) e
    by_rest true e =
        let found = any_is (is_namesake r) rs e in
        let after = all_at (λ z. address_order y z ≡ Less) rs found.0 up.1.0 found.1 in
        ap (λ (b : Bool). is_namesake r x || (is_namesake r y || b)) e ∙ absorbed (is_namesake r x) (is_namesake r y) (near r x y found.0 up.0.0 after low.0 low.1.0 found.2)

pub near_tells : (r : Record) (rs : List Record) (i : ℕ) → AreUp rs → IsPartitionPoint (λ x. is_lt (by_data x r) ≡ true) (λ x. is_lt (by_data x r) ≡ false) rs i
    → list_any (is_namesake r) (take 2 (drop i rs)) ≡ is_shared rs r
near_tells r rs i up parts =
    sym (ap (list_any (is_namesake r)) (sym (take-append-drop i rs)) ∙ list_any-append (is_namesake r) (take i rs) (drop i rs)
    ∙ ap (λ (b : Bool). b || list_any (is_namesake r) (drop i rs)) (none_before r rs i (λ k d lt within. parts.0 k d (omega arith) lt))
    ∙ two_tell r (drop i rs) (up_from rs i up) (all_from r rs i (λ k d le lt. parts.1 k d le lt)))

-- ---- those that are shared

module _ (origin : Name) (rs uses : List Record) (are : AllByRecursion IsRecord rs) (distinct : AreDistinct (filter (has_place origin) rs) uses) where
  use_is : (r : Record) → Contains uses r → HasPlace origin rs r
  use_is r c = placed_is origin rs r (distinct.each r c)

  data_is : (r s : Record) → Contains rs r → Contains rs s → (data_order r.rdata s.rdata ≡ Equal) ↔ (r.rdata ≡ s.rdata)
  data_is r s c d =
      data_answers r.rdata s.rdata (all_at IsRecord rs r are (among_of rs r c)).rdata (all_at IsRecord rs s are (among_of rs s d)).rdata (data_order r.rdata s.rdata) refl

  shared_is : (r : Record) → Contains (filter (is_shared uses) uses) r → IsShared origin rs r
  shared_is r c =
      let both = filter_parts (is_shared uses) uses r c in
      let found = any_is (is_namesake r) uses both.1 in
      let s = found.0 in
      let parts = and_parts (is_eq (data_order s.rdata r.rdata)) (not (same_name s.owner r.owner)) found.2 in
      let other = use_is s (of_among uses s found.1) in
      let place = use_is r both.0 in
      record {
        place = place;
        other = s;
        other_place = other;
        address = (data_is s r other.there place.there).0 (is_equal (data_order s.rdata r.rdata) parts.0);
        name = λ e. no_test (same_name s.owner r.owner) (ap (λ (n : Name). same_name n r.owner) e ∙ name_self r.owner) (not_true (same_name s.owner r.owner) parts.1);
      }

  pub record IsKept (r : Record) : Type 0 where
    pub kept : Record
    pub there : Contains uses kept
    pub owner : kept.owner ≡ r.owner
    pub address : kept.rdata ≡ r.rdata

  kept_of : (r : Record) → HasPlace origin rs r → IsKept r
  kept_of r has =
      let found = distinct.every r (is_placed origin rs r has) in
      let s = found.0 in
      let tied = both_tied (data_order r.rdata s.rdata) (canonical_cmp r.owner s.owner) (is_equal (address_order r s) found.2) in
      let place = use_is s found.1 in
      record {
        kept = s;
        there = found.1;
        owner = sym (name_is r.owner s.owner (ap is_eq tied.1));
        address = sym ((data_is r s has.there place.there).0 tied.0);
      }

  is_shared_of : (r : Record) → IsShared origin rs r → (s : Record) × Contains (filter (is_shared uses) uses) s × (s.owner ≡ r.owner) × (s.rdata ≡ r.rdata)
  is_shared_of r shared =
      let mine = kept_of r shared.place in
      let theirs = kept_of shared.other shared.other_place in
      let s = mine.kept in
      let o = theirs.kept in
      let same : o.rdata ≡ s.rdata = theirs.address ∙ shared.address ∙ sym mine.address in
      let tied = (data_is o s (use_is o theirs.there).there (use_is s mine.there).there).1 same in
      let apart : same_name o.owner s.owner ≡ false =
      false_from_ne_true (same_name o.owner s.owner) (λ e. shared.name (sym theirs.owner ∙ name_is o.owner s.owner e ∙ mine.owner)) in
      let named = and_from (is_eq (data_order o.rdata s.rdata)) (not (same_name o.owner s.owner)) (ap is_eq tied) (true_not (same_name o.owner s.owner) apart) in
      (s, in_filter (is_shared uses) uses s mine.there (is_any (is_namesake s) uses o (among_of uses o theirs.there) named), mine.owner, mine.address)

  pub shared_are : AreShared origin rs (filter (is_shared uses) uses)
  shared_are = record { each = shared_is; all = is_shared_of; order = IsStrictlySortedBy-filter address_order (is_shared uses) uses distinct.order }
