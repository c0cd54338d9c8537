-- Records that are put in order by where they stand.
use Rattle.std.proofs.Common.{◌≡◌, ◌≢◌, ℕ, zero, suc, ◌+◌, ◌<◌, ◌≤◌, List, [], ◌∷◌, length, get_or, set, refl, sym, ap, subst, ◌∙◌, arith, get_or-set_same, get_or-set_other, length-set, eqb, Bool, true, false, cond, map, ◌++◌}
use Rattle.std.specs.declared.cmp.Ordering.{Ordering}
use Rattle.std.specs.declared.cmp.Ordering.TheVariants.{Less, Equal, Greater}
use Rattle.std.specs.Ordering.{is_lt, is_eq, nat_cmp, ordering_then}
use denote.Ref.{Bor}
use denote.Param.Members.{Mut}
use Rattle.std.specs.Fn.{Called}
use Rattle.std.specs.Cmp.{IsStrictWeakOrder, nat_cmp_total, on_total, then_total}
use Rattle.std.specs.List.{SwappedAt, IsDistinct, range_with_len, filter, All, AllByRecursion}
use Rattle.std.specs.List.Sorted.{IsSorted, IsSortedBy, IsSortedByClosure, ties}
use Rattle.std.proofs.lemmas.Bool.Decides.{nat_tests}
use Rattle.std.proofs.lemmas.Fn.{always_returns_same}
use Rattle.std.proofs.lemmas.List.{get_or_default, get_or-map, length-map, same_lists}
use Rattle.std.proofs.lemmas.List.FromFn.{length-range_with_len, get_or-range_with_len, length-map-range_with_len, get_or-map-range_with_len}
use Rattle.std.proofs.lemmas.List.Elements.{All-from_recursion}
use Rattle.std.proofs.lemmas.List.Sorted.{ranks_by, length_permutation, All-permutation, Contains-permutation}
use Rattle.std.proofs.lemmas.Map.Keys.{IsDistinct-from_apart, IsDistinct-IsPermutation, apart_from_distinct, ge_from_not_lt}
use Rattle.dns_names.specs.Keys.{key_of as name_key}
use Rattle.dns_data.specs.declared.record.Record.{Record}
use Rattle.dns_data.specs.Rdata.{IsRecord}
use Rattle.dns_data.specs.RecordOrder.{Key, key_of as record_key, key_total}
use Rattle.zone_core.specs.declared.sorting.KeyPrefix.{KeyPrefix}
use Rattle.zone_core.specs.Sets.{key_of, record_order, same_key, set_of}
use Rattle.zone_core.specs.KeyPrefixes.{no_prefix, prefix_behind, prefix_order, ShareOctets}
use Rattle.zone_core.specs.Views.{position_order, ArePositions, AreInverse, AreTaken}
use Rattle.zone_core.proofs.SetLemmas.{key_is}
use Rattle.zone_core.proofs.SortLemmas.{ties_is, stable_set}
use Rattle.zone_core.proofs.SharedOctetLemmas.{IsBehind, prefixes, heads_first}
use Rattle.zone_core.proofs.TieLemmas.{same_ties}

is_or_not : (i j : ℕ) (A : Type 0) → (i ≡ j → A) → (i ≢ j → A) → A
is_or_not zero zero A same other = same refl
is_or_not zero (suc j) A same other = other (λ e. omega (arith, e))
is_or_not (suc i) zero A same other = other (λ e. omega (arith, e))
is_or_not (suc i) (suc j) A same other = is_or_not i j A (λ e. same (ap suc e)) (λ e. other (λ f. e (omega (arith, f))))

-- from one number on, the second list leads back from where the first leads
abbrev pub LeadsBack : List ℕ → List ℕ → ℕ → ℕ → Type 0
LeadsBack q p k n = (m : ℕ) → k ≤ m → m < n → (k ≤ get_or q m 0) × (get_or q m 0 < n) × (get_or p (get_or q m 0) 0 ≡ m)

-- one place further, where the two that meet at the place are led to each other
step : (q p : List ℕ) (k n : ℕ) → length q ≡ n → length p ≡ n → k < n → LeadsBack q p k n → LeadsBack p q k n
    → LeadsBack (set q (get_or p k 0) (get_or q k 0)) (set p (get_or q k 0) (get_or p k 0)) (k + 1) n
step q p k n q_len p_len below there back m from upto =
    let s = get_or q k 0 in
    let t = get_or p k 0 in
    let here = there k (omega arith) below in
    let behind = back k (omega arith) below in
    is_or_not m t ((k + 1 ≤ get_or (set q t s) m 0) × (get_or (set q t s) m 0 < n) × (get_or (set p s t) (get_or (set q t s) m 0) 0 ≡ m))
    (λ e.
    let read : get_or (set q t s) m 0 ≡ s = ap (λ i. get_or (set q t s) i 0) e ∙ get_or-set_same q t s 0 (omega (arith, behind.1)) in
    let differ : s ≢ k = λ f. let g : t ≡ k = ap (λ i. get_or p i 0) (sym f) ∙ here.2 in omega (arith, e, g) in (
      omega (arith, read, here.0, differ),
      omega (arith, read, here.1),
      ap (λ i. get_or (set p s t) i 0) read ∙ get_or-set_same p s t 0 (omega (arith, here.1)) ∙ sym e,
    ))
    (λ other.
    let was = there m (omega arith) upto in
    let read : get_or (set q t s) m 0 ≡ get_or q m 0 = get_or-set_other q t m s 0 other in
    let not_k : get_or q m 0 ≢ k = λ f. other (sym was.2 ∙ ap (λ i. get_or p i 0) f) in
    let not_s : get_or q m 0 ≢ s = λ f. let g : m ≡ k = sym was.2 ∙ ap (λ i. get_or p i 0) f ∙ here.2 in omega (arith, g) in (
      omega (arith, read, was.0, not_k),
      omega (arith, read, was.1),
      ap (λ i. get_or (set p s t) i 0) read ∙ get_or-set_other p s (get_or q m 0) t 0 not_s ∙ was.2,
    ))

-- how far the records are arranged, of which those from a place on still stand where the sources lead
pub record AreOnTheWay (rs : List Record) (first : List ℕ) (xs : List Record) (q p : List ℕ) (k : ℕ) : Type 0 where
  pub rows : length xs ≡ length rs
  pub q_len : length q ≡ length rs
  pub p_len : length p ≡ length rs
  pub there : LeadsBack q p k (length rs)
  pub back : LeadsBack p q k (length rs)
  pub done : (m : ℕ) (d : Record) → m < k → m < length rs → get_or xs m d ≡ get_or rs (get_or first m 0) d
  pub left : (m : ℕ) (d : Record) → k ≤ m → m < length rs → get_or xs (get_or q m 0) d ≡ get_or rs (get_or first m 0) d

module _ (rs : List Record) (first : List ℕ) (xs ys : List Record) (q p : List ℕ) (k s t : ℕ) (below : k < length rs) (way : AreOnTheWay rs first xs q p k)
    (source : s ≡ get_or q k 0) (place : t ≡ get_or p k 0) (count : length ys ≡ length xs) (swapped : SwappedAt xs ys k s) where
  here : (k ≤ get_or q k 0) × (get_or q k 0 < length rs) × (get_or p (get_or q k 0) 0 ≡ k)
  here = way.there k (omega arith) below

  behind : (k ≤ get_or p k 0) × (get_or p k 0 < length rs) × (get_or q (get_or p k 0) 0 ≡ k)
  behind = way.back k (omega arith) below

  pub on_the_way : AreOnTheWay rs first ys (set q t s) (set p s t) (k + 1)
  on_the_way = record {
    rows = count ∙ way.rows;
    q_len = length-set q t s ∙ way.q_len;
    p_len = length-set p s t ∙ way.p_len;
    there = subst (λ x. LeadsBack (set q x s) (set p s x) (k + 1) (length rs)) (sym place)
        (subst (λ x. LeadsBack (set q (get_or p k 0) x) (set p x (get_or p k 0)) (k + 1) (length rs)) (sym source) (step q p k (length rs) way.q_len way.p_len below way.there way.back));
    back = subst (λ x. LeadsBack (set p s x) (set q x s) (k + 1) (length rs)) (sym place)
        (subst (λ x. LeadsBack (set p x (get_or p k 0)) (set q (get_or p k 0) x) (k + 1) (length rs)) (sym source) (step p q k (length rs) way.p_len way.q_len below way.back way.there));
    done = λ m d low upto. is_or_not m k (get_or ys m d ≡ get_or rs (get_or first m 0) d)
        (λ e. ap (λ i. get_or ys i d) e ∙ swapped.0 d ∙ ap (λ i. get_or xs i d) source ∙ way.left k d (omega arith) below ∙ ap (λ i. get_or rs (get_or first i 0) d) (sym e))
        (λ other. swapped.2 m d other (λ e. omega (arith, e, source, here.0, low, other)) ∙ way.done m d (omega (arith, other)) upto);
    left = λ m d low upto. is_or_not m t (get_or ys (get_or (set q t s) m 0) d ≡ get_or rs (get_or first m 0) d)
        (λ e.
        let read : get_or (set q t s) m 0 ≡ s = ap (λ i. get_or (set q t s) i 0) e ∙ get_or-set_same q t s 0 (omega (arith, place, behind.1, way.q_len)) in
        ap (λ i. get_or ys i d) read ∙ swapped.1 d
        ∙ ap (λ i. get_or xs i d) (sym behind.2 ∙ ap (λ i. get_or q i 0) (sym (e ∙ place))) ∙ way.left m d (omega arith) upto)
        (λ other.
        let was = way.there m (omega arith) upto in
        let read : get_or (set q t s) m 0 ≡ get_or q m 0 = get_or-set_other q t m s 0 other in
        ap (λ i. get_or ys i d) read
        ∙ swapped.2 (get_or q m 0) d
        (λ f. other (sym was.2 ∙ ap (λ i. get_or p i 0) f ∙ sym place))
        (λ f. let g : m ≡ k = sym was.2 ∙ ap (λ i. get_or p i 0) (f ∙ source) ∙ here.2 in omega (arith, g))
        ∙ way.left m d (omega arith) upto);
  }

-- ---- places

module _ (n : ℕ) (q : List ℕ) (are : ArePositions n q) where
  pub places_len : length q ≡ n
  places_len = length_permutation (range_with_len 0 n) q are ∙ length-range_with_len 0 n

  pub place_within : (m : ℕ) → m < n → get_or q m 0 < n
  place_within m below =
      All-permutation (λ x. x < n) (range_with_len 0 n) q are
      (λ k d upto.
      let short : k < n = omega (arith, upto, length-range_with_len 0 n) in
      omega (arith, get_or-range_with_len 0 n k d short)) m 0 (omega (arith, places_len))

  pub places_differ : (i j : ℕ) → i < j → j < n → get_or q i 0 ≢ get_or q j 0
  places_differ i j up below e =
      let range : IsDistinct eqb (range_with_len 0 n) =
      IsDistinct-from_apart eqb (range_with_len 0 n) (λ a b d more upto.
      let short : b < n = omega (arith, upto, length-range_with_len 0 n) in
      (λ k. eqb (get_or-range_with_len 0 n a d (omega (arith, short, more)) k) (get_or-range_with_len 0 n b d short k)) ∙ not_equal (0 + a) (0 + b) (omega (arith, more))) in
      let distinct : IsDistinct eqb q = IsDistinct-IsPermutation eqb flips (range_with_len 0 n) q are range in
      let apart = apart_from_distinct eqb q i j 0 distinct up (omega (arith, places_len)) in
      let c : true ≡ false = sym (equal (get_or q i 0) (get_or q j 0) e) ∙ apart in
      absurd cc
    where
      not_equal : (a b : ℕ) → a < b → eqb a b ≡ false
      not_equal a b less = grind (arith, nat_tests)

      equal : (a b : ℕ) → a ≡ b → eqb a b ≡ true
      equal a b e = grind (arith, nat_tests)

      flips : (a b : ℕ) → eqb a b ≡ eqb b a
      flips a b = grind (arith, nat_tests)

  pub place_of : (m : ℕ) → m < n → (j : ℕ) × (j < n) × (get_or q j 0 ≡ m)
  place_of m below =
      let found = Contains-permutation (range_with_len 0 n) q m are (m, omega (arith, length-range_with_len 0 n), get_or-range_with_len 0 n m m below ∙ none m) in
      (found.0, omega (arith, found.1, places_len), get_or_default q found.0 0 m found.1 ∙ found.2)
    where
      none : (a : ℕ) → 0 + a ≡ a
      none a = omega arith

-- one place more has its source
pub inverse_more : (q p : List ℕ) (i : ℕ) → ArePositions (length q) q → i < length q → length p ≡ length q
    → ((m : ℕ) → m < i → get_or p (get_or q m 0) 0 ≡ m) → (m : ℕ) → m < i + 1 → get_or (set p (get_or q i 0) i) (get_or q m 0) 0 ≡ m
inverse_more q p i are below len so_far m upto =
    is_or_not m i (get_or (set p (get_or q i 0) i) (get_or q m 0) 0 ≡ m)
    (λ e. ap (λ a. get_or (set p (get_or q i 0) i) (get_or q a 0) 0) e ∙ get_or-set_same p (get_or q i 0) i 0 (omega (arith, place_within (length q) q are i below, len)) ∙ sym e)
    (λ other.
    let less : m < i = omega (arith, other) in
    get_or-set_other p (get_or q i 0) (get_or q m 0) i 0 (places_differ (length q) q are m i less below) ∙ so_far m less)

-- ---- at the start, and at the end

module _ (rs : List Record) (q p : List ℕ) (are : ArePositions (length rs) q) (inverse : AreInverse q p) where
  pub on_no_way : AreOnTheWay rs q rs q p 0
  on_no_way =
      let len : length q ≡ length rs = places_len (length rs) q are in
      record {
        rows = refl;
        q_len = len;
        p_len = inverse.0 ∙ len;
        there = λ m low upto.
            let own = inverse.1 m (omega (arith, len)) in
            (omega arith, omega (arith, own.0, len), own.1);
        back = λ m low upto.
            let found = place_of (length rs) q are m upto in
            let is : get_or p m 0 ≡ found.0 = ap (λ i. get_or p i 0) (sym found.2) ∙ (inverse.1 found.0 (omega (arith, found.1, len))).1 in
            (omega arith, omega (arith, is, found.1), ap (λ i. get_or q i 0) is ∙ found.2);
        done = λ m d low upto. absurd (omega (arith, low));
        left = λ m d low upto. refl;
      }

pub at_the_end : (rs : List Record) (first : List ℕ) (xs : List Record) (q p : List ℕ) (k : ℕ) → ArePositions (length rs) first → length rs ≤ k → AreOnTheWay rs first xs q p k → AreTaken rs first xs
at_the_end rs first xs q p k are far way =
    let len = places_len (length rs) first are in
    (way.rows ∙ sym len, λ m d upto. way.done m d (omega (arith, upto, len)) (omega (arith, upto, len)))

-- ---- places that are sorted by what stands there

-- by an order that a closure answers by
pub sorted_by : {F : Type 0} {g : Mut F (Bor ℕ × (Bor ℕ × Unit {0})) Ordering} {f : F} (cmp : ℕ → ℕ → Ordering) (ps : List ℕ) → IsStrictWeakOrder (λ p q. is_lt (cmp p q)) → IsSortedByClosure g f ps
    → ((a : Bor ℕ × (Bor ℕ × Unit {0})) (r : Ordering) (f' : F) → Called g f a r f' → (r ≡ cmp a.0.now a.1.0.now) × (f' ≡ f)) → IsSorted cmp ps
sorted_by {g = g} {f = f} cmp ps weak sorted answers =
    sorted (λ p q. is_lt (cmp p q)) weak (always_returns_same g (λ a r. is_lt r ≡ is_lt (cmp a.0.now a.1.0.now)) f (λ a r f' called. let one = answers a r f' called in (ap is_lt one.0, one.1)))

are_behind : (begin : List ℕ) (rs : List Record) → AllByRecursion IsRecord rs → AllByRecursion (λ r. (behind : List ℕ) × (name_key r.owner ≡ begin ++ behind)) rs → AllByRecursion (IsBehind begin) rs
are_behind begin [] are all = tt
are_behind begin (r ∷ rs) are all = (record { owner = are.0.owner; behind = all.0.0; key = all.0.1 }, are_behind begin rs are.1 all.1)

assoc : (a b c : Ordering) → ordering_then (ordering_then a b) c ≡ ordering_then a (ordering_then b c)
assoc Less b c = refl
assoc Equal b c = refl
assoc Greater b c = refl

not_first : (a b : Ordering) → is_lt (ordering_then a b) ≡ false → is_lt a ≡ false
not_first Less b e = e
not_first Equal b e = refl
not_first Greater b e = refl

is_equal : (o : Ordering) → is_eq o ≡ true → o ≡ Equal
is_equal Less e = absurd cc
is_equal Equal e = refl
is_equal Greater e = absurd cc

abbrev record_lt : Record → Record → Bool
record_lt r s = is_lt (record_order r s)

-- records that tie with another tie
both_tie : (x r s : Record) → ties record_lt x r ≡ true → ties record_lt x s ≡ true → record_order s r ≡ Equal
both_tie x r s this that =
    let same : same_key (key_of x) (key_of r) ≡ true = sym (ties_is x r) ∙ this in
    let also : same_key (key_of x) (key_of s) ≡ true = sym (ties_is x s) ∙ that in
    is_equal (record_order s r) (subst (λ k. same_key k (key_of r) ≡ true) (key_is (key_of x) (key_of s) also) same)

filter_map_is : (p : Record → Bool) (row : ℕ → Record) (ps : List ℕ) → filter p (map row ps) ≡ map row (filter (λ q. p (row q)) ps)
filter_map_is p row [] = refl
filter_map_is p row (q ∷ ps) = by_test (p (row q)) (filter_map_is p row ps)
  where
    by_test : (b : Bool) → filter p (map row ps) ≡ map row (filter (λ q. p (row q)) ps)
        → cond b (row q ∷ filter p (map row ps)) (filter p (map row ps)) ≡ map row (cond b (q ∷ filter (λ q. p (row q)) ps) (filter (λ q. p (row q)) ps))
    by_test true e = ap (λ rs. row q ∷ rs) e
    by_test false e = e

module _ (rs : List Record) (heads_are : List KeyPrefix) (other : Record) where
  abbrev pub row : ℕ → Record
  row p = get_or rs p other

  abbrev pub place_lt : ℕ → ℕ → Bool
  place_lt p q = is_lt (position_order rs heads_are other p q)

  -- the order of places is one
  pub place_ranks : IsStrictWeakOrder place_lt
  place_ranks =
      ranks_by
      (then_total (then_total (on_total (λ (v : (ℕ × ℕ) × (Key × ℕ)). v.0.0) nat_cmp_total) (on_total (λ (v : (ℕ × ℕ) × (Key × ℕ)). v.0.1) nat_cmp_total))
      (then_total (on_total (λ (v : (ℕ × ℕ) × (Key × ℕ)). v.1.0) key_total) (on_total (λ (v : (ℕ × ℕ) × (Key × ℕ)). v.1.1) nat_cmp_total)))
      (λ p. (((get_or heads_are p no_prefix).high, (get_or heads_are p no_prefix).low), (record_key (row p), p)))

  module _ (shared : ℕ) (have : ShareOctets shared rs) (are : AllByRecursion IsRecord rs) (is : heads_are ≡ map (λ r. prefix_behind shared r.owner) rs) where
    abbrev begin : List ℕ
    begin = have.0

    behinds : All (IsBehind begin) rs
    behinds = All-from_recursion (IsBehind begin) rs (are_behind begin rs are have.2)

    head_is : (p : ℕ) → p < length rs → get_or heads_are p no_prefix ≡ prefix_behind (length begin) (row p).owner
    head_is p below =
        ap (λ hs. get_or hs p no_prefix) is ∙ get_or-map (λ r. prefix_behind shared r.owner) rs p other no_prefix below ∙ ap (λ n. prefix_behind n (row p).owner) (sym have.1)

    -- prefixes that are right do not change the order
    by_records : (p q : ℕ) → p < length rs → q < length rs → position_order rs heads_are other p q ≡ ordering_then (record_order (row p) (row q)) (nat_cmp p q)
    by_records p q first second =
        (λ j. ordering_then (prefix_order (head_is p first j) (head_is q second j)) (ordering_then (record_order (row p) (row q)) (nat_cmp p q)))
        ∙ sym (assoc (prefixes (length begin) (row p) (row q)) (record_order (row p) (row q)) (nat_cmp p q))
        ∙ ap (λ o. ordering_then o (nat_cmp p q)) (heads_first begin (row p) (row q) (behinds p other first) (behinds q other second))

    module _ (ps : List ℕ) (moved : ArePositions (length rs) ps) (sorted : IsSortedBy place_lt ps) where
      taken_rows : (rows : List Record) → AreTaken rs ps rows → rows ≡ map row ps
      taken_rows rows taken =
          same_lists rows (map row ps) (taken.0 ∙ sym (length-map ps row))
          (λ k d below.
          let short : k < length ps = omega (arith, below, taken.0) in
          taken.1 k d short
          ∙ get_or_default rs (get_or ps k 0) d other (place_within (length rs) ps moved k (omega (arith, short, places_len (length rs) ps moved)))
          ∙ sym (get_or-map row ps k 0 d short))

      pub rows_sorted : (rows : List Record) → AreTaken rs ps rows → IsSorted record_order rows
      rows_sorted rows taken =
          subst (IsSorted record_order) (sym (taken_rows rows taken)) (λ k d low up.
          let short : k + 1 < length ps = omega (arith, up, length-map ps row) in
          let len = places_len (length rs) ps moved in
          let p = get_or ps k 0 in
          let q = get_or ps (k + 1) 0 in
          (λ j. is_lt (record_order (get_or-map row ps (k + 1) 0 d short j) (get_or-map row ps k 0 d (omega (arith, short)) j)))
          ∙ not_first (record_order (row q) (row p)) (nat_cmp q p)
          (ap is_lt (sym (by_records q p (place_within (length rs) ps moved (k + 1) (omega (arith, short, len))) (place_within (length rs) ps moved k (omega (arith, short, len))))) ∙ sorted k 0 low short))

      whole : map row (range_with_len 0 (length rs)) ≡ rs
      whole =
          same_lists (map row (range_with_len 0 (length rs))) rs (length-map-range_with_len row 0 (length rs))
          (λ k d below.
          let short : k < length rs = omega (arith, below, length-map-range_with_len row 0 (length rs)) in
          get_or-map-range_with_len row 0 (length rs) k k d short (omega arith) ∙ get_or_default rs k other d short)

      -- places where records tie with one are in their own order
      tied : (x : Record) (p q : ℕ) → p < length rs → q < length rs → ties record_lt x (row p) ≡ true → ties record_lt x (row q) ≡ true → place_lt q p ≡ false → p ≤ q
      tied x p q first second this that e =
          ge_from_not_lt q p
          (subst (λ o. is_lt (ordering_then o (nat_cmp q p)) ≡ false) (both_tie x (row p) (row q) this that) (ap is_lt (sym (by_records q p second first)) ∙ e))

      pub rows_set : (rows : List Record) → AreTaken rs ps rows → set_of rows ≡ set_of rs
      rows_set rows taken =
          ap set_of (taken_rows rows taken)
          ∙ stable_set rs (map row ps) (λ x.
          filter_map_is (ties record_lt x) row ps
          ∙ ap (map row) (same_ties (length rs) place_lt place_ranks ps moved sorted (λ p. ties record_lt x (row p)) (tied x))
          ∙ sym (filter_map_is (ties record_lt x) row (range_with_len 0 (length rs)))
          ∙ ap (filter (ties record_lt x)) whole)
