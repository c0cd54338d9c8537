-- Runs of a row in record order, which are found by halving.
use Rattle.std.proofs.Common.{◌≡◌, ℕ, zero, suc, ◌+◌, ◌-◌, ◌<◌, ◌≤◌, List, [], ◌∷◌, ◌++◌, length, take, drop, get_or, Bool, true, false, cond, ◌&&◌, ◌==◌, refl, sym, ap, subst, ◌∙◌, arith, append-nil, get_or-take, get_or-drop, length-take, length-drop}
use Rattle.std.specs.declared.cmp.Ordering.{Ordering}
use Rattle.std.specs.declared.cmp.Ordering.TheVariants.{Less, Equal, Greater}
use Rattle.std.specs.Ordering.{nat_cmp, ordering_then, ordering_index, is_lt, is_le, is_eq, ordering_reverse, on, then_cmp}
use Rattle.std.specs.Cmp.{IsTotalOrder, on_total, then_total, nat_cmp_total}
use Rattle.std.specs.List.{All, filter, slice_range}
use Rattle.std.specs.List.Sorted.{IsSortedBy, IsStrictlySortedBy, IsPartitionPoint, IsPartitionedBy, IsNonDecreasingBy}
use Rattle.std.proofs.lemmas.Bool.Decides.{nat_tests}
use Rattle.std.proofs.lemmas.List.{take-append-drop, take_all}
use Rattle.std.proofs.lemmas.List.Elements.{All-from_recursion, filter-append, filter_agree}
use Rattle.std.proofs.lemmas.List.Sorted.{searchable_from_sorted}
use Rattle.dns_names.specs.Order.{canonical_cmp, canonical_total, same_name}
use Rattle.dns_data.specs.declared.record.Record.{Record}
use Rattle.dns_data.specs.declared.record_type.RecordType.{RecordType}
use Rattle.dns_data.specs.Rdata.{type_of}
use Rattle.zone_core.specs.Sets.{key_of, rank_of, record_order, InOrder, at}
use Rattle.zone_core.specs.Views.{set_order, IsRun}

-- ---- places of a row in order

pub pair_order : (rs : List Record) → InOrder rs → (i j : ℕ) (d : Record) → i < j → j < length rs → record_order (get_or rs i d) (get_or rs j d) ≡ Less
unfolding IsStrictlySortedBy
pair_order [] order i j d up below = absurd (omega arith)
pair_order (r ∷ rs) order zero zero d up below = absurd (omega arith)
pair_order (r ∷ rs) order zero (suc j) d up below = All-from_recursion (λ s. record_order r s ≡ Less) rs order.0 j d (omega arith)
pair_order (r ∷ rs) order (suc i) zero d up below = absurd (omega arith)
pair_order (r ∷ rs) order (suc i) (suc j) d up below = pair_order rs order.1 i j d (omega arith) (omega arith)

-- ---- what the order of two records says of their owners and types

-- the order by owner, and then by type
abbrev pub head_cmp : List (List ℕ) × ℕ → List (List ℕ) × ℕ → Ordering
head_cmp = then_cmp (on (λ h. h.0) canonical_cmp) (on (λ h. h.1) nat_cmp)

pub head_total : IsTotalOrder head_cmp
head_total = then_total (on_total (λ h. h.0) canonical_total) (on_total (λ h. h.1) nat_cmp_total)

abbrev pub head_of : Record → List (List ℕ) × ℕ
head_of r = (r.owner, rank_of (type_of r.rdata))

first_le : (a b : Ordering) → ordering_then a b ≡ Less → is_le a ≡ true
first_le Less b e = refl
first_le Equal b e = refl
first_le Greater b e = absurd cc

back_not_less : {K : Type 0} (R : K → K → Ordering) → IsTotalOrder R → (x y : K) → is_le (R x y) ≡ true → is_lt (R y x) ≡ false
back_not_less R o x y le = turned (R x y) (R y x) (o.antisymm x y) le
  where
    turned : (a b : Ordering) → a ≡ ordering_reverse b → is_le a ≡ true → is_lt b ≡ false
    turned a Less e le = absurd (subst (λ o. is_le o ≡ true → ⊥) (sym e) (λ h. cc) le)
    turned a Equal e le = refl
    turned a Greater e le = refl

le_then : (a b : Ordering) → is_le (ordering_then a b) ≡ true → is_le a ≡ true
le_then Less b e = refl
le_then Equal b e = refl
le_then Greater b e = absurd cc

module _ (rs : List Record) (order : InOrder rs) where
  heads_rise : IsSortedBy (λ a b. is_lt (head_cmp (head_of a) (head_of b))) rs
  heads_rise k d low up =
      let pair = pair_order rs order k (k + 1) d (omega arith) (omega arith) in
      let a = get_or rs k d in
      let b = get_or rs (k + 1) d in
      back_not_less head_cmp head_total (head_of a) (head_of b) (first_le (head_cmp (head_of a) (head_of b)) _ pair)

  owners_rise : IsSortedBy (λ a b. is_lt (canonical_cmp a.owner b.owner)) rs
  owners_rise k d low up =
      let pair = pair_order rs order k (k + 1) d (omega arith) (omega arith) in
      let a = get_or rs k d in
      let b = get_or rs (k + 1) d in
      back_not_less canonical_cmp canonical_total a.owner b.owner (le_then (canonical_cmp a.owner b.owner) (nat_cmp (rank_of (type_of a.rdata)) (rank_of (type_of b.rdata))) (first_le (head_cmp (head_of a) (head_of b)) _ pair))

  pub by_owner : (name : List (List ℕ)) → IsNonDecreasingBy (λ (r : Record). ordering_index (canonical_cmp r.owner name)) rs
  by_owner name = searchable_from_sorted canonical_total (λ (r : Record). r.owner) rs name owners_rise

  pub by_head : (name : List (List ℕ)) (t : RecordType) → IsNonDecreasingBy (λ (r : Record). ordering_index (set_order name t r)) rs
  by_head name t = searchable_from_sorted head_total head_of rs (name, rank_of t) heads_rise

-- ---- a run between what is before it and what is after

pub rest_is : {A : Type 0} (xs : List A) (n : ℕ) → take (length xs - n) (drop n xs) ≡ drop n xs
rest_is xs n = take_all (length xs - n) (drop n xs) (omega (arith, length-drop n xs))

pub filter_none : (s : Record → Bool) (xs : List Record) → All (λ x. s x ≡ false) xs → filter s xs ≡ []
filter_none s [] all = refl
filter_none s (x ∷ xs) all = ap (λ b. cond b (x ∷ filter s xs) (filter s xs)) (all 0 x (omega arith)) ∙ filter_none s xs (λ k d below. all (suc k) d (omega arith))

filter_all : (s : Record → Bool) (xs : List Record) → All (λ x. s x ≡ true) xs → filter s xs ≡ xs
filter_all s [] all = refl
filter_all s (x ∷ xs) all = ap (λ b. cond b (x ∷ filter s xs) (filter s xs)) (all 0 x (omega arith)) ∙ ap (λ ys. x ∷ ys) (filter_all s xs (λ k d below. all (suc k) d (omega arith)))

module _ (before upto chosen : Record → Bool) where
  -- what a record is, by the two tests
  pub record Tells : Type 0 where
    pub lower : (r : Record) → before r ≡ true → chosen r ≡ false
    pub here : (r : Record) → before r ≡ false → upto r ≡ true → chosen r ≡ true
    pub above : (r : Record) → before r ≡ false → upto r ≡ false → chosen r ≡ false

  pub run_is : Tells → (rs rest : List Record) (i n : ℕ) → rest ≡ drop i rs → i ≤ length rs → n ≤ length rest
      → IsPartitionPoint (λ r. before r ≡ true) (λ r. before r ≡ false) rs i
      → IsPartitionPoint (λ r. upto r ≡ true) (λ r. upto r ≡ false) rest n
      → take n rest ≡ filter chosen rs
  run_is tells rs rest i n e within also first second =
      let count : length rest ≡ length rs - i = ap length e ∙ length-drop i rs in
      let behind : (k : ℕ) (d : Record) → k < length rest → before (get_or rest k d) ≡ false =
      λ k d below. subst (λ r. before r ≡ false) (sym (get_or-drop i rs k d) ∙ ap (λ xs. get_or xs k d) (sym e)) (first.1 (i + k) d (omega arith) (omega arith)) in
      let none : filter chosen (take i rs) ≡ [] =
      filter_none chosen (take i rs) (λ k d below.
      let short : k < i = omega (arith, length-take i rs) in
      subst (λ r. chosen r ≡ false) (sym (get_or-take i rs k d short)) (tells.lower (get_or rs k d) (first.0 k d (omega arith) short))) in
      let whole : filter chosen (take n rest) ≡ take n rest =
      filter_all chosen (take n rest) (λ k d below.
      let short : k < n = omega (arith, length-take n rest) in
      subst (λ r. chosen r ≡ true) (sym (get_or-take n rest k d short)) (tells.here (get_or rest k d) (behind k d (omega arith)) (second.0 k d (omega arith) short))) in
      let over : filter chosen (drop n rest) ≡ [] =
      filter_none chosen (drop n rest) (λ k d below.
      let long : n + k < length rest = omega (arith, length-drop n rest) in
      subst (λ r. chosen r ≡ false) (sym (get_or-drop n rest k d)) (tells.above (get_or rest (n + k) d) (behind (n + k) d long) (second.1 (n + k) d (omega arith) long))) in
      sym (ap (filter chosen) (sym (take-append-drop i rs)) ∙ filter-append chosen (take i rs) (drop i rs) ∙ ap (λ ys. ys ++ filter chosen (drop i rs)) none
      ∙ ap (filter chosen) (sym e ∙ sym (take-append-drop n rest)) ∙ filter-append chosen (take n rest) (drop n rest) ∙ ap (λ ys. ys ++ filter chosen (drop n rest)) whole
      ∙ ap (λ ys. take n rest ++ ys) over ∙ append-nil (take n rest))

  -- the same by its two ends
  pub run_bounds : Tells → (rs rest : List Record) (i n : ℕ) → rest ≡ drop i rs → i ≤ length rs → n ≤ length rest
      → IsPartitionPoint (λ r. before r ≡ true) (λ r. before r ≡ false) rs i
      → IsPartitionPoint (λ r. upto r ≡ true) (λ r. upto r ≡ false) rest n
      → IsRun chosen rs i (i + n)
  run_bounds tells rs rest i n e within also first second =
      let count : length rest ≡ length rs - i = ap length e ∙ length-drop i rs in
      let at : (k : ℕ) (d : Record) → get_or rest k d ≡ get_or rs (i + k) d = λ k d. ap (λ xs. get_or xs k d) e ∙ get_or-drop i rs k d in
      let past : (k : ℕ) (d : Record) → k < length rest → before (get_or rest k d) ≡ false =
      λ k d below. subst (λ r. before r ≡ false) (sym (at k d)) (first.1 (i + k) d (omega arith) (omega arith)) in
      let some : take n rest ≡ slice_range rs i (i + n) = ap (take n) e ∙ ap (λ m. take m (drop i rs)) (omega arith) in
      record {
        order = omega arith;
        within = omega arith;
        before = λ k d below.
            let short : k < i = omega (arith, length-take i rs) in
            subst (λ r. chosen r ≡ false) (sym (get_or-take i rs k d short)) (tells.lower (get_or rs k d) (first.0 k d (omega arith) short));
        here = subst (All (λ r. chosen r ≡ true)) some (λ k d below.
            let short : k < n = omega (arith, length-take n rest) in
            subst (λ r. chosen r ≡ true) (sym (get_or-take n rest k d short)) (tells.here (get_or rest k d) (past k d (omega arith)) (second.0 k d (omega arith) short)));
        behind = λ k d below.
            let long : n + k < length rest = omega (arith, length-drop (i + n) rs) in
            let place : get_or rest (n + k) d ≡ get_or (drop (i + n) rs) k d = at (n + k) d ∙ ap (λ m. get_or rs m d) (omega arith) ∙ sym (get_or-drop (i + n) rs k d) in
            subst (λ r. chosen r ≡ false) place (tells.above (get_or rest (n + k) d) (past (n + k) d long) (second.1 (n + k) d (omega arith) long));
      }

-- what is in a run, and what is not
no_more : (k : ℕ) → drop {A = Record} k [] ≡ []
no_more zero = refl
no_more (suc k) = refl

drop_on : (i j : ℕ) (rs : List Record) → drop j (drop i rs) ≡ drop (i + j) rs
drop_on zero j rs = ap (λ k. drop k rs) (omega arith)
drop_on (suc i) j [] = no_more j ∙ sym (no_more (suc i + j))
drop_on (suc i) j (r ∷ rs) =
    let further : suc (i + j) ≡ suc i + j = omega arith in
    drop_on i j rs ∙ ap (λ k. drop k (r ∷ rs)) further

pub run_parts : (rs : List Record) (start end : ℕ) → start ≤ end → take start rs ++ (slice_range rs start end ++ drop end rs) ≡ rs
run_parts rs start end order =
    ap (λ ys. take start rs ++ (slice_range rs start end ++ ys)) (ap (λ k. drop k rs) (omega arith) ∙ sym (drop_on start (end - start) rs))
    ∙ ap (λ ys. take start rs ++ ys) (take-append-drop (end - start) (drop start rs)) ∙ take-append-drop start rs

pub filter_run : (chosen : Record → Bool) (rs : List Record) (start end : ℕ) → IsRun chosen rs start end → slice_range rs start end ≡ filter chosen rs
filter_run chosen rs start end run =
    let mid = slice_range rs start end in
    sym (ap (filter chosen) (sym (run_parts rs start end run.order))
    ∙ filter-append chosen (take start rs) (mid ++ drop end rs)
    ∙ ap (λ ys. ys ++ filter chosen (mid ++ drop end rs)) (filter_none chosen (take start rs) run.before)
    ∙ filter-append chosen mid (drop end rs)
    ∙ (λ i. filter_all chosen mid run.here i ++ filter_none chosen (drop end rs) run.behind i)
    ∙ append-nil mid)

-- ---- runs of one order

pub lt_down : (a b : Ordering) → ordering_index a ≤ ordering_index b → is_lt b ≡ true → is_lt a ≡ true
lt_down Less b le e = refl
lt_down Equal Less le e = absurd (omega arith)
lt_down Equal Equal le e = e
lt_down Equal Greater le e = e
lt_down Greater Less le e = absurd (omega arith)
lt_down Greater Equal le e = absurd (omega arith)
lt_down Greater Greater le e = e

le_down : (a b : Ordering) → ordering_index a ≤ ordering_index b → is_le b ≡ true → is_le a ≡ true
le_down Less b le e = refl
le_down Equal b le e = refl
le_down Greater Less le e = absurd (omega arith)
le_down Greater Equal le e = absurd (omega arith)
le_down Greater Greater le e = e

order_here : (o : Ordering) → is_lt o ≡ false → is_le o ≡ true → is_eq o ≡ true
order_here Less e h = absurd cc
order_here Equal e h = refl
order_here Greater e h = absurd cc

order_lower : (o : Ordering) → is_lt o ≡ true → is_eq o ≡ false
order_lower Less e = refl
order_lower Equal e = absurd cc
order_lower Greater e = absurd cc

order_above : (o : Ordering) → is_le o ≡ false → is_eq o ≡ false
order_above Less e = absurd cc
order_above Equal e = absurd cc
order_above Greater e = refl

module _ (f : Record → Ordering) where
  upper_part : (rs rest : List Record) (i : ℕ) → IsNonDecreasingBy (λ (r : Record). ordering_index (f r)) rs → rest ≡ drop i rs → IsPartitionedBy (λ r. is_le (f r)) rest
  upper_part rs rest i rises e =
      subst (IsPartitionedBy (λ r. is_le (f r))) (sym e) (λ a b d up below h.
      let long : i + b < length rs = omega (arith, length-drop i rs) in
      subst (λ r. is_le (f r) ≡ true) (sym (get_or-drop i rs a d)) (le_down (f (get_or rs (i + a) d)) (f (get_or rs (i + b) d)) (rises (i + a) (i + b) d (omega arith) long) (subst (λ r. is_le (f r) ≡ true) (get_or-drop i rs b d) h)))

  -- the records that tie, in a row along which an order rises
  pub tied_run : (rs rest : List Record) (i n : ℕ) → IsNonDecreasingBy (λ (r : Record). ordering_index (f r)) rs → rest ≡ drop i rs → i ≤ length rs → n ≤ length rest
      → (IsPartitionedBy (λ r. is_lt (f r)) rs → IsPartitionPoint (λ r. is_lt (f r) ≡ true) (λ r. is_lt (f r) ≡ false) rs i)
      → (IsPartitionedBy (λ r. is_le (f r)) rest → IsPartitionPoint (λ r. is_le (f r) ≡ true) (λ r. is_le (f r) ≡ false) rest n)
      → take n rest ≡ filter (λ r. is_eq (f r)) rs
  tied_run rs rest i n rises e within also first second =
      run_is (λ r. is_lt (f r)) (λ r. is_le (f r)) (λ r. is_eq (f r))
      (record { lower = λ r e. order_lower (f r) e; here = λ r e h. order_here (f r) e h; above = λ r e h. order_above (f r) h })
      rs rest i n e within also
      (first (λ a b d up below h. lt_down (f (get_or rs a d)) (f (get_or rs b d)) (rises a b d up below) h)) (second (upper_part rs rest i rises e))

  -- the same by its two ends
  pub tied_bounds : (rs rest : List Record) (i n : ℕ) → IsNonDecreasingBy (λ (r : Record). ordering_index (f r)) rs → rest ≡ drop i rs → i ≤ length rs → n ≤ length rest
      → (IsPartitionedBy (λ r. is_lt (f r)) rs → IsPartitionPoint (λ r. is_lt (f r) ≡ true) (λ r. is_lt (f r) ≡ false) rs i)
      → (IsPartitionedBy (λ r. is_le (f r)) rest → IsPartitionPoint (λ r. is_le (f r) ≡ true) (λ r. is_le (f r) ≡ false) rest n)
      → IsRun (λ r. is_eq (f r)) rs i (i + n)
  tied_bounds rs rest i n rises e within also first second =
      run_bounds (λ r. is_lt (f r)) (λ r. is_le (f r)) (λ r. is_eq (f r))
      (record { lower = λ r e. order_lower (f r) e; here = λ r e h. order_here (f r) e h; above = λ r e h. order_above (f r) h })
      rs rest i n e within also
      (first (λ a b d up below h. lt_down (f (get_or rs a d)) (f (get_or rs b d)) (rises a b d up below) h)) (second (upper_part rs rest i rises e))

-- ---- record sets

-- a name and a number tie exactly where both do
pub both_tie : (name : List (List ℕ)) (t : RecordType) (r : Record) → is_eq (set_order name t r) ≡ (same_name r.owner name && (rank_of (type_of r.rdata) == rank_of t))
both_tie name t r = by_owner_tie (canonical_cmp r.owner name) (rank_of (type_of r.rdata)) (rank_of t)
  where
    by_owner_tie : (o : Ordering) (a b : ℕ) → is_eq (ordering_then o (nat_cmp a b)) ≡ (is_eq o && (a == b))
    by_owner_tie Less a b = refl
    by_owner_tie Equal a b = nat_tie a b
      where
        nat_tie : (a b : ℕ) → is_eq (nat_cmp a b) ≡ (a == b)
        nat_tie a b = grind (arith, nat_tests)
    by_owner_tie Greater a b = refl

-- a run of a test is one of another that agrees with it
pub run_alike : (p q : Record → Bool) → ((r : Record) → p r ≡ q r) → (rs : List Record) (start end : ℕ) → IsRun p rs start end → IsRun q rs start end
run_alike p q same rs start end run = record {
  order = run.order;
  within = run.within;
  before = λ k d below. sym (same (get_or (take start rs) k d)) ∙ run.before k d below;
  here = λ k d below. sym (same (get_or (slice_range rs start end) k d)) ∙ run.here k d below;
  behind = λ k d below. sym (same (get_or (drop end rs) k d)) ∙ run.behind k d below;
}

pub filter_at : (name : List (List ℕ)) (t : RecordType) (rs : List Record) → filter (λ r. is_eq (set_order name t r)) rs ≡ filter (λ r. at name t (key_of r)) rs
filter_at name t rs = filter_agree (λ r. is_eq (set_order name t r)) (λ r. at name t (key_of r)) (both_tie name t) rs
