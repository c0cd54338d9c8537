-- Records at one name, sought by their types and data.
use Rattle.std.proofs.Common.{◌≡◌, ℕ, zero, suc, ◌<◌, ◌≤◌, List, [], ◌∷◌, ◌++◌, ◌+◌, ◌-◌, length, take, drop, map, get_or, set, Bool, true, false, cond, not, ◌||◌, ◌==◌, if◌then◌else◌, Option, Some, None, inl, inr, refl, sym, ap, subst, ◌∙◌, arith, append-nil, drop-cons, get_or-take, get_or-drop, length-take, length-drop}
use Rattle.std.specs.declared.cmp.Ordering.{Ordering}
use Rattle.std.specs.declared.cmp.Ordering.TheVariants.{Less, Equal, Greater}
use Rattle.std.specs.Ordering.{is_lt, is_eq, ordering_then, ordering_reverse, nat_cmp}
use Rattle.std.specs.Cmp.{IsTotalOrder, tied_itself, alike_right, on_total, then_total, nat_cmp_total}
use Rattle.std.specs.Cmp.Lexicographic.{slice_cmp, nat_list_cmp_total}
use Rattle.std.specs.List.{All, AllByRecursion, filter, list_any, slice_range}
use Rattle.std.specs.List.Sorted.{IsStrictlySortedBy, IsPartitionPoint, IsPartitionedBy}
use Rattle.std.proofs.lemmas.Bool.{cases_lt, false_from_ne_true}
use Rattle.std.proofs.lemmas.List.{take-append-drop, take_all, drop_all, map-append, length-map, get_or-append-add}
use Rattle.std.proofs.lemmas.List.Edits.{map_over_more}
use Rattle.std.proofs.lemmas.List.Elements.{All-from_recursion, All-take}
use Rattle.dns_names.specs.Order.{canonical_cmp, canonical_total, same_name}
use Rattle.dns_data.specs.declared.record.Record.{Record}
use Rattle.dns_data.specs.declared.record_type.RecordType.{RecordType}
use Rattle.dns_data.specs.declared.rdata.Data.{Data}
use Rattle.dns_data.specs.RecordOrder.{data_order}
use Rattle.dns_data.specs.Text.{data_text}
use Rattle.dns_data.specs.Rdata.{type_of}
use Rattle.zone_core.specs.Sets.{key_of, rank_of, record_order, at, InOrder}
use Rattle.zone_core.specs.Prerequisites.{same_data}
use Rattle.zone_core.specs.Nodes.{IsNode, IsPlaceOf, with_type_ttl}
use Rattle.zone_core.specs.Views.{IsRun}
use Rattle.zone_core.proofs.NodeLemmas.{at_here}
use Rattle.zone_core.proofs.RangeLemmas.{pair_order}

-- ---- none of a test

pub filter_others : (p : Record → Bool) (rs : List Record) → list_any p rs ≡ false → filter (λ r. not (p r)) rs ≡ rs
filter_others p [] none = refl
filter_others p (r ∷ rs) none = by_test (p r) none (filter_others p rs)
  where
    by_test : (b : Bool) → (b || list_any p rs) ≡ false → (list_any p rs ≡ false → filter (λ r. not (p r)) rs ≡ rs) → cond (not b) (r ∷ filter (λ r. not (p r)) rs) (filter (λ r. not (p r)) rs) ≡ r ∷ rs
    by_test true e rest = absurd cc
    by_test false e rest = ap (λ xs. r ∷ xs) (rest e)

-- ---- data among those of the records at a name

data_total : IsTotalOrder data_order
data_total = then_total (on_total (λ d. rank_of (type_of d)) nat_cmp_total) (on_total data_text nat_list_cmp_total)

module _ (name : List (List ℕ)) (d : Data) where
  abbrev not_same : Record → Bool
  not_same r = not (same_data d r.rdata)

  -- the first record, unless it has these data
  abbrev but_same : List Record → List Record
  but_same [] = []
  but_same (r ∷ rs) = cond (same_data d r.rdata) rs (r ∷ rs)

  -- one owner, so the order is that of the data
  by_data : (x y : Record) → x.owner ≡ name → y.owner ≡ name → record_order x y ≡ data_order x.rdata y.rdata
  by_data x y e f =
      ap (λ (o : Ordering). ordering_then (ordering_then o (nat_cmp (rank_of (type_of x.rdata)) (rank_of (type_of y.rdata)))) (slice_cmp nat_cmp (data_text x.rdata) (data_text y.rdata)))
      ((λ i. canonical_cmp (e i) (f i)) ∙ tied_itself canonical_total name)

  is_equal : (o : Ordering) → is_eq o ≡ true → o ≡ Equal
  is_equal Less e = absurd cc
  is_equal Equal e = refl
  is_equal Greater e = absurd cc

  -- data before others are not the same
  before_apart : (x : Record) → is_lt (data_order x.rdata d) ≡ true → same_data d x.rdata ≡ false
  before_apart x lt = turned (data_order d x.rdata) (data_order x.rdata d) (data_total.antisymm d x.rdata) lt
    where
      turned : (a b : Ordering) → a ≡ ordering_reverse b → is_lt b ≡ true → is_eq a ≡ false
      turned Less b e lt = refl
      turned Equal Less e lt = absurd cc
      turned Equal Equal e lt = absurd cc
      turned Equal Greater e lt = absurd cc
      turned Greater b e lt = refl

  -- nor are those of a record that comes later than one that is not before them
  later_apart : (x y : Record) → data_order x.rdata y.rdata ≡ Less → is_lt (data_order x.rdata d) ≡ false → same_data d y.rdata ≡ false
  later_apart x y less low =
      false_from_ne_true (same_data d y.rdata) (λ same.
      let tied = is_equal (data_order d y.rdata) same in
      let f : true ≡ false = ap is_lt (sym less) ∙ ap is_lt (sym (alike_right data_total d y.rdata x.rdata tied)) ∙ low in cc)

  none_later : (x : Record) (rs : List Record) → x.owner ≡ name → AllByRecursion (λ r. r.owner ≡ name) rs → AllByRecursion (λ s. record_order x s ≡ Less) rs → is_lt (data_order x.rdata d) ≡ false → list_any (λ r. same_data d r.rdata) rs ≡ false
  none_later x [] own all less low = refl
  none_later x (y ∷ rs) own all less low =
      ap (λ b. b || list_any (λ r. same_data d r.rdata) rs) (later_apart x y (sym (by_data x y own all.0) ∙ less.0) low) ∙ none_later x rs own all.1 less.1 low

  cut_at : (rs : List Record) (i : ℕ) → InOrder rs → AllByRecursion (λ r. r.owner ≡ name) rs → i ≤ length rs
      → ((k : ℕ) (e : Record) → k < i → is_lt (data_order (get_or rs k e).rdata d) ≡ true)
      → ((k : ℕ) (e : Record) → i ≤ k → k < length rs → is_lt (data_order (get_or rs k e).rdata d) ≡ false)
      → filter not_same rs ≡ take i rs ++ but_same (drop i rs)
  unfolding IsStrictlySortedBy
  cut_at [] zero order here within below above = refl
  cut_at [] (suc i) order here within below above = absurd (omega arith)
  cut_at (x ∷ rs) zero order here within below above =
      let rest : filter not_same rs ≡ rs = filter_others (λ r. same_data d r.rdata) rs (none_later x rs here.0 here.1 order.0 (above 0 x (omega arith) (omega arith))) in
      by_test (same_data d x.rdata) rest
    where
      by_test : (b : Bool) → filter not_same rs ≡ rs → cond (not b) (x ∷ filter not_same rs) (filter not_same rs) ≡ cond b rs (x ∷ rs)
      by_test true e = e
      by_test false e = ap (λ xs. x ∷ xs) e
  cut_at (x ∷ rs) (suc i) order here within below above =
      ap (λ b. cond (not b) (x ∷ filter not_same rs) (filter not_same rs)) (before_apart x (below 0 x (omega arith)))
      ∙ ap (λ xs. x ∷ xs) (cut_at rs i order.1 here.1 (omega arith) (λ k e h. below (suc k) e (omega arith)) (λ k e h j. above (suc k) e (omega arith) (omega arith)))

  module _ (rs : List Record) (node : IsNode name rs) (i : ℕ) (within : i ≤ length rs) (parts : IsPartitionPoint (λ r. is_lt (data_order r.rdata d) ≡ true) (λ r. is_lt (data_order r.rdata d) ≡ false) rs i) where
    cut_is : filter not_same rs ≡ take i rs ++ but_same (drop i rs)
    cut_is = cut_at rs i node.order node.here within (λ k e h. parts.0 k e (omega arith) h) (λ k e h j. parts.1 k e h j)

    -- the place has them
    pub found_place : (x : Record) → i < length rs → x ≡ get_or rs i x → same_data d x.rdata ≡ true → IsPlaceOf (λ r. same_data d r.rdata) rs (Some i)
    found_place x below is same = (
      below,
      cut_is ∙ ap (λ ys. take i rs ++ but_same ys) (drop-cons rs i x below ∙ ap (λ y. y ∷ drop (suc i) rs) (sym is))
          ∙ ap (λ b. take i rs ++ cond b (drop (suc i) rs) (x ∷ drop (suc i) rs)) same,
    )

    -- it has others
    pub other_place : (x : Record) → i < length rs → x ≡ get_or rs i x → same_data d x.rdata ≡ false → IsPlaceOf (λ r. same_data d r.rdata) rs None
    other_place x below is other =
        let there : drop i rs ≡ x ∷ drop (suc i) rs = drop-cons rs i x below ∙ ap (λ y. y ∷ drop (suc i) rs) (sym is) in
        cut_is ∙ ap (λ ys. take i rs ++ but_same ys) there ∙ ap (λ b. take i rs ++ cond b (drop (suc i) rs) (x ∷ drop (suc i) rs)) other
        ∙ ap (λ ys. take i rs ++ ys) (sym there) ∙ take-append-drop i rs

    -- it is the end
    pub no_place : length rs ≤ i → IsPlaceOf (λ r. same_data d r.rdata) rs None
    no_place long = cut_is ∙ ap (λ ys. take i rs ++ but_same ys) (drop_all i rs long) ∙ append-nil (take i rs) ∙ take_all i rs long

  -- a row in order is parted by data
  pub parted_by : (rs : List Record) → IsNode name rs → IsPartitionedBy (λ r. is_lt (data_order r.rdata d)) rs
  parted_by rs node i j e up below lt =
      elim (cases_lt i j) [
        | inl l ↦
            let x = get_or rs i e in
            let y = get_or rs j e in
            let less : data_order x.rdata y.rdata ≡ Less =
            sym (by_data x y (All-from_recursion (λ (r : Record). r.owner ≡ name) rs node.here i e (omega arith)) (All-from_recursion (λ (r : Record). r.owner ≡ name) rs node.here j e below))
            ∙ pair_order rs node.order i j e l below in
            ap is_lt (data_total.trans x.rdata y.rdata d less (is_less (data_order y.rdata d) lt))
        | inr g ↦ subst (λ k. is_lt (data_order (get_or rs k e).rdata d) ≡ true) (omega arith) lt
      ]
    where
      is_less : (o : Ordering) → is_lt o ≡ true → o ≡ Less
      is_less Less e = refl
      is_less Equal e = absurd cc
      is_less Greater e = absurd cc

-- ---- a TTL in the records of a type

module _ (name : List (List ℕ)) (t : RecordType) (ttl : ℕ) where
  abbrev f : Record → Record
  f = with_type_ttl t ttl

  f_other : (r : Record) → r.owner ≡ name → at name t (key_of r) ≡ false → f r ≡ r
  f_other r e other = ap (λ (b : Bool). record r { ttl = if b then ttl else r.ttl }) (at_here name r e t ∙ other)

  pub f_here : (r : Record) → r.owner ≡ name → at name t (key_of r) ≡ true → record r { ttl = ttl } ≡ f r
  f_here r e here = ap (λ (b : Bool). record r { ttl = if b then ttl else r.ttl }) (sym (at_here name r e t ∙ here))

  map_others : (rs : List Record) → All (λ r. r.owner ≡ name) rs → All (λ r. at name t (key_of r) ≡ false) rs → map f rs ≡ rs
  map_others [] own none = refl
  map_others (r ∷ rs) own none =
      λ i. f_other r (own 0 r (omega arith)) (none 0 r (omega arith)) i ∷ map_others rs (λ k d below. own (suc k) d (omega arith)) (λ k d below. none (suc k) d (omega arith)) i

  module _ (rs : List Record) (node : IsNode name rs) (start end : ℕ) (run : IsRun (λ r. at name t (key_of r)) rs start end) where
    own : All (λ (r : Record). r.owner ≡ name) rs
    own = All-from_recursion (λ (r : Record). r.owner ≡ name) rs node.here

    -- before the run
    pub ttl_begun : map f (take start rs) ++ drop start rs ≡ rs
    ttl_begun =
        ap (λ xs. xs ++ drop start rs) (map_others (take start rs) (All-take (λ (r : Record). r.owner ≡ name) start rs own) run.before) ∙ take-append-drop start rs

    -- after it
    pub ttl_done : map f (take end rs) ++ drop end rs ≡ map f rs
    ttl_done =
        ap (λ xs. map f (take end rs) ++ xs) (sym (map_others (drop end rs) (λ k d below. subst (λ (r : Record). r.owner ≡ name) (sym (get_or-drop end rs k d)) (own (end + k) d (omega (arith, length-drop end rs)))) run.behind))
        ∙ sym (map-append f (take end rs) (drop end rs)) ∙ ap (map f) (take-append-drop end rs)

    -- in it
    pub ttl_in_run : (i : ℕ) (x : Record) → start ≤ i → i < end → x ≡ get_or rs i x → record x { ttl = ttl } ≡ f x
    ttl_in_run i x low up is =
        f_here x (subst (λ (r : Record). r.owner ≡ name) (sym is) (own i x (omega (arith, run.within))))
        (subst (λ r. at name t (key_of r) ≡ true) (place ∙ sym is) (run.here (i - start) x (omega (arith, run.within, length-take (end - start) (drop start rs), length-drop start rs))))
      where
        place : get_or (slice_range rs start end) (i - start) x ≡ get_or rs i x
        place = get_or-take (end - start) (drop start rs) (i - start) x (omega arith) ∙ get_or-drop start rs (i - start) x ∙ ap (λ k. get_or rs k x) (omega arith)

    -- one record more in it
    pub ttl_over : (i : ℕ) (xs : List Record) (x : Record) → start ≤ i → i < end → xs ≡ map f (take i rs) ++ drop i rs → x ≡ get_or xs i x → set xs i (record x { ttl = ttl }) ≡ map f (take (i + 1) rs) ++ drop (i + 1) rs
    ttl_over i xs x low up done is =
        let below : i < length rs = omega (arith, run.within) in
        let there : get_or xs i x ≡ get_or rs i x = ap (λ ys. get_or ys i x) done ∙ kept_there i x below in
        ap (λ y. set xs i y) (ttl_in_run i x low up (is ∙ there)) ∙ map_over_more f rs xs i x below done is
      where
        kept_there : (i : ℕ) (x : Record) → i < length rs → get_or (map f (take i rs) ++ drop i rs) i x ≡ get_or rs i x
        kept_there i x below =
            let start_part = map f (take i rs) in
            let short : length (take i rs) ≡ i = omega (arith, length-take i rs) in
            let long : length start_part ≡ i = length-map (take i rs) f ∙ short in
            let at : i ≡ length start_part + 0 = omega (arith, long) in
            ap (λ k. get_or (start_part ++ drop i rs) k x) at
            ∙ get_or-append-add start_part (drop i rs) 0 x ∙ get_or-drop i rs 0 x ∙ ap (λ k. get_or rs k x) (omega arith)
