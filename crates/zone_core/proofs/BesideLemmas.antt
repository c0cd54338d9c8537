-- The set of a record of a row in record order: those that stand beside it, up to the first that does not.
use Rattle.std.proofs.Common.{◌≡◌, ℕ, zero, suc, ◌+◌, ◌-◌, ◌<◌, ◌≤◌, List, ◌∷◌, length, take, drop, get_or, Bool, true, false, not, refl, sym, ap, subst, ◌∙◌, arith, drop-cons, get_or-drop, length-drop}
use Rattle.std.specs.declared.cmp.Ordering.{Ordering}
use Rattle.std.specs.declared.cmp.Ordering.TheVariants.{Less, Equal, Greater}
use Rattle.std.specs.Ordering.{ordering_index, is_lt, is_le, is_eq}
use Rattle.std.specs.List.{filter, position_or_len}
use Rattle.std.specs.List.Sorted.{IsPartitionPoint, IsNonDecreasingBy}
use Rattle.std.proofs.lemmas.List.{get_or_default}
use Rattle.std.proofs.lemmas.List.Elements.{filter_agree}
use Rattle.std.proofs.lemmas.List.Sums.{prefix_len_passes, prefix_len_stops, prefix_len-le-length}
use Rattle.dns_data.specs.declared.record.Record.{Record}
use Rattle.dns_data.specs.Rdata.{type_of}
use Rattle.zone_core.specs.Sets.{key_of, InOrder}
use Rattle.zone_core.specs.Zones.{beside, least_ttl, least_below}
use Rattle.zone_core.specs.Views.{set_order, set_ttl}
use Rattle.zone_core.proofs.SetLemmas.{is_tied}
use Rattle.zone_core.proofs.RangeLemmas.{by_head, both_tie, lt_down, tied_run}
use Rattle.zone_core.proofs.MinTtlLemmas.{beside_self}

-- ---- the order of a record to those of a set, and where it stands among the three

abbrev place : Record → Record → Ordering
place here r = set_order here.owner (type_of here.rdata) r

tied : (here r : Record) → is_eq (place here r) ≡ beside (key_of here) (key_of r)
tied here r = both_tie here.owner (type_of here.rdata) r

place_self : (r : Record) → place r r ≡ Equal
place_self r = is_tied (place r r) (tied r r ∙ beside_self (key_of r))

lower : (o : Ordering) → ordering_index o ≤ 1 → is_eq o ≡ false → is_lt o ≡ true
lower Less le e = refl
lower Equal le e = absurd cc
lower Greater le e = absurd (omega arith)

not_lower : (o : Ordering) → 1 ≤ ordering_index o → is_lt o ≡ false
not_lower Less le = absurd (omega arith)
not_lower Equal le = refl
not_lower Greater le = refl

tie_upto : (o : Ordering) → is_eq o ≡ true → is_le o ≡ true
tie_upto Less e = absurd cc
tie_upto Equal e = refl
tie_upto Greater e = absurd cc

above : (a b : Ordering) → 1 ≤ ordering_index a → is_eq a ≡ false → ordering_index a ≤ ordering_index b → is_le b ≡ false
above Less b le e up = absurd (omega arith)
above Equal b le e up = absurd cc
above Greater Less le e up = absurd (omega arith)
above Greater Equal le e up = absurd (omega arith)
above Greater Greater le e up = refl

one_more : (n : ℕ) → suc n ≡ n + 1
one_more n = omega arith

twice : (b : Bool) → not (not b) ≡ b
twice true = refl
twice false = refl

passes_on : (r : Record) (rs : List Record) (p : Record → Bool) → p r ≡ true → (n : ℕ) → ((k : ℕ) (d : Record) → k < n → p (get_or rs k d) ≡ true) → (k : ℕ) (d : Record) → k < suc n → p (get_or (r ∷ rs) k d) ≡ true
passes_on r rs p e n all zero d below = e
passes_on r rs p e n all (suc k) d below = all k d (omega arith)

-- ---- the set of a record

module _ (rs : List Record) (order : InOrder rs) (i : ℕ) (here : Record) (within : i < length rs) (is : here ≡ get_or rs i here) where
  rises : IsNonDecreasingBy (λ (r : Record). ordering_index (place here r)) rs
  rises = by_head rs order here.owner (type_of here.rdata)

  index_here : (d : Record) → ordering_index (place here (get_or rs i d)) ≡ 1
  index_here d = ap (λ r. ordering_index (place here r)) (sym (is ∙ get_or_default rs i here d within)) ∙ ap ordering_index (place_self here)

  set_run : (n : ℕ) → n ≤ length (drop i rs) → ((d : Record) → 0 < i → beside (key_of here) (key_of (get_or rs (i - 1) d)) ≡ false)
      → ((k : ℕ) (d : Record) → k < n → beside (key_of here) (key_of (get_or (drop i rs) k d)) ≡ true)
      → ((d : Record) → n < length (drop i rs) → beside (key_of here) (key_of (get_or (drop i rs) n d)) ≡ false)
      → take n (drop i rs) ≡ filter (λ r. beside (key_of here) (key_of r)) rs
  set_run n also before passes stops =
      let start : IsPartitionPoint (λ r. is_lt (place here r) ≡ true) (λ r. is_lt (place here r) ≡ false) rs i = (
        (λ k d low up.
            let last : is_lt (place here (get_or rs (i - 1) d)) ≡ true =
            lower (place here (get_or rs (i - 1) d)) (omega (arith, rises (i - 1) i d (omega arith) within, index_here d)) (tied here (get_or rs (i - 1) d) ∙ before d (omega arith)) in
            lt_down (place here (get_or rs k d)) (place here (get_or rs (i - 1) d)) (rises k (i - 1) d (omega arith) (omega arith)) last),
        (λ k d low up. not_lower (place here (get_or rs k d)) (omega (arith, rises i k d low up, index_here d))),
      ) in
      let end : IsPartitionPoint (λ r. is_le (place here r) ≡ true) (λ r. is_le (place here r) ≡ false) (drop i rs) n = (
        (λ k d low up. tie_upto (place here (get_or (drop i rs) k d)) (tied here (get_or (drop i rs) k d) ∙ passes k d up)),
        (λ k d low up.
            let long : i + k < length rs = omega (arith, length-drop i rs) in
            let first : 1 ≤ ordering_index (place here (get_or (drop i rs) n d)) =
            subst (λ r. 1 ≤ ordering_index (place here r)) (sym (get_or-drop i rs n d)) (omega (arith, rises i (i + n) d (omega arith) (omega arith), index_here d)) in
            let up_there : ordering_index (place here (get_or (drop i rs) n d)) ≤ ordering_index (place here (get_or (drop i rs) k d)) =
            subst (λ r. ordering_index (place here r) ≤ ordering_index (place here (get_or (drop i rs) k d))) (sym (get_or-drop i rs n d))
            (subst (λ r. ordering_index (place here (get_or rs (i + n) d)) ≤ ordering_index (place here r)) (sym (get_or-drop i rs k d)) (rises (i + n) (i + k) d (omega arith) long)) in
            above (place here (get_or (drop i rs) n d)) (place here (get_or (drop i rs) k d)) first (tied here (get_or (drop i rs) n d) ∙ stops d (omega arith)) up_there),
      ) in
      tied_run (place here) rs (drop i rs) i n rises refl (omega arith) also (λ _. start) (λ _. end)
      ∙ filter_agree (λ r. is_eq (place here r)) (λ r. beside (key_of here) (key_of r)) (tied here) rs

  -- it and those after it up to the first that is not beside it, where the record before it is not
  pub set_from : (others : List Record) (n : ℕ) → others ≡ drop (i + 1) rs → n ≡ position_or_len (λ r. not (beside (key_of here) (key_of r))) others
      → ((d : Record) → 0 < i → beside (key_of here) (key_of (get_or rs (i - 1) d)) ≡ false) → set_ttl rs here ≡ least_below here.ttl (take n others)
  set_from others n e count before =
      let p : Record → Bool = λ r. beside (key_of here) (key_of r) in
      let head : drop i rs ≡ here ∷ others =
      drop-cons rs i here within ∙ (λ j. sym is j ∷ drop (one_more i j) rs) ∙ ap (λ xs. here ∷ xs) (sym e) in
      let few : n ≤ length others = omega (arith, count, prefix_len-le-length (λ r. not (not (p r))) others) in
      let run : take (suc n) (drop i rs) ≡ filter p rs =
      set_run (suc n) (omega (arith, few, ap length head)) before
      (λ k d below. subst (λ xs. p (get_or xs k d) ≡ true) (sym head) (passes_on here others p (beside_self (key_of here)) n (λ j b less. sym (twice (p (get_or others j b))) ∙ prefix_len_passes (λ r. not (not (p r))) others j b (omega (arith, count))) k d below))
      (λ d below. subst (λ xs. p (get_or xs (suc n) d) ≡ false) (sym head)
      (ap (λ m. p (get_or others m d)) count ∙ sym (twice (p (get_or others (position_or_len (λ r. not (p r)) others) d))) ∙ prefix_len_stops (λ r. not (not (p r))) others d (omega (arith, count, ap length head)))) in
      ap least_ttl (sym run) ∙ ap (λ xs. least_ttl (take (suc n) xs)) head
