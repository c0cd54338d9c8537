-- The run of the records within a name, in a row in record order.
use Rattle.std.proofs.Common.{◌≡◌, ℕ, ◌+◌, ◌<◌, ◌≤◌, List, length, take, drop, get_or, true, false, Option, Some, None, refl, sym, ap, subst, ◌∙◌, arith}
use Rattle.std.specs.declared.cmp.Ordering.{Ordering}
use Rattle.std.specs.declared.cmp.Ordering.TheVariants.{Less, Equal, Greater}
use Rattle.std.specs.Prelude.{IfSome}
use Rattle.std.specs.Bool.{Decides}
use Rattle.std.specs.Cmp.{tied_itself}
use Rattle.std.specs.Cmp.Lexicographic.{slice_cmp, nat_list_cmp_total}
use Rattle.std.specs.Ordering.{nat_cmp, is_lt, is_le, ordering_index, ordering_reverse}
use Rattle.std.proofs.lemmas.Bool.{false_from_ne_true}
use Rattle.std.proofs.lemmas.List.{get_or-drop, length-drop}
use Rattle.dns_names.specs.Keys.{key_of, key_end}
use Rattle.std.specs.List.{filter}
use Rattle.std.specs.List.Sorted.{IsPartitionPoint, IsPartitionedBy}
use Rattle.dns_names.specs.Labels.{IsWithin, is_within}
use Rattle.dns_names.specs.Order.{canonical_cmp, canonical_total}
use Rattle.dns_names.proofs.NameLemmas.{is_within-Decides}
use Rattle.dns_names.proofs.KeyLaws.{key_order, key_ranges}
use Rattle.dns_data.specs.declared.record.Record.{Record}
use Rattle.zone_core.specs.Sets.{InOrder, within}
use Rattle.zone_core.specs.Sets as records
use Rattle.zone_core.proofs.RangeLemmas.{run_is, by_owner, lt_down}

-- ---- orders

le_index : (o p : Ordering) → p ≡ Equal → ordering_index o ≤ ordering_index p → is_le o ≡ true
le_index Less p e le = refl
le_index Equal p e le = refl
le_index Greater Less e le = absurd cc
le_index Greater Equal e le = absurd (omega arith)
le_index Greater Greater e le = absurd cc

not_less_back : (a b : Ordering) → a ≡ ordering_reverse b → is_lt a ≡ false → is_le b ≡ true
not_less_back a Less e h = refl
not_less_back a Equal e h = refl
not_less_back a Greater e h = absurd (let f = rw e at h in cc)

le_back : (a b : Ordering) → a ≡ ordering_reverse b → is_le b ≡ true → is_lt a ≡ false
le_back a Less e h = rw e refl
le_back a Equal e h = rw e refl
le_back a Greater e h = absurd cc

-- what is not after something before z is before z
le_then_lt : (x y z : List ℕ) → is_le (slice_cmp nat_cmp x y) ≡ true → is_lt (slice_cmp nat_cmp y z) ≡ true → is_lt (slice_cmp nat_cmp x z) ≡ true
le_then_lt x y z le lt =
    by_order (slice_cmp nat_cmp x y) le
    (λ less. rw (nat_list_cmp_total.trans x y z less (is_less_than (slice_cmp nat_cmp y z) lt)) refl)
    (λ min_rrset_ttl. rw (nat_list_cmp_total.congr x y z min_rrset_ttl) lt)
  where
    by_order : (o : Ordering) → is_le o ≡ true → (o ≡ Less → is_lt (slice_cmp nat_cmp x z) ≡ true) → (o ≡ Equal → is_lt (slice_cmp nat_cmp x z) ≡ true) → is_lt (slice_cmp nat_cmp x z) ≡ true
    by_order Less h f g = f refl
    by_order Equal h f g = g refl
    by_order Greater h f g = absurd cc

    is_less_than : (o : Ordering) → is_lt o ≡ true → o ≡ Less
    is_less_than Less e = refl
    is_less_than Equal e = absurd cc
    is_less_than Greater e = absurd cc

if_some : {A : Type 0} (P Q : A → Type 0) (o : Option A) → ((x : A) → P x → Q x) → IfSome o P → IfSome o Q
if_some P Q None f p = tt
if_some P Q (Some x) f p = f x p

-- ---- names within a name

module _ (name : List (List ℕ)) where
  abbrev test : (n : List (List ℕ)) → Decides (is_within n name) (IsWithin n name)
  test n = is_within-Decides n name

  -- a name within another is not before it
  pub not_before : (n : List (List ℕ)) → is_lt (canonical_cmp n name) ≡ true → is_within n name ≡ false
  not_before n before =
      false_from_ne_true (is_within n name) (λ inside.
      let range = (key_ranges name n).0 ((test n).0 inside) in
      let le : is_le (canonical_cmp name n) ≡ true = rw (sym (key_order name n)) range.0 in
      let back = le_back (canonical_cmp n name) (canonical_cmp name n) (canonical_total.antisymm n name) le in
      let c : true ≡ false = sym before ∙ back in cc)

  -- a name between another and one within it is within it
  pub between : (n m : List (List ℕ)) → is_lt (canonical_cmp n name) ≡ false → is_le (canonical_cmp n m) ≡ true → is_within m name ≡ true → is_within n name ≡ true
  between n m low le inside =
      let range = (key_ranges name m).0 ((test m).0 inside) in
      let first : is_le (slice_cmp nat_cmp (key_of name) (key_of n)) ≡ true =
      rw (key_order name n) (not_less_back (canonical_cmp n name) (canonical_cmp name n) (canonical_total.antisymm n name) low) in
      let up : is_le (slice_cmp nat_cmp (key_of n) (key_of m)) ≡ true = rw (key_order n m) le in
      (test n).1 ((key_ranges name n).1 (first, if_some _ _ (key_end name) (λ behind lt. le_then_lt (key_of n) (key_of m) behind up lt) range.1))

  pub within_run : (rs : List Record) → InOrder rs → (rest : List Record) (i n : ℕ) → rest ≡ drop i rs → i ≤ length rs → n ≤ length rest
      → (IsPartitionedBy (λ r. is_lt (canonical_cmp r.owner name)) rs → IsPartitionPoint (λ r. is_lt (canonical_cmp r.owner name) ≡ true) (λ r. is_lt (canonical_cmp r.owner name) ≡ false) rs i)
      → (IsPartitionedBy (λ r. is_within r.owner name) rest → IsPartitionPoint (λ r. is_within r.owner name ≡ true) (λ r. is_within r.owner name ≡ false) rest n)
      → take n rest ≡ filter (λ r. within name (records.key_of r)) rs
  within_run rs order rest i n e short also first second =
      let start = first (λ a b d up below h. lt_down (canonical_cmp (get_or rs a d).owner name) (canonical_cmp (get_or rs b d).owner name) (by_owner rs order name a b d up below) h) in
      let low : (k : ℕ) (d : Record) → k < length rest → is_lt (canonical_cmp (get_or rest k d).owner name) ≡ false =
      λ k d below.
      let long : i + k < length rs = omega (arith, length-drop i rs, ap length e) in
      subst (λ (r : Record). is_lt (canonical_cmp r.owner name) ≡ false) (sym (get_or-drop i rs k d) ∙ ap (λ xs. get_or xs k d) (sym e)) (start.1 (i + k) d (omega arith) long) in
      let rises : (k m : ℕ) (d : Record) → k ≤ m → m < length rest → is_le (canonical_cmp (get_or rest k d).owner (get_or rest m d).owner) ≡ true =
      λ k m d up below.
      let long : i + m < length rs = omega (arith, length-drop i rs, ap length e) in
      let here : (j : ℕ) → get_or rest j d ≡ get_or rs (i + j) d = λ j. ap (λ xs. get_or xs j d) e ∙ get_or-drop i rs j d in
      let target = (get_or rs (i + m) d).owner in
      rw (here k, here m) (le_index (canonical_cmp (get_or rs (i + k) d).owner target) (canonical_cmp target target) (tied_itself canonical_total target) (by_owner rs order target (i + k) (i + m) d (omega arith) long)) in
      run_is (λ r. is_lt (canonical_cmp r.owner name)) (λ r. is_within r.owner name) (λ r. is_within r.owner name)
      (record { lower = λ r h. not_before r.owner h; here = λ r l h. h; above = λ r l h. h })
      rs rest i n e short also start
      (second (λ a b d up below h. between (get_or rest a d).owner (get_or rest b d).owner (low a d (omega arith)) (rises a b d up below) h))
