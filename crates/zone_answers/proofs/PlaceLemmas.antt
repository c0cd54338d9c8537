-- Where a name is among records in record order, and what the records beside that place tell.
use Rattle.std.proofs.Common.{nat_eq, not, ◌≡◌, ℕ, zero, suc, ◌+◌, ◌-◌, ◌<◌, ◌≤◌, List, [], ◌∷◌, length, take, drop, get_or, Bool, true, false, cond, Some, inl, inr, refl, sym, ap, subst, ◌∙◌, arith, min, get_or-take, get_or-drop, length-take, length-drop}
use Rattle.std.specs.declared.cmp.Ordering.{Ordering}
use Rattle.std.specs.declared.cmp.Ordering.TheVariants.{Less, Equal, Greater}
use Rattle.std.specs.Cmp.{tied_itself}
use Rattle.std.specs.List.Sorted.{IsPartitionPoint, IsPartitionedBy}
use Rattle.std.specs.Option.{option_map}
use Rattle.std.specs.Cmp.Lexicographic.{slice_cmp, pointwise}
use Rattle.std.specs.Ordering.{nat_cmp, is_lt, is_le, is_eq, ordering_reverse}
use Rattle.std.proofs.lemmas.Bool.{cases_lt, false_from_ne_true}
use Rattle.std.proofs.lemmas.Bool.Decides.{same_from_decides}
use Rattle.std.specs.List.{position}
use Rattle.std.proofs.lemmas.List.Quantifiers.{position-Some}
use Rattle.std.proofs.lemmas.List.Elements.{Contains-get_or}
use Rattle.dns_names.specs.Labels.{IsWithin, is_within}
use Rattle.dns_names.specs.Order.{canonical_cmp, canonical_total, same_name}
use Rattle.dns_names.specs.Keys.{key_of}
use Rattle.dns_names.proofs.KeyLaws.{key_order}
use Rattle.dns_names.proofs.NameLemmas.{is_within-Decides, same_from_key}
use Rattle.dns_data.specs.declared.record.Record.{Record}
use Rattle.zone_core.specs.Sets.{InOrder}
use Rattle.zone_core.proofs.MetLemmas.{Among, of_among}
use Rattle.zone_core.proofs.SetLemmas.{name_is}
use Rattle.zone_core.proofs.RangeLemmas.{by_owner, lt_down, tied_run}
use Rattle.zone_core.proofs.WithinLemmas.{not_before, between}
use Rattle.zone_core.proofs.BelowLemmas.{no_test, not_above, within_itself}
use Rattle.zone_answers.specs.Answers.{Name, asterisk, Exists}
use Rattle.zone_answers.specs.AnswerTests.{is_there, wildcard_over}
use Rattle.zone_answers.specs.Places.{EndsBefore, EndsAt, node_of, begins_within, beside, encloser_over, AreNearest}
use Rattle.zone_answers.proofs.SourceLemmas.{there-Decides}

-- ---- the closest encloser

-- the records beside a name tell its closest encloser
pub encloser_same : (rs near : List Record) (name : Name) → AreNearest rs near name → encloser_over near name ≡ encloser_over rs name
encloser_same rs near [] nearest = refl
encloser_same rs near (label ∷ labels) nearest =
    (λ i. cond (nearest labels (label ∷ [], refl) i) (Some labels) (encloser_over near labels))
    ∙ ap (cond (is_there rs labels) (Some labels)) (encloser_same rs near labels (λ top w. nearest top (label ∷ w.0, ap (λ (n : Name). label ∷ n) w.1)))

-- the wildcard over a name is that below its closest encloser
pub wildcard_below : (rs : List Record) (name : Name) → wildcard_over rs name ≡ option_map (λ (e : Name). asterisk ∷ e) (encloser_over rs name)
wildcard_below rs [] = refl
wildcard_below rs (label ∷ labels) = by_test (is_there rs labels) (wildcard_below rs labels)
  where
    by_test : (b : Bool) → wildcard_over rs labels ≡ option_map (λ (e : Name). asterisk ∷ e) (encloser_over rs labels)
        → cond b (Some (asterisk ∷ labels)) (wildcard_over rs labels) ≡ option_map (λ (e : Name). asterisk ∷ e) (cond b (Some labels) (encloser_over rs labels))
    by_test true e = refl
    by_test false e = e

-- ---- orders

lt_le : (o : Ordering) → is_lt o ≡ true → is_le o ≡ true
lt_le Less e = refl
lt_le Equal e = absurd cc
lt_le Greater e = absurd cc

is_less : (o : Ordering) → is_lt o ≡ true → o ≡ Less
is_less Less e = refl
is_less Equal e = absurd cc
is_less Greater e = absurd cc

-- what is before one name is before another that is not before that
before_other : (a b c : Name) → is_lt (canonical_cmp a b) ≡ true → is_lt (canonical_cmp c b) ≡ false → is_lt (canonical_cmp a c) ≡ true
before_other a b c less not = by_order (canonical_cmp c b) refl not
  where
    by_order : (o : Ordering) → canonical_cmp c b ≡ o → is_lt o ≡ false → is_lt (canonical_cmp a c) ≡ true
    by_order Less e h = absurd cc
    by_order Equal e h = subst (λ (x : Name). is_lt (canonical_cmp a x) ≡ true) (sym (name_is c b (ap is_eq e))) less
    by_order Greater e h =
        let up : canonical_cmp b c ≡ Less = canonical_total.antisymm b c ∙ ap ordering_reverse e in
        rw (canonical_total.trans a b c (is_less (canonical_cmp a b) less) up) refl

-- the order of keys is that of names
pub by_key : (owner name : Name) (key : List ℕ) → key ≡ key_of name → slice_cmp nat_cmp (key_of owner) key ≡ canonical_cmp owner name
by_key owner name key is = ap (slice_cmp nat_cmp (key_of owner)) is ∙ key_order owner name

pub keyed_order : (name : Name) (key : List ℕ) → key ≡ key_of name
    → ◌≡◌ {A = Record → Ordering} (λ r. slice_cmp nat_cmp (key_of r.owner) key) (λ r. canonical_cmp r.owner name)
keyed_order name key is = λ i r. by_key r.owner name key is i

-- a search by keys is one by names
pub before_by_key : (rs : List Record) (n : ℕ) (name : Name) (key : List ℕ) → key ≡ key_of name
    → (IsPartitionedBy (λ (r : Record). is_lt (slice_cmp nat_cmp (key_of r.owner) key)) rs
    → IsPartitionPoint (λ (r : Record). is_lt (slice_cmp nat_cmp (key_of r.owner) key) ≡ true) (λ (r : Record). is_lt (slice_cmp nat_cmp (key_of r.owner) key) ≡ false) rs n)
    → EndsBefore name rs n
before_by_key rs n name key is found =
    subst (λ (f : Record → Ordering). IsPartitionedBy (λ r. is_lt (f r)) rs → IsPartitionPoint (λ r. is_lt (f r) ≡ true) (λ r. is_lt (f r) ≡ false) rs n) (keyed_order name key is) found

pub at_by_key : (rs : List Record) (n : ℕ) (name : Name) (key : List ℕ) → key ≡ key_of name
    → (IsPartitionedBy (λ (r : Record). is_le (slice_cmp nat_cmp (key_of r.owner) key)) rs
    → IsPartitionPoint (λ (r : Record). is_le (slice_cmp nat_cmp (key_of r.owner) key) ≡ true) (λ (r : Record). is_le (slice_cmp nat_cmp (key_of r.owner) key) ≡ false) rs n)
    → EndsAt name rs n
at_by_key rs n name key is found = λ parts later.
    subst (λ (f : Record → Ordering). IsPartitionedBy (λ r. is_le (f r)) rs → IsPartitionPoint (λ r. is_le (f r) ≡ true) (λ r. is_le (f r) ≡ false) rs n) (keyed_order name key is) found parts

tie_le : (o : Ordering) → is_eq o ≡ true → is_le o ≡ true
tie_le Less e = absurd cc
tie_le Equal e = refl
tie_le Greater e = absurd cc

le_tie : (o : Ordering) → is_lt o ≡ false → is_le o ≡ true → is_eq o ≡ true
le_tie Less e h = absurd cc
le_tie Equal e h = refl
le_tie Greater e h = absurd cc

-- where the first of the few first records that is not at a name is, those at it end
pub few_tell : (rs : List Record) (m n : ℕ) (name : Name) (key : List ℕ) → key ≡ key_of name
    → position (λ (r : Record). not (pointwise nat_eq (key_of r.owner) key)) (take m rs) ≡ Some n → EndsAt name rs n
few_tell rs m n name key is found = λ parts later. (
  λ k d low below.
      let first = position-Some other (take m rs) n d found in
      let short : k < m = omega (arith, first.0, length-take m rs) in
      let at : pointwise nat_eq (key_of (get_or (take m rs) k d).owner) key ≡ true = yes (pointwise nat_eq (key_of (get_or (take m rs) k d).owner) key) (first.2 k below) in
      subst (λ (r : Record). is_le (canonical_cmp r.owner name) ≡ true) (get_or-take m rs k d short)
      (tie_le (canonical_cmp (get_or (take m rs) k d).owner name) (sym (same (get_or (take m rs) k d)) ∙ at)),
  λ k d low below.
      let first = position-Some other (take m rs) n d found in
      let short : n < m = omega (arith, first.0, length-take m rs) in
      let within : n < length rs = omega (arith, first.0, length-take m rs) in
      let apart : pointwise nat_eq (key_of (get_or (take m rs) n d).owner) key ≡ false = no (pointwise nat_eq (key_of (get_or (take m rs) n d).owner) key) first.1 in
      let gone : same_name (get_or rs n d).owner name ≡ false =
      subst (λ (r : Record). same_name r.owner name ≡ false) (get_or-take m rs n d short) (sym (same (get_or (take m rs) n d)) ∙ apart) in
      false_from_ne_true (is_le (canonical_cmp (get_or rs k d).owner name)) (λ t.
      no_test (same_name (get_or rs n d).owner name) (le_tie (canonical_cmp (get_or rs n d).owner name) (later n d within) (parts n k d low below t)) gone),
)
  where
    other : Record → Bool
    other r = not (pointwise nat_eq (key_of r.owner) key)

    same : (r : Record) → pointwise nat_eq (key_of r.owner) key ≡ same_name r.owner name
    same r = same_from_key r.owner name (pointwise nat_eq (key_of r.owner) key) (ap (pointwise nat_eq (key_of r.owner)) is)

    yes : (b : Bool) → not b ≡ false → b ≡ true
    yes true e = refl
    yes false e = absurd cc

    no : (b : Bool) → not b ≡ true → b ≡ false
    no true e = absurd cc
    no false e = refl

-- ---- the first of records

pub begins_at : (rs : List Record) (n : ℕ) (d : Record) (name : Name) → n < length rs → begins_within (drop n rs) name ≡ is_within (get_or rs n d).owner name
begins_at [] n d name below = absurd (omega arith)
begins_at (r ∷ rs) zero d name below = refl
begins_at (r ∷ rs) (suc n) d name below = begins_at rs n d name (omega arith)

pub begins_first : (rs : List Record) (r : Record) (name : Name) → 0 < length rs → r ≡ get_or rs 0 r → begins_within rs name ≡ is_within r.owner name
begins_first [] r name some e = absurd (omega arith)
begins_first (x ∷ rs) r name some e = ap (λ (y : Record). is_within y.owner name) (sym e)

begins_has : (rs : List Record) (n : ℕ) (name : Name) → begins_within (drop n rs) name ≡ true → (r : Record) × Among r rs × (is_within r.owner name ≡ true)
begins_has [] zero name e = absurd cc
begins_has [] (suc n) name e = absurd cc
begins_has (r ∷ rs) zero name e = (r, inl refl, e)
begins_has (r ∷ rs) (suc n) name e = let later = begins_has rs n name e in (later.0, inr later.1, later.2)

-- ---- places

module _ (rs : List Record) (order : InOrder rs) (name : Name) (n : ℕ) (short : n ≤ length rs) (ends : EndsBefore name rs n) where
  point : IsPartitionPoint (λ (r : Record). is_lt (canonical_cmp r.owner name) ≡ true) (λ (r : Record). is_lt (canonical_cmp r.owner name) ≡ false) rs n
  point = ends (λ a b d up below h. lt_down (canonical_cmp (get_or rs a d).owner name) (canonical_cmp (get_or rs b d).owner name) (by_owner rs order name a b d up below) h)

  rises : (i j : ℕ) (d : Record) → i ≤ j → j < length rs → is_le (canonical_cmp (get_or rs i d).owner (get_or rs j d).owner) ≡ true
  rises i j d up below =
      let target = (get_or rs j d).owner in
      not_above (canonical_cmp (get_or rs i d).owner target) (canonical_cmp target target) (tied_itself canonical_total target) (by_owner rs order target i j d up below)

  -- of the records before a name, the last is within all that one is within, and the name too
  lower : (top : Name) → IsWithin name top → (k : ℕ) (d : Record) → k < n → is_within (get_or rs k d).owner top ≡ true → is_within (get_or rs (n - 1) d).owner top ≡ true
  lower top inside k d below w =
      let r = get_or rs k d in
      let p = get_or rs (n - 1) d in
      let low : is_lt (canonical_cmp p.owner top) ≡ false =
      false_from_ne_true (is_lt (canonical_cmp p.owner top)) (λ t.
      no_test (is_within r.owner top) w (not_before top r.owner (lt_down (canonical_cmp r.owner top) (canonical_cmp p.owner top) (by_owner rs order top k (n - 1) d (omega arith) (omega arith)) t))) in
      between top p.owner name low (lt_le (canonical_cmp p.owner name) (point.0 (n - 1) d (omega arith) (omega arith))) ((is_within-Decides name top).1 inside)

  -- and of the others the first
  upper : (top : Name) → IsWithin name top → (k : ℕ) (d : Record) → n ≤ k → k < length rs → is_within (get_or rs k d).owner top ≡ true → is_within (get_or rs n d).owner top ≡ true
  upper top inside k d up below w =
      let r = get_or rs k d in
      let q = get_or rs n d in
      let above : is_lt (canonical_cmp name top) ≡ false =
      false_from_ne_true (is_lt (canonical_cmp name top)) (λ t. no_test (is_within name top) ((is_within-Decides name top).1 inside) (not_before top name t)) in
      let low : is_lt (canonical_cmp q.owner top) ≡ false =
      false_from_ne_true (is_lt (canonical_cmp q.owner top)) (λ t.
      no_test (is_lt (canonical_cmp q.owner name)) (before_other q.owner top name t above) (point.1 n d (omega arith) (omega arith))) in
      between top q.owner r.owner low (rises n k d up below) w

  -- a name exists exactly where the first record that is not before it is within it
  pub there_first : begins_within (drop n rs) name ≡ is_there rs name
  there_first =
      same_from_decides (begins_within (drop n rs) name) (is_there rs name)
      (λ e. let has = begins_has rs n name e in (has.0, of_among rs has.0 has.1, (is_within-Decides has.0.owner name).0 has.2), λ has. here has.0 has.1.0 has.1.1 has.1.2 has.2)
      (there-Decides rs name)
    where
      here : (r : Record) (k : ℕ) → k < length rs → get_or rs k r ≡ r → IsWithin r.owner name → begins_within (drop n rs) name ≡ true
      here r k below e w =
          let inside : is_within (get_or rs k r).owner name ≡ true = ap (λ (x : Record). is_within x.owner name) e ∙ (is_within-Decides r.owner name).1 w in
          elim (cases_lt k n) [
            | inl before ↦ no_test (is_within (get_or rs k r).owner name) inside (not_before name (get_or rs k r).owner (point.0 k r (omega arith) before))
            | inr behind ↦ begins_at rs n r name (omega arith) ∙ upper name (within_itself name) k r behind below inside
          ]

  -- of the names above a name, those exist that have one of the records beside it
  pub near_place : AreNearest rs (beside rs n) name
  near_place top inside = same_from_decides (is_there near top) (is_there rs top) (λ e. wider ((there-Decides near top).0 e), λ has. (there-Decides near top).1 (closer has.0 has.1.0 has.1.1 has.1.2 has.2)) (there-Decides rs top)
    where
      near : List Record
      near = beside rs n

      place : (j : ℕ) (d : Record) → j < length near → get_or near j d ≡ get_or rs (n - 1 + j) d
      place j d below =
          let rest = drop (n - 1) rs in
          let few = min (length rest) (n - (n - 1) + 1) in
          let lt : j < few = omega (arith, length-take few rest) in
          get_or-take few rest j d lt ∙ get_or-drop (n - 1) rs j d

      wider : Exists near top → Exists rs top
      wider has =
          let j = has.1.0 in
          let below : n - 1 + j < length rs = omega (arith, length-take (min (length (drop (n - 1) rs)) (n - (n - 1) + 1)) (drop (n - 1) rs), length-drop (n - 1) rs, has.1.1) in
          (has.0, (n - 1 + j, below, sym (place j has.0 has.1.1) ∙ has.1.2), has.2)

      at : (j : ℕ) (d : Record) → n - 1 + j < length rs → j < n - (n - 1) + 1 → is_within (get_or rs (n - 1 + j) d).owner top ≡ true → Exists near top
      at j d below few w =
          let lt : j < length near = omega (arith, length-take (min (length (drop (n - 1) rs)) (n - (n - 1) + 1)) (drop (n - 1) rs), length-drop (n - 1) rs) in
          (get_or near j d, Contains-get_or near j d lt, (is_within-Decides (get_or near j d).owner top).0 (ap (λ (x : Record). is_within x.owner top) (place j d lt) ∙ w))

      closer : (r : Record) (k : ℕ) → k < length rs → get_or rs k r ≡ r → IsWithin r.owner top → Exists near top
      closer r k below e w =
          let found : is_within (get_or rs k r).owner top ≡ true = ap (λ (x : Record). is_within x.owner top) e ∙ (is_within-Decides r.owner top).1 w in
          elim (cases_lt k n) [
            | inl before ↦ (let zeroth : n - 1 ≡ n - 1 + 0 = omega arith in
                at 0 r (omega arith) (omega arith) (ap (λ (i : ℕ). is_within (get_or rs i r).owner top) (sym zeroth) ∙ lower top inside k r before found))
            | inr behind ↦ (let next : n - 1 + (n - (n - 1)) ≡ n = omega arith in
                at (n - (n - 1)) r (omega arith) (omega arith) (ap (λ (i : ℕ). is_within (get_or rs i r).owner top) next ∙ upper top inside k r behind below found))
          ]

  -- the records at a name are the first of those that are not before it
  pub node_here : (rest : List Record) → rest ≡ drop n rs → (m : ℕ) → m ≤ length rest → EndsAt name rest m → take m rest ≡ node_of rs name
  node_here rest e m also last =
      tied_run (λ r. canonical_cmp r.owner name) rs rest n m (by_owner rs order name) e short also ends (λ parts. last parts (λ k d below.
      let within : n + k < length rs = omega (arith, ap (length {A = Record}) e, length-drop n rs) in
      subst (λ (r : Record). is_lt (canonical_cmp r.owner name) ≡ false) (sym (ap (λ (l : List Record). get_or l k d) e ∙ get_or-drop n rs k d)) (point.1 (n + k) d (omega arith) within)))
