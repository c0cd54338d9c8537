-- A record that is put into a row in record order, and TTLs that are set in one.
use Rattle.std.proofs.Common.{◌≡◌, ℕ, zero, suc, ◌<◌, ◌≤◌, List, [], ◌∷◌, length, drop, get_or, map, Bool, true, false, cond, not, ◌&&◌, ◌==◌, if◌then◌else◌, Option, Some, None, inl, inr, refl, sym, ap, subst, ◌∙◌, arith}
use Rattle.std.specs.declared.cmp.Ordering.{Ordering}
use Rattle.std.specs.declared.cmp.Ordering.TheVariants.{Less, Equal, Greater}
use Rattle.std.specs.Ordering.{is_lt, is_eq, ordering_reverse}
use Rattle.std.specs.Prelude.{slice_get}
use Rattle.std.specs.List.{AllByRecursion, filter, insert as insert_at}
use Rattle.std.specs.List.Sorted.{IsStrictlySortedBy, IsPartitionPoint, IsPartitionedBy}
use Rattle.std.specs.FinMap.{get, find, from_entries, entries-insert, put as put_entry}
use Rattle.std.specs.FinMap.Entries.{by_order}
use Rattle.std.proofs.lemmas.Bool.{cases_lt}
use Rattle.dns_data.specs.declared.record.Record.{Record}
use Rattle.dns_data.specs.declared.record_type.RecordType.{RecordType}
use Rattle.dns_data.specs.RecordOrder.{key_total, record_order_total}
use Rattle.dns_names.specs.Order.{same_name}
use Rattle.zone_core.specs.Sets.{Records, key_of, key_cmp, rank_of, same_key, keyed, set_of, record_order, put, cut, at, with_ttl, given, InOrder}
use Rattle.zone_core.specs.Nodes.{IsNode, Becomes, with_type_ttl}
use Rattle.zone_core.proofs.SetLemmas.{same_sets, get-put, get-cut, key_other, key_self, name_self, by_cases}
use Rattle.zone_core.proofs.RowLemmas.{entries_of, row_of, get-set_of, found_has, found_key}
use Rattle.zone_core.proofs.RangeLemmas.{pair_order}

-- ---- a record at its place

-- none of the records of a row is the same as this one
abbrev pub IsNew : Record → List Record → Type 0
IsNew r rs = AllByRecursion (λ x. same_key (key_of r) (key_of x) ≡ false) rs

back : (a b : Ordering) → a ≡ ordering_reverse b → is_lt b ≡ true → a ≡ Greater
back a Less e h = e
back a Equal e h = absurd cc
back a Greater e h = absurd cc

front : (a b : Ordering) → a ≡ ordering_reverse b → is_lt b ≡ false → is_eq a ≡ false → a ≡ Less
front a Less e h n = absurd cc
front a Equal e h n = absurd (let f = rw e at n in cc)
front a Greater e h n = e

put_at : (r : Record) (rs : List Record) (i : ℕ) → i ≤ length rs → IsNew r rs
    → ((k : ℕ) (d : Record) → k < i → is_lt (record_order (get_or rs k d) r) ≡ true)
    → ((k : ℕ) (d : Record) → i ≤ k → k < length rs → is_lt (record_order (get_or rs k d) r) ≡ false)
    → put_entry key_cmp (key_of r) r (keyed rs) ≡ keyed (insert_at rs i r)
put_at r [] zero within new below above = refl
put_at r [] (suc i) within new below above = absurd (omega arith)
put_at r (x ∷ rs) zero within new below above =
    ap (λ o. by_order o ((key_of r, r) ∷ keyed (x ∷ rs)) ((key_of x, r) ∷ keyed rs) ((key_of x, x) ∷ put_entry key_cmp (key_of r) r (keyed rs)))
    (front (key_cmp (key_of r) (key_of x)) (key_cmp (key_of x) (key_of r)) (key_total.antisymm (key_of r) (key_of x)) (above 0 x (omega arith) (omega arith)) new.0)
put_at r (x ∷ rs) (suc i) within new below above =
    ap (λ o. by_order o ((key_of r, r) ∷ keyed (x ∷ rs)) ((key_of x, r) ∷ keyed rs) ((key_of x, x) ∷ put_entry key_cmp (key_of r) r (keyed rs)))
    (back (key_cmp (key_of r) (key_of x)) (key_cmp (key_of x) (key_of r)) (key_total.antisymm (key_of r) (key_of x)) (below 0 x (omega arith)))
    ∙ ap (λ es. (key_of x, x) ∷ es) (put_at r rs i (omega arith) new.1 (λ k d h. below (suc k) d (omega arith)) (λ k d h j. above (suc k) d (omega arith) (omega arith)))

-- the row with it is in order, and stands for the set with it
pub put_row : (r : Record) (rs : List Record) (i : ℕ) → InOrder rs → i ≤ length rs → IsNew r rs
    → IsPartitionPoint (λ x. is_lt (record_order x r) ≡ true) (λ x. is_lt (record_order x r) ≡ false) rs i
    → InOrder (insert_at rs i r) × (set_of (insert_at rs i r) ≡ put (set_of rs) r)
put_row r rs i order within new parts =
    row_of (put (set_of rs) r) (insert_at rs i r)
    (entries-insert key_total (set_of rs) (key_of r) r ∙ ap (put_entry key_cmp (key_of r) r) (entries_of rs order)
    ∙ put_at r rs i within new (λ k d h. parts.0 k d (omega arith) h) (λ k d h j. parts.1 k d h j))

-- a row in order is parted by a record
lt_then : (x y r : Record) → record_order x y ≡ Less → is_lt (record_order y r) ≡ true → is_lt (record_order x r) ≡ true
lt_then x y r less lt = rw (record_order_total.trans x y r less (is_less (record_order y r) lt)) refl
  where
    is_less : (o : Ordering) → is_lt o ≡ true → o ≡ Less
    is_less Less e = refl
    is_less Equal e = absurd cc
    is_less Greater e = absurd cc

pub parted : (r : Record) (rs : List Record) → InOrder rs → IsPartitionedBy (λ x. is_lt (record_order x r)) rs
parted r rs order i j d up below lt =
    elim (cases_lt i j) [
      | inl l ↦ lt_then (get_or rs i d) (get_or rs j d) r (pair_order rs order i j d l below) lt
      | inr g ↦ subst (λ k. is_lt (record_order (get_or rs k d) r) ≡ true) (omega arith) lt
    ]

-- put where the same one was
pub put_again : (set : Records) (r : Record) → put (cut set (same_key (key_of r))) r ≡ put set r
put_again set r =
    same_sets (put (cut set (same_key (key_of r))) r) (put set r) (λ k.
    get-put (cut set (same_key (key_of r))) r k ∙ by_cases (same_key k (key_of r)) _
    (λ e. ap (λ b. cond b (Some r) (get (cut set (same_key (key_of r))) k)) e ∙ sym (ap (λ b. cond b (Some r) (get set k)) e))
    (λ e. ap (cond (same_key k (key_of r)) (Some r)) (get-cut set (same_key (key_of r)) k ∙ ap (λ b. cond b None (get set k)) (key_other (key_of r) k (λ same. let f : true ≡ false = sym (ap (λ x. same_key x (key_of r)) (sym same) ∙ key_self (key_of r)) ∙ e in cc))))
    ∙ sym (get-put set r k))

new_filter : (r : Record) (q : Record → Bool) → ((x : Record) → x.owner ≡ r.owner → q x ≡ not (same_key (key_of r) (key_of x))) → (rs : List Record) → AllByRecursion (λ x. x.owner ≡ r.owner) rs → IsNew r (filter q rs)
new_filter r q same [] all = tt
new_filter r q same (x ∷ rs) all = by_test (q x) refl (new_filter r q same rs all.1)
  where
    opened : (b : Bool) → not b ≡ true → b ≡ false
    opened true e = absurd cc
    opened false e = refl

    by_test : (b : Bool) → q x ≡ b → IsNew r (filter q rs) → IsNew r (cond b (x ∷ filter q rs) (filter q rs))
    by_test true e rest = (opened (same_key (key_of r) (key_of x)) (sym (same x all.0) ∙ e), rest)
    by_test false e rest = rest

pub new_of : (r : Record) (q : Record → Bool) → ((x : Record) → x.owner ≡ r.owner → q x ≡ not (same_key (key_of r) (key_of x))) → (rs : List Record) → IsNode r.owner rs → IsNew r (filter q rs)
new_of r q same rs node = new_filter r q same rs node.here

-- ---- TTLs

module _ (f : Record → ℕ) where
  abbrev pub retimed : Record → Record
  retimed r = record r { ttl = f r }

  below_retimed : (r : Record) (rs : List Record) → AllByRecursion (λ s. record_order r s ≡ Less) rs → AllByRecursion (λ s. record_order r s ≡ Less) (map retimed rs)
  below_retimed r [] all = tt
  below_retimed r (x ∷ rs) all = (all.0, below_retimed r rs all.1)

  retimed_order : (rs : List Record) → InOrder rs → InOrder (map retimed rs)
  unfolding IsStrictlySortedBy
  retimed_order [] order = tt
  retimed_order (x ∷ rs) order = (below_retimed x rs order.0, retimed_order rs order.1)

  retimed_here : (name : List (List ℕ)) (rs : List Record) → AllByRecursion (λ r. r.owner ≡ name) rs → AllByRecursion (λ r. r.owner ≡ name) (map retimed rs)
  retimed_here name [] all = tt
  retimed_here name (x ∷ rs) all = (all.0, retimed_here name rs all.1)

  pub retimed_node : (name : List (List ℕ)) (rs : List Record) → IsNode name rs → IsNode name (map retimed rs)
  retimed_node name rs node = record { order = retimed_order rs node.order; here = retimed_here name rs node.here }

-- setting the TTL of a type at a name is setting that of the set
same_retimed : (name : List (List ℕ)) (t : RecordType) (ttl : ℕ) (rs : List Record) → AllByRecursion (λ r. r.owner ≡ name) rs → keyed (map (with_type_ttl t ttl) rs) ≡ map (given (at name t) ttl) (keyed rs)
same_retimed name t ttl [] all = refl
same_retimed name t ttl (x ∷ rs) all =
    λ i. (key_of x, record x { ttl = if test i then ttl else x.ttl }) ∷ same_retimed name t ttl rs all.1 i
  where
    test : ((key_of x).1 == rank_of t) ≡ (same_name x.owner name && ((key_of x).1 == rank_of t))
    test = rw (all.0, name_self name) refl

pub ttl_node : (name : List (List ℕ)) (t : RecordType) (ttl : ℕ) (rs : List Record) → IsNode name rs → Becomes name (map (with_type_ttl t ttl) rs) (with_ttl (set_of rs) (at name t) ttl)
ttl_node name t ttl rs node =
    record {
      node = retimed_node (λ r. if (key_of r).1 == rank_of t then ttl else r.ttl) name rs node;
      set = ap (from_entries {R = key_cmp}) (same_retimed name t ttl rs node.here ∙ ap (map (given (at name t) ttl)) (sym (entries_of rs node.order)));
    }

-- ---- seeking a record

-- what stands at the place of a record, if it is the same
abbrev pub tied_first : Record → List Record → Option Record
tied_first r [] = None
tied_first r (x ∷ xs) = if is_eq (record_order x r) then Some x else None

turned : (a b : Ordering) → a ≡ ordering_reverse b → is_eq a ≡ is_eq b
turned a Less e = rw e refl
turned a Equal e = rw e refl
turned a Greater e = rw e refl

pub tie_turned : (r x : Record) → same_key (key_of r) (key_of x) ≡ is_eq (record_order x r)
tie_turned r x = turned (record_order r x) (record_order x r) (record_order_total.antisymm r x)

none_behind : (r x : Record) (xs : List Record) → AllByRecursion (λ s. record_order x s ≡ Less) xs → is_lt (record_order x r) ≡ false → (o : Option Record) → find key_cmp (key_of r) (keyed xs) ≡ o → find key_cmp (key_of r) (keyed xs) ≡ None
none_behind r x xs all low None e = e
none_behind r x xs all low (Some y) e =
    let less = found_has (λ s. record_order x s ≡ Less) xs (key_of r) y all e in
    let same : record_order x y ≡ record_order x r = ap (key_cmp (key_of x)) (sym (found_key xs (key_of r) y e)) in
    absurd (let f : true ≡ false = ap is_lt (sym (sym same ∙ less)) ∙ low in cc)

sought_at : (r : Record) (rs : List Record) (i : ℕ) → InOrder rs → i ≤ length rs
    → ((k : ℕ) (d : Record) → k < i → is_lt (record_order (get_or rs k d) r) ≡ true)
    → ((k : ℕ) (d : Record) → i ≤ k → k < length rs → is_lt (record_order (get_or rs k d) r) ≡ false)
    → find key_cmp (key_of r) (keyed rs) ≡ tied_first r (drop i rs)
unfolding IsStrictlySortedBy
sought_at r [] zero order within below above = refl
sought_at r [] (suc i) order within below above = absurd (omega arith)
sought_at r (x ∷ rs) zero order within below above =
    ap (λ b. cond b (Some x) (find key_cmp (key_of r) (keyed rs))) (tie_turned r x)
    ∙ ap (cond (is_eq (record_order x r)) (Some x)) (none_behind r x rs order.0 (above 0 x (omega arith) (omega arith)) (find key_cmp (key_of r) (keyed rs)) refl)
sought_at r (x ∷ rs) (suc i) order within below above =
    ap (λ b. cond b (Some x) (find key_cmp (key_of r) (keyed rs))) (tie_turned r x ∙ apart (record_order x r) (below 0 x (omega arith)))
    ∙ sought_at r rs i order.1 (omega arith) (λ k d h. below (suc k) d (omega arith)) (λ k d h j. above (suc k) d (omega arith) (omega arith))
  where
    apart : (o : Ordering) → is_lt o ≡ true → is_eq o ≡ false
    apart Less e = refl
    apart Equal e = absurd cc
    apart Greater e = absurd cc

pub sought : (r : Record) (rs : List Record) (i : ℕ) → InOrder rs → i ≤ length rs → IsPartitionPoint (λ x. is_lt (record_order x r) ≡ true) (λ x. is_lt (record_order x r) ≡ false) rs i
    → get (set_of rs) (key_of r) ≡ tied_first r (drop i rs)
sought r rs i order within parts = get-set_of rs (key_of r) ∙ sought_at r rs i order within (λ k d h. parts.0 k d (omega arith) h) (λ k d h j. parts.1 k d h j)

-- a record that is found at the place, if it is the same
abbrev pub tied : Record → Option Record → Option Record
tied r None = None
tied r (Some x) = if is_eq (record_order x r) then Some x else None

first_tied : (r : Record) (xs : List Record) → tied_first r xs ≡ tied r (slice_get xs 0)
first_tied r [] = refl
first_tied r (x ∷ xs) = refl

pub sought_first : (r : Record) (rs rest : List Record) (i : ℕ) (found : Option Record) → InOrder rs → i ≤ length rs
    → (IsPartitionedBy (λ x. is_lt (record_order x r)) rs → IsPartitionPoint (λ x. is_lt (record_order x r) ≡ true) (λ x. is_lt (record_order x r) ≡ false) rs i)
    → rest ≡ drop i rs → found ≡ slice_get rest 0 → tied r found ≡ get (set_of rs) (key_of r)
sought_first r rs rest i found order within parts e f =
    ap (tied r) (f ∙ ap (λ xs. slice_get xs 0) e) ∙ sym (sought r rs i order within (parts (parted r rs order)) ∙ first_tied r (drop i rs))
