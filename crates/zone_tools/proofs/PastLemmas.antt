-- The records of a zone before its changes, as they are held.
use Rattle.std.proofs.Common.{◌≡◌, ◌↔◌, ℕ, ◌+◌, ◌-◌, ◌<◌, List, [], ◌∷◌, ◌++◌, ◌≤◌, length, take, drop, get_or, map, Bool, true, false, cond, ◌&&◌, ◌||◌, Option, Some, None, refl, sym, ap, subst, ◌∙◌, arith, add-one}
use Rattle.std.specs.declared.cmp.Ordering.TheVariants.{Less}
use Rattle.std.specs.Ordering.{is_lt}
use Rattle.std.specs.List.{AllByRecursion, Contains, list_any}
use Rattle.std.specs.List.Sorted.{IsStrictlySortedBy}
use Rattle.std.specs.Option.{option_or, option_map_or}
use Rattle.std.specs.Map.{keys_of, lookup}
use Rattle.std.specs.BTreeMap.{BTreeMap, is_at}
use Rattle.std.specs.BTreeMap as tree
use Rattle.std.specs.FinMap.{get, entries, empty, find, is_sorted, entries_sorted, get-empty, get-entries, get-from_entries}
use Rattle.std.specs.FinMap.Entries.{below_all, same_entries}
use Rattle.std.proofs.lemmas.List.Elements.{Contains-append_left, Contains-append_right}
use Rattle.std.proofs.lemmas.List.Folds.{list_any_more}
use Rattle.std.proofs.lemmas.List.{take_all, drop_all}
use Rattle.std.proofs.Math.Seq.{drop-cons}
use lib.Dec.{T}
use Rattle.dns_names.specs.Order.{canonical_cmp, same_name}
use Rattle.dns_data.specs.declared.record.Record.{Record}
use Rattle.dns_data.specs.RecordOrder.{key_total}
use Rattle.dns_data.specs.Rdata.{IsRecord}
use Rattle.zone_core.specs.Sets.{Records, Key, key_of, key_cmp, same_key, keyed, set_of, listing, part, cut, put, at_name, IsIn}
use Rattle.zone_core.specs.Zones.{AreKept}
use Rattle.zone_core.specs.Parts.{at_names}
use Rattle.zone_core.specs.Updates.{UpdateOf, item_names}
use Rattle.zone_core.specs.Rebuilt.{AreAllOf}
use Rattle.zone_core.specs.Delegations.{AreNamesOf}
use Rattle.zone_core.specs.Changes.{without}
use Rattle.zone_core.proofs.SetLemmas.{by_cases, name_is, name_self, one_key, key_is, get-part, get-cut, get-put, kept_by_put, found_of_part, same_sets, same_parts}
use Rattle.zone_core.proofs.RowLemmas.{get-set_of, each_in, in_has}
use Rattle.zone_core.proofs.ChangedLemmas.{listed, kept_in_part}
use Rattle.zone_core.proofs.MetLemmas.{among_of, of_among, any_is, is_any}
use Rattle.zone_tools.specs.RecordKeys.{same_key_equiv}
use Rattle.zone_tools.specs.Makers.{read_by}
use Rattle.zone_tools.specs.Past.{Past, entries_at, rows_at, IsPast, with_all}

abbrev Labels : Type 0
Labels = List (List ℕ)

abbrev Node : Type 0
Node = BTreeMap Key Record

key_turned : (j k : Key) → same_key j k ≡ same_key k j
key_turned j k = same_key_equiv.symm j k

-- ---- the entries of a node

both_hold : (s t : Bool) → T s → T t → T (s && t)
both_hold true t p q = q
both_hold false t p q = p

below_is : (k : Key) (es : List (Key × Record)) → AllByRecursion (λ j. key_cmp k j ≡ Less) (keys_of es) → T (below_all key_cmp k es)
below_is k [] all = tt
below_is k (e ∷ es) all = both_hold (is_lt (key_cmp k e.0)) (below_all key_cmp k es) (subst (λ o. T (is_lt o)) (sym all.0) tt) (below_is k es all.1)

sorted_is : (es : List (Key × Record)) → IsStrictlySortedBy key_cmp (keys_of es) → T (is_sorted key_cmp es)
unfolding IsStrictlySortedBy
sorted_is [] order = tt
sorted_is (e ∷ es) order = both_hold (below_all key_cmp e.0 es) (is_sorted key_cmp es) (below_is e.0 es order.0) (sorted_is es order.1)

found_is : (k : Key) (es : List (Key × Record)) → find key_cmp k es ≡ lookup (is_at (key_cmp k)) es
found_is k [] = refl
found_is k (e ∷ es) = ap (cond (same_key k e.0) (Some e.1)) (found_is k es)

-- a node has the entries of a set where it has the same under each key
node_is : (node : Node) (set : Records) → tree.IsOrdered key_cmp node → ((k : Key) → tree.get key_cmp node k ≡ get set k) → node.entries ≡ entries set
node_is node set order same =
    same_entries key_cmp key_total one_key node.entries (entries set) (sorted_is node.entries order) (entries_sorted set)
    (λ k. found_is k node.entries ∙ same k ∙ get-entries set k)

-- what a node of a set has under each key
node_has : (node : Node) (set : Records) → node.entries ≡ entries set → (k : Key) → tree.get key_cmp node k ≡ get set k
node_has node set is k = sym (found_is k node.entries) ∙ ap (find key_cmp k) is ∙ sym (get-entries set k)

-- ---- a node that is put in the place of another

module _ (m n : Past) (name : Labels) (all : Node) (outer : (q : Labels) → tree.get canonical_cmp n q ≡ cond (same_name name q) (Some all) (tree.get canonical_cmp m q)) where
  entries_put : (q : Labels) → entries_at n q ≡ cond (same_name name q) all.entries (entries_at m q)
  entries_put q = ap (λ (o : Option Node). option_map_or (λ (node : Node). node.entries) o []) (outer q) ∙ by_test (same_name name q)
    where
      by_test : (b : Bool) → option_map_or (λ (node : Node). node.entries) (cond b (Some all) (tree.get canonical_cmp m q)) [] ≡ cond b all.entries (entries_at m q)
      by_test true = refl
      by_test false = refl

  -- what comes of it is the set that is the same but for the records at that name
  put_node : (set after : Records) → AreKept after → ((k : Key) → same_name name k.0 ≡ false → get after k ≡ get set k)
      → tree.IsOrdered key_cmp all → ((k : Key) → tree.get key_cmp all k ≡ get (part after (at_name name)) k) → IsPast m set → IsPast n after
  put_node set after kept same order here is =
      record {
        kept = kept;
        nodes = λ q. entries_put q ∙ by_cases (same_name name q) (cond (same_name name q) all.entries (entries_at m q) ≡ entries (part after (at_name q)))
            (λ t. rw t (node_is all (part after (at_name name)) order here ∙ ap (λ p. entries (part after (at_name p))) (name_is name q t)))
            (λ f. rw f (is.nodes q ∙ ap (λ (s : Records). entries s) (sym (same_parts after set (at_name q) (λ k at. same k (ap (same_name name) (name_is k.0 q at) ∙ f))))));
      }

-- ---- a record that comes or goes

kept_put : (set : Records) (r : Record) → IsRecord r → AreKept set → AreKept (put set r)
kept_put set r is kept k x e = by_test (same_key k (key_of r)) refl (sym (get-put set r k) ∙ e)
  where
    by_test : (b : Bool) → same_key k (key_of r) ≡ b → cond b (Some r) (get set k) ≡ Some x → (key_of x ≡ k) × IsRecord x
    by_test true t f = let one : r ≡ x = cc in (ap key_of (sym one) ∙ sym (key_is k (key_of r) t), subst IsRecord one is)
    by_test false t f = kept k x f

kept_cut : (set : Records) (p : Key → Bool) → AreKept set → AreKept (cut set p)
kept_cut set p kept k x e = by_test (p k) (sym (get-cut set p k) ∙ e)
  where
    by_test : (b : Bool) → cond b None (get set k) ≡ Some x → (key_of x ≡ k) × IsRecord x
    by_test true f = absurd cc
    by_test false f = kept k x f

-- a key that is at another name is another
apart : (name : Labels) (k j : Key) → same_name name k.0 ≡ false → j.0 ≡ name → k ≡ j → ⊥
apart name k j f at e =
    let g : same_name name k.0 ≡ true = ap (λ (q : Key). same_name name q.0) e ∙ ap (same_name name) at ∙ name_self name in
    let bad : true ≡ false = sym g ∙ f in cc

module _ (m n : Past) (r : Record) (node all : Node) (set : Records) (was : node.entries ≡ entries_at m r.owner)
    (outer : (q : Labels) → tree.get canonical_cmp n q ≡ cond (same_name r.owner q) (Some all) (tree.get canonical_cmp m q)) (order : tree.IsOrdered key_cmp all) (is : IsPast m set) where
  before : (k : Key) → tree.get key_cmp node k ≡ get (part set (at_name r.owner)) k
  before = node_has node (part set (at_name r.owner)) (was ∙ is.nodes r.owner)

  own_name : same_name r.owner r.owner ≡ true
  own_name = name_self r.owner

  pub past_put : IsRecord r → ((k : Key) → tree.get key_cmp all k ≡ cond (is_at (key_cmp (key_of r)) k) (Some r) (tree.get key_cmp node k)) → IsPast n (put set r)
  past_put record_is inner =
      put_node m n r.owner all outer set (put set r) (kept_put set r record_is is.kept) (λ k f. kept_by_put set r k (apart r.owner k (key_of r) f refl)) order
      (λ k. inner k ∙ (λ i. cond (key_turned (key_of r) k i) (Some r) ((before k ∙ get-part set (at_name r.owner) k) i))
      ∙ sym (get-part (put set r) (at_name r.owner) k ∙ ap (λ o. cond (at_name r.owner k) o None) (get-put set r k) ∙ swapped k))
      is
    where
      swapped : (k : Key) → cond (at_name r.owner k) (cond (same_key k (key_of r)) (Some r) (get set k)) None ≡ cond (same_key k (key_of r)) (Some r) (cond (at_name r.owner k) (get set k) None)
      swapped k =
          by_cases (same_key k (key_of r)) _
          (λ t. let at : at_name r.owner k ≡ true = ap (λ (q : Key). at_name r.owner q) (key_is k (key_of r) t) ∙ own_name in rw (t, at) refl)
          (λ f. rw f refl)

  pub past_taken : ((k : Key) → tree.get key_cmp all k ≡ cond (is_at (key_cmp (key_of r)) k) None (tree.get key_cmp node k)) → IsPast n (cut set (same_key (key_of r)))
  past_taken inner =
      put_node m n r.owner all outer set (cut set (same_key (key_of r))) (kept_cut set (same_key (key_of r)) is.kept)
      (λ k f. get-cut set (same_key (key_of r)) k ∙ by_cases (same_key (key_of r) k) (cond (same_key (key_of r) k) None (get set k) ≡ get set k) (λ t. absurd (apart r.owner k (key_of r) f refl (sym (key_is (key_of r) k t)))) (λ e. rw e refl))
      order
      (λ k. inner k ∙ ap (cond (same_key (key_of r) k) None) (before k ∙ get-part set (at_name r.owner) k)
      ∙ sym (get-part (cut set (same_key (key_of r))) (at_name r.owner) k ∙ ap (λ o. cond (at_name r.owner k) o None) (get-cut set (same_key (key_of r)) k) ∙ swapped (at_name r.owner k) (same_key (key_of r) k) (get set k)))
      is
    where
      swapped : (a b : Bool) (o : Option Record) → cond a (cond b None o) None ≡ cond b None (cond a o None)
      swapped true true o = refl
      swapped true false o = refl
      swapped false true o = refl
      swapped false false o = refl

-- where there are no records at a name, none of them goes
pub past_bare : (m : Past) (r : Record) (set : Records) → tree.get canonical_cmp m r.owner ≡ None → IsPast m set → IsPast m (cut set (same_key (key_of r)))
past_bare m r set none is =
    let same : cut set (same_key (key_of r)) ≡ set = same_sets (cut set (same_key (key_of r))) set (λ k. get-cut set (same_key (key_of r)) k ∙ by_test k (same_key (key_of r) k) refl) in
    subst (IsPast m) (sym same) is
  where
    bare : entries (part set (at_name r.owner)) ≡ []
    bare = sym (is.nodes r.owner) ∙ ap (λ (o : Option Node). option_map_or (λ (node : Node). node.entries) o []) none

    by_test : (k : Key) (b : Bool) → same_key (key_of r) k ≡ b → cond b None (get set k) ≡ get set k
    by_test k false t = refl
    by_test k true t =
        let at : at_name r.owner k ≡ true = ap (λ (q : Key). at_name r.owner q) (sym (key_is (key_of r) k t)) ∙ name_self r.owner in
        let there : get (part set (at_name r.owner)) k ≡ get set k = get-part set (at_name r.owner) k ∙ ap (λ b. cond b (get set k) None) at in
        sym (get-entries (part set (at_name r.owner)) k ∙ ap (find key_cmp k) bare) ∙ there

-- ---- nothing, and all

none_there : (set : Records) → ((k : Key) → get set k ≡ None) → [] ≡ entries set
none_there set none = same_entries key_cmp key_total one_key [] (entries set) tt (entries_sorted set) (λ k. sym (none k) ∙ get-entries set k)

-- nothing is held at first
pub past_none : (m : Past) → m.entries ≡ [] → IsPast m empty
past_none m none = record {
  kept = λ k r e. let bad : Some r ≡ None = sym e ∙ get-empty key_cmp k in absurd cc;
  nodes = λ name. ap (λ es. option_map_or (λ (node : Node). node.entries) (lookup (is_at (canonical_cmp name)) es) []) none ∙ none_there (part empty (at_name name)) (nothing name);
}
  where
    nothing_in : (b : Bool) (o : Option Record) → o ≡ None → cond b o None ≡ None
    nothing_in true o e = e
    nothing_in false o e = refl

    nothing : (name : Labels) (k : Key) → get (part empty (at_name name)) k ≡ None
    nothing name k = get-part empty (at_name name) k ∙ nothing_in (at_name name k) (get empty k) (get-empty key_cmp k)

-- what is found where records were put over a set
get-with_all : (set : Records) (rs : List Record) (k : Key) → get (with_all set rs) k ≡ option_or (find key_cmp k (keyed rs)) (get set k)
get-with_all set rs k = get-from_entries key_total (keyed rs ++ entries set) k ∙ append (keyed rs) (entries set) ∙ ap (option_or (find key_cmp k (keyed rs))) (sym (get-entries set k))
  where
    append : (xs ys : List (Key × Record)) → find key_cmp k (xs ++ ys) ≡ option_or (find key_cmp k xs) (find key_cmp k ys)
    append [] ys = refl
    append (x ∷ xs) ys = by_test (same_key k x.0) x.1 (find key_cmp k (xs ++ ys)) (append xs ys)
      where
        by_test : (b : Bool) (r : Record) (o : Option Record) → o ≡ option_or (find key_cmp k xs) (find key_cmp k ys) → cond b (Some r) o ≡ option_or (cond b (Some r) (find key_cmp k xs)) (find key_cmp k ys)
        by_test true r o e = refl
        by_test false r o e = e

pub with_none : (set : Records) → with_all set [] ≡ set
with_none set = same_sets (with_all set []) set (λ k. get-with_all set [] k)

pub with_more : (set : Records) (r : Record) (rs : List Record) → put (with_all set rs) r ≡ with_all set (r ∷ rs)
with_more set r rs =
    same_sets (put (with_all set rs) r) (with_all set (r ∷ rs)) (λ k.
    get-put (with_all set rs) r k ∙ ap (cond (same_key k (key_of r)) (Some r)) (get-with_all set rs k) ∙ by_test (same_key k (key_of r)) (find key_cmp k (keyed rs)) (get set k) ∙ sym (get-with_all set (r ∷ rs) k))
  where
    by_test : (b : Bool) (o p : Option Record) → cond b (Some r) (option_or o p) ≡ option_or (cond b (Some r) o) p
    by_test true o p = refl
    by_test false o p = refl

pub with_empty : (rs : List Record) → with_all empty rs ≡ set_of rs
with_empty rs = same_sets (with_all empty rs) (set_of rs) (λ k. get-with_all empty rs k ∙ ap (option_or (find key_cmp k (keyed rs))) (get-empty key_cmp k) ∙ or_none (find key_cmp k (keyed rs)) ∙ sym (get-set_of rs k))
  where
    or_none : (o : Option Record) → option_or o None ≡ o
    or_none None = refl
    or_none (Some r) = refl

-- the records of a row from a place on, of which the first was put last
from_place : (set : Records) (rs : List Record) (i : ℕ) (r : Record) → i < length rs → r ≡ get_or rs i r → put (with_all set (drop (i + 1) rs)) r ≡ with_all set (drop i rs)
from_place set rs i r below is =
    let front : drop i rs ≡ get_or rs i r ∷ drop (i + 1) rs = rw add-one (drop-cons rs i r below) in
    with_more set r (drop (i + 1) rs) ∙ ap (with_all set) (sym (front ∙ ap (λ x. x ∷ drop (i + 1) rs) (sym is)))

pub put_next : (set : Records) (rs : List Record) (at : ℕ) (r : Record) → 0 < at → at ≤ length rs → r ≡ get_or rs (at - 1) r → put (with_all set (drop at rs)) r ≡ with_all set (drop (at - 1) rs)
put_next set rs at r some fits is =
    let one : at ≡ at - 1 + 1 = omega arith in
    ap (λ (n : ℕ). put (with_all set (drop n rs)) r) one ∙ from_place set rs (at - 1) r (omega arith) is

pub put_last : (set : Records) (rs : List Record) (i : ℕ) → length rs ≤ i → with_all set (drop i rs) ≡ set
put_last set rs i past = ap (with_all set) (drop_all i rs past) ∙ with_none set

-- ---- records that are taken out

pub without_none : (set : Records) → without set [] ≡ set
without_none set = same_sets (without set []) set (λ k. get-cut set (λ j. list_any (λ r. same_key (key_of r) j) []) k)

pub without_more : (set : Records) (rs : List Record) (i : ℕ) (r : Record) → i < length rs → r ≡ get_or rs i r → cut (without set (take i rs)) (same_key (key_of r)) ≡ without set (take (i + 1) rs)
without_more set rs i r below is =
    same_sets (cut (without set (take i rs)) (same_key (key_of r))) (without set (take (i + 1) rs)) (λ k.
    get-cut (without set (take i rs)) (same_key (key_of r)) k
    ∙ ap (cond (same_key (key_of r) k) None) (get-cut set (λ j. list_any (λ x. same_key (key_of x) j) (take i rs)) k)
    ∙ by_test (same_key (key_of r) k) (list_any (λ x. same_key (key_of x) k) (take i rs)) (get set k)
    ∙ ap (λ b. cond b None (get set k)) (ap (λ x. list_any (λ y. same_key (key_of y) k) (take i rs) || same_key (key_of x) k) is ∙ sym (list_any_more (λ x. same_key (key_of x) k) rs i r below))
    ∙ sym (get-cut set (λ j. list_any (λ x. same_key (key_of x) j) (take (i + 1) rs)) k))
  where
    by_test : (a b : Bool) (o : Option Record) → cond a None (cond b None o) ≡ cond (b || a) None o
    by_test true true o = refl
    by_test true false o = refl
    by_test false true o = refl
    by_test false false o = refl

-- ---- the records that an update reads

all_weaker : {P Q : Record → Type 0} (rs : List Record) → ((r : Record) → P r → Q r) → AllByRecursion P rs → AllByRecursion Q rs
all_weaker [] f all = tt
all_weaker (r ∷ rs) f all = (f r all.0, all_weaker rs f all.1)

all_there : (rs : List Record) → AllByRecursion (Contains rs) rs
all_there [] = tt
all_there (r ∷ rs) = ((0, omega arith, refl), all_weaker rs (λ s. Contains-append_right (r ∷ []) rs s) (all_there rs))

all_joined : (P : Record → Type 0) (xs ys : List Record) → AllByRecursion P xs → AllByRecursion P ys → AllByRecursion P (xs ++ ys)
all_joined P [] ys first second = second
all_joined P (x ∷ xs) ys first second = (first.0, all_joined P xs ys first.1 second)

-- the rows of a set are all of it
pub all_listed : (set : Records) → AreKept set → AreAllOf (listing set) set
all_listed set kept =
    let rows = listed set kept in
    record {
      inside = all_weaker (listing set) (λ r e. ap (λ (s : Records). get s (key_of r)) (sym rows.set) ∙ get-set_of (listing set) (key_of r) ∙ e) (each_in (listing set) rows.order);
      whole = λ r here. in_has (Contains (listing set)) (listing set) r (all_there (listing set)) (ap (λ (s : Records). get s (key_of r)) rows.set ∙ here);
    }

-- the rows at a name
at_one : (m : Past) (set : Records) (name : Labels) → IsPast m set → AreAllOf (rows_at m name) (part set (at_name name))
at_one m set name is =
    subst (λ rs. AreAllOf rs (part set (at_name name))) (ap (map (λ (e : Key × Record). e.1)) (sym (is.nodes name))) (all_listed (part set (at_name name)) (kept_in_part set (at_name name) is.kept))

-- with those of one more test
all_more : (set : Records) (p q t : Key → Bool) → ((k : Key) → t k ≡ (p k || q k)) → (xs ys : List Record) → AreAllOf xs (part set p) → AreAllOf ys (part set q) → AreAllOf (xs ++ ys) (part set t)
all_more set p q t both xs ys first second =
    record {
      inside = all_joined (λ r. IsIn r (part set t)) xs ys (all_weaker xs (λ r here. wider p (λ k e. both k ∙ ap (λ b. b || q k) e) r here) first.inside)
          (all_weaker ys (λ r here. wider q (λ k e. both k ∙ ap (λ b. p k || b) e ∙ or_true (p k)) r here) second.inside);
      whole = λ r here. let found = found_of_part set t (key_of r) r here in
          by_cases (p (key_of r)) (Contains (xs ++ ys) r)
          (λ e. Contains-append_left xs ys r (first.whole r (get-part set p (key_of r) ∙ ap (λ b. cond b (get set (key_of r)) None) e ∙ found.1)))
          (λ e. Contains-append_right xs ys r (second.whole r (get-part set q (key_of r) ∙ ap (λ b. cond b (get set (key_of r)) None) (sym (ap (λ b. b || q (key_of r)) e) ∙ sym (both (key_of r)) ∙ found.0) ∙ found.1)));
    }
  where
    or_true : (b : Bool) → (b || true) ≡ true
    or_true true = refl
    or_true false = refl

    wider : (w : Key → Bool) → ((k : Key) → w k ≡ true → t k ≡ true) → (r : Record) → IsIn r (part set w) → IsIn r (part set t)
    wider w more r here =
        let found = found_of_part set w (key_of r) r here in
        get-part set t (key_of r) ∙ ap (λ b. cond b (get set (key_of r)) None) (more (key_of r) found.0) ∙ found.1

-- at first those at the origin
pub read_first : (m : Past) (set : Records) (origin : Labels) (rows : List Record) → rows ≡ [] ++ rows_at m origin → IsPast m set → AreAllOf rows (part set (at_names origin []))
read_first m set origin rows are is =
    subst (λ rs. AreAllOf rs (part set (at_names origin []))) (sym are)
    (subst (λ test. AreAllOf (rows_at m origin) (part set test)) (λ i k. sym (or_nothing (at_name origin k)) i) (at_one m set origin is))
  where
    or_nothing : (b : Bool) → (b || false) ≡ b
    or_nothing true = refl
    or_nothing false = refl

-- and then those at one name more
pub read_more : (m : Past) (set : Records) (origin : Labels) (names : List Labels) (i : ℕ) (name : Labels) (rows next : List Record) → i < length names → name ≡ get_or names i name → next ≡ rows ++ rows_at m name
    → IsPast m set → AreAllOf rows (part set (at_names origin (take i names))) → AreAllOf next (part set (at_names origin (take (i + 1) names)))
read_more m set origin names i name rows next below is are past so_far =
    subst (λ rs. AreAllOf rs (part set (at_names origin (take (i + 1) names)))) (sym are)
    (all_more set (at_names origin (take i names)) (at_name name) (at_names origin (take (i + 1) names)) (λ k.
    ap (λ b. at_name origin k || b) (list_any_more (λ n. at_name n k) names i name below ∙ ap (λ n. list_any (λ o. at_name o k) (take i names) || at_name n k) (sym is))
    ∙ or_assoc (at_name origin k) (list_any (λ n. at_name n k) (take i names)) (at_name name k)) rows (rows_at m name) so_far (at_one m set name past))
  where
    or_assoc : (a b c : Bool) → (a || (b || c)) ≡ ((a || b) || c)
    or_assoc true b c = refl
    or_assoc false b c = refl

-- names in order are the same as not
same_any : (p : Labels → Bool) (names all : List Labels) → ((name : Labels) → Contains names name ↔ Contains all name) → list_any p names ≡ list_any p all
same_any p names all same = by_test (list_any p names) (list_any p all) refl refl
  where
    over : (xs ys : List Labels) → ((name : Labels) → Contains xs name → Contains ys name) → list_any p xs ≡ true → list_any p ys ≡ true
    over xs ys f e = let found = any_is p xs e in is_any p ys found.0 (among_of ys found.0 (f found.0 (of_among xs found.0 found.1))) found.2

    by_test : (b c : Bool) → list_any p names ≡ b → list_any p all ≡ c → b ≡ c
    by_test true true e f = refl
    by_test true false e f = sym (over names all (λ n. (same n).0) e) ∙ f
    by_test false true e f = sym e ∙ over all names (λ n. (same n).1) f
    by_test false false e f = refl

-- at last all that the update reads
pub read_all : (m : Past) (set : Records) (origin : Labels) (update : UpdateOf) (names : List Labels) (i : ℕ) (rows : List Record) → AreNamesOf names (item_names update) → length names ≤ i
    → AreAllOf rows (part set (at_names origin (take i names))) → AreAllOf rows (read_by origin update set)
read_all m set origin update names i rows are end so_far =
    subst (λ test. AreAllOf rows (part set test)) (λ j k. at_name origin k || same_any (λ name. at_name name k) names (item_names update) are.members j)
    (subst (λ ns. AreAllOf rows (part set (at_names origin ns))) (take_all i names end) so_far)
