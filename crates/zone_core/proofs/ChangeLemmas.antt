-- What operations change, gathered name by name.
use Rattle.std.proofs.Common.{◌≡◌, ℕ, ◌+◌, ◌<◌, List, [], ◌∷◌, ◌++◌, length, take, get_or, Bool, true, false, cond, not, ◌||◌, ◌==◌, Option, Some, None, refl, sym, ap, subst, ◌∙◌, arith}
use Rattle.std.specs.List.{AllByRecursion, filter, list_any}
use Rattle.std.specs.FinMap.{get, find}
use Rattle.std.proofs.lemmas.Bool.Decides.{nat_tests}
use Rattle.std.proofs.lemmas.List.Folds.{list_any_more}
use Rattle.dns_names.specs.Order.{same_name}
use Rattle.dns_data.specs.declared.record.Record.{Record}
use Rattle.zone_core.specs.declared.update.Operation.{Operation}
use Rattle.zone_core.specs.Sets.{Records, Key, key_of, key_cmp, same_key, keyed, set_of, listing, part, minus, same_ttl, at_name, InOrder, AreRows}
use Rattle.zone_core.specs.Updates.{acted_name}
use Rattle.zone_core.specs.Effects.{effect, effects}
pub use Rattle.zone_core.specs.Parts.{touched}
use Rattle.zone_core.specs.Nodes.{IsNode, Becomes, Grows}
use Rattle.zone_core.proofs.SetLemmas.{name_is, name_self, get-part, same_sets, by_cases}
use Rattle.zone_core.proofs.RowLemmas.{get-set_of, each_in, set_of-filter, InOrder-filter, listing_of}
use Rattle.zone_core.proofs.EffectLemmas.{effect_away}

-- ---- differences of rows

filter_all_agree : (q p : Record → Bool) (rs : List Record) → AllByRecursion (λ r. q r ≡ p r) rs → filter q rs ≡ filter p rs
filter_all_agree q p [] all = refl
filter_all_agree q p (r ∷ rs) all = λ i. cond (all.0 i) (r ∷ filter_all_agree q p rs all.1 i) (filter_all_agree q p rs all.1 i)

all_map : (P Q : Record → Type 0) → ((r : Record) → P r → Q r) → (rs : List Record) → AllByRecursion P rs → AllByRecursion Q rs
all_map P Q f [] all = tt
all_map P Q f (r ∷ rs) all = (f r all.0, all_map P Q f rs all.1)

-- what a test of a record, and of what another set has in its place, leaves of a row
pub sifted : (test : Option Record → Option Record → Bool) (rs : List Record) → InOrder rs → (s : Records)
    → set_of (filter (λ r. test (Some r) (get s (key_of r))) rs) ≡ part (set_of rs) (λ k. test (get (set_of rs) k) (get s k))
sifted test rs order s =
    let p : Key → Bool = λ k. test (get (set_of rs) k) (get s k) in
    ap set_of (filter_all_agree (λ r. test (Some r) (get s (key_of r))) (λ r. p (key_of r)) rs
    (all_map (λ r. find key_cmp (key_of r) (keyed rs) ≡ Some r) (λ r. test (Some r) (get s (key_of r)) ≡ p (key_of r))
    (λ r e. ap (λ o. test o (get s (key_of r))) (sym (get-set_of rs (key_of r) ∙ e))) rs (each_in rs order)))
    ∙ set_of-filter p rs

pub difference : (rs : List Record) → InOrder rs → (s : Records) → set_of (filter (λ r. not (same_ttl (Some r) (get s (key_of r)))) rs) ≡ minus (set_of rs) s
difference rs order s = sifted (λ x y. not (same_ttl x y)) rs order s

-- records, after none, that one row has and another has not
pub differing : (rs ss none all : List Record) (a b : Records) → InOrder rs → set_of rs ≡ a → set_of ss ≡ b → none ≡ []
    → all ≡ none ++ filter (λ r. not (same_ttl (Some r) (get (set_of ss) (key_of r)))) rs → AreRows all (minus a b)
differing rs ss none all a b order is other empty found =
    let test : Record → Bool = λ r. not (same_ttl (Some r) (get (set_of ss) (key_of r))) in
    let all_is : all ≡ filter test rs = found ∙ ap (λ front. front ++ filter test rs) empty in
    record {
      order = subst InOrder (sym all_is) (InOrder-filter test rs order);
      set = ap set_of all_is ∙ difference rs order (set_of ss) ∙ ap (λ set. minus set (set_of ss)) is ∙ ap (minus a) other;
    }

inner : (b : Bool) (x y : Option Record) → cond (not (same_ttl (cond b x None) (cond b y None))) (cond b x None) None ≡ cond b (cond (not (same_ttl x y)) x None) None
inner true x y = refl
inner false x y = refl

-- the difference of two parts is the part of the difference
pub minus_part : (a b : Records) (p : Key → Bool) → minus (part a p) (part b p) ≡ part (minus a b) p
minus_part a b p =
    same_sets (minus (part a p) (part b p)) (part (minus a b) p) (λ k.
    get-part (part a p) (λ j. not (same_ttl (get (part a p) j) (get (part b p) j))) k
    ∙ (λ i. cond (not (same_ttl (get-part a p k i) (get-part b p k i))) (get-part a p k i) None)
    ∙ inner (p k) (get a k) (get b k)
    ∙ ap (λ o. cond (p k) o None) (sym (get-part a (λ j. not (same_ttl (get a j) (get b j))) k))
    ∙ sym (get-part (minus a b) p k))

-- ---- names that operations act at

pub touched_more : (ops : List Operation) (i : ℕ) (op : Operation) (k : Key) → i < length ops → op ≡ get_or ops i op → touched (take (i + 1) ops) k ≡ (touched (take i ops) k || at_name (acted_name op) k)
touched_more ops i op k below is =
    list_any_more (λ o. at_name (acted_name o) k) ops i op below ∙ ap (λ o. touched (take i ops) k || at_name (acted_name o) k) (sym is)

or_true : (a b : Bool) → a ≡ true → (a || b) ≡ true
or_true true b e = refl
or_true false b e = absurd cc

or_first : (a b : Bool) → (a || b) ≡ true → (a ≡ false → b ≡ true)
or_first true b e f = absurd cc
or_first false b e f = e

-- a name at which an earlier operation acts
named_before : (name : List (List ℕ)) (k : Key) (ops : List Operation) → k.0 ≡ name → list_any (λ o. same_name (acted_name o) name) ops ≡ true → touched ops k ≡ true
named_before name k [] e any = absurd cc
named_before name k (o ∷ ops) e any =
    by_cases (same_name (acted_name o) name) (touched (o ∷ ops) k ≡ true)
    (λ here. or_true (at_name (acted_name o) k) (touched ops k) (rw (e, name_is (acted_name o) name here) (name_self name)))
    (λ there. or_second (at_name (acted_name o) k) (touched ops k) (named_before name k ops e (or_first (same_name (acted_name o) name) (list_any (λ o. same_name (acted_name o) name) ops) any there)))
  where
    or_second : (a b : Bool) → b ≡ true → (a || b) ≡ true
    or_second true b e = refl
    or_second false b e = e

absorbed : (a b : Bool) → (b ≡ true → a ≡ true) → (a || b) ≡ a
absorbed true b f = refl
absorbed false true f = absurd (let e = f refl in cc)
absorbed false false f = refl

-- ---- one name more

either_found : (t a : Bool) (m x y : Option Record) → x ≡ cond t m None → y ≡ cond a m None → (o : Option Record) → (x ≡ None → o ≡ y) → ((r : Record) → x ≡ Some r → o ≡ Some r) → o ≡ cond (t || a) m None
either_found true a None x y e f o none some = none e ∙ f ∙ nothing a
  where
    nothing : (b : Bool) → ◌≡◌ {A = Option Record} (cond b None None) None
    nothing true = refl
    nothing false = refl
either_found true a (Some r) x y e f o none some = some r e
either_found false a m x y e f o none some = none e ∙ f

append_found : (k : Key) (xs ys : List Record) → (find key_cmp k (keyed xs) ≡ None → find key_cmp k (keyed (xs ++ ys)) ≡ find key_cmp k (keyed ys)) × ((r : Record) → find key_cmp k (keyed xs) ≡ Some r → find key_cmp k (keyed (xs ++ ys)) ≡ Some r)
append_found k [] ys = (λ e. refl, λ r e. absurd cc)
append_found k (x ∷ xs) ys = by_test (same_key k (key_of x)) (append_found k xs ys)
  where
    by_test : (b : Bool)
        → (find key_cmp k (keyed xs) ≡ None → find key_cmp k (keyed (xs ++ ys)) ≡ find key_cmp k (keyed ys)) × ((r : Record) → find key_cmp k (keyed xs) ≡ Some r → find key_cmp k (keyed (xs ++ ys)) ≡ Some r)
        → (cond b (Some x) (find key_cmp k (keyed xs)) ≡ None → cond b (Some x) (find key_cmp k (keyed (xs ++ ys))) ≡ find key_cmp k (keyed ys))
        × ((r : Record) → cond b (Some x) (find key_cmp k (keyed xs)) ≡ Some r → cond b (Some x) (find key_cmp k (keyed (xs ++ ys))) ≡ Some r)
    by_test true rest = (λ e. absurd cc, λ r e. e)
    by_test false rest = rest

module _ (m : Records) (ops : List Operation) (i : ℕ) (op : Operation) (below : i < length ops) (is : op ≡ get_or ops i op) where
  pub touch_more : (xs ys : List Record) → set_of xs ≡ part m (touched (take i ops)) → Grows xs ys (part m (at_name (acted_name op))) → set_of ys ≡ part m (touched (take (i + 1) ops))
  touch_more xs ys so_far grows =
      same_sets (set_of ys) (part m (touched (take (i + 1) ops))) (λ k.
      let both = append_found k xs grows.more in
      get-set_of ys k ∙ ap (λ zs. find key_cmp k (keyed zs)) grows.grown
      ∙ either_found (touched (take i ops) k) (at_name (acted_name op) k) (get m k) (find key_cmp k (keyed xs)) (find key_cmp k (keyed grows.more))
      (sym (get-set_of xs k) ∙ ap (λ (s : Records). get s k) so_far ∙ get-part m (touched (take i ops)) k)
      (sym (get-set_of grows.more k) ∙ ap (λ (s : Records). get s k) grows.set ∙ get-part m (at_name (acted_name op)) k)
      (find key_cmp k (keyed (xs ++ grows.more))) both.0 both.1
      ∙ ap (λ b. cond b (get m k) None) (sym (touched_more ops i op k below is)) ∙ sym (get-part m (touched (take (i + 1) ops)) k))

  pub touch_again : (xs : List Record) → set_of xs ≡ part m (touched (take i ops)) → list_any (λ o. same_name (acted_name o) (acted_name op)) (take i ops) ≡ true → set_of xs ≡ part m (touched (take (i + 1) ops))
  touch_again xs so_far before =
      so_far ∙ ap (part m) (λ j k. sym (touched_more ops i op k below is ∙ absorbed (touched (take i ops) k) (at_name (acted_name op) k) (λ e. named_before (acted_name op) k (take i ops) (name_is k.0 (acted_name op) e) before)) j)

-- before the first operation nothing is gathered
pub touch_none : (m : Records) (xs : List Record) → xs ≡ [] → set_of xs ≡ part m (touched [])
touch_none m xs e = ap set_of e ∙ same_sets (set_of []) (part m (touched [])) (λ k. get-set_of [] k ∙ sym (get-part m (touched []) k))

-- ---- all names

or_none : (a b : Bool) → (a || b) ≡ false → (a ≡ false) × (b ≡ false)
or_none true b e = absurd cc
or_none false b e = (refl, e)

pub effects_away : (origin : List (List ℕ)) (a : Records) (ops : List Operation) (k : Key) → touched ops k ≡ false → get (effects origin a ops) k ≡ get a k
effects_away origin a [] k e = refl
effects_away origin a (op ∷ ops) k e =
    let both = or_none (at_name (acted_name op) k) (touched ops k) e in
    effects_away origin (effect origin a op) ops k both.1
    ∙ effect_away origin a op k (λ same. let f : true ≡ false = sym (rw same (name_self (acted_name op))) ∙ both.0 in cc)

pub same_ttl_self : (o : Option Record) → same_ttl o o ≡ true
same_ttl_self None = refl
same_ttl_self (Some r) = self r.ttl
  where
    self : (n : ℕ) → (n == n) ≡ true
    self n = grind (arith, nat_tests)

-- sets that agree where nothing is touched differ only where something is
whole : (a b : Records) (p : Key → Bool) → ((k : Key) → p k ≡ false → get b k ≡ get a k) → part (minus a b) p ≡ minus a b
whole a b p same =
    same_sets (part (minus a b) p) (minus a b) (λ k.
    get-part (minus a b) p k ∙ by_cases (p k) (cond (p k) (get (minus a b) k) None ≡ get (minus a b) k)
    (λ e. ap (λ t. cond t (get (minus a b) k) None) e)
    (λ e. ap (λ t. cond t (get (minus a b) k) None) e
    ∙ sym (get-part a (λ j. not (same_ttl (get a j) (get b j))) k ∙ ap (λ o. cond (not (same_ttl (get a k) o)) (get a k) None) (same k e) ∙ ap (λ t. cond (not t) (get a k) None) (same_ttl_self (get a k)))))

module _ (origin : List (List ℕ)) (a : Records) (ops : List Operation) where
  pub all_removed : part (minus a (effects origin a ops)) (touched ops) ≡ minus a (effects origin a ops)
  all_removed = whole a (effects origin a ops) (touched ops) (λ k e. effects_away origin a ops k e)

  pub all_added : part (minus (effects origin a ops) a) (touched ops) ≡ minus (effects origin a ops) a
  all_added = whole (effects origin a ops) a (touched ops) (λ k e. sym (effects_away origin a ops k e))

-- a row in order is the listing of its set
pub listed_so : (rs : List Record) (s : Records) → InOrder rs → set_of rs ≡ s → rs ≡ listing s
listed_so rs s order is = sym (listing_of rs order) ∙ ap (λ (x : Records). listing x) is

-- ---- one name

all_kept : (name : List (List ℕ)) (rs : List Record) → AllByRecursion (λ r. r.owner ≡ name) (filter (λ r. at_name name (key_of r)) rs)
all_kept name [] = tt
all_kept name (r ∷ rs) = by_test (same_name r.owner name) refl (all_kept name rs)
  where
    by_test : (b : Bool) → same_name r.owner name ≡ b → AllByRecursion (λ x. x.owner ≡ name) (filter (λ x. at_name name (key_of x)) rs)
        → AllByRecursion (λ x. x.owner ≡ name) (cond b (r ∷ filter (λ x. at_name name (key_of x)) rs) (filter (λ x. at_name name (key_of x)) rs))
    by_test true e rest = (name_is r.owner name e, rest)
    by_test false e rest = rest

module _ (name : List (List ℕ)) (rs : List Record) (order : InOrder rs) (before : List Record) (is : before ≡ filter (λ r. at_name name (key_of r)) rs) where
  pub node_is : IsNode name before
  node_is = subst (IsNode name) (sym is) (record { order = InOrder-filter (λ r. at_name name (key_of r)) rs order; here = all_kept name rs })

  pub set_is : set_of before ≡ part (set_of rs) (at_name name)
  set_is = ap set_of is ∙ set_of-filter (at_name name) rs

  module _ (b : Records) (after : List Record) (becomes : Becomes name after (part b (at_name name))) where
    pub removed_here : (xs ys : List Record) → ys ≡ xs ++ filter (λ r. not (same_ttl (Some r) (get (set_of after) (key_of r)))) before → Grows xs ys (part (minus (set_of rs) b) (at_name name))
    removed_here xs ys e =
        record {
          more = filter (λ r. not (same_ttl (Some r) (get (set_of after) (key_of r)))) before;
          grown = e;
          set = difference before node_is.order (set_of after) ∙ (λ i. minus (set_is i) (becomes.set i)) ∙ minus_part (set_of rs) b (at_name name);
        }

    pub added_here : (xs ys : List Record) → ys ≡ xs ++ filter (λ r. not (same_ttl (Some r) (get (set_of before) (key_of r)))) after → Grows xs ys (part (minus b (set_of rs)) (at_name name))
    added_here xs ys e =
        record {
          more = filter (λ r. not (same_ttl (Some r) (get (set_of before) (key_of r)))) after;
          grown = e;
          set = difference after becomes.node.order (set_of before) ∙ (λ i. minus (becomes.set i) (set_is i)) ∙ minus_part b (set_of rs) (at_name name);
        }
