-- What a change makes of a set of records, and the change that makes one set of another.
use Rattle.std.proofs.Common.{◌≡◌, ℕ, List, [], ◌∷◌, ◌++◌, map, Bool, true, false, cond, not, ◌&&◌, ◌||◌, ◌==◌, is_some, Option, Some, None, refl, sym, ap, subst, ◌∙◌, arith}
use Rattle.std.specs.declared.cmp.Ordering.{Ordering}
use Rattle.std.specs.declared.cmp.Ordering.TheVariants.{Less, Equal, Greater}
use Rattle.std.specs.Ordering.{is_eq, is_lt}
use Rattle.std.specs.Cmp.{eq_by_cmp_equiv}
use Rattle.std.specs.List.{AllByRecursion, filter, list_any}
use Rattle.std.specs.Option.{option_or}
use Rattle.std.specs.FinMap.{get, len, entries, empty, find, is_sorted, entries_sorted, get-empty, get-entries, get-from_entries}
use Rattle.std.specs.FinMap.Entries.{below_all}
use Rattle.std.proofs.lemmas.Bool.{and_parts, eqb-true}
use Rattle.std.proofs.lemmas.Bool.Decides.{nat_tests}
use lib.Dec.{T}
use Rattle.dns_data.specs.declared.record.Record.{Record}
use Rattle.dns_data.specs.RecordOrder.{key_total}
use Rattle.zone_core.specs.Sets.{Records, Key, key_of, key_cmp, same_key, keyed, set_of, listing, part, cut, minus, is_same, same_ttl, InOrder, IsIn, AreRows}
use Rattle.zone_core.specs.Zones.{ZoneOf, IsZone, AreKept}
use Rattle.zone_core.specs.Merges.{merged}
use Rattle.zone_core.specs.Changes.{without, changed, FitsIn, ChangesMake, SameSetsAreOne}
use Rattle.zone_core.proofs.SetLemmas.{get-part, get-cut, kept_by_cut, same_sets, found_of_part, some_is, key_is, key_self, empty_is, empty_has}
use Rattle.zone_core.proofs.RowLemmas.{get-set_of, set_of-filter, InOrder-filter, each_in, found_has, found_key, row_of}
use Rattle.zone_core.proofs.MergeLemmas.{merged_order, merged_found, Fresh}
use Rattle.zone_core.proofs.OutcomeLemmas.{one_row, one_record, ttl_turned}

-- ---- what is found in a set that is changed

find_append : (k : Key) (xs ys : List (Key × Record)) → find key_cmp k (xs ++ ys) ≡ option_or (find key_cmp k xs) (find key_cmp k ys)
find_append k [] ys = refl
find_append k (x ∷ xs) ys = either (same_key k x.0) (find key_cmp k xs) (find key_cmp k ys) (find key_cmp k (xs ++ ys)) (find_append k xs ys)
  where
    either : (b : Bool) (o p q : Option Record) → q ≡ option_or o p → cond b (Some x.1) q ≡ option_or (cond b (Some x.1) o) p
    either true o p q e = refl
    either false o p q e = e

pub get-changed : (set : Records) (removed added : List Record) (k : Key)
    → get (changed set removed added) k ≡ option_or (find key_cmp k (keyed added)) (get (without set removed) k)
get-changed set removed added k =
    get-from_entries key_total (keyed added ++ entries (without set removed)) k
    ∙ find_append k (keyed added) (entries (without set removed))
    ∙ ap (option_or (find key_cmp k (keyed added))) (sym (get-entries (without set removed) k))

-- ---- records that a list names

-- whether a key is that of one of some records
abbrev named : List Record → Key → Bool
named rs k = list_any (λ r. same_key (key_of r) k) rs

key_turned : (j k : Key) → same_key j k ≡ same_key k j
key_turned j k = (eq_by_cmp_equiv key_total).symm j k

named_is : (rs : List Record) (k : Key) → named rs k ≡ is_some (find key_cmp k (keyed rs))
named_is [] k = refl
named_is (r ∷ rs) k = ap (λ b. b || named rs k) (key_turned (key_of r) k) ∙ by_test (same_key k (key_of r)) (named_is rs k)
  where
    by_test : (b : Bool) → named rs k ≡ is_some (find key_cmp k (keyed rs)) → (b || named rs k) ≡ is_some (cond b (Some r) (find key_cmp k (keyed rs)))
    by_test true e = refl
    by_test false e = e

-- what is found in records of a set
found_there : (set : Records) (rs : List Record) → AllByRecursion (λ r. IsIn r set) rs → (k : Key) → find key_cmp k (keyed rs) ≡ cond (named rs k) (get set k) None
found_there set [] all k = refl
found_there set (r ∷ rs) all k =
    by_test (same_key k (key_of r)) (λ t. sym all.0 ∙ ap (get set) (sym (key_is k (key_of r) t))) (found_there set rs all.1 k)
    ∙ ap (λ b. cond (b || named rs k) (get set k) None) (key_turned k (key_of r))
  where
    by_test : (b : Bool) → (b ≡ true → Some r ≡ get set k) → find key_cmp k (keyed rs) ≡ cond (named rs k) (get set k) None
        → cond b (Some r) (find key_cmp k (keyed rs)) ≡ cond (b || named rs k) (get set k) None
    by_test true here later = here refl
    by_test false here later = later

-- ---- rows from which some records go, and into which others come

module _ (set : Records) (rows removed added : List Record) (rows_are : AreRows rows set) (fits : FitsIn set removed added) where
  abbrev goes : Record → Bool
  goes r = named removed (key_of r)

  gone_is : removed ≡ filter goes rows
  gone_is =
      one_row removed (filter goes rows) fits.removed_order (InOrder-filter goes rows rows_are.order)
      (same_sets (set_of removed) (part set (named removed)) (λ k. get-set_of removed k ∙ found_there set removed fits.there k ∙ sym (get-part set (named removed) k))
      ∙ ap (λ (s : Records). part s (named removed)) (sym rows_are.set) ∙ sym (set_of-filter (named removed) rows))

  get-row : (k : Key) → find key_cmp k (keyed rows) ≡ get set k
  get-row k = sym (get-set_of rows k) ∙ ap (λ (s : Records). get s k) rows_are.set

  fresh_one : (r : Record) → find key_cmp (key_of r) (keyed rows) ≡ Some r → goes r ≡ false → find key_cmp (key_of r) (keyed added) ≡ None
  fresh_one r here stays = by_found (find key_cmp (key_of r) (keyed added)) refl
    where
      by_found : (o : Option Record) → find key_cmp (key_of r) (keyed added) ≡ o → o ≡ None
      by_found None e = refl
      by_found (Some x) e =
          let none : get (without set removed) (key_of x) ≡ None = found_has (λ a. get (without set removed) (key_of a) ≡ None) added (key_of r) x fits.free e in
          absurd (some_is (without set removed) (key_of r) r
          (kept_by_cut set (named removed) (key_of r) stays ∙ sym (get-row (key_of r)) ∙ here)
          (ap (get (without set removed)) (found_key added (key_of r) x e) ∙ none))

  all_fresh : (rs : List Record) → AllByRecursion (λ r. find key_cmp (key_of r) (keyed rows) ≡ Some r) rs → Fresh goes rs added
  all_fresh [] all = tt
  all_fresh (r ∷ rs) all = (fresh_one r all.0, all_fresh rs all.1)

  fresh : Fresh goes rows added
  fresh = all_fresh rows (each_in rows rows_are.order)

  get-stayed : (k : Key) → find key_cmp k (keyed (filter (λ r. not (goes r)) rows)) ≡ get (without set removed) k
  get-stayed k =
      sym (get-set_of (filter (λ r. not (goes r)) rows) k)
      ∙ ap (λ (s : Records). get s k) (set_of-filter (λ j. not (named removed j)) rows ∙ ap (λ (s : Records). cut s (named removed)) rows_are.set)

  -- the merged rows are those of the set after the change
  pub changed_are : (rs : List Record) → rs ≡ merged rows removed added → AreRows rs (changed set removed added)
  changed_are rs is =
      let e : rs ≡ merged rows (filter goes rows) added = is ∙ ap (λ xs. merged rows xs added) gone_is in
      record {
        order = subst InOrder (sym e) (merged_order goes rows added rows_are.order fits.added_order fresh);
        set = same_sets (set_of rs) (changed set removed added) (λ k.
            get-set_of rs k ∙ ap (λ xs. find key_cmp k (keyed xs)) e
            ∙ merged_found goes k rows added rows_are.order fresh
            ∙ ap (option_or (find key_cmp k (keyed added))) (get-stayed k)
            ∙ sym (get-changed set removed added k));
      }

-- ---- what two sets differ in

get-minus : (a b : Records) (k : Key) → get (minus a b) k ≡ cond (not (same_ttl (get a k) (get b k))) (get a k) None
get-minus a b k = get-part a (λ j. not (same_ttl (get a j) (get b j))) k

all_map : (P Q : Record → Type 0) → ((r : Record) → P r → Q r) → (rs : List Record) → AllByRecursion P rs → AllByRecursion Q rs
all_map P Q f [] all = tt
all_map P Q f (r ∷ rs) all = (f r all.0, all_map P Q f rs all.1)

-- where one set has another record than the other, its own goes
left_free : (x y : Option Record) (r : Record) → cond (not (same_ttl y x)) y None ≡ Some r → cond (is_some (cond (not (same_ttl x y)) x None)) None x ≡ None
left_free None None r e = refl
left_free None (Some t) r e = refl
left_free (Some s) None r e = refl
left_free (Some s) (Some t) r e = ap (λ b. cond (is_some (cond (not b) (Some s) None)) None (Some s)) (ttl_turned (Some s) (Some t)) ∙ by_test (same_ttl (Some t) (Some s)) e
  where
    by_test : (b : Bool) → cond (not b) (Some t) None ≡ Some r → cond (is_some (cond (not b) (Some s) None)) None (Some s) ≡ None
    by_test true f = absurd cc
    by_test false f = refl

-- what one set has and the other has not, or else what both have
made : (x y : Option Record) → ((r s : Record) → x ≡ Some r → y ≡ Some s → r.ttl ≡ s.ttl → r ≡ s)
    → option_or (cond (not (same_ttl y x)) y None) (cond (is_some (cond (not (same_ttl x y)) x None)) None x) ≡ y
made None None one = refl
made None (Some s) one = refl
made (Some r) None one = refl
made (Some r) (Some s) one =
    ap (λ t. option_or (cond (not t) (Some s) None) (cond (is_some (cond (not (r.ttl == s.ttl)) (Some r) None)) None (Some r))) (ttl_turned (Some s) (Some r)) ∙ by_test (r.ttl == s.ttl) refl
  where
    by_test : (b : Bool) → (r.ttl == s.ttl) ≡ b → option_or (cond (not b) (Some s) None) (cond (is_some (cond (not b) (Some r) None)) None (Some r)) ≡ Some s
    by_test true e = ap (λ (x : Record). Some x) (one r s refl refl (eqb-true r.ttl s.ttl e))
    by_test false e = refl

module _ (a b : Records) (kept : AreKept a) (also : AreKept b) (gone come : List Record) (gone_are : AreRows gone (minus a b)) (come_are : AreRows come (minus b a)) where
  get-gone : (k : Key) → find key_cmp k (keyed gone) ≡ get (minus a b) k
  get-gone k = sym (get-set_of gone k) ∙ ap (λ (s : Records). get s k) gone_are.set

  get-come : (k : Key) → find key_cmp k (keyed come) ≡ get (minus b a) k
  get-come k = sym (get-set_of come k) ∙ ap (λ (s : Records). get s k) come_are.set

  get-left : (k : Key) → get (without a gone) k ≡ cond (is_some (cond (not (same_ttl (get a k) (get b k))) (get a k) None)) None (get a k)
  get-left k = get-cut a (named gone) k ∙ ap (λ t. cond t None (get a k)) (named_is gone k ∙ ap is_some (get-gone k ∙ get-minus a b k))

  pub changes_fit : FitsIn a gone come
  changes_fit = record {
    removed_order = gone_are.order;
    added_order = come_are.order;
    there = all_map (λ r. find key_cmp (key_of r) (keyed gone) ≡ Some r) (λ r. IsIn r a)
        (λ r e. (found_of_part a (λ j. not (same_ttl (get a j) (get b j))) (key_of r) r (sym (get-gone (key_of r)) ∙ e)).1) gone (each_in gone gone_are.order);
    free = all_map (λ r. find key_cmp (key_of r) (keyed come) ≡ Some r) (λ r. get (without a gone) (key_of r) ≡ None)
        (λ r e. get-left (key_of r) ∙ left_free (get a (key_of r)) (get b (key_of r)) r (sym (get-minus b a (key_of r)) ∙ sym (get-come (key_of r)) ∙ e)) come (each_in come come_are.order);
  }

  pub change_makes : changed a gone come ≡ b
  change_makes =
      same_sets (changed a gone come) b (λ k.
      get-changed a gone come k ∙ (λ i. option_or ((get-come k ∙ get-minus b a k) i) (get-left k i))
      ∙ made (get a k) (get b k) (λ r s e f. one_record a b kept also k r s e f))

-- ---- the records of a set in record order

none_below : (k : Key) (es : List (Key × Record)) → T (below_all key_cmp k es) → find key_cmp k es ≡ None
none_below k [] below = refl
none_below k (e ∷ es) below = by_order (key_cmp k e.0) below (none_below k es)
  where
    by_order : (o : Ordering) → T (is_lt o && below_all key_cmp k es) → (T (below_all key_cmp k es) → find key_cmp k es ≡ None) → cond (is_eq o) (Some e.1) (find key_cmp k es) ≡ None
    by_order Less t rest = rest t
    by_order Equal t rest = absurd t
    by_order Greater t rest = absurd t

both_hold : (s t : Bool) → T (s && t) → T s × T t
both_hold true t h = (tt, h)
both_hold false t h = absurd h

-- entries whose records stand under their own keys
keyed_is : (es : List (Key × Record)) → T (is_sorted key_cmp es) → ((k : Key) (r : Record) → find key_cmp k es ≡ Some r → key_of r ≡ k) → es ≡ keyed (map (λ e. e.1) es)
keyed_is [] sorted own = refl
keyed_is (x ∷ es) sorted own =
    let parts = both_hold (below_all key_cmp x.0 es) (is_sorted key_cmp es) sorted in
    let first : key_of x.1 ≡ x.0 = own x.0 x.1 (ap (λ b. cond b (Some x.1) (find key_cmp x.0 es)) (key_self x.0)) in
    let rest = keyed_is es parts.1 (λ k r e. later parts.0 k r e (same_key k x.0) refl) in
    λ i. (sym first i, x.1) ∷ rest i
  where
    later : T (below_all key_cmp x.0 es) → (k : Key) (r : Record) → find key_cmp k es ≡ Some r → (b : Bool) → same_key k x.0 ≡ b → key_of r ≡ k
    later below k r e true t = absurd (let c : Some r ≡ None = sym e ∙ ap (λ j. find key_cmp j es) (key_is k x.0 t) ∙ none_below x.0 es below in cc)
    later below k r e false t = own k r (ap (λ b. cond b (Some x.1) (find key_cmp k es)) t ∙ e)

pub listed : (set : Records) → AreKept set → AreRows (listing set) set
listed set kept =
    let rows = row_of set (listing set) (keyed_is (entries set) (entries_sorted set) (λ k r e. (kept k r (get-entries set k ∙ e)).0)) in
    record { order = rows.0; set = rows.1 }

pub kept_in_part : (set : Records) (p : Key → Bool) → AreKept set → AreKept (part set p)
kept_in_part set p kept k r e = kept k r (found_of_part set p k r e).1

-- the records of a part of a zone are in order
pub part_in_order : (zone : ZoneOf) (p : Key → Bool) (rs : List Record) → IsZone zone → rs ≡ listing (part zone.records p) → InOrder rs
part_in_order zone p rs is e = subst InOrder (sym e) (listed (part zone.records p) (kept_in_part zone.records p is.kept)).order

-- ---- the laws

pub changes_make : ChangesMake
changes_make a b kept also =
    let gone = listed (minus a b) (kept_in_part a (λ k. not (same_ttl (get a k) (get b k))) kept) in
    let come = listed (minus b a) (kept_in_part b (λ k. not (same_ttl (get b k) (get a k))) also) in
    (changes_fit a b kept also (listing (minus a b)) (listing (minus b a)) gone come, change_makes a b kept also (listing (minus a b)) (listing (minus b a)) gone come)

-- sets that differ in nothing are one
module _ (a b : Records) (kept : AreKept a) (also : AreKept b) (same : is_same a b ≡ true) where
  none_less : (k : Key) → get (minus a b) k ≡ None
  none_less k = ap (λ (s : Records). get s k) (empty_is (minus a b) (and_parts (len (minus a b) == 0) (len (minus b a) == 0) same).0) ∙ get-empty _ k

  none_more : (k : Key) → get (minus b a) k ≡ None
  none_more k = ap (λ (s : Records). get s k) (empty_is (minus b a) (and_parts (len (minus a b) == 0) (len (minus b a) == 0) same).1) ∙ get-empty _ k

  pub one_set : (k : Key) → get a k ≡ get b k
  one_set k = by_options (get a k) (get b k) refl refl
    where
      by_ttl : (r s : Record) → get a k ≡ Some r → get b k ≡ Some s → (t : Bool) → (r.ttl == s.ttl) ≡ t → r ≡ s
      by_ttl r s e f true t = one_record a b kept also k r s e f (eqb-true r.ttl s.ttl t)
      by_ttl r s e f false t =
          absurd (some_is (minus a b) k r (get-minus a b k ∙ (λ i. cond (not (same_ttl (e i) (f i))) (e i) None) ∙ ap (λ b. cond (not b) (Some r) None) t) (none_less k))

      by_options : (x y : Option Record) → get a k ≡ x → get b k ≡ y → x ≡ y
      by_options None None e f = refl
      by_options None (Some s) e f = absurd (some_is (minus b a) k s (get-minus b a k ∙ (λ i. cond (not (same_ttl (f i) (e i))) (f i) None)) (none_more k))
      by_options (Some r) None e f = absurd (some_is (minus a b) k r (get-minus a b k ∙ (λ i. cond (not (same_ttl (e i) (f i))) (e i) None)) (none_less k))
      by_options (Some r) (Some s) e f = ap (λ (x : Record). Some x) (by_ttl r s e f (r.ttl == s.ttl) refl)

none_apart : (o : Option Record) → cond (not (same_ttl o o)) o None ≡ None
none_apart None = refl
none_apart (Some r) = ap (λ b. cond (not b) (Some r) None) (self r.ttl)
  where
    self : (n : ℕ) → (n == n) ≡ true
    self n = grind (arith, nat_tests)

self_same : (a : Records) → is_same a a ≡ true
self_same a =
    let bare : minus a a ≡ empty = same_sets (minus a a) empty (λ k. get-minus a a k ∙ none_apart (get a k) ∙ sym (get-empty key_cmp k)) in
    let nothing : (len (minus a a) == 0) ≡ true = ap (λ (s : Records). len s == 0) bare ∙ empty_has in
    λ i. nothing i && nothing i

pub same_sets_are_one : SameSetsAreOne
same_sets_are_one a b kept also = (λ same. same_sets a b (one_set a b kept also same), λ e. ap (is_same a) (sym e) ∙ self_same a)

-- ---- zones of one origin

module _ (before after : ZoneOf) (was : IsZone before) (is : IsZone after) (own : after.origin ≡ before.origin) (removed added : List Record) (gone : AreRows removed (minus before.records after.records)) (come : AreRows added (minus after.records before.records)) where
  pub zone_fits : FitsIn before.records removed added
  zone_fits = changes_fit before.records after.records was.kept is.kept removed added gone come

  pub zone_gives : record before { records = changed before.records removed added } ≡ after
  zone_gives =
      let e = change_makes before.records after.records was.kept is.kept removed added gone come in
      λ i. record { origin = sym own i; records = e i }

  pub zone_made : IsZone (record before { records = changed before.records removed added })
  zone_made = subst IsZone (sym zone_gives) is
