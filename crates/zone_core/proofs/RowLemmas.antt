-- Rows of records in record order, and the sets that they stand for.
use Rattle.std.proofs.Common.{◌≡◌, ℕ, suc, List, [], ◌∷◌, Bool, true, false, cond, not, ◌&&◌, ◌==◌, ◌||◌, map, length, arith, Option, Some, None, refl, sym, ap, ◌∙◌, subst}
use Rattle.std.specs.declared.cmp.Ordering.{Ordering}
use Rattle.std.specs.declared.cmp.Ordering.TheVariants.{Less, Equal, Greater}
use Rattle.std.specs.Ordering.{is_eq, is_lt}
use Rattle.std.specs.List.{AllByRecursion, filter, list_any}
use Rattle.std.specs.List.Sorted.{IsStrictlySortedBy}
use Rattle.std.specs.FinMap.{get, entries, len, len-entries, from_sorted, entries_sorted, entries-from_sorted, get-from_sorted, get-from_entries, find, is_sorted, same_entries_map}
use Rattle.std.specs.FinMap.Entries.{below_all}
use Rattle.std.proofs.lemmas.List.Kept.{IsStrictlySortedBy-filter}
use Rattle.std.proofs.lemmas.Bool.{ne_eqb}
use lib.Dec.{T}
use Rattle.dns_data.specs.declared.record.Record.{Record}
use Rattle.dns_data.specs.RecordOrder.{key_total}
use Rattle.zone_core.specs.Sets.{Records, Key, key_of, key_cmp, record_order, same_key, keyed, set_of, listing, InOrder, IsIn, part, count, has}
use Rattle.zone_core.proofs.SetLemmas.{same_sets, get-part, is_tied, key_self, key_is, key_other}

-- ---- rows in order

first_of : (a b : Bool) → T (a && b) → T a
first_of true b p = tt
first_of false b p = p

second_of : (a b : Bool) → T (a && b) → T b
second_of true b p = p
second_of false b p = absurd p

both_true : (a b : Bool) → T a → T b → T (a && b)
both_true true b p t = t
both_true false b p t = p

less_is : (r : Ordering) → T (is_lt r) → r ≡ Less
less_is Less p = refl
less_is Equal p = absurd p
less_is Greater p = absurd p

below_all_is : (r : Record) (rs : List Record) → AllByRecursion (λ s. record_order r s ≡ Less) rs → T (below_all key_cmp (key_of r) (keyed rs))
below_all_is r [] all = tt
below_all_is r (s ∷ rs) all =
    both_true (is_lt (key_cmp (key_of r) (key_of s))) (below_all key_cmp (key_of r) (keyed rs)) (subst (λ o. T (is_lt o)) (sym all.0) tt) (below_all_is r rs all.1)

all_below : (r : Record) (rs : List Record) → T (below_all key_cmp (key_of r) (keyed rs)) → AllByRecursion (λ s. record_order r s ≡ Less) rs
all_below r [] below = tt
all_below r (s ∷ rs) below =
    let first = is_lt (key_cmp (key_of r) (key_of s)) in
    let others = below_all key_cmp (key_of r) (keyed rs) in
    (less_is (key_cmp (key_of r) (key_of s)) (first_of first others below), all_below r rs (second_of first others below))

pub sorted_is : (rs : List Record) → InOrder rs → T (is_sorted key_cmp (keyed rs))
unfolding IsStrictlySortedBy
sorted_is [] order = tt
sorted_is (r ∷ rs) order = both_true (below_all key_cmp (key_of r) (keyed rs)) (is_sorted key_cmp (keyed rs)) (below_all_is r rs order.0) (sorted_is rs order.1)

pub order_is : (rs : List Record) → T (is_sorted key_cmp (keyed rs)) → InOrder rs
unfolding IsStrictlySortedBy
order_is [] sorted = tt
order_is (r ∷ rs) sorted =
    let first = below_all key_cmp (key_of r) (keyed rs) in
    (all_below r rs (first_of first (is_sorted key_cmp (keyed rs)) sorted), order_is rs (second_of first (is_sorted key_cmp (keyed rs)) sorted))

-- ---- a row and its set

pub get-set_of : (rs : List Record) (k : Key) → get (set_of rs) k ≡ find key_cmp k (keyed rs)
get-set_of rs k = get-from_entries key_total (keyed rs) k

pub set_of_sorted : (rs : List Record) → InOrder rs → set_of rs ≡ from_sorted (keyed rs)
set_of_sorted rs order = same_sets (set_of rs) (from_sorted (keyed rs)) (λ k. get-set_of rs k ∙ sym (get-from_sorted key_cmp (keyed rs) k (sorted_is rs order)))

pub entries_of : (rs : List Record) → InOrder rs → entries (set_of rs) ≡ keyed rs
entries_of rs order = ap (λ (s : Records). entries s) (set_of_sorted rs order) ∙ entries-from_sorted key_cmp (keyed rs) (sorted_is rs order)

unkeyed : (rs : List Record) → map (λ (e : Key × Record). e.1) (keyed rs) ≡ rs
unkeyed [] = refl
unkeyed (r ∷ rs) = ap (λ xs. r ∷ xs) (unkeyed rs)

pub listing_of : (rs : List Record) → InOrder rs → listing (set_of rs) ≡ rs
listing_of rs order = ap (map (λ (e : Key × Record). e.1)) (entries_of rs order) ∙ unkeyed rs

-- a row that has the entries of a set
pub row_of : (set : Records) (rs : List Record) → entries set ≡ keyed rs → InOrder rs × (set_of rs ≡ set)
row_of set rs is =
    let order = order_is rs (subst (λ es. T (is_sorted key_cmp es)) is (entries_sorted set)) in
    (order, same_entries_map (set_of rs) set (entries_of rs order ∙ sym is))

-- ---- filters

kept : (b : Bool) (k : Key) (r : Record) (rest : List Record) → find key_cmp k (keyed (cond b (r ∷ rest) rest)) ≡ cond b (cond (is_eq (key_cmp k (key_of r))) (Some r) (find key_cmp k (keyed rest))) (find key_cmp k (keyed rest))
kept true k r rest = refl
kept false k r rest = refl

chosen : (t b c : Bool) (r : Record) (x : Option Record) → (t ≡ true → b ≡ c) → cond b (cond t (Some r) (cond c x None)) (cond c x None) ≡ cond c (cond t (Some r) x) None
chosen true b true r x same = ap (λ d. cond d (Some r) x) (same refl)
chosen true b false r x same = ap (λ d. cond d (Some r) None) (same refl)
chosen false true c r x same = refl
chosen false false true r x same = refl
chosen false false false r x same = refl

nothing : (b : Bool) → ◌≡◌ {A = Option Record} None (cond b None None)
nothing true = refl
nothing false = refl

find-filter : (p : Key → Bool) (k : Key) (rs : List Record) → find key_cmp k (keyed (filter (λ r. p (key_of r)) rs)) ≡ cond (p k) (find key_cmp k (keyed rs)) None
find-filter p k [] = nothing (p k)
find-filter p k (r ∷ rs) =
    let rest = filter (λ r. p (key_of r)) rs in
    let t = is_eq (key_cmp k (key_of r)) in
    kept (p (key_of r)) k r rest
    ∙ ap (λ o. cond (p (key_of r)) (cond t (Some r) o) o) (find-filter p k rs)
    ∙ chosen t (p (key_of r)) (p k) r (find key_cmp k (keyed rs)) (λ e. ap p (sym (key_is k (key_of r) e)))

-- a filter by keys is the part
pub set_of-filter : (p : Key → Bool) (rs : List Record) → set_of (filter (λ r. p (key_of r)) rs) ≡ part (set_of rs) p
set_of-filter p rs =
    same_sets (set_of (filter (λ r. p (key_of r)) rs)) (part (set_of rs) p)
    (λ k. get-set_of (filter (λ r. p (key_of r)) rs) k ∙ find-filter p k rs ∙ ap (λ o. cond (p k) o None) (sym (get-set_of rs k)) ∙ sym (get-part (set_of rs) p k))

pub InOrder-filter : (p : Record → Bool) (rs : List Record) → InOrder rs → InOrder (filter p rs)
InOrder-filter p rs order = IsStrictlySortedBy-filter record_order p rs order

pub listing-part : (p : Key → Bool) (rs : List Record) → InOrder rs → listing (part (set_of rs) p) ≡ filter (λ r. p (key_of r)) rs
listing-part p rs order =
    ap (λ (s : Records). listing s) (sym (set_of-filter p rs)) ∙ listing_of (filter (λ r. p (key_of r)) rs) (InOrder-filter (λ r. p (key_of r)) rs order)

length-keyed : (rs : List Record) → length (keyed rs) ≡ length rs
length-keyed [] = refl
length-keyed (r ∷ rs) = ap (λ n. suc n) (length-keyed rs)

pub len_of : (rs : List Record) → InOrder rs → len (set_of rs) ≡ length rs
len_of rs order = len-entries (set_of rs) ∙ ap length (entries_of rs order) ∙ length-keyed rs

pub count_is : (p : Key → Bool) (rs : List Record) → InOrder rs → count (set_of rs) p ≡ length (filter (λ r. p (key_of r)) rs)
count_is p rs order =
    ap (λ (s : Records). len s) (sym (set_of-filter p rs)) ∙ len_of (filter (λ r. p (key_of r)) rs) (InOrder-filter (λ r. p (key_of r)) rs order)

not_none : (n : ℕ) → not (suc n == 0) ≡ true
not_none n = ap not (ne_eqb (suc n) 0 (λ e. omega arith))

by_test : (b : Bool) (r : Record) (rs : List Record) (found : Bool) → not (length rs == 0) ≡ found → not (length (cond b (r ∷ rs) rs) == 0) ≡ b || found
by_test true r rs found e = not_none (length rs)
by_test false r rs found e = e

pub some_kept : (p : Record → Bool) (rs : List Record) → not (length (filter p rs) == 0) ≡ list_any p rs
some_kept p [] = refl
some_kept p (r ∷ rs) = by_test (p r) r (filter p rs) (list_any p rs) (some_kept p rs)

pub has_is : (p : Key → Bool) (rs : List Record) → InOrder rs → has (set_of rs) p ≡ list_any (λ r. p (key_of r)) rs
has_is p rs order = ap (λ n. not (n == 0)) (count_is p rs order) ∙ some_kept (λ r. p (key_of r)) rs

-- the run that passes a test, in a row that stands for a set
pub listed_part : (p : Key → Bool) (rs seen : List Record) (set : Records) → seen ≡ rs → set_of rs ≡ set → InOrder rs → filter (λ r. p (key_of r)) seen ≡ listing (part set p)
listed_part p rs seen set e is order =
    ap (filter (λ r. p (key_of r))) e ∙ sym (listing-part p rs order) ∙ ap (λ (s : Records). listing (part s p)) is

pub listed_all : (rs seen : List Record) (set : Records) → seen ≡ rs → set_of rs ≡ set → InOrder rs → seen ≡ listing set
listed_all rs seen set e is order = e ∙ sym (listing_of rs order) ∙ ap (λ (s : Records). listing s) is

-- whether a run that passes a test has records
pub some_in_run : (p : Key → Bool) (rs seen : List Record) (bare : Bool) → InOrder rs → seen ≡ filter (λ r. p (key_of r)) rs → bare ≡ (length seen == 0) → not bare ≡ has (set_of rs) p
some_in_run p rs seen bare order is e = ap not (e ∙ ap (λ (xs : List Record). length xs == 0) is) ∙ sym (ap (λ n. not (n == 0)) (count_is p rs order))

-- ---- records that are in a row

pub choice : {P : Type 0} (t : Bool) (r x : Record) (o : Option Record) → cond t (Some r) o ≡ Some x → (t ≡ true → r ≡ x → P) → (t ≡ false → o ≡ Some x → P) → P
choice true r x o e here later = here refl cc
choice false r x o e here later = later refl e

-- what is found in a row has what all records of the row have
pub found_has : (P : Record → Type 0) (rs : List Record) (k : Key) (x : Record) → AllByRecursion P rs → find key_cmp k (keyed rs) ≡ Some x → P x
found_has P [] k x all e = absurd cc
found_has P (r ∷ rs) k x all e =
    choice (is_eq (key_cmp k (key_of r))) r x (find key_cmp k (keyed rs)) e (λ t same. subst P same all.0) (λ t later. found_has P rs k x all.1 later)

-- and stands under its own key
pub found_key : (rs : List Record) (k : Key) (x : Record) → find key_cmp k (keyed rs) ≡ Some x → k ≡ key_of x
found_key [] k x e = absurd cc
found_key (r ∷ rs) k x e =
    choice (is_eq (key_cmp k (key_of r))) r x (find key_cmp k (keyed rs)) e (λ t same. key_is k (key_of r) t ∙ ap key_of same) (λ t later. found_key rs k x later)

pub in_has : (P : Record → Type 0) (rs : List Record) (x : Record) → AllByRecursion P rs → IsIn x (set_of rs) → P x
in_has P rs x all here = found_has P rs (key_of x) x all (sym (get-set_of rs (key_of x)) ∙ here)

pub first_in : (r : Record) (rs : List Record) → IsIn r (set_of (r ∷ rs))
first_in r rs = get-set_of (r ∷ rs) (key_of r) ∙ ap (λ b. cond b (Some r) (find key_cmp (key_of r) (keyed rs))) (key_self (key_of r))

-- each record of a row in order is in its set
apart : (k : Key) (r x : Record) → key_cmp (key_of r) (key_of x) ≡ Less → same_key (key_of x) (key_of r) ≡ false
apart k r x less = key_other (key_of x) (key_of r) (λ e. let tie : key_cmp (key_of r) (key_of x) ≡ Equal = is_tied (key_cmp (key_of r) (key_of x)) (ap (same_key (key_of r)) e ∙ key_self (key_of r)) in let c : Less ≡ Equal = sym less ∙ tie in absurd cc)

pub each_in : (rs : List Record) → InOrder rs → AllByRecursion (λ x. find key_cmp (key_of x) (keyed rs) ≡ Some x) rs
unfolding IsStrictlySortedBy
each_in [] order = tt
each_in (r ∷ rs) order = (
  ap (λ b. cond b (Some r) (find key_cmp (key_of r) (keyed rs))) (key_self (key_of r)),
  later rs order.0 (each_in rs order.1),
)
  where
    later : (xs : List Record) → AllByRecursion (λ s. record_order r s ≡ Less) xs → AllByRecursion (λ x. find key_cmp (key_of x) (keyed rs) ≡ Some x) xs → AllByRecursion (λ x. find key_cmp (key_of x) (keyed (r ∷ rs)) ≡ Some x) xs
    later [] less found = tt
    later (x ∷ xs) less found = (ap (λ b. cond b (Some r) (find key_cmp (key_of x) (keyed rs))) (apart (key_of x) r x less.0) ∙ found.0, later xs less.1 found.1)
