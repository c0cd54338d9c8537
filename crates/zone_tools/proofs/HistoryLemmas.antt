-- What is found before changes, and which change brought it.
use Rattle.std.proofs.Common.{◌≡◌, ℕ, zero, suc, ◌+◌, ◌<◌, ◌≤◌, List, [], ◌∷◌, ◌++◌, length, take, drop, get_or, map, Bool, true, false, cond, ◌||◌, ◌⊎◌, inl, inr, ◌↔◌, is_some, Option, Some, None, option_map, refl, sym, ap, ◌∙◌, subst, arith, add-one}
use Rattle.std.specs.Option.{option_or}
use Rattle.std.specs.List.{AllByRecursion, Contains, list_any}
use Rattle.std.proofs.lemmas.List.Elements.{recursion_from_All, All-contains_itself}
use Rattle.std.specs.Result.{IfOk}
use Rattle.std.specs.Prelude.{Result, Ok, Err, Vec}
use Rattle.std.specs.FinMap.{get, find}
use Rattle.std.specs.BTreeSet.{BTreeSet, contains}
use Rattle.std.proofs.Math.Seq.{drop-cons}
use Rattle.std.proofs.lemmas.List.{take_more, map_more, drop_all}
use Rattle.std.proofs.lemmas.List.Folds.{list_any_more}
use Rattle.dns_data.specs.declared.record.Record.{Record}
use Rattle.zone_core.specs.Sets.{Records, Key, key_of, key_cmp, same_key, keyed, set_of, AreRows, InOrder, IsIn}
use Rattle.zone_core.specs.declared.change.Change.{Change}
use Rattle.zone_core.specs.Changes.{ChangeOf, change_in, without, changed, FitsIn}
use Rattle.zone_core.proofs.SetLemmas.{by_cases, key_is, get-cut, kept_by_cut, same_sets}
use Rattle.zone_core.proofs.RowLemmas.{get-set_of, found_has, found_key, each_in}
use Rattle.zone_core.proofs.MergeLemmas.{found_append}
use Rattle.zone_core.proofs.ChangedLemmas.{get-changed}
use Rattle.zone_tools.specs.RecordKeys.{same_key_equiv}
use Rattle.zone_tools.specs.History.{undone, before, has_key, touches, AreApart, WasThere, bringer, IsBringer, found_in, ChangesAreUndone, RecordsWereThere, BringersAreLast}

-- ---- what is found in rows

or_assoc : {X : Type 0} (a b c : Option X) → option_or (option_or a b) c ≡ option_or a (option_or b c)
or_assoc None b c = refl
or_assoc (Some x) b c = refl

key_turned : (j k : Key) → same_key j k ≡ same_key k j
key_turned j k = same_key_equiv.symm j k

-- whether a key is there
pub has_key-some : (rs : List Record) (k : Key) → has_key rs k ≡ is_some (get (set_of rs) k)
has_key-some rs k = by_records rs ∙ ap is_some (sym (get-set_of rs k))
  where
    by_test : (r : Record) (rs : List Record) (b : Bool) → has_key rs k ≡ is_some (find key_cmp k (keyed rs)) → (b || has_key rs k) ≡ is_some (cond b (Some r) (find key_cmp k (keyed rs)))
    by_test r rs true e = refl
    by_test r rs false e = e

    by_records : (rs : List Record) → has_key rs k ≡ is_some (find key_cmp k (keyed rs))
    by_records [] = refl
    by_records (r ∷ rs) = ap (λ b. b || has_key rs k) (key_turned (key_of r) k) ∙ by_test r rs (same_key k (key_of r)) (by_records rs)

get-one : (r : Record) (k : Key) → get (set_of (r ∷ [])) k ≡ cond (same_key (key_of r) k) (Some r) None
get-one r k = get-set_of (r ∷ []) k ∙ ap (λ b. cond b (Some r) None) (key_turned k (key_of r))

get-push : (rs : List Record) (r : Record) (k : Key) → get (set_of (rs ++ r ∷ [])) k ≡ option_or (get (set_of rs) k) (cond (same_key (key_of r) k) (Some r) None)
get-push rs r k =
    get-set_of (rs ++ r ∷ []) k ∙ found_append k rs (r ∷ []) ∙ (λ i. option_or (sym (get-set_of rs k) i) ((sym (get-set_of (r ∷ []) k) ∙ get-one r k) i))

-- ---- a record more

-- one that comes to the rows, where its key is not touched
module _ (r : Record) where
  pushed : (s t : Bool) (o p : Option Record) → (s ≡ true → t ≡ false)
      → option_or (option_or o (cond t None p)) (cond s (Some r) None) ≡ option_or o (cond t None (option_or p (cond s (Some r) None)))
  pushed true true o p free = absurd (let e = free refl in cc)
  pushed false true o p free = or_assoc o None None
  pushed s false o p free = or_assoc o p (cond s (Some r) None)

  -- and one that does not, where it is
  passed : (s t : Bool) (o p : Option Record) → (s ≡ true → (t || is_some p) ≡ true) → option_or o (cond t None p) ≡ option_or o (cond t None (option_or p (cond s (Some r) None)))
  passed s true o p there = refl
  passed s false o (Some x) there = refl
  passed false false o None there = refl
  passed true false o None there = absurd (let e = there refl in cc)

module _ (first rows seen : List Record) (t : Key → Bool) (r : Record) (k : Key) (so_far : get (set_of rows) k ≡ found_in first t (set_of seen) k) where
  more : found_in first t (set_of (seen ++ r ∷ [])) k ≡ option_or (get (set_of first) k) (cond (t k) None (option_or (get (set_of seen) k) (cond (same_key (key_of r) k) (Some r) None)))
  more = ap (λ o. option_or (get (set_of first) k) (cond (t k) None o)) (get-push seen r k)

  pub row_pushed : (same_key (key_of r) k ≡ true → t k ≡ false) → get (set_of (rows ++ r ∷ [])) k ≡ found_in first t (set_of (seen ++ r ∷ [])) k
  row_pushed free =
      get-push rows r k ∙ ap (λ o. option_or o (cond (same_key (key_of r) k) (Some r) None)) so_far
      ∙ pushed r (same_key (key_of r) k) (t k) (get (set_of first) k) (get (set_of seen) k) free ∙ sym more

  pub row_passed : (same_key (key_of r) k ≡ true → (t k || is_some (get (set_of seen) k)) ≡ true) → get (set_of rows) k ≡ found_in first t (set_of (seen ++ r ∷ [])) k
  row_passed there = so_far ∙ passed r (same_key (key_of r) k) (t k) (get (set_of first) k) (get (set_of seen) k) there ∙ sym more

-- the next of some records
pub next_taken : (rs : List Record) (i : ℕ) (r : Record) → i < length rs → r ≡ get_or rs i r → take (i + 1) rs ≡ take i rs ++ r ∷ []
next_taken rs i r below is = take_more rs i r below ∙ ap (λ x. take i rs ++ x ∷ []) (sym is)

-- the keys with those of one more
pub touched_more : (b : Bool) (rs : List Record) (i : ℕ) (r : Record) (k : Key) → i < length rs → r ≡ get_or rs i r
    → ((b || has_key (take i rs) k) || same_key (key_of r) k) ≡ (b || has_key (take (i + 1) rs) k)
touched_more b rs i r k below is =
    assoc b (has_key (take i rs) k) (same_key (key_of r) k)
    ∙ ap (λ c. b || c) (ap (λ x. has_key (take i rs) k || same_key (key_of x) k) is ∙ sym (list_any_more (λ x. same_key (key_of x) k) rs i r below))
  where
    assoc : (a b c : Bool) → ((a || b) || c) ≡ (a || (b || c))
    assoc true b c = refl
    assoc false b c = refl

or_none : (a b : Bool) → (a || b) ≡ false → a ≡ false
or_none true b e = absurd cc
or_none false b e = refl

-- rows to which a record came, if its key was new among those that were touched at first and those of the records that were seen
pub new_more : (first rows seen next : List Record) (t now : Key → Bool) (r : Record)
    → ((k : Key) → now k ≡ (t k || has_key seen k))
    → ((k : Key) → get (set_of rows) k ≡ found_in first t (set_of seen) k)
    → next ≡ cond (now (key_of r)) rows (rows ++ r ∷ [])
    → (k : Key) → get (set_of next) k ≡ found_in first t (set_of (seen ++ r ∷ [])) k
new_more first rows seen next t now r touched so_far is k =
    by_cases (now (key_of r)) _
    (λ e. ap (λ xs. get (set_of xs) k) (is ∙ ap (λ b. cond b rows (rows ++ r ∷ [])) e)
    ∙ row_passed first rows seen t r k (so_far k) (λ s. ap (λ b. t k || b) (sym (has_key-some seen k)) ∙ sym (touched k) ∙ ap now (sym (key_is (key_of r) k s)) ∙ e))
    (λ e. ap (λ xs. get (set_of xs) k) (is ∙ ap (λ b. cond b rows (rows ++ r ∷ [])) e)
    ∙ row_pushed first rows seen t r k (so_far k) (λ s. or_none (t k) (has_key seen k) (sym (touched k) ∙ ap now (sym (key_is (key_of r) k s)) ∙ e)))

-- and if its key was not touched
pub untouched_more : (first rows seen next : List Record) (t : Key → Bool) (r : Record)
    → ((k : Key) → get (set_of rows) k ≡ found_in first t (set_of seen) k)
    → next ≡ cond (t (key_of r)) rows (rows ++ r ∷ [])
    → (k : Key) → get (set_of next) k ≡ found_in first t (set_of (seen ++ r ∷ [])) k
untouched_more first rows seen next t r so_far is k =
    by_cases (t (key_of r)) _
    (λ e. ap (λ xs. get (set_of xs) k) (is ∙ ap (λ b. cond b rows (rows ++ r ∷ [])) e)
    ∙ row_passed first rows seen t r k (so_far k) (λ s. ap (λ b. b || is_some (get (set_of seen) k)) (ap t (sym (key_is (key_of r) k s)) ∙ e)))
    (λ e. ap (λ xs. get (set_of xs) k) (is ∙ ap (λ b. cond b rows (rows ++ r ∷ [])) e)
    ∙ row_pushed first rows seen t r k (so_far k) (λ s. ap t (sym (key_is (key_of r) k s)) ∙ e))

-- ---- a change more

-- what is found in a set before a change
pub get-undone : (c : ChangeOf) (set : Records) (k : Key) → get (undone c set) k ≡ option_or (get (set_of c.removed) k) (cond (has_key c.added k) None (get set k))
get-undone c set k =
    get-changed set c.added c.removed k ∙ (λ i. option_or (sym (get-set_of c.removed k) i) (get-cut set (has_key c.added) k i))

undone_found : (t h : Bool) (o p q : Option Record)
    → option_or (option_or o (cond t None p)) (cond ((t || is_some p) || h) None q) ≡ option_or o (cond t None (option_or p (cond h None q)))
undone_found true h o p q = or_assoc o None None
undone_found false h o None q = or_assoc o None (cond h None q)
undone_found false h o (Some x) q = or_assoc o (Some x) None

pub undone_more : (rows next : List Record) (t between now : Key → Bool) (c : ChangeOf)
    → ((k : Key) → between k ≡ (t k || has_key c.removed k))
    → ((k : Key) → get (set_of next) k ≡ found_in rows t (set_of c.removed) k)
    → ((k : Key) → now k ≡ (between k || has_key c.added k))
    → (set : Records) (k : Key) → found_in next now set k ≡ found_in rows t (undone c set) k
undone_more rows next t between now c first is last set k =
    (λ i. option_or (is k i) (cond ((last k ∙ ap (λ b. b || has_key c.added k) (first k ∙ ap (λ b. t k || b) (has_key-some c.removed k))) i) None (get set k)))
    ∙ undone_found (t k) (has_key c.added k) (get (set_of rows) k) (get (set_of c.removed) k) (get set k)
    ∙ ap (λ o. option_or (get (set_of rows) k) (cond (t k) None o)) (sym (get-undone c set k))

-- what is found before some changes, after those of them that were undone
pub undone_next : (changes : List Change) (i : ℕ) (change : Change) → i < length changes → change ≡ get_or changes i change
    → (set : Records) → before (map change_in (drop i changes)) set ≡ undone (change_in change) (before (map change_in (drop (i + 1) changes)) set)
undone_next changes i change below is set =
    let front : drop i changes ≡ get_or changes i change ∷ drop (i + 1) changes = rw add-one (drop-cons changes i change below) in
    ap (λ cs. before (map change_in cs) set) front
    ∙ ap (λ c. undone (change_in c) (before (map change_in (drop (i + 1) changes)) set)) (sym is)

-- ---- at first and at last

none_or : {X : Type 0} (o : Option X) → o ≡ option_or o None
none_or None = refl
none_or (Some x) = refl

pub touched_none : (b : Bool) → b ≡ (b || false)
touched_none true = refl
touched_none false = refl

pub found_first : (rows : List Record) (t : Key → Bool) (k : Key) → get (set_of rows) k ≡ found_in rows t (set_of []) k
found_first rows t k =
    none_or (get (set_of rows) k) ∙ ap (option_or (get (set_of rows) k)) (nothing (t k) ∙ ap (cond (t k) None) (sym (get-set_of [] k)))
  where
    nothing : (b : Bool) → ◌≡◌ {A = Option Record} None (cond b None None)
    nothing true = refl
    nothing false = refl

pub found_at_first : (rows : List Record) (touched : BTreeSet Key) → rows ≡ [] → touched.keys ≡ [] → (set : Records) (k : Key) → found_in rows (contains key_cmp touched) set k ≡ get set k
found_at_first rows touched none bare set k =
    (λ i. option_or (get (set_of (none i)) k) (cond (list_any (λ j. same_key k j) (bare i)) None (get set k)))
    ∙ ap (λ o. option_or o (get set k)) (get-set_of [] k)

pub rows_are : {A E : Type 0} (sorted : Result (Vec Record A) E) (rows all records : List Record) (t : Key → Bool) (changes : List Change) (i : ℕ) → length changes ≤ i
    → ((k : Key) → found_in rows t (before (map change_in (drop i changes)) (set_of records)) k ≡ get (before (map change_in changes) (set_of records)) k)
    → ((k : Key) → get (set_of all) k ≡ found_in rows t (set_of records) k)
    → IfOk sorted (λ v. InOrder v.items) → IfOk sorted (λ v. set_of v.items ≡ set_of all)
    → IfOk sorted (λ v. AreRows v.items (before (map change_in changes) (set_of records)))
rows_are (Err e) rows all records t changes i end so_far last order set = tt
rows_are (Ok v) rows all records t changes i end so_far last order set =
    record {
      order = order;
      set = set ∙ same_sets (set_of all) (before (map change_in changes) (set_of records)) (λ k.
          last k ∙ ap (λ cs. found_in rows t (before (map change_in cs) (set_of records)) k) (sym (drop_all i changes end)) ∙ so_far k);
    }

-- ---- which records were there

-- what is found in a set before a change that does not touch the key
touched_not : (c : ChangeOf) (set : Records) (k : Key) → touches c k ≡ false → get (undone c set) k ≡ get set k
touched_not c set k e = get-undone c set k ∙ by_found (get (set_of c.removed) k) (has_key c.added k) (ap (λ b. b || has_key c.added k) (sym (has_key-some c.removed k)) ∙ e)
  where
    by_found : (o : Option Record) (h : Bool) → (is_some o || h) ≡ false → option_or o (cond h None (get set k)) ≡ get set k
    by_found None false f = refl
    by_found None true f = absurd cc
    by_found (Some x) h f = absurd cc

module _ (set : Records) (r : Record) where
  -- a record that the first change which touches it removed
  removed_there : (earlier : List ChangeOf) (c : ChangeOf) (later : List ChangeOf) → AreApart earlier (key_of r) → IsIn r (set_of c.removed) → IsIn r (before (earlier ++ c ∷ later) set)
  removed_there [] c later apart removed =
      get-undone c (before later set) (key_of r) ∙ ap (λ o. option_or o (cond (has_key c.added (key_of r)) None (get (before later set) (key_of r)))) removed
  removed_there (e ∷ earlier) c later apart removed =
      touched_not e (before (earlier ++ c ∷ later) set) (key_of r) apart.0 ∙ removed_there earlier c later apart.1 removed

  -- and one that none touches
  stayed_there : (cs : List ChangeOf) → AreApart cs (key_of r) → IsIn r set → IsIn r (before cs set)
  stayed_there [] apart there = there
  stayed_there (c ∷ cs) apart there = touched_not c (before cs set) (key_of r) apart.0 ∙ stayed_there cs apart.1 there

  to_there : (cs : List ChangeOf) → WasThere cs set r → IsIn r (before cs set)
  to_there cs (inl first) = subst (λ ds. IsIn r (before ds set)) (sym first.are) (removed_there first.earlier first.change first.later first.apart first.removed)
  to_there cs (inr stayed) = stayed_there cs stayed.0 stayed.1

  -- how a record came to be there before a change
  either : (o q : Option Record) (h : Bool) → option_or o (cond h None q) ≡ Some r → (o ≡ Some r) ⊎ (((is_some o || h) ≡ false) × (q ≡ Some r))
  either (Some x) q h e = inl e
  either None q true e = absurd cc
  either None q false e = inr (refl, e)

  earlier_too : (c : ChangeOf) (cs : List ChangeOf) → touches c (key_of r) ≡ false → WasThere cs set r → WasThere (c ∷ cs) set r
  earlier_too c cs e (inl first) = inl (record {
    earlier = c ∷ first.earlier;
    change = first.change;
    later = first.later;
    are = ap (λ ds. c ∷ ds) first.are;
    apart = (e, first.apart);
    removed = first.removed;
  })
  earlier_too c cs e (inr stayed) = inr ((e, stayed.0), stayed.1)

  from_there : (cs : List ChangeOf) → IsIn r (before cs set) → WasThere cs set r
  from_there [] there = inr (tt, there)
  from_there (c ∷ cs) there =
      by_change (from_there cs) (either (get (set_of c.removed) (key_of r)) (get (before cs set) (key_of r)) (has_key c.added (key_of r)) (sym (get-undone c (before cs set) (key_of r)) ∙ there))
    where
      by_change : (IsIn r (before cs set) → WasThere cs set r)
          → IsIn r (set_of c.removed) ⊎ (((is_some (get (set_of c.removed) (key_of r)) || has_key c.added (key_of r)) ≡ false) × IsIn r (before cs set)) → WasThere (c ∷ cs) set r
      by_change earlier (inl removed) = inl (record { earlier = []; change = c; later = cs; are = refl; apart = tt; removed = removed })
      by_change earlier (inr both) = earlier_too c cs (ap (λ b. b || has_key c.added (key_of r)) (has_key-some c.removed (key_of r)) ∙ both.0) (earlier both.1)

pub records_were_there : RecordsWereThere
records_were_there cs set r = (to_there set r cs, from_there set r cs)

-- a record of rows in order is in their set, and no other is
contained_all : {X : Type 0} (P : X → Type 0) (xs : List X) (x : X) → AllByRecursion P xs → Contains xs x → P x
contained_all P [] x all c = absurd (omega (arith, c.1))
contained_all P (y ∷ ys) x all (zero, lt, e) = subst P e all.0
contained_all P (y ∷ ys) x all (suc k, lt, e) = contained_all P ys x all.1 (k, omega (arith, lt), e)

rows_contain : (rs : List Record) → InOrder rs → (r : Record) → Contains rs r ↔ IsIn r (set_of rs)
rows_contain rs order r = (
  λ c. get-set_of rs (key_of r) ∙ contained_all (λ x. find key_cmp (key_of x) (keyed rs) ≡ Some x) rs r (each_in rs order) c,
  λ here. found_has (Contains rs) rs (key_of r) r (recursion_from_All (Contains rs) rs (All-contains_itself rs)) (sym (get-set_of rs (key_of r)) ∙ here),
)

pub rows_there : {A E : Type 0} (sorted : Result (Vec Record A) E) (cs : List ChangeOf) (set : Records)
    → IfOk sorted (λ v. AreRows v.items (before cs set)) → IfOk sorted (λ v. (r : Record) → Contains v.items r ↔ WasThere cs set r)
rows_there (Err e) cs set are = tt
rows_there (Ok v) cs set are = λ r.
    let contain = rows_contain v.items are.order r in (
      λ c. from_there set r cs (subst (λ (s : Records). IsIn r s) are.set (contain.0 c)),
      λ was. contain.1 (subst (λ (s : Records). IsIn r s) (sym are.set) (to_there set r cs was)),
    )

-- ---- changes are undone

module _ (a : Records) (removed added : List Record) (fits : FitsIn a removed added) where
  there_still : (k : Key) (x : Record) → get (set_of removed) k ≡ Some x → get a k ≡ Some x
  there_still k x e =
      let found = sym (get-set_of removed k) ∙ e in
      ap (get a) (found_key removed k x found) ∙ found_has (λ r. IsIn r a) removed k x fits.there found

  free_before : (k : Key) → get (set_of removed) k ≡ None → (x : Record) → get (set_of added) k ≡ Some x → get a k ≡ None
  free_before k none x e =
      let found = sym (get-set_of added k) ∙ e in
      sym (kept_by_cut a (has_key removed) k (has_key-some removed k ∙ ap is_some none))
      ∙ ap (get (without a removed)) (found_key added k x found) ∙ found_has (λ r. get (without a removed) (key_of r) ≡ None) added k x fits.free found

  by_found : (o p m : Option Record) → ((x : Record) → o ≡ Some x → m ≡ Some x) → (o ≡ None → (x : Record) → p ≡ Some x → m ≡ None)
      → option_or o (cond (is_some p) None (option_or p (cond (is_some o) None m))) ≡ m
  by_found (Some x) p m there free = sym (there x refl)
  by_found None None m there free = refl
  by_found None (Some y) m there free = sym (free refl y refl)

  undone_again : changed (changed a removed added) added removed ≡ a
  undone_again =
      let c : ChangeOf = record { removed = removed; added = added } in
      same_sets (changed (changed a removed added) added removed) a (λ k.
      get-undone c (changed a removed added) k
      ∙ (λ i. option_or (get (set_of removed) k)
      (cond (has_key-some added k i) None
      ((get-changed a removed added k ∙ (λ j. option_or (sym (get-set_of added k) j) ((get-cut a (has_key removed) k ∙ ap (λ b. cond b None (get a k)) (has_key-some removed k)) j))) i)))
      ∙ by_found (get (set_of removed) k) (get (set_of added) k) (get a k) (there_still k) (free_before k))

pub changes_are_undone : ChangesAreUndone
changes_are_undone a b [] leads = sym leads.1
changes_are_undone a b (c ∷ cs) leads = ap (undone c) (changes_are_undone (changed a c.removed c.added) b cs leads.2) ∙ undone_again a c.removed c.added leads.1

-- ---- bringers

bringer_more : (cs : List ChangeOf) (c : ChangeOf) (k : Key) → cond (has_key c.added k) (Some (length cs + 1)) (bringer cs k) ≡ bringer (cs ++ c ∷ []) k
bringer_more [] c k = by_test (has_key c.added k)
  where
    by_test : (b : Bool) → cond b (Some (0 + 1)) None ≡ cond b (Some 1) None
    by_test true = refl
    by_test false = refl
bringer_more (d ∷ cs) c k = by_test (has_key c.added k) (bringer cs k) (cond (has_key d.added k) (Some 1) None) (bringer_more cs c k)
  where
    one_more : (n : ℕ) → suc n + 1 ≡ (n + 1) + 1
    one_more n = omega arith

    by_test : (b : Bool) (o p : Option ℕ) → cond b (Some (length cs + 1)) o ≡ bringer (cs ++ c ∷ []) k
        → cond b (Some (suc (length cs) + 1)) (option_or (option_map (λ n. n + 1) o) p) ≡ option_or (option_map (λ n. n + 1) (bringer (cs ++ c ∷ []) k)) p
    by_test true o p e = ap (λ (n : ℕ). Some n) (one_more (length cs)) ∙ ap (λ q. option_or (option_map (λ n. n + 1) q) p) e
    by_test false o p e = ap (λ q. option_or (option_map (λ n. n + 1) q) p) e

pub bringer_next : (changes : List Change) (i : ℕ) (change : Change) (k : Key) → i < length changes → change ≡ get_or changes i change
    → cond (has_key change.added.items k) (Some (i + 1)) (bringer (map change_in (take i changes)) k) ≡ bringer (map change_in (take (i + 1) changes)) k
bringer_next changes i change k below is =
    let count : length (map change_in (take i changes)) ≡ i = taken changes i (omega (arith, below)) in
    ap (λ n. cond (has_key change.added.items k) (Some (n + 1)) (bringer (map change_in (take i changes)) k)) (sym count)
    ∙ bringer_more (map change_in (take i changes)) (change_in change) k
    ∙ ap (λ c. bringer (map change_in (take i changes) ++ change_in c ∷ []) k) is
    ∙ ap (λ cs. bringer cs k) (sym (map_more change_in changes i change below))
  where
    taken : (cs : List Change) (n : ℕ) → n ≤ length cs → length (map change_in (take n cs)) ≡ n
    taken cs zero le = refl
    taken [] (suc n) le = absurd (omega arith)
    taken (c ∷ cs) (suc n) le = ap suc (taken cs n (omega arith))

-- a number under the keys of one record more
pub number_more : (rs : List Record) (i : ℕ) (r : Record) (k : Key) (n : ℕ) (old : Option ℕ) → i < length rs → r ≡ get_or rs i r
    → cond (same_key (key_of r) k) (Some n) (cond (has_key (take i rs) k) (Some n) old) ≡ cond (has_key (take (i + 1) rs) k) (Some n) old
number_more rs i r k n old below is =
    either (same_key (key_of r) k) (has_key (take i rs) k) ∙ ap (λ b. cond b (Some n) old) (touched_more false rs i r k below is)
  where
    either : (b c : Bool) → cond b (Some n) (cond c (Some n) old) ≡ cond (c || b) (Some n) old
    either true true = refl
    either true false = refl
    either false true = refl
    either false false = refl

-- where none brings a key, there is no bringer, and the other way round
none_brings : (cs : List ChangeOf) (k : Key) → bringer cs k ≡ None → AllByRecursion (λ c. has_key c.added k ≡ false) cs
none_brings [] k e = tt
none_brings (c ∷ cs) k e = by_found (bringer cs k) (has_key c.added k) refl (none_brings cs k) e
  where
    by_found : (o : Option ℕ) (b : Bool) → has_key c.added k ≡ b → (o ≡ None → AllByRecursion (λ d. has_key d.added k ≡ false) cs)
        → option_or (option_map (λ n. n + 1) o) (cond b (Some 1) None) ≡ None → AllByRecursion (λ d. has_key d.added k ≡ false) (c ∷ cs)
    by_found (Some m) b g rest h = absurd cc
    by_found None true g rest h = absurd cc
    by_found None false g rest h = (g, rest refl)

no_bringer : (cs : List ChangeOf) (k : Key) → AllByRecursion (λ c. has_key c.added k ≡ false) cs → bringer cs k ≡ None
no_bringer [] k none = refl
no_bringer (c ∷ cs) k none = λ i. option_or (option_map (λ n. n + 1) (no_bringer cs k none.1 i)) (cond (none.0 i) (Some 1) None)

bringer_is : (cs : List ChangeOf) (k : Key) (n : ℕ) → bringer cs k ≡ Some n → IsBringer cs k n
bringer_is [] k n e = absurd cc
bringer_is (c ∷ cs) k n e = by_found (bringer cs k) (has_key c.added k) refl refl (bringer_is cs k) e
  where
    by_found : (o : Option ℕ) (b : Bool) → bringer cs k ≡ o → has_key c.added k ≡ b → ((m : ℕ) → bringer cs k ≡ Some m → IsBringer cs k m)
        → option_or (option_map (λ m. m + 1) o) (cond b (Some 1) None) ≡ Some n → IsBringer (c ∷ cs) k n
    by_found (Some m) b f g further h =
        let rest = further m f in
        let one_more : m + 1 ≡ n = cc in
        let so_far : m ≡ length rest.earlier + 1 = rest.number in
        record {
          earlier = c ∷ rest.earlier;
          change = rest.change;
          later = rest.later;
          are = ap (λ ds. c ∷ ds) rest.are;
          number = omega (arith, one_more, so_far);
          brings = rest.brings;
          last = rest.last;
        }
    by_found None true f g further h = let one : 1 ≡ n = cc in record { earlier = []; change = c; later = cs; are = refl; number = omega (arith, one); brings = g; last = none_brings cs k f }
    by_found None false f g further h = absurd cc

last_brings : (earlier : List ChangeOf) (c : ChangeOf) (later : List ChangeOf) (k : Key) → has_key c.added k ≡ true → AllByRecursion (λ d. has_key d.added k ≡ false) later
    → bringer (earlier ++ c ∷ later) k ≡ Some (length earlier + 1)
last_brings [] c later k brings last =
    (λ i. option_or (option_map (λ n. n + 1) (no_bringer later k last i)) (cond (brings i) (Some 1) None)) ∙ ap (λ (n : ℕ). Some n) (omega arith)
last_brings (e ∷ earlier) c later k brings last =
    ap (λ o. option_or (option_map (λ n. n + 1) o) (cond (has_key e.added k) (Some 1) None)) (last_brings earlier c later k brings last) ∙ ap (λ (n : ℕ). Some n) (omega arith)

pub bringers_are_last : BringersAreLast
bringers_are_last cs k n = (
  bringer_is cs k n,
  λ is. ap (λ ds. bringer ds k) is.are ∙ last_brings is.earlier is.change is.later k is.brings is.last ∙ ap (λ (m : ℕ). Some m) (sym is.number),
)
