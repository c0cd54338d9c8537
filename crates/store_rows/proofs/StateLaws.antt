-- What rows that are a state say of it.
use Rattle.std.proofs.Common.{◌≡◌, ℕ, ℤ, suc, ◌+◌, ◌<◌, ◌≤◌, Bool, true, false, List, [], ◌∷◌, length, map, Option, Some, None, IsPermutation, refl, sym, ap, subst, ◌∙◌, arith, ltb, inl}
use Rattle.std.proofs.lemmas.Bool.{ltb-true, ltb-false}
use Rattle.std.proofs.lemmas.Bool.Decides.{Decides-int_eq}
use Rattle.std.proofs.lemmas.Int.{ints}
use Rattle.std.proofs.lemmas.List.Sorted.{IsPermutation-trans, list_any-IsPermutation}
use Rattle.std.specs.Prelude.{pos, option_map, bytes_eq}
use Rattle.std.specs.List.{AllByRecursion, find, list_any}
use Rattle.std.specs.Ordering.{is_lt, int_cmp, int_eq}
use Rattle.sqlite_keyed.proofs.ListLemmas.{all_weaker, all-append}
use Rattle.sqlite_rules.specs.Lists.{Has}
use Rattle.sqlite_rules.proofs.ListLemmas.{all_has, some_has, has_left, has_right}
use Rattle.dns_names.specs.Labels.{IsName}
use Rattle.dns_names.specs.Order.{same_name}
use Rattle.dns_names.specs.Spelling.{name_text}
use Rattle.dns_data.specs.declared.record.Record.{Record}
use Rattle.zone_core.specs.Zones.{IsZone}
use Rattle.zone_core.proofs.SetLemmas.{by_cases}
use Rattle.office_model.specs.declared.receipt.Receipt.{Receipt}
use Rattle.office_model.specs.States.{Held, State, AreZones, AreReceipts, zone_held}
use Rattle.zone_core.specs.Updates.{IsUpdate}
use Rattle.zone_core.specs.Changes.{ChangeOf, is_empty}
use Rattle.store_sql.specs.Rows.{ChangeRowOf, RowsOf}
use Rattle.store_sql.specs.Lookups.{changes_of, IsLast}
use Rattle.store_rows.specs.declared.side.Side.{Side}
use Rattle.store_rows.specs.declared.side.Side.TheVariants.{Removed, Added}
use Rattle.store_rows.specs.ChangeRows.{change_row, change_rows, changes_rows, IsChange}
use Rattle.store_rows.specs.Contents.{ZoneRows, ReceiptAt, held_of, receipt_among, IsZoneRows, AreOfState}
use Rattle.store_rows.specs.States.{ZonesAreListed, last_of, LastNumbersCount, StatesAreSound, OrderDoesNotCount}
use Rattle.store_rows.proofs.ContentLemmas.{is_held, held_zone, among_origin, among_is}
use Rattle.store_rows.proofs.ListLemmas.{list_any-map, list_any_same, has_permutation, none_moved, all_permutation}
use Rattle.store_rows.proofs.NameLemmas.{text_same}
use Rattle.store_rows.proofs.ReceiptReadLemmas.{found_is}

abbrev Labels : Type 0
Labels = List (List ℕ)

-- ---- zones

-- an origin is among those of zones where the zone of it is found
any_found : (zones : List ZoneRows) (o : Labels) → AllByRecursion IsZoneRows zones → IsName o
    → list_any (λ z. bytes_eq (name_text o) (name_text z.origin)) zones ≡ list_any (λ z. same_name z.origin o) zones
any_found [] o are named = refl
any_found (z ∷ zs) o are named =
    list_any_same (λ z. bytes_eq (name_text o) (name_text z.origin)) (λ z. same_name z.origin o) (z ∷ zs)
    (all_weaker IsZoneRows (λ z. bytes_eq (name_text o) (name_text z.origin) ≡ same_name z.origin o) (λ z is. text_same o z.origin named is.origin) (z ∷ zs) are)

some_found : {X : Type 0} (p : X → Bool) (xs : List X) → list_any p xs ≡ true → (x : X) × (find p xs ≡ Some x)
some_found p [] e = absurd cc
some_found {X} p (x ∷ xs) e =
    by_cases (p x) ((y : X) × (find p (x ∷ xs) ≡ Some y)) (λ t. (x, rw t refl)) (λ f. let later : list_any p xs ≡ true = rw f at e in let found = some_found p xs later in (found.0, rw f found.1))

any_from_found : {X : Type 0} (p : X → Bool) (xs : List X) (x : X) → find p xs ≡ Some x → list_any p xs ≡ true
any_from_found p [] x e = absurd cc
any_from_found p (y ∷ xs) x e =
    by_cases (p y) (list_any p (y ∷ xs) ≡ true) (λ t. rw t refl) (λ f. let later : find p xs ≡ Some x = rw f at e in rw f (any_from_found p xs x later))

pub zones_are_listed : ZonesAreListed
zones_are_listed version rows s o st named =
    let zones = st.content.zones in
    let texts = map (λ (z : ZoneRows). name_text z.origin) zones in
    let is : list_any (bytes_eq (name_text o)) rows.zones ≡ list_any (λ z. same_name z.origin o) zones =
    sym (list_any-IsPermutation (bytes_eq (name_text o)) texts rows.zones st.same.zones)
    ∙ list_any-map (bytes_eq (name_text o)) (λ (z : ZoneRows). name_text z.origin) zones ∙ any_found zones o st.is_content.zones named in (
      λ t. (let found = some_found (λ z. same_name z.origin o) zones (sym is ∙ t) in (held_of found.0, st.means.zones o ∙ ap (option_map held_of) found.1)),
      λ held. (let z = held_zone version rows s st o held.0 held.1 in is ∙ any_from_found (λ z. same_name z.origin o) zones z.0 z.1),
    )

-- ---- the numbers of changes

-- the numbers of rows of changes from one number on
abbrev IsUpTo : ℕ → ChangeRowOf → Type 0
IsUpTo n row = (m : ℕ) × (m < n) × (row.number ≡ pos m)

side_up_to : (o : Labels) (n m : ℕ) (side : Side) (rs : List Record) → m < n → AllByRecursion (IsUpTo n) (map (change_row o m side) rs)
side_up_to o n m side [] h = tt
side_up_to o n m side (r ∷ rs) h = ((m, h, refl), side_up_to o n m side rs h)

all_up_to : (o : Labels) (n m : ℕ) (cs : List ChangeOf) → m + length cs ≤ n → AllByRecursion (IsUpTo n) (changes_rows o m cs)
all_up_to o n m [] h = tt
all_up_to o n m (c ∷ cs) h =
    all-append (IsUpTo n) (change_rows o m c) (changes_rows o (suc m) cs)
    (all-append (IsUpTo n) (map (change_row o m Removed) c.removed) (map (change_row o m Added) c.added) (side_up_to o n m Removed c.removed (omega arith)) (side_up_to o n m Added c.added (omega arith)))
    (all_up_to o n (suc m) cs (omega arith))

-- a row of a number
abbrev HasNumber : ℕ → List ChangeRowOf → Type 0
HasNumber n rows = (row : ChangeRowOf) × Has rows row × (row.number ≡ pos n)

change_has : (o : Labels) (n : ℕ) (removed added : List Record) → is_empty (record { removed = removed; added = added }) ≡ false → HasNumber n (change_rows o n (record { removed = removed; added = added }))
change_has o n [] [] some = absurd cc
change_has o n [] (r ∷ added) some = (change_row o n Added r, inl refl, refl)
change_has o n (r ∷ removed) added some = (change_row o n Removed r, inl refl, refl)

last_has : (o : Labels) (n : ℕ) (c : ChangeOf) (cs : List ChangeOf) → AllByRecursion IsChange (c ∷ cs) → HasNumber (n + length cs) (changes_rows o n (c ∷ cs))
last_has o n c [] are =
    let h = change_has o n c.removed c.added are.0.something in
    (h.0, has_left (change_rows o n c) [] h.0 h.1, h.2 ∙ ap pos (let e : n ≡ n + 0 = omega arith in e))
last_has o n c (d ∷ cs) are =
    let h = last_has o (suc n) d cs are.1 in
    (h.0, has_right (change_rows o n c) (changes_rows o (suc n) (d ∷ cs)) h.0 h.1, h.2 ∙ ap pos (let e : suc n + length cs ≡ n + suc (length cs) = omega arith in e))

number_is : (a b : ℤ) → int_eq a b ≡ true → a ≡ b
number_is a b t = (Decides-int_eq a b).0 t

-- a number that is less is below
below_number : (m n : ℕ) → m < n → is_lt (int_cmp (pos m) (pos n)) ≡ false → ⊥
below_number m n h none = grind (arith, ints)

-- the greatest number
greatest : (o : Labels) (c : ChangeOf) (cs : List ChangeOf) (rows : List ChangeRowOf) (n : ℤ) → AllByRecursion IsChange (c ∷ cs) → IsPermutation (changes_rows o 1 (c ∷ cs)) rows
    → IsLast rows (Some n) → n ≡ pos (suc (length cs))
greatest o c cs rows n are same last =
    let mine = changes_rows o 1 (c ∷ cs) in
    let size = suc (length cs) in
    let found = some_has (λ r. int_eq r.number n) rows last.0 in
    let up = all_has (IsUpTo (suc size)) rows found.0 (all_permutation (IsUpTo (suc size)) mine rows same (all_up_to o (suc size) 1 (c ∷ cs) (omega arith))) found.1 in
    let m = up.0 in
    let n_is : n ≡ pos m = sym (number_is found.0.number n found.2) ∙ up.2 in
    let top = last_has o 1 c cs are in
    let none = all_has (λ r. is_lt (int_cmp n r.number) ≡ false) rows top.0 last.1 (has_permutation mine rows top.0 same top.1) in
    let size_is : 1 + length cs ≡ size = omega arith in
    let not_less : is_lt (int_cmp (pos m) (pos size)) ≡ false = subst (λ k. is_lt (int_cmp (pos m) (pos k)) ≡ false) size_is (subst (λ k. is_lt (int_cmp k (pos (1 + length cs))) ≡ false) n_is (subst (λ k. is_lt (int_cmp n k) ≡ false) top.2 none)) in
    n_is ∙ ap pos (reached m size up.1 not_less)
  where
    reached : (m size : ℕ) → m < suc size → is_lt (int_cmp (pos m) (pos size)) ≡ false → m ≡ size
    reached m size below none =
        by_cases (ltb m size) (m ≡ size)
        (λ t. let h : m < size = ltb-true m size t in absurd (below_number m size h none))
        (λ f. let h : size ≤ m = ltb-false m size f in omega arith)

last_is : (o : Labels) (cs : List ChangeOf) (rows : List ChangeRowOf) (last : Option ℤ) → AllByRecursion IsChange cs → IsPermutation (changes_rows o 1 cs) rows → IsLast rows last → last ≡ last_of (length cs)
last_is o [] rows None are same last = refl
last_is o [] rows (Some n) are same last = absurd (let e = none_moved rows same in let found = some_has (λ r. int_eq r.number n) rows last.0 in subst (λ l. Has l found.0) e found.1)
last_is o (c ∷ cs) rows None are same last =
    absurd (let h = last_has o 1 c cs are in subst (λ l. Has l h.0) last (has_permutation (changes_rows o 1 (c ∷ cs)) rows h.0 same h.1))
last_is o (c ∷ cs) rows (Some n) are same last = ap Some (greatest o c cs rows n are same last)

pub last_numbers_count : LastNumbersCount
last_numbers_count version rows s o held last st e is =
    let z = held_zone version rows s st o held e in
    let h = is_held version rows s st o z.0 z.1 in
    last_is z.0.origin z.0.changes (changes_of (name_text o) rows.changes) last h.is.changes h.changes is ∙ ap (λ (x : Held). last_of (length x.changes)) (sym z.2)

-- ---- what is held

zones_sound : (version : ℤ) (rows : RowsOf) (s : State) → AreOfState version rows s → AreZones s
zones_sound version rows s st o held e =
    let z = held_zone version rows s st o held e in
    let is = among_is st.content.zones o z.0 st.is_content.zones z.1 in
    subst (λ p. IsZone (zone_held p held)) (among_origin st.content.zones o z.0 z.1) (subst (λ h. IsZone (zone_held z.0.origin h)) (sym z.2) is.zone.zone)

receipts_sound : (version : ℤ) (rows : RowsOf) (s : State) → AreOfState version rows s → AreReceipts s
receipts_sound version rows s st caller id receipt e = go (receipt_among st.content.receipts caller id) refl (sym (st.means.receipts caller id) ∙ e) where
  go : (found : Option ReceiptAt) → receipt_among st.content.receipts caller id ≡ found → option_map (λ r. r.receipt) found ≡ Some receipt → IsUpdate receipt.update
  go None is none = absurd cc
  go (Some r) is some =
      let same : r.receipt ≡ receipt = cc in
      subst (λ (x : Receipt). IsUpdate x.update) same (found_is version rows s st caller id r is).receipt.update

pub states_are_sound : StatesAreSound
states_are_sound version rows s st = (zones_sound version rows s st, receipts_sound version rows s st)

pub order_does_not_count : OrderDoesNotCount
order_does_not_count version rows others s st same = record {
  content = st.content;
  is_content = st.is_content;
  means = st.means;
  same = record {
    versions = IsPermutation-trans _ rows.versions others.versions st.same.versions same.versions;
    zones = IsPermutation-trans _ rows.zones others.zones st.same.zones same.zones;
    records = IsPermutation-trans _ rows.records others.records st.same.records same.records;
    receipts = IsPermutation-trans _ rows.receipts others.receipts st.same.receipts same.receipts;
    changes = IsPermutation-trans _ rows.changes others.changes st.same.changes same.changes;
  };
}
