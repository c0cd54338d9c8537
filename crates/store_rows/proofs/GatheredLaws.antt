-- What was gathered has the rows from which it was gathered.
use Rattle.std.proofs.Common.{◌≡◌, ℕ, suc, ◌+◌, Bool, true, false, cond, eqb, ◌&&◌, ◌||◌, List, [], ◌∷◌, ◌++◌, length, map, IsPermutation, refl, sym, ap, subst, ◌∙◌, arith, append_assoc, append-nil, length-append, inl, inr, eqb-true, ne_eqb}
use Rattle.std.proofs.lemmas.Bool.{and_parts, or_cases}
use Rattle.std.proofs.lemmas.Cmp.{tied_itself}
use Rattle.std.proofs.lemmas.List.{map-append}
use Rattle.std.specs.declared.cmp.Ordering.{Ordering}
use Rattle.std.specs.declared.cmp.Ordering.TheVariants.{Less, Equal}
use Rattle.std.specs.List.{AllByRecursion, fold, list_all}
use Rattle.std.specs.List.Sorted.{IsStrictlySortedBy}
use Rattle.std.specs.Ordering.{nat_cmp, ordering_then, is_lt}
use Rattle.sqlite_trees.specs.Tree.{IsAscending}
use Rattle.sqlite_keyed.proofs.ListLemmas.{all-append, all_weaker}
use Rattle.dns_names.specs.Labels.{IsName}
use Rattle.dns_names.specs.Order.{canonical_total, same_name}
use Rattle.dns_names.proofs.KeyLaws.{tied}
use Rattle.dns_data.specs.declared.record.Record.{Record}
use Rattle.dns_data.specs.Rdata.{IsRecord}
use Rattle.dns_data.specs.RecordOrder.{record_order}
use Rattle.zone_core.specs.Sets.{InOrder}
use Rattle.zone_core.proofs.SetLemmas.{name_is, name_self}
use Rattle.zone_core.specs.Changes.{ChangeOf, is_empty}
use Rattle.store_sql.specs.Rows.{ChangeRowOf}
use Rattle.store_rows.specs.declared.changes.ChangedRecord.{ChangedRecord}
use Rattle.store_rows.specs.declared.side.Side.{Side}
use Rattle.store_rows.specs.declared.side.Side.TheVariants.{Removed, Added}
use Rattle.store_rows.specs.ChangeRows.{row_of, IsChanged, changes_rows, IsChange, side_cmp, side_total, changed_order, changed_order_total, follows_in_number, follows, follow_in_turn, are_numbered, are_of_one, nothing, with_record, placed, gathered}
use Rattle.store_rows.proofs.GatheringLaws.{entry, sides, entries, entries_rows, placed_more, placed_first, ChangeBelow, places}
use Rattle.store_rows.proofs.OrderLemmas.{less_is}

abbrev Labels : Type 0
Labels = List (List ℕ)

abbrev IsOf : Labels → ChangedRecord → Type 0
IsOf o c = c.origin ≡ o

-- a change that has some record
abbrev pub IsSome : ChangeOf → Type 0
IsSome c = is_empty c ≡ false

-- ---- entries of lists that are joined

entries-append : (o : Labels) (n : ℕ) (cs ds : List ChangeOf) → entries o n (cs ++ ds) ≡ entries o n cs ++ entries o (n + length cs) ds
entries-append o n [] ds = let k : n ≡ n + 0 = omega arith in ap (λ (m : ℕ). entries o m ds) k
entries-append o n (c ∷ cs) ds =
    let k : suc n + length cs ≡ n + suc (length cs) = omega arith in
    ap (λ (l : List ChangedRecord). sides o n c.removed c.added ++ l) (entries-append o (suc n) cs ds ∙ ap (λ (m : ℕ). entries o (suc n) cs ++ entries o m ds) k)
    ∙ sym (append_assoc (sides o n c.removed c.added) (entries o (suc n) cs) (entries o (n + suc (length cs)) ds))

-- a change with one record
one_entry : (o : Labels) (n : ℕ) (s : Side) (r : Record) → entries o n (with_record nothing s r ∷ []) ≡ entry o n s r ∷ []
one_entry o n Removed r = refl
one_entry o n Added r = refl

-- a change with one more record, which stands last
one_more : (o : Labels) (n : ℕ) (removed added : List Record) (s : Side) (r : Record) → (s ≡ Removed → added ≡ [])
    → entries o n (with_record (record { removed = removed; added = added }) s r ∷ []) ≡ entries o n (record { removed = removed; added = added } ∷ []) ++ entry o n s r ∷ []
one_more o n removed added Removed r none =
    let last = entry o n Removed r ∷ [] in
    let bare = none refl in
    ap (λ (l : List Record). sides o n (removed ++ r ∷ []) l ++ []) bare
    ∙ append-nil (map (entry o n Removed) (removed ++ r ∷ []) ++ [])
    ∙ append-nil (map (entry o n Removed) (removed ++ r ∷ []))
    ∙ map-append (entry o n Removed) removed (r ∷ [])
    ∙ ap (λ (l : List ChangedRecord). l ++ last) (sym (append-nil (map (entry o n Removed) removed)))
    ∙ ap (λ (l : List ChangedRecord). l ++ last) (sym (append-nil (map (entry o n Removed) removed ++ [])))
    ∙ ap (λ (l : List Record). (sides o n removed l ++ []) ++ last) (sym bare)
one_more o n removed added Added r none =
    let front = map (entry o n Removed) removed in
    let last = entry o n Added r ∷ [] in
    append-nil (front ++ map (entry o n Added) (added ++ r ∷ []))
    ∙ ap (λ (l : List ChangedRecord). front ++ l) (map-append (entry o n Added) added (r ∷ []))
    ∙ sym (append_assoc front (map (entry o n Added) added) last)
    ∙ ap (λ (l : List ChangedRecord). l ++ last) (sym (append-nil (front ++ map (entry o n Added) added)))

-- ---- what was gathered so far

-- the changes have these entries, of which this one is the last
record Gathers (o : Labels) (done : List ChangedRecord) (a : ChangedRecord) (cs : List ChangeOf) : Type 0 where
  front : List ChangeOf
  last : ChangeOf
  split : cs ≡ front ++ last ∷ []
  entries_are : entries o 1 cs ≡ done
  number : a.number ≡ length cs
  side : a.side ≡ Removed → last.added ≡ []
  each : AllByRecursion IsSome cs

added_none : (s : Side) (r : Record) → s ≡ Removed → (with_record nothing s r).added ≡ []
added_none Removed r e = refl
added_none Added r e = absurd cc

-- rows with one more at their end are some
not_none : (rs : List Record) (r : Record) → eqb (length (rs ++ r ∷ [])) 0 ≡ false
not_none rs r = ne_eqb (length (rs ++ r ∷ [])) 0 (λ e. omega (arith, length-append rs (r ∷ [])))

none_and : (b : Bool) → (b && false) ≡ false
none_and true = refl
none_and false = refl

some_record : (c : ChangeOf) (s : Side) (r : Record) → IsSome (with_record c s r)
some_record c Removed r = ap (λ (b : Bool). b && eqb (length c.added) 0) (not_none c.removed r)
some_record c Added r = ap (λ (b : Bool). eqb (length c.removed) 0 && b) (not_none c.added r) ∙ none_and (eqb (length c.removed) 0)

-- the first of a new change
new_change : (o : Labels) (done : List ChangedRecord) (cs : List ChangeOf) (s : Side) (r : Record) → entries o 1 cs ≡ done → AllByRecursion IsSome cs
    → Gathers o (done ++ entry o (suc (length cs)) s r ∷ []) (entry o (suc (length cs)) s r) (cs ++ with_record nothing s r ∷ [])
new_change o done cs s r e each = record {
  front = cs;
  last = with_record nothing s r;
  split = refl;
  entries_are =
      entries-append o 1 cs (with_record nothing s r ∷ [])
      ∙ ap (λ (l : List ChangedRecord). l ++ entries o (1 + length cs) (with_record nothing s r ∷ [])) e
      ∙ ap (λ (n : ℕ). done ++ entries o n (with_record nothing s r ∷ [])) (let k : 1 + length cs ≡ suc (length cs) = omega arith in k)
      ∙ ap (λ (l : List ChangedRecord). done ++ l) (one_entry o (suc (length cs)) s r);
  number = omega (arith, length-append cs (with_record nothing s r ∷ []));
  side = added_none s r;
  each = all-append IsSome cs (with_record nothing s r ∷ []) each (some_record nothing s r, tt);
}

-- one more record of the last change
same_change : (o : Labels) (done : List ChangedRecord) (front : List ChangeOf) (last : ChangeOf) (s : Side) (r : Record) → entries o 1 (front ++ last ∷ []) ≡ done → AllByRecursion IsSome (front ++ last ∷ [])
    → (s ≡ Removed → last.added ≡ []) → Gathers o (done ++ entry o (suc (length front)) s r ∷ []) (entry o (suc (length front)) s r) (front ++ with_record last s r ∷ [])
same_change o done front last s r e each none =
    let n = suc (length front) in
    let k : 1 + length front ≡ n = omega arith in record {
      front = front;
      last = with_record last s r;
      split = refl;
      entries_are =
          entries-append o 1 front (with_record last s r ∷ [])
          ∙ ap (λ (m : ℕ). entries o 1 front ++ entries o m (with_record last s r ∷ [])) k
          ∙ ap (λ (l : List ChangedRecord). entries o 1 front ++ l) (one_more o n last.removed last.added s r none)
          ∙ sym (append_assoc (entries o 1 front) (entries o n (last ∷ [])) (entry o n s r ∷ []))
          ∙ ap (λ (l : List ChangedRecord). l ++ entry o n s r ∷ []) (ap (λ (m : ℕ). entries o 1 front ++ entries o m (last ∷ [])) (sym k) ∙ sym (entries-append o 1 front (last ∷ [])) ∙ e);
      number = omega (arith, length-append front (with_record last s r ∷ []));
      side = λ is. still_none s r is (none is);
      each = all-append IsSome front (with_record last s r ∷ []) (all_front front each) (some_record last s r, tt);
    }
  where
    still_none : (s : Side) (r : Record) → s ≡ Removed → last.added ≡ [] → (with_record last s r).added ≡ []
    still_none Removed r is e = e
    still_none Added r is e = absurd cc

    all_front : (cs : List ChangeOf) → AllByRecursion IsSome (cs ++ last ∷ []) → AllByRecursion IsSome cs
    all_front [] h = tt
    all_front (c ∷ cs) h = (h.0, all_front cs h.1)

-- ---- one step

by_side : (o : Labels) (n : ℕ) (s d : Side) (r t : Record) → changed_order (entry o n s r) (entry o n d t) ≡ ordering_then (side_cmp s d) (record_order r t)
by_side o n s d r t =
    ap (λ (x : Ordering). places x (nat_cmp n n) (side_cmp s d) (record_order r t)) (tied_itself canonical_total o)
    ∙ ap (λ (x : Ordering). places Equal x (side_cmp s d) (record_order r t)) (tied n)

-- before a record that went stands another that went
removed_before : (o : Labels) (n : ℕ) (s d : Side) (r t : Record) → is_lt (changed_order (entry o n s r) (entry o n d t)) ≡ true → d ≡ Removed → s ≡ Removed
removed_before o n Removed d r t e is = refl
removed_before o n Added Removed r t e is = absurd (let no = sym (ap is_lt (by_side o n Added Removed r t)) ∙ e in cc)
removed_before o n Added Added r t e is = absurd cc

numbers_follow : (b : Bool) (n m : ℕ) → b ≡ true → cond b (eqb m n || eqb m (suc n)) (eqb m 1) ≡ true → (eqb m n || eqb m (suc n)) ≡ true
numbers_follow true n m t e = e
numbers_follow false n m t e = absurd cc

gathers_more : (o : Labels) (done : List ChangedRecord) (a e : ChangedRecord) (cs : List ChangeOf) → Gathers o done a cs → a.origin ≡ o → e.origin ≡ o → follows a e ≡ true → Gathers o (done ++ e ∷ []) e (placed cs e)
gathers_more o done a e cs g here also f =
    let p = and_parts (is_lt (changed_order a e)) (follows_in_number a e) f in
    let same : same_name a.origin e.origin ≡ true = ap (λ (q : Labels). same_name q e.origin) (here ∙ sym also) ∙ name_self e.origin in
    elim (or_cases (eqb e.number a.number) (eqb e.number (suc a.number)) (numbers_follow (same_name a.origin e.origin) a.number e.number same p.1)) [
      | inl equal ↦ goes_on (eqb-true e.number a.number equal) p.0
      | inr next ↦ begins (eqb-true e.number (suc a.number) next)
    ]
  where
    as_entry : (c : ChangedRecord) (n : ℕ) → c.origin ≡ o → c.number ≡ n → c ≡ entry o n c.side c.changed
    as_entry c n is number = ap (λ (q : Labels). entry q c.number c.side c.changed) is ∙ ap (λ (m : ℕ). entry o m c.side c.changed) number

    begins : e.number ≡ suc a.number → Gathers o (done ++ e ∷ []) e (placed cs e)
    begins next =
        let number : e.number ≡ suc (length cs) = next ∙ ap suc g.number in
        let is = as_entry e (suc (length cs)) also number in
        subst (λ (x : ChangedRecord). Gathers o (done ++ x ∷ []) x (placed cs x)) (sym is)
        (subst (Gathers o (done ++ entry o (suc (length cs)) e.side e.changed ∷ []) (entry o (suc (length cs)) e.side e.changed)) (sym (placed_first o cs e.side e.changed)) (new_change o done cs e.side e.changed g.entries_are g.each))

    goes_on : e.number ≡ a.number → is_lt (changed_order a e) ≡ true → Gathers o (done ++ e ∷ []) e (placed cs e)
    goes_on equal less =
        let n = suc (length g.front) in
        let size : length cs ≡ n = ap length g.split ∙ (let k : length (g.front ++ g.last ∷ []) ≡ n = omega (arith, length-append g.front (g.last ∷ [])) in k) in
        let is = as_entry e n also (equal ∙ g.number ∙ size) in
        let was = as_entry a n here (g.number ∙ size) in
        let before : is_lt (changed_order (entry o n a.side a.changed) (entry o n e.side e.changed)) ≡ true =
        subst (λ (x : ChangedRecord). is_lt (changed_order x (entry o n e.side e.changed)) ≡ true) was (subst (λ (x : ChangedRecord). is_lt (changed_order a x) ≡ true) is less) in
        let none = λ (went : e.side ≡ Removed). g.side (removed_before o n a.side e.side a.changed e.changed before went) in
        let made = same_change o done g.front g.last e.side e.changed (ap (entries o 1) (sym g.split) ∙ g.entries_are) (subst (AllByRecursion IsSome) g.split g.each) none in
        subst (λ (x : ChangedRecord). Gathers o (done ++ x ∷ []) x (placed cs x)) (sym is)
        (subst (λ (l : List ChangeOf). Gathers o (done ++ entry o n e.side e.changed ∷ []) (entry o n e.side e.changed) (placed l (entry o n e.side e.changed))) (sym g.split)
        (subst (Gathers o (done ++ entry o n e.side e.changed ∷ []) (entry o n e.side e.changed)) (sym (placed_more o g.front g.last e.side e.changed)) made))

-- ---- all of them

-- changes have what rows have
pub record GathersAll (o : Labels) (xs : List ChangedRecord) (cs : List ChangeOf) : Type 0 where
  pub entries_are : entries o 1 cs ≡ xs
  pub each : AllByRecursion IsSome cs

gathers_all : (o : Labels) (done : List ChangedRecord) (a : ChangedRecord) (cs : List ChangeOf) (xs : List ChangedRecord) → Gathers o done a cs → a.origin ≡ o → AllByRecursion (IsOf o) xs → follow_in_turn a xs ≡ true → GathersAll o (done ++ xs) (fold placed cs xs)
gathers_all o done a cs [] g here all e = record { entries_are = g.entries_are ∙ sym (append-nil done); each = g.each }
gathers_all o done a cs (x ∷ xs) g here all e =
    let p = and_parts (follows a x) (follow_in_turn x xs) e in
    subst (λ (l : List ChangedRecord). GathersAll o l (fold placed (placed cs x) xs)) (append_assoc done (x ∷ []) xs)
    (gathers_all o (done ++ x ∷ []) x (placed cs x) xs (gathers_more o done a x cs g here all.0 p.0) all.0 all.1 p.1)

all_of : (o : Labels) (xs : List ChangedRecord) → list_all (λ d. same_name d.origin o) xs ≡ true → AllByRecursion (IsOf o) xs
all_of o [] e = tt
all_of o (x ∷ xs) e =
    let p = and_parts (same_name x.origin o) (list_all (λ d. same_name d.origin o) xs) e in
    (name_is x.origin o p.0, all_of o xs p.1)

pub whole : (x : ChangedRecord) (xs : List ChangedRecord) → are_of_one (x ∷ xs) ≡ true → are_numbered (x ∷ xs) ≡ true → GathersAll x.origin (x ∷ xs) (gathered (x ∷ xs))
whole x xs one numbered =
    let o = x.origin in
    let p = and_parts (eqb x.number 1) (follow_in_turn x xs) numbered in
    let is : x ≡ entry o 1 x.side x.changed = ap (λ (n : ℕ). entry o n x.side x.changed) (eqb-true x.number 1 p.0) in
    let first = subst (Gathers o (entry o 1 x.side x.changed ∷ []) (entry o 1 x.side x.changed)) (sym (placed_first o [] x.side x.changed)) (new_change o [] [] x.side x.changed refl tt) in
    gathers_all o (x ∷ []) x (placed [] x) xs (subst (λ (y : ChangedRecord). Gathers o (y ∷ []) y (placed [] y)) (sym is) first) refl (all_of o xs one) p.1

-- ---- they are changes

behind_up : (a : ChangedRecord) (bs : List ChangedRecord) → follow_in_turn a bs ≡ true → IsAscending ChangeBelow (a ∷ bs)
behind_up a [] e = (tt, tt)
behind_up a (b ∷ bs) e =
    let p = and_parts (follows a b) (follow_in_turn b bs) e in
    let q = and_parts (is_lt (changed_order a b)) (follows_in_number a b) p.0 in
    let first = less_is (changed_order a b) q.0 in
    let more = behind_up b bs p.1 in
    ((first, all_weaker (ChangeBelow b) (ChangeBelow a) (λ z. changed_order_total.trans a b z first) bs more.0), more)

numbered_up : (xs : List ChangedRecord) → are_numbered xs ≡ true → IsAscending ChangeBelow xs
numbered_up [] e = tt
numbered_up (x ∷ xs) e = behind_up x xs (and_parts (eqb x.number 1) (follow_in_turn x xs) e).1

front_all : (P : ChangedRecord → Type 0) (xs ys : List ChangedRecord) → AllByRecursion P (xs ++ ys) → AllByRecursion P xs
front_all P [] ys h = tt
front_all P (x ∷ xs) ys h = (h.0, front_all P xs ys h.1)

back_all : (P : ChangedRecord → Type 0) (xs ys : List ChangedRecord) → AllByRecursion P (xs ++ ys) → AllByRecursion P ys
back_all P [] ys h = h
back_all P (x ∷ xs) ys h = back_all P xs ys h.1

front_up : (xs ys : List ChangedRecord) → IsAscending ChangeBelow (xs ++ ys) → IsAscending ChangeBelow xs
front_up [] ys h = tt
front_up (x ∷ xs) ys h = (front_all (ChangeBelow x) xs ys h.0, front_up xs ys h.1)

back_up : (xs ys : List ChangedRecord) → IsAscending ChangeBelow (xs ++ ys) → IsAscending ChangeBelow ys
back_up [] ys h = h
back_up (x ∷ xs) ys h = back_up xs ys h.1

side_records : (o : Labels) (n : ℕ) (s : Side) (rs : List Record) → AllByRecursion IsChanged (map (entry o n s) rs) → AllByRecursion IsRecord rs
side_records o n s [] h = tt
side_records o n s (r ∷ rs) h = (h.0.changed, side_records o n s rs h.1)

same_side : (o : Labels) (n : ℕ) (s : Side) (r t : Record) → ChangeBelow (entry o n s r) (entry o n s t) → record_order r t ≡ Less
same_side o n s r t h = ap (λ (x : Ordering). ordering_then x (record_order r t)) (sym (tied_itself side_total s)) ∙ sym (by_side o n s s r t) ∙ h

side_above : (o : Labels) (n : ℕ) (s : Side) (r : Record) (rs : List Record) → AllByRecursion (ChangeBelow (entry o n s r)) (map (entry o n s) rs) → AllByRecursion (λ t. record_order r t ≡ Less) rs
side_above o n s r [] h = tt
side_above o n s r (t ∷ rs) h = (same_side o n s r t h.0, side_above o n s r rs h.1)

side_order : (o : Labels) (n : ℕ) (s : Side) (rs : List Record) → IsAscending ChangeBelow (map (entry o n s) rs) → InOrder rs
unfolding IsStrictlySortedBy
side_order o n s [] h = tt
side_order o n s (r ∷ rs) h = (side_above o n s r rs h.0, side_order o n s rs h.1)

changes_are : (o : Labels) (n : ℕ) (cs : List ChangeOf) → AllByRecursion IsSome cs → AllByRecursion IsChanged (entries o n cs) → IsAscending ChangeBelow (entries o n cs) → AllByRecursion IsChange cs
changes_are o n [] each all up = tt
changes_are o n (c ∷ cs) each all up =
    let went = map (entry o n Removed) c.removed in
    let came = map (entry o n Added) c.added in
    let later = entries o (suc n) cs in
    let here = front_all IsChanged (went ++ came) later all in
    let rises = front_up (went ++ came) later up in (
      record {
        something = each.0;
        removed = side_records o n Removed c.removed (front_all IsChanged went came here);
        removed_order = side_order o n Removed c.removed (front_up went came rises);
        added = side_records o n Added c.added (back_all IsChanged went came here);
        added_order = side_order o n Added c.added (back_up went came rises);
      },
      changes_are o (suc n) cs each.1 (back_all IsChanged (went ++ came) later all) (back_up (went ++ came) later up),
    )

-- the changes have the rows, of some zone
abbrev pub AreGathered : List ChangeRowOf → List ChangeOf → Type 0
AreGathered rows cs = (origin : Labels) × IsName origin × AllByRecursion IsChange cs × IsPermutation (changes_rows origin 1 cs) rows

pub are_gathered : (rows : List ChangeRowOf) (xs : List ChangedRecord) → IsPermutation (map row_of xs) rows → AllByRecursion IsChanged xs → (are_of_one xs && are_numbered xs) ≡ true → AreGathered rows (gathered xs)
are_gathered rows [] same all pass = ([], record { labels = tt; short = omega arith }, tt, same)
are_gathered rows (x ∷ xs) same all pass =
    let p = and_parts (are_of_one (x ∷ xs)) (are_numbered (x ∷ xs)) pass in
    let w = whole x xs p.0 p.1 in
    let cs = gathered (x ∷ xs) in (
      x.origin,
      all.0.origin,
      changes_are x.origin 1 cs w.each (subst (AllByRecursion IsChanged) (sym w.entries_are) all) (subst (IsAscending ChangeBelow) (sym w.entries_are) (numbered_up (x ∷ xs) p.1)),
      subst (λ (l : List ChangeRowOf). IsPermutation l rows) (ap (map row_of) (sym w.entries_are) ∙ entries_rows x.origin 1 cs) same,
    )
