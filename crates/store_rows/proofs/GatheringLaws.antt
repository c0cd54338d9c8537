-- Changes that are gathered from what their rows have.
use Rattle.std.proofs.Common.{◌≡◌, ℕ, suc, ◌<◌, ◌≤◌, Bool, true, false, cond, eqb, ◌&&◌, ◌||◌, List, [], ◌∷◌, ◌++◌, length, map, Result, Ok, Err, IsPermutation, IsSorted, refl, sym, ap, subst, ◌∙◌, arith, append_assoc, append-nil, length-append, eq-eqb, inl, inr}
use Rattle.std.proofs.lemmas.Bool.{and_from, lt-ltb, le-ltb, or_cases, or_left, or_right, eqb-true}
use Rattle.std.proofs.lemmas.Cmp.{tied_itself}
use Rattle.std.proofs.lemmas.List.{map-append}
use Rattle.std.proofs.lemmas.List.Elements.{All-from_recursion, recursion_from_All}
use Rattle.std.proofs.lemmas.List.Sorted.{IsPermutation-map, IsPermutation-sym, IsPermutation-trans, All-permutation}
use Rattle.std.proofs.lemmas.List.Sums.{fold-append}
use Rattle.std.specs.declared.cmp.Ordering.{Ordering}
use Rattle.std.specs.declared.cmp.Ordering.TheVariants.{Less, Equal}
use Rattle.std.specs.List.{AllByRecursion, fold, flat_map, list_all}
use Rattle.std.specs.List.Sorted.{IsStrictlySortedBy}
use Rattle.std.specs.Ordering.{nat_cmp, ordering_then, is_lt}
use Rattle.sqlite_trees.specs.Tree.{IsAscending}
use Rattle.sqlite_keyed.proofs.ListLemmas.{all-append, ascending-append, IsPermutation-flat_map}
use Rattle.sqlite_keyed.proofs.SortLemmas.{sorted_unique}
use Rattle.dns_names.specs.Labels.{IsName}
use Rattle.dns_names.specs.Order.{canonical_total, same_name}
use Rattle.dns_names.proofs.KeyLaws.{less, tied}
use Rattle.dns_data.specs.declared.record.Record.{Record}
use Rattle.dns_data.specs.Rdata.{IsRecord}
use Rattle.dns_data.specs.RecordOrder.{record_order}
use Rattle.zone_core.specs.Sets.{InOrder}
use Rattle.zone_core.proofs.SetLemmas.{name_self}
use Rattle.zone_core.specs.declared.change.Change.{Change}
use Rattle.zone_core.specs.Changes.{ChangeOf, change_in, is_empty}
use Rattle.store_sql.specs.Rows.{ChangeRowOf}
use Rattle.store_rows.specs.declared.changes.ChangedRecord.{ChangedRecord}
use Rattle.store_rows.specs.declared.row_fault.RowFault.{RowFault}
use Rattle.store_rows.specs.declared.side.Side.{Side}
use Rattle.store_rows.specs.declared.side.Side.TheVariants.{Removed, Added}
use Rattle.store_rows.specs.ChangeRows.{change_row, row_of, IsChanged, IsChangeRow, change_rows, changes_rows, IsChange, side_cmp, side_total, changed_order, changed_order_total, follows_in_number, follows, follow_in_turn, are_numbered, are_of_one, nothing, with_record, with_last, opened, placed, gathered}
use Rattle.store_rows.specs.declared.row_fault.RowFault.TheVariants.{BadRow}
use Rattle.store_rows.specs.RowReading.{changed_in, changes_among, each_read}
use Rattle.store_rows.proofs.ListLemmas.{all_permutation, chosen}
use Rattle.store_rows.proofs.RowSteps.{done}
use Rattle.store_rows.proofs.StoredLaws.{each_stored}
use Rattle.store_rows.proofs.ChangeRowLaws.{changed_read}

abbrev Labels : Type 0
Labels = List (List ℕ)

-- ---- what the rows of changes have

abbrev pub entry : Labels → ℕ → Side → Record → ChangedRecord
entry o n s r = record { origin = o; number = n; side = s; changed = r }

abbrev pub sides : Labels → ℕ → List Record → List Record → List ChangedRecord
sides o n removed added = map (entry o n Removed) removed ++ map (entry o n Added) added

abbrev pub entries : Labels → ℕ → List ChangeOf → List ChangedRecord
entries o n [] = []
entries o n (c ∷ cs) = sides o n c.removed c.added ++ entries o (suc n) cs

side_rows : (o : Labels) (n : ℕ) (s : Side) (rs : List Record) → map row_of (map (entry o n s) rs) ≡ map (change_row o n s) rs
side_rows o n s [] = refl
side_rows o n s (r ∷ rs) = ap (λ (l : List ChangeRowOf). change_row o n s r ∷ l) (side_rows o n s rs)

pub entries_rows : (o : Labels) (n : ℕ) (cs : List ChangeOf) → map row_of (entries o n cs) ≡ changes_rows o n cs
entries_rows o n [] = refl
entries_rows o n (c ∷ cs) =
    let later = map row_of (entries o (suc n) cs) in
    map-append row_of (sides o n c.removed c.added) (entries o (suc n) cs)
    ∙ ap (λ (l : List ChangeRowOf). l ++ later) (map-append row_of (map (entry o n Removed) c.removed) (map (entry o n Added) c.added))
    ∙ ap (λ (l : List ChangeRowOf). (l ++ map row_of (map (entry o n Added) c.added)) ++ later) (side_rows o n Removed c.removed)
    ∙ ap (λ (l : List ChangeRowOf). (map (change_row o n Removed) c.removed ++ l) ++ later) (side_rows o n Added c.added)
    ∙ ap (λ (l : List ChangeRowOf). change_rows o n c ++ l) (entries_rows o (suc n) cs)

side_are : (o : Labels) (n : ℕ) (s : Side) (rs : List Record) → IsName o → 0 < n → AllByRecursion IsRecord rs → AllByRecursion IsChanged (map (entry o n s) rs)
side_are o n s [] is some h = tt
side_are o n s (r ∷ rs) is some h = (record { origin = is; number = some; changed = h.0 }, side_are o n s rs is some h.1)

pub entries_are : (o : Labels) (n : ℕ) (cs : List ChangeOf) → IsName o → 0 < n → AllByRecursion IsChange cs → AllByRecursion IsChanged (entries o n cs)
entries_are o n [] is some h = tt
entries_are o n (c ∷ cs) is some h =
    all-append IsChanged (sides o n c.removed c.added) (entries o (suc n) cs)
    (all-append IsChanged (map (entry o n Removed) c.removed) (map (entry o n Added) c.added) (side_are o n Removed c.removed is some h.0.removed) (side_are o n Added c.added is some h.0.added))
    (entries_are o (suc n) cs is (omega arith) h.1)

-- ---- they ascend

abbrev pub ChangeBelow : ChangedRecord → ChangedRecord → Type 0
ChangeBelow a b = changed_order a b ≡ Less

abbrev pub places : Ordering → Ordering → Ordering → Ordering → Ordering
places origin number side changed = ordering_then (ordering_then (ordering_then origin number) side) changed

same_side : (o : Labels) (n : ℕ) (s : Side) (r t : Record) → record_order r t ≡ Less → ChangeBelow (entry o n s r) (entry o n s t)
same_side o n s r t h =
    ap (λ (x : Ordering). places x (nat_cmp n n) (side_cmp s s) (record_order r t)) (tied_itself canonical_total o)
    ∙ ap (λ (x : Ordering). places Equal x (side_cmp s s) (record_order r t)) (tied n)
    ∙ ap (λ (x : Ordering). places Equal Equal x (record_order r t)) (tied_itself side_total s)
    ∙ h

next_side : (o : Labels) (n : ℕ) (r t : Record) → ChangeBelow (entry o n Removed r) (entry o n Added t)
next_side o n r t =
    ap (λ (x : Ordering). places x (nat_cmp n n) Less (record_order r t)) (tied_itself canonical_total o)
    ∙ ap (λ (x : Ordering). places Equal x Less (record_order r t)) (tied n)

next_number : (o : Labels) (n m : ℕ) (s d : Side) (r t : Record) → n < m → ChangeBelow (entry o n s r) (entry o m d t)
next_number o n m s d r t h =
    ap (λ (x : Ordering). places x (nat_cmp n m) (side_cmp s d) (record_order r t)) (tied_itself canonical_total o)
    ∙ ap (λ (x : Ordering). places Equal x (side_cmp s d) (record_order r t)) (less n m h)

side_above : (o : Labels) (n : ℕ) (s : Side) (r : Record) (rs : List Record) → AllByRecursion (λ t. record_order r t ≡ Less) rs → AllByRecursion (ChangeBelow (entry o n s r)) (map (entry o n s) rs)
side_above o n s r [] h = tt
side_above o n s r (t ∷ rs) h = (same_side o n s r t h.0, side_above o n s r rs h.1)

side_up : (o : Labels) (n : ℕ) (s : Side) (rs : List Record) → InOrder rs → IsAscending ChangeBelow (map (entry o n s) rs)
unfolding IsStrictlySortedBy
side_up o n s [] h = tt
side_up o n s (r ∷ rs) h = (side_above o n s r rs h.0, side_up o n s rs h.1)

added_above : (o : Labels) (n : ℕ) (r : Record) (rs : List Record) → AllByRecursion (ChangeBelow (entry o n Removed r)) (map (entry o n Added) rs)
added_above o n r [] = tt
added_above o n r (t ∷ rs) = (next_side o n r t, added_above o n r rs)

all_added_above : (o : Labels) (n : ℕ) (rs added : List Record) → AllByRecursion (λ x. AllByRecursion (ChangeBelow x) (map (entry o n Added) added)) (map (entry o n Removed) rs)
all_added_above o n [] added = tt
all_added_above o n (r ∷ rs) added = (added_above o n r added, all_added_above o n rs added)

change_up : (o : Labels) (n : ℕ) (c : ChangeOf) → IsChange c → IsAscending ChangeBelow (sides o n c.removed c.added)
change_up o n c is =
    ascending-append ChangeBelow (map (entry o n Removed) c.removed) (map (entry o n Added) c.added) (side_up o n Removed c.removed is.removed_order) (side_up o n Added c.added is.added_order)
    (all_added_above o n c.removed c.added)

side_later : (o : Labels) (n m : ℕ) (s d : Side) (r : Record) (rs : List Record) → n < m → AllByRecursion (ChangeBelow (entry o n s r)) (map (entry o m d) rs)
side_later o n m s d r [] h = tt
side_later o n m s d r (t ∷ rs) h = (next_number o n m s d r t h, side_later o n m s d r rs h)

entries_later : (o : Labels) (n m : ℕ) (s : Side) (r : Record) (cs : List ChangeOf) → n < m → AllByRecursion (ChangeBelow (entry o n s r)) (entries o m cs)
entries_later o n m s r [] h = tt
entries_later o n m s r (c ∷ cs) h =
    all-append (ChangeBelow (entry o n s r)) (sides o m c.removed c.added) (entries o (suc m) cs)
    (all-append (ChangeBelow (entry o n s r)) (map (entry o m Removed) c.removed) (map (entry o m Added) c.added) (side_later o n m s Removed r c.removed h) (side_later o n m s Added r c.added h))
    (entries_later o n (suc m) s r cs (omega arith))

side_before : (o : Labels) (n : ℕ) (s : Side) (rs : List Record) (cs : List ChangeOf) → AllByRecursion (λ x. AllByRecursion (ChangeBelow x) (entries o (suc n) cs)) (map (entry o n s) rs)
side_before o n s [] cs = tt
side_before o n s (r ∷ rs) cs = (entries_later o n (suc n) s r cs (omega arith), side_before o n s rs cs)

pub entries_up : (o : Labels) (n : ℕ) (cs : List ChangeOf) → AllByRecursion IsChange cs → IsAscending ChangeBelow (entries o n cs)
entries_up o n [] h = tt
entries_up o n (c ∷ cs) h =
    ascending-append ChangeBelow (sides o n c.removed c.added) (entries o (suc n) cs) (change_up o n c h.0) (entries_up o (suc n) cs h.1)
    (all-append (λ x. AllByRecursion (ChangeBelow x) (entries o (suc n) cs)) (map (entry o n Removed) c.removed) (map (entry o n Added) c.added) (side_before o n Removed c.removed cs) (side_before o n Added c.added cs))

-- ---- their numbers go on without a gap

-- each of some has the number of the one before it or the next one
abbrev InTurn : ChangedRecord → List ChangedRecord → Type 0
InTurn a [] = Unit {0}
InTurn a (b ∷ bs) = (follows_in_number a b ≡ true) × InTurn b bs

-- whatever stands before them with this number
abbrev GoOn : Labels → ℕ → List ChangedRecord → Type 0
GoOn o n bs = (s : Side) (r : Record) → InTurn (entry o n s r) bs

same_number : (o : Labels) (n : ℕ) (s d : Side) (r t : Record) → follows_in_number (entry o n s r) (entry o n d t) ≡ true
same_number o n s d r t =
    ap (λ (b : Bool). cond b (eqb n n || eqb n (suc n)) (eqb n 1)) (name_self o) ∙ or_left (eqb n n) (eqb n (suc n)) (eq-eqb n n refl)

one_more : (o : Labels) (n : ℕ) (s d : Side) (r t : Record) → follows_in_number (entry o n s r) (entry o (suc n) d t) ≡ true
one_more o n s d r t =
    ap (λ (b : Bool). cond b (eqb (suc n) n || eqb (suc n) (suc n)) (eqb (suc n) 1)) (name_self o) ∙ or_right (eqb (suc n) n) (eqb (suc n) (suc n)) (eq-eqb (suc n) (suc n) refl)

side_goes_on : (o : Labels) (n : ℕ) (d : Side) (rs : List Record) (rest : List ChangedRecord) → GoOn o n rest → GoOn o n (map (entry o n d) rs ++ rest)
side_goes_on o n d [] rest on = on
side_goes_on o n d (t ∷ rs) rest on = λ s r. (same_number o n s d r t, side_goes_on o n d rs rest on d t)

first_goes_on : (o : Labels) (n : ℕ) (removed added : List Record) (rest : List ChangedRecord) → is_empty (record { removed = removed; added = added }) ≡ false → GoOn o (suc n) rest → GoOn o n (sides o (suc n) removed added ++ rest)
first_goes_on o n [] [] rest something on = absurd cc
first_goes_on o n [] (t ∷ added) rest something on = λ s r. (one_more o n s Added r t, side_goes_on o (suc n) Added added rest on Added t)
first_goes_on o n (t ∷ removed) added rest something on =
    λ s r. (
      one_more o n s Removed r t,
      subst (InTurn (entry o (suc n) Removed t)) (sym (append_assoc (map (entry o (suc n) Removed) removed) (map (entry o (suc n) Added) added) rest))
          (side_goes_on o (suc n) Removed removed (map (entry o (suc n) Added) added ++ rest) (side_goes_on o (suc n) Added added rest on) Removed t),
    )

entries_go_on : (o : Labels) (n : ℕ) (cs : List ChangeOf) → AllByRecursion IsChange cs → GoOn o n (entries o (suc n) cs)
entries_go_on o n [] h = λ s r. tt
entries_go_on o n (c ∷ cs) h = first_goes_on o n c.removed c.added (entries o (suc (suc n)) cs) h.0.something (entries_go_on o (suc n) cs h.1)

behind_from : (a : ChangedRecord) (bs : List ChangedRecord) → IsAscending ChangeBelow (a ∷ bs) → InTurn a bs → follow_in_turn a bs ≡ true
behind_from a [] up turn = refl
behind_from a (b ∷ bs) up turn =
    and_from (follows a b) (follow_in_turn b bs) (and_from (is_lt (changed_order a b)) (follows_in_number a b) (ap is_lt up.0.0) turn.0) (behind_from b bs up.1 turn.1)

-- the first number after 0 is 1
first_number : (b : Bool) (n : ℕ) → 0 < n → cond b (eqb n 0 || eqb n 1) (eqb n 1) ≡ true → eqb n 1 ≡ true
first_number true n some e = elim (or_cases (eqb n 0) (eqb n 1) e) [ inl none ↦ absurd (let no = eqb-true n 0 none in omega arith) | inr one ↦ one ]
first_number false n some e = e

numbered_from : (o : Labels) (xs : List ChangedRecord) → AllByRecursion IsChanged xs → IsAscending ChangeBelow xs → GoOn o 0 xs → are_numbered xs ≡ true
numbered_from o [] all up on = refl
numbered_from o (x ∷ xs) all up on =
    let t = on Removed x.changed in
    and_from (eqb x.number 1) (follow_in_turn x xs) (first_number (same_name o x.origin) x.number all.0.number t.0) (behind_from x xs up t.1)

pub entries_numbered : (o : Labels) (cs : List ChangeOf) → IsName o → AllByRecursion IsChange cs → are_numbered (entries o 1 cs) ≡ true
entries_numbered o cs is h = numbered_from o (entries o 1 cs) (entries_are o 1 cs is (omega arith) h) (entries_up o 1 cs h) (entries_go_on o 0 cs h)

-- ---- all of one zone

abbrev IsOf : Labels → ChangedRecord → Type 0
IsOf o c = c.origin ≡ o

side_of : (o : Labels) (n : ℕ) (s : Side) (rs : List Record) → AllByRecursion (IsOf o) (map (entry o n s) rs)
side_of o n s [] = tt
side_of o n s (r ∷ rs) = (refl, side_of o n s rs)

entries_of : (o : Labels) (n : ℕ) (cs : List ChangeOf) → AllByRecursion (IsOf o) (entries o n cs)
entries_of o n [] = tt
entries_of o n (c ∷ cs) =
    all-append (IsOf o) (sides o n c.removed c.added) (entries o (suc n) cs)
    (all-append (IsOf o) (map (entry o n Removed) c.removed) (map (entry o n Added) c.added) (side_of o n Removed c.removed) (side_of o n Added c.added))
    (entries_of o (suc n) cs)

of_origin : (o p : Labels) (xs : List ChangedRecord) → p ≡ o → AllByRecursion (IsOf o) xs → list_all (λ d. same_name d.origin p) xs ≡ true
of_origin o p [] e h = refl
of_origin o p (x ∷ xs) e h =
    and_from (same_name x.origin p) (list_all (λ d. same_name d.origin p) xs) (ap (λ (q : Labels). same_name q p) (h.0 ∙ sym e) ∙ name_self p) (of_origin o p xs e h.1)

of_one : (o : Labels) (xs : List ChangedRecord) → AllByRecursion (IsOf o) xs → are_of_one xs ≡ true
of_one o [] h = refl
of_one o (x ∷ xs) h = of_origin o x.origin xs h.0 h.1

pub entries_of_one : (o : Labels) (n : ℕ) (cs : List ChangeOf) → are_of_one (entries o n cs) ≡ true
entries_of_one o n cs = of_one o (entries o n cs) (entries_of o n cs)

-- ---- they are gathered to the changes

pub with_last_push : (front : List ChangeOf) (c : ChangeOf) (s : Side) (r : Record) → with_last (front ++ c ∷ []) s r ≡ front ++ with_record c s r ∷ []
with_last_push [] c s r = refl
with_last_push (d ∷ []) c s r = refl
with_last_push (d ∷ e ∷ front) c s r = ap (λ (l : List ChangeOf). d ∷ l) (with_last_push (e ∷ front) c s r)

pub placed_more : (o : Labels) (front : List ChangeOf) (c : ChangeOf) (s : Side) (r : Record) → placed (front ++ c ∷ []) (entry o (suc (length front)) s r) ≡ front ++ with_record c s r ∷ []
placed_more o front c s r =
    let size : suc (length front) ≤ length (front ++ c ∷ []) = omega (arith, length-append front (c ∷ [])) in
    ap (λ (b : Bool). with_last (cond b ((front ++ c ∷ []) ++ nothing ∷ []) (front ++ c ∷ [])) s r) (le-ltb (length (front ++ c ∷ [])) (suc (length front)) size)
    ∙ with_last_push front c s r

pub placed_first : (o : Labels) (front : List ChangeOf) (s : Side) (r : Record) → placed front (entry o (suc (length front)) s r) ≡ front ++ with_record nothing s r ∷ []
placed_first o front s r =
    ap (λ (b : Bool). with_last (cond b (front ++ nothing ∷ []) front) s r) (lt-ltb (length front) (suc (length front)) (omega arith)) ∙ with_last_push front nothing s r

removed_gathered : (o : Labels) (front : List ChangeOf) (removed added rs : List Record)
    → fold placed (front ++ record { removed = removed; added = added } ∷ []) (map (entry o (suc (length front)) Removed) rs) ≡ front ++ record { removed = removed ++ rs; added = added } ∷ []
removed_gathered o front removed added [] = ap (λ (l : List Record). front ++ record { removed = l; added = added } ∷ []) (sym (append-nil removed))
removed_gathered o front removed added (r ∷ rs) =
    ap (λ (cs : List ChangeOf). fold placed cs (map (entry o (suc (length front)) Removed) rs)) (placed_more o front (record { removed = removed; added = added }) Removed r)
    ∙ removed_gathered o front (removed ++ r ∷ []) added rs
    ∙ ap (λ (l : List Record). front ++ record { removed = l; added = added } ∷ []) (append_assoc removed (r ∷ []) rs)

added_gathered : (o : Labels) (front : List ChangeOf) (removed added rs : List Record)
    → fold placed (front ++ record { removed = removed; added = added } ∷ []) (map (entry o (suc (length front)) Added) rs) ≡ front ++ record { removed = removed; added = added ++ rs } ∷ []
added_gathered o front removed added [] = ap (λ (l : List Record). front ++ record { removed = removed; added = l } ∷ []) (sym (append-nil added))
added_gathered o front removed added (r ∷ rs) =
    ap (λ (cs : List ChangeOf). fold placed cs (map (entry o (suc (length front)) Added) rs)) (placed_more o front (record { removed = removed; added = added }) Added r)
    ∙ added_gathered o front removed (added ++ r ∷ []) rs
    ∙ ap (λ (l : List Record). front ++ record { removed = removed; added = l } ∷ []) (append_assoc added (r ∷ []) rs)

change_gathered : (o : Labels) (front : List ChangeOf) (removed added : List Record) → is_empty (record { removed = removed; added = added }) ≡ false
    → fold placed front (sides o (suc (length front)) removed added) ≡ front ++ record { removed = removed; added = added } ∷ []
change_gathered o front [] [] something = absurd cc
change_gathered o front [] (r ∷ added) something =
    ap (λ (cs : List ChangeOf). fold placed cs (map (entry o (suc (length front)) Added) added)) (placed_first o front Added r) ∙ added_gathered o front [] (r ∷ []) added
change_gathered o front (r ∷ removed) added something =
    let n = suc (length front) in
    ap (λ (cs : List ChangeOf). fold placed cs (sides o n removed added)) (placed_first o front Removed r)
    ∙ fold-append placed (front ++ record { removed = r ∷ []; added = [] } ∷ []) (map (entry o n Removed) removed) (map (entry o n Added) added)
    ∙ ap (λ (cs : List ChangeOf). fold placed cs (map (entry o n Added) added)) (removed_gathered o front (r ∷ []) [] removed)
    ∙ added_gathered o front (r ∷ removed) [] added

gathered_behind : (o : Labels) (front cs : List ChangeOf) → AllByRecursion IsChange cs → fold placed front (entries o (suc (length front)) cs) ≡ front ++ cs
gathered_behind o front [] h = sym (append-nil front)
gathered_behind o front (c ∷ cs) h =
    let n = suc (length front) in
    let size : length (front ++ c ∷ []) ≡ n = omega (arith, length-append front (c ∷ [])) in
    fold-append placed front (sides o n c.removed c.added) (entries o (suc n) cs)
    ∙ ap (λ (f : List ChangeOf). fold placed f (entries o (suc n) cs)) (change_gathered o front c.removed c.added h.0.something)
    ∙ ap (λ (k : ℕ). fold placed (front ++ c ∷ []) (entries o (suc k) cs)) (sym size)
    ∙ gathered_behind o (front ++ c ∷ []) cs h.1
    ∙ append_assoc front (c ∷ []) cs

pub entries_gathered : (o : Labels) (cs : List ChangeOf) → AllByRecursion IsChange cs → gathered (entries o 1 cs) ≡ cs
entries_gathered o cs h = gathered_behind o [] cs h

-- the last of some changes is put in the place of another
pub placed_is : (before room front new : List Change) (last made : Change) (c : ChangedRecord) → map change_in room ≡ opened (map change_in before) c.number → room ≡ front ++ last ∷ []
    → change_in made ≡ with_record (change_in last) c.side c.changed → new ≡ front ++ made ∷ [] → map change_in new ≡ placed (map change_in before) c
placed_is before room front new last made c is split more e =
    ap (map change_in) e
    ∙ map-append change_in front (made ∷ [])
    ∙ ap (λ (x : ChangeOf). map change_in front ++ x ∷ []) more
    ∙ sym (with_last_push (map change_in front) (change_in last) c.side c.changed)
    ∙ ap (λ (cs : List ChangeOf). with_last cs c.side c.changed) (sym (map-append change_in front (last ∷ [])) ∙ ap (map change_in) (sym split) ∙ is)

-- ---- rows in any order

abbrev listed : Result ChangedRecord RowFault → List ChangedRecord
listed (Ok c) = c ∷ []
listed (Err e) = []

decoded : (cs : List ChangedRecord) → AllByRecursion IsChanged cs → flat_map (λ row. listed (changed_in row)) (map row_of cs) ≡ cs
decoded [] h = refl
decoded (c ∷ cs) h =
    ap (λ r. listed r ++ flat_map (λ row. listed (changed_in row)) (map row_of cs)) (changed_read c h.0) ∙ ap (λ (l : List ChangedRecord). c ∷ l) (decoded cs h.1)

-- what rows have is found again of the rows in any order
same_changed : (xs ys : List ChangedRecord) → AllByRecursion IsChanged xs → AllByRecursion IsChanged ys → IsPermutation (map row_of xs) (map row_of ys) → IsPermutation xs ys
same_changed xs ys h k same =
    subst (λ (l : List ChangedRecord). IsPermutation l ys) (decoded xs h)
    (subst (λ (l : List ChangedRecord). IsPermutation (flat_map (λ row. listed (changed_in row)) (map row_of xs)) l) (decoded ys k) (IsPermutation-flat_map (λ row. listed (changed_in row)) (map row_of xs) (map row_of ys) same))

each_changed : (cs : List ChangedRecord) → AllByRecursion IsChanged cs → AllByRecursion (λ c. changed_in (row_of c) ≡ Ok c) cs
each_changed [] h = tt
each_changed (c ∷ cs) h = (changed_read c h.0, each_changed cs h.1)

module _ (o : Labels) (changes : List ChangeOf) (rows : List ChangeRowOf) (is : IsName o) (are : AllByRecursion IsChange changes) (same : IsPermutation (changes_rows o 1 changes) rows) where
  -- each of the rows is one of a change
  all_rows : (xs : List ChangedRecord) → AllByRecursion IsChanged xs → AllByRecursion IsChangeRow (map row_of xs)
  all_rows [] h = tt
  all_rows (x ∷ xs) h = ((x, h.0, refl), all_rows xs h.1)

  pub each_row : AllByRecursion IsChangeRow rows
  each_row =
      recursion_from_All IsChangeRow rows
      (All-permutation IsChangeRow (changes_rows o 1 changes) rows same
      (All-from_recursion IsChangeRow (changes_rows o 1 changes) (subst (AllByRecursion IsChangeRow) (entries_rows o 1 changes) (all_rows (entries o 1 changes) (entries_are o 1 changes is (omega arith) are)))))

  -- what they have, in order, is what the changes have
  pub sorted_are : (cs : List ChangedRecord) → IsPermutation (map row_of cs) rows → AllByRecursion IsChanged cs → IsSorted changed_order cs → cs ≡ entries o 1 changes
  sorted_are cs found all sorted =
      let of_rows = subst (λ (l : List ChangeRowOf). IsPermutation l rows) (sym (entries_rows o 1 changes)) same in
      let both = IsPermutation-trans (map row_of (entries o 1 changes)) rows (map row_of cs) of_rows (IsPermutation-sym (map row_of cs) rows found) in
      let moved = same_changed (entries o 1 changes) cs (entries_are o 1 changes is (omega arith) are) all both in
      sorted_unique changed_order changed_order_total (entries o 1 changes) cs (entries_up o 1 changes are) moved sorted

  pub sorted_of_one : (cs : List ChangedRecord) → IsPermutation (map row_of cs) rows → AllByRecursion IsChanged cs → IsSorted changed_order cs → are_of_one cs ≡ true
  sorted_of_one cs found all sorted = ap are_of_one (sorted_are cs found all sorted) ∙ entries_of_one o 1 changes

  pub sorted_numbered : (cs : List ChangedRecord) → IsPermutation (map row_of cs) rows → AllByRecursion IsChanged cs → IsSorted changed_order cs → are_numbered cs ≡ true
  sorted_numbered cs found all sorted = ap are_numbered (sorted_are cs found all sorted) ∙ entries_numbered o changes is are

  pub sorted_pass : (cs : List ChangedRecord) → IsPermutation (map row_of cs) rows → AllByRecursion IsChanged cs → IsSorted changed_order cs → (are_of_one cs && are_numbered cs) ≡ true
  sorted_pass cs found all sorted = and_from (are_of_one cs) (are_numbered cs) (sorted_of_one cs found all sorted) (sorted_numbered cs found all sorted)

  pub sorted_gathered : (cs : List ChangedRecord) → IsPermutation (map row_of cs) rows → AllByRecursion IsChanged cs → IsSorted changed_order cs → gathered cs ≡ changes
  sorted_gathered cs found all sorted = ap gathered (sorted_are cs found all sorted) ∙ entries_gathered o changes are

  -- the rows are read as what some records on a side of a change have, whatever their spelling is
  pub record AreStored : Type 0 where
    pub changed : List ChangedRecord
    pub each : each_read changed_in rows ≡ Ok changed
    pub pass : (sorted : List ChangedRecord) → IsPermutation changed sorted → IsSorted changed_order sorted → changes_among sorted ≡ Ok changes

  pub among : (sorted : List ChangedRecord) → IsPermutation (map row_of sorted) rows → AllByRecursion IsChanged sorted → IsSorted changed_order sorted → changes_among sorted ≡ Ok changes
  among sorted found all order =
      ap (λ (b : Bool). cond b (done (gathered sorted)) (Err BadRow)) (sorted_pass sorted found all order) ∙ ap done (sorted_gathered sorted found all order)

  pub are_stored : AreStored
  are_stored =
      let c = chosen IsChanged row_of rows each_row in
      record {
        changed = c.0;
        each = ap (each_read changed_in) c.1 ∙ each_stored changed_in row_of c.0 (each_changed c.0 c.2);
        pass = λ sorted moved order.
            among sorted (IsPermutation-sym rows (map row_of sorted) (subst (λ (l : List ChangeRowOf). IsPermutation l (map row_of sorted)) (sym c.1) (IsPermutation-map row_of c.0 sorted moved)))
            (all_permutation IsChanged c.0 sorted moved c.2) order;
      }
