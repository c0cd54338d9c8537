-- The changes of a zone, and those after the first ones, by their rows.
use Rattle.std.proofs.Common.{◌≡◌, ℕ, zero, suc, ◌+◌, ◌-◌, ◌<◌, ◌≤◌, pos, Bool, true, false, ◌&&◌, cond, List, [], ◌∷◌, ◌++◌, map, filter, drop, take, Ok, Err, IsPermutation, IsSorted, refl, sym, ap, subst, ◌∙◌, arith, bytes_eq}
use Rattle.std.proofs.lemmas.Bool.{lt-ltb}
use Rattle.std.proofs.lemmas.Bool.Decides.{nat_tests}
use Rattle.std.proofs.lemmas.Int.{ints}
use Rattle.std.proofs.lemmas.List.{map-append}
use Rattle.std.proofs.lemmas.List.Elements.{filter-append}
use Rattle.std.proofs.lemmas.List.Sorted.{IsPermutation-map, IsPermutation-refl, IsPermutation-sym, IsPermutation-trans}
use Rattle.std.specs.List.{AllByRecursion}
use Rattle.std.specs.Ordering.{is_ge, is_lt, int_cmp}
use Rattle.sqlite_trees.proofs.ListLemmas.{pull_back}
use Rattle.sqlite_keyed.proofs.ListLemmas.{all-append, filter_all, filter_none, IsPermutation-filter}
use Rattle.dns_names.specs.Labels.{IsName}
use Rattle.dns_names.specs.Spelling.{name_text}
use Rattle.dns_data.specs.declared.record.Record.{Record}
use Rattle.office_model.specs.States.{Held}
use Rattle.zone_core.specs.Changes.{ChangeOf}
use Rattle.store_sql.specs.Rows.{ChangeRowOf}
use Rattle.store_sql.specs.Lookups.{changes_of, changes_between}
use Rattle.store_rows.specs.declared.changes.ChangedRecord.{ChangedRecord}
use Rattle.store_rows.specs.declared.row_fault.RowFault.TheVariants.{BadRow}
use Rattle.store_rows.specs.declared.side.Side.{Side}
use Rattle.store_rows.specs.declared.side.Side.TheVariants.{Removed, Added}
use Rattle.store_rows.specs.ChangeRows.{change_row, change_rows, changes_rows, row_of, IsChanged, IsChange, changed_order, changed_order_total}
use Rattle.store_rows.specs.Contents.{ZoneRows, zone_changes}
use Rattle.store_rows.specs.RowFaults.{◌>>=◌}
use Rattle.store_rows.specs.RowReading.{renumbered, changed_behind, changes_among, each_read}
use Rattle.store_rows.specs.States.{HistoriesAreOne}
use Rattle.store_rows.proofs.ContentLemmas.{held_zone, is_held}
use Rattle.store_rows.proofs.ListLemmas.{all_permutation, filter-and}
use Rattle.store_rows.proofs.OrderLemmas.{up_sorted}
use Rattle.store_rows.proofs.RowSteps.{done}
use Rattle.store_rows.proofs.StoredLaws.{each_stored}
use Rattle.store_rows.proofs.ChangeRowLaws.{changed_read}
use Rattle.store_rows.proofs.GatheringLaws.{entry, sides, entries, entries_rows, entries_are, entries_up, entries_gathered, sorted_gathered, among}

abbrev Labels : Type 0
Labels = List (List ℕ)

-- ---- the rows are those of one history

same_history : (o : Labels) (cs ds : List ChangeOf) → IsName o → AllByRecursion IsChange cs → AllByRecursion IsChange ds → IsPermutation (changes_rows o 1 cs) (changes_rows o 1 ds) → cs ≡ ds
same_history o cs ds is are also same =
    let es = entries o 1 ds in
    let of_rows : IsPermutation (map row_of es) (changes_rows o 1 ds) = subst (λ (l : List ChangeRowOf). IsPermutation (map row_of es) l) (entries_rows o 1 ds) (IsPermutation-refl (map row_of es)) in
    sym (sorted_gathered o cs (changes_rows o 1 ds) is are same es of_rows (entries_are o 1 ds is (omega arith) also) (up_sorted changed_order changed_order_total es (entries_up o 1 ds also)))
    ∙ entries_gathered o ds also

pub histories_are_one : HistoriesAreOne
histories_are_one version rows others s t o held other st also same e f =
    let x = held_zone version rows s st o held e in
    let y = held_zone version others t also o other f in
    let h = is_held version rows s st o x.0 x.1 in
    let k = is_held version others t also o y.0 y.1 in
    let one : x.0.origin ≡ y.0.origin = h.origin ∙ sym k.origin in
    let of_zone = λ (l : List ChangeRowOf). changes_of (name_text o) l in
    let moved = IsPermutation-filter (λ (r : ChangeRowOf). bytes_eq r.origin (name_text o)) rows.changes others.changes same in
    let there = IsPermutation-trans (zone_changes x.0) (of_zone others.changes) (zone_changes y.0) (IsPermutation-trans (zone_changes x.0) (of_zone rows.changes) (of_zone others.changes) h.changes moved) (IsPermutation-sym (zone_changes y.0) (of_zone others.changes) k.changes) in
    ap (λ (z : Held). z.changes) x.2
    ∙ same_history x.0.origin x.0.changes y.0.changes h.is.origin h.is.changes k.is.changes (subst (λ (p : Labels). IsPermutation (zone_changes x.0) (changes_rows p 1 y.0.changes)) (sym one) there)
    ∙ sym (ap (λ (z : Held). z.changes) y.2)

-- ---- rows with greater numbers

-- the same record, of a change so many later
abbrev later : ℕ → ChangedRecord → ChangedRecord
later count c = record { origin = c.origin; number = c.number + count; side = c.side; changed = c.changed }

abbrev later_row : ℕ → ChangedRecord → ChangeRowOf
later_row count c = row_of (later count c)

later_side : (o : Labels) (count n : ℕ) (s : Side) (rs : List Record) → map (later_row count) (map (entry o n s) rs) ≡ map (change_row o (n + count) s) rs
later_side o count n s [] = refl
later_side o count n s (r ∷ rs) = ap (λ (l : List ChangeRowOf). change_row o (n + count) s r ∷ l) (later_side o count n s rs)

later_rows : (o : Labels) (count n : ℕ) (cs : List ChangeOf) → map (later_row count) (entries o n cs) ≡ changes_rows o (n + count) cs
later_rows o count n [] = refl
later_rows o count n (c ∷ cs) =
    let next : suc n + count ≡ suc (n + count) = omega arith in
    let rest = map (later_row count) (entries o (suc n) cs) in
    map-append (later_row count) (sides o n c.removed c.added) (entries o (suc n) cs)
    ∙ ap (λ (l : List ChangeRowOf). l ++ rest) (map-append (later_row count) (map (entry o n Removed) c.removed) (map (entry o n Added) c.added))
    ∙ ap (λ (l : List ChangeRowOf). (l ++ map (later_row count) (map (entry o n Added) c.added)) ++ rest) (later_side o count n Removed c.removed)
    ∙ ap (λ (l : List ChangeRowOf). (map (change_row o (n + count) Removed) c.removed ++ l) ++ rest) (later_side o count n Added c.added)
    ∙ ap (λ (l : List ChangeRowOf). change_rows o (n + count) c ++ l) (later_rows o count (suc n) cs ∙ ap (λ (m : ℕ). changes_rows o m cs) next)

renumbered_later : (count : ℕ) (c : ChangedRecord) → 0 < c.number → renumbered count (later count c) ≡ Ok c
renumbered_later count c some =
    let back : (c.number + count) - count ≡ c.number = omega arith in
    ap (λ (b : Bool). cond b (done (record { origin = c.origin; number = (c.number + count) - count; side = c.side; changed = c.changed })) (Err BadRow)) (lt-ltb count (c.number + count) (omega arith))
    ∙ ap (λ (m : ℕ). done (record { origin = c.origin; number = m; side = c.side; changed = c.changed })) back

later_is : (count : ℕ) (c : ChangedRecord) → IsChanged c → IsChanged (later count c)
later_is count c is = record { origin = is.origin; number = omega (arith, is.number); changed = is.changed }

behind_read : (count : ℕ) (c : ChangedRecord) → IsChanged c → changed_behind count (later_row count c) ≡ Ok c
behind_read count c is = ap (λ r. r >>= renumbered count) (changed_read (later count c) (later_is count c is)) ∙ renumbered_later count c is.number

each_behind : (count : ℕ) (cs : List ChangedRecord) → AllByRecursion IsChanged cs → AllByRecursion (λ c. changed_behind count (later_row count c) ≡ Ok c) cs
each_behind count [] all = tt
each_behind count (c ∷ cs) all = (behind_read count c all.0, each_behind count cs all.1)

-- the rows are read as what some records on a side of a change have
pub record AreBehind (count : ℕ) (changes : List ChangeOf) (rows : List ChangeRowOf) : Type 0 where
  pub changed : List ChangedRecord
  pub each : each_read (changed_behind count) rows ≡ Ok changed
  pub pass : (sorted : List ChangedRecord) → IsPermutation changed sorted → IsSorted changed_order sorted → changes_among sorted ≡ Ok changes

pub are_behind : (o : Labels) (count : ℕ) (changes : List ChangeOf) (rows : List ChangeRowOf) → IsName o → AllByRecursion IsChange changes → IsPermutation (changes_rows o (1 + count) changes) rows → AreBehind count changes rows
are_behind o count changes rows is are same =
    let from = entries o 1 changes in
    let moved = pull_back (later_row count) (changes_rows o (1 + count) changes) rows same from (sym (later_rows o count 1 changes)) in
    let changed = moved.0 in
    let all = all_permutation IsChanged from changed moved.1 (entries_are o 1 changes is (omega arith) are) in
    record {
      changed = changed;
      each = ap (each_read (changed_behind count)) moved.2 ∙ each_stored (changed_behind count) (later_row count) changed (each_behind count changed all);
      pass = λ sorted turned order.
          among o changes (map row_of changed) is are
          (subst (λ (l : List ChangeRowOf). IsPermutation l (map row_of changed)) (entries_rows o 1 changes) (IsPermutation-map row_of from changed moved.1))
          sorted (IsPermutation-sym (map row_of changed) (map row_of sorted) (IsPermutation-map row_of changed sorted turned)) (all_permutation IsChanged changed sorted turned all) order;
    }

-- ---- the rows of later ones among all

abbrev reaches : ℕ → ChangeRowOf → Bool
reaches number r = is_ge (int_cmp r.number (pos number))

number_reaches : (n m : ℕ) → m ≤ n → is_ge (int_cmp (pos n) (pos m)) ≡ true
number_reaches n m h = grind (arith, ints, nat_tests)

number_short : (n m : ℕ) → n < m → is_ge (int_cmp (pos n) (pos m)) ≡ false
number_short n m h = grind (arith, ints, nat_tests)

side_reaches : (o : Labels) (n m : ℕ) (s : Side) (rs : List Record) → m ≤ n → AllByRecursion (λ r. reaches m r ≡ true) (map (change_row o n s) rs)
side_reaches o n m s [] h = tt
side_reaches o n m s (r ∷ rs) h = (number_reaches n m h, side_reaches o n m s rs h)

side_short : (o : Labels) (n m : ℕ) (s : Side) (rs : List Record) → n < m → AllByRecursion (λ r. reaches m r ≡ false) (map (change_row o n s) rs)
side_short o n m s [] h = tt
side_short o n m s (r ∷ rs) h = (number_short n m h, side_short o n m s rs h)

change_short : (o : Labels) (n m : ℕ) (c : ChangeOf) → n < m → filter (reaches m) (change_rows o n c) ≡ []
change_short o n m c h =
    filter_none (reaches m) (change_rows o n c)
    (all-append (λ r. reaches m r ≡ false) (map (change_row o n Removed) c.removed) (map (change_row o n Added) c.added) (side_short o n m Removed c.removed h) (side_short o n m Added c.added h))

all_reach : (o : Labels) (n m : ℕ) (cs : List ChangeOf) → m ≤ n → AllByRecursion (λ r. reaches m r ≡ true) (changes_rows o n cs)
all_reach o n m [] h = tt
all_reach o n m (c ∷ cs) h =
    all-append (λ r. reaches m r ≡ true) (change_rows o n c) (changes_rows o (suc n) cs)
    (all-append (λ r. reaches m r ≡ true) (map (change_row o n Removed) c.removed) (map (change_row o n Added) c.added) (side_reaches o n m Removed c.removed h) (side_reaches o n m Added c.added h))
    (all_reach o (suc n) m cs (omega arith))

later_among : (o : Labels) (n count : ℕ) (cs : List ChangeOf) → filter (reaches (n + count)) (changes_rows o n cs) ≡ changes_rows o (n + count) (drop count cs)
later_among o n zero cs =
    let same : n ≡ n + 0 = omega arith in
    filter_all (reaches (n + 0)) (changes_rows o n cs) (all_reach o n (n + 0) cs (omega arith)) ∙ ap (λ (m : ℕ). changes_rows o m cs) same
later_among o n (suc count) [] = refl
later_among o n (suc count) (c ∷ cs) =
    let next : n + suc count ≡ suc n + count = omega arith in
    filter-append (reaches (n + suc count)) (change_rows o n c) (changes_rows o (suc n) cs)
    ∙ ap (λ (l : List ChangeRowOf). l ++ filter (reaches (n + suc count)) (changes_rows o (suc n) cs)) (change_short o n (n + suc count) c (omega arith))
    ∙ ap (λ (m : ℕ). filter (reaches m) (changes_rows o (suc n) cs)) next
    ∙ later_among o (suc n) count cs
    ∙ ap (λ (m : ℕ). changes_rows o m (drop count cs)) (sym next)

-- ---- the rows of earlier ones among all

abbrev precedes : ℕ → ChangeRowOf → Bool
precedes number r = is_lt (int_cmp r.number (pos number))

number_precedes : (n m : ℕ) → n < m → is_lt (int_cmp (pos n) (pos m)) ≡ true
number_precedes n m h = grind (arith, ints, nat_tests)

number_follows : (n m : ℕ) → m ≤ n → is_lt (int_cmp (pos n) (pos m)) ≡ false
number_follows n m h = grind (arith, ints, nat_tests)

side_precedes : (o : Labels) (n m : ℕ) (s : Side) (rs : List Record) → n < m → AllByRecursion (λ r. precedes m r ≡ true) (map (change_row o n s) rs)
side_precedes o n m s [] h = tt
side_precedes o n m s (r ∷ rs) h = (number_precedes n m h, side_precedes o n m s rs h)

side_follows : (o : Labels) (n m : ℕ) (s : Side) (rs : List Record) → m ≤ n → AllByRecursion (λ r. precedes m r ≡ false) (map (change_row o n s) rs)
side_follows o n m s [] h = tt
side_follows o n m s (r ∷ rs) h = (number_follows n m h, side_follows o n m s rs h)

change_precedes : (o : Labels) (n m : ℕ) (c : ChangeOf) → n < m → filter (precedes m) (change_rows o n c) ≡ change_rows o n c
change_precedes o n m c h =
    filter_all (precedes m) (change_rows o n c)
    (all-append (λ r. precedes m r ≡ true) (map (change_row o n Removed) c.removed) (map (change_row o n Added) c.added) (side_precedes o n m Removed c.removed h) (side_precedes o n m Added c.added h))

all_follow : (o : Labels) (n m : ℕ) (cs : List ChangeOf) → m ≤ n → AllByRecursion (λ r. precedes m r ≡ false) (changes_rows o n cs)
all_follow o n m [] h = tt
all_follow o n m (c ∷ cs) h =
    all-append (λ r. precedes m r ≡ false) (change_rows o n c) (changes_rows o (suc n) cs)
    (all-append (λ r. precedes m r ≡ false) (map (change_row o n Removed) c.removed) (map (change_row o n Added) c.added) (side_follows o n m Removed c.removed h) (side_follows o n m Added c.added h))
    (all_follow o (suc n) m cs (omega arith))

earlier_among : (o : Labels) (n most : ℕ) (cs : List ChangeOf) → filter (precedes (n + most)) (changes_rows o n cs) ≡ changes_rows o n (take most cs)
earlier_among o n zero cs = filter_none (precedes (n + 0)) (changes_rows o n cs) (all_follow o n (n + 0) cs (omega arith))
earlier_among o n (suc most) [] = refl
earlier_among o n (suc most) (c ∷ cs) =
    let next : n + suc most ≡ suc n + most = omega arith in
    filter-append (precedes (n + suc most)) (change_rows o n c) (changes_rows o (suc n) cs)
    ∙ ap (λ (l : List ChangeRowOf). l ++ filter (precedes (n + suc most)) (changes_rows o (suc n) cs)) (change_precedes o n (n + suc most) c (omega arith))
    ∙ ap (λ (m : ℕ). change_rows o n c ++ filter (precedes m) (changes_rows o (suc n) cs)) next
    ∙ ap (λ (l : List ChangeRowOf). change_rows o n c ++ l) (earlier_among o (suc n) most cs)

-- ---- both

pub dropped : {X : Type 0} (P : X → Type 0) (count : ℕ) (xs : List X) → AllByRecursion P xs → AllByRecursion P (drop count xs)
dropped P zero xs all = all
dropped P (suc count) [] all = tt
dropped P (suc count) (x ∷ xs) all = dropped P count xs all.1

pub taken : {X : Type 0} (P : X → Type 0) (most : ℕ) (xs : List X) → AllByRecursion P xs → AllByRecursion P (take most xs)
taken P zero xs all = tt
taken P (suc most) [] all = tt
taken P (suc most) (x ∷ xs) all = (all.0, taken P most xs all.1)

abbrev is_meant : ℕ → ℕ → ChangeRowOf → Bool
is_meant from to r = reaches from r && precedes to r

meant_among : (o : Labels) (n count most : ℕ) (cs : List ChangeOf) → filter (is_meant (n + count) (n + count + most)) (changes_rows o n cs) ≡ changes_rows o (n + count) (take most (drop count cs))
meant_among o n count most cs =
    filter-and (reaches (n + count)) (precedes (n + count + most)) (changes_rows o n cs)
    ∙ ap (filter (precedes (n + count + most))) (later_among o n count cs)
    ∙ earlier_among o (n + count) most (drop count cs)

-- the rows of changes of a zone after the first ones, at most so many, in any order
pub later_found : (z : ZoneRows) (o : Labels) (count most : ℕ) (all rows : List ChangeRowOf) → IsPermutation (zone_changes z) (changes_of (name_text o) all)
    → IsPermutation (changes_between (name_text o) (pos (1 + count)) (pos (1 + count + most)) all) rows
    → IsPermutation (changes_rows z.origin (1 + count) (take most (drop count z.changes))) rows
later_found z o count most all rows whole same =
    let test = is_meant (1 + count) (1 + count + most) in
    let passing = IsPermutation-filter test (zone_changes z) (changes_of (name_text o) all) whole in
    let those = subst (λ (l : List ChangeRowOf). IsPermutation l (filter test (changes_of (name_text o) all))) (meant_among z.origin 1 count most z.changes) passing in
    IsPermutation-trans (changes_rows z.origin (1 + count) (take most (drop count z.changes))) (filter test (changes_of (name_text o) all)) rows those
    (subst (λ (l : List ChangeRowOf). IsPermutation l rows) (filter-and (λ (r : ChangeRowOf). bytes_eq r.origin (name_text o)) test all) same)
