-- Parts of a transaction, and how they go on from one another.
use Rattle.std.proofs.Common.{◌+◌, ◌-◌, ◌<◌, ◌≤◌, ◌++◌, take, drop, length, get_or, ◌≡◌, inl, ℕ, Bool, true, false, not, ◌&&◌, ◌||◌, List, [], ◌∷◌, Ok, Err, Result, OnOk, refl, sym, ap, subst, ◌∙◌, arith, filter, map, cond, append-nil, append_assoc}
use Rattle.std.specs.List.{list_any}
use Rattle.std.proofs.lemmas.List.{take_more, take_all}
use Rattle.sqlite_value.specs.Order.{Row}
use Rattle.sqlite.specs.declared.error.Error.{Error}
use Rattle.sqlite.specs.State.{State, HasCleanDisk, KeepsCommit, Executes}
use Rattle.sqlite.proofs.StateLemmas.{survives_then}
use Rattle.store_sql.specs.Rows.{RecordRowOf, ReceiptRowOf, ChangeRowOf, RowsOf, BatchOf, same_key, without, versions_with, written}
use Rattle.store_sql.specs.Holds.{Reads, Stays, Part}
use Rattle.store_sql.specs.Statements.{with_zone, with_record, with_receipt, with_change, with_each, without_record, without_records}

pub stays_then : (a b c : State) → Stays a b → Stays b c → Stays a c
stays_then a b c one two =
    let early = λ (clean : HasCleanDisk c). let it : HasCleanDisk b = omega (arith, two.survives.clean) in it in
    record {
      survives = survives_then a b c _ _ _ (λ _ db none. none) (λ _ db none. none) one.survives two.survives;
      kept = λ clean. keeps_then a b c (one.kept (early clean)) (two.kept clean);
    }
  where
    keeps_then : (a b c : State) → KeepsCommit a b → KeepsCommit b c → KeepsCommit a c
    keeps_then a b c p q = record { was_open = λ h. p.was_open (q.was_open h); committed = λ h. q.committed h ∙ p.committed (q.was_open h) }

pub part_none : (a : State) → Part a a (λ rows. rows)
part_none a = record {
  stays = record {
    survives = record { clean = omega arith; shield = λ h. h; counts = omega arith; limit = refl; closes = λ clean up. inl up; crash = λ clean db may. inl may };
    kept = λ clean. record { was_open = λ up. up; committed = λ up. refl };
  };
  reads = λ clean rows h. h;
}

pub part_from : {X : Type 0} (sql : List ℕ) (params : Row) (old new : State) (f : RowsOf → RowsOf) (r : Result X Error) → Stays old new
    → (HasCleanDisk new → OnOk r ((count : ℕ) × Executes sql params old new (Ok count)))
    → ((count : ℕ) (rows : RowsOf) → Executes sql params old new (Ok count) → Reads old.now rows → Reads new.now (f rows)) → OnOk r (Part old new f)
part_from sql params old new f (Err e) stays ran does = tt
part_from sql params old new f (Ok x) stays ran does = record {
  stays = stays;
  reads = λ clean rows h. let it = ran clean in does it.0 rows it.1 h;
}

pub part_then : (a b c : State) (f h : RowsOf → RowsOf) → Part a b f → Part b c h → Part a c (λ x. h (f x))
part_then a b c f h one two =
    let early = λ (clean : HasCleanDisk c). let it : HasCleanDisk b = omega (arith, two.stays.survives.clean) in it in
    record {
      stays = stays_then a b c one.stays two.stays;
      reads = λ clean x there. two.reads clean (f x) (one.reads (early clean) x there);
    }

pub part_same : (a b : State) (f h : RowsOf → RowsOf) → ((x : RowsOf) → f x ≡ h x) → Part a b f → Part a b h
part_same a b f h each it = record { stays = it.stays; reads = λ clean x there. subst (Reads b.now) (each x) (it.reads clean x there) }

-- ---- the rows of a short slice

pub the_two : {X : Type 0} (xs : List X) (a b : X) → 2 ≤ length xs → length xs < 3 → a ≡ get_or xs 0 a → b ≡ get_or xs 1 b → a ∷ b ∷ [] ≡ xs
the_two [] a b low high one two = absurd (omega (arith, low))
the_two (x ∷ []) a b low high one two = absurd (omega (arith, low))
the_two (x ∷ y ∷ []) a b low high one two = rw (one, two) refl
the_two (x ∷ y ∷ z ∷ xs) a b low high one two = absurd (omega (arith, high))

pub the_three : {X : Type 0} (xs : List X) (a b c : X) → 3 ≤ length xs → length xs < 4 → a ≡ get_or xs 0 a → b ≡ get_or xs 1 b → c ≡ get_or xs 2 c → a ∷ b ∷ c ∷ [] ≡ xs
the_three [] a b c low high one two three = absurd (omega (arith, low))
the_three (x ∷ []) a b c low high one two three = absurd (omega (arith, low))
the_three (x ∷ y ∷ []) a b c low high one two three = absurd (omega (arith, low))
the_three (x ∷ y ∷ z ∷ []) a b c low high one two three = rw (one, two, three) refl
the_three (x ∷ y ∷ z ∷ w ∷ xs) a b c low high one two three = absurd (omega (arith, high))

-- ---- one row more

pub each_append : {X : Type 0} (with : X → RowsOf → RowsOf) (xs ys : List X) (rows : RowsOf) → with_each with (xs ++ ys) rows ≡ with_each with ys (with_each with xs rows)
each_append with [] ys rows = refl
each_append with (x ∷ xs) ys rows = each_append with xs ys (with x rows)

each_push : {X : Type 0} (with : X → RowsOf → RowsOf) (xs : List X) (x : X) (rows : RowsOf) → with_each with (xs ++ x ∷ []) rows ≡ with x (with_each with xs rows)
each_push with [] x rows = refl
each_push with (y ∷ ys) x rows = each_push with ys x (with y rows)

pub each_more : {X : Type 0} (with : X → RowsOf → RowsOf) (xs : List X) (i : ℕ) (x : X) (rows : RowsOf) → i < length xs → x ≡ get_or xs i x
    → with_each with (take (i + 1) xs) rows ≡ with x (with_each with (take i xs) rows)
each_more with xs i x rows low is = ap (λ l. with_each with l rows) (take_more xs i x low ∙ ap (λ y. take i xs ++ y ∷ []) (sym is)) ∙ each_push with (take i xs) x rows

push_twice : {X : Type 0} (xs : List X) (y : X) (ys : List X) → (xs ++ y ∷ []) ++ ys ≡ xs ++ y ∷ ys
push_twice xs y ys = append_assoc xs (y ∷ []) ys

pub with_records : (all : List RecordRowOf) (rows : RowsOf) → with_each with_record all rows ≡ record rows { records = rows.records ++ all }
with_records [] rows = ap (λ (l : List RecordRowOf). let r : RowsOf = record rows { records = l } in r) (sym (append-nil rows.records))
with_records (x ∷ xs) rows = with_records xs (with_record x rows) ∙ ap (λ (l : List RecordRowOf). let r : RowsOf = record rows { records = l } in r) (push_twice rows.records x xs)

pub with_receipts : (all : List ReceiptRowOf) (rows : RowsOf) → with_each with_receipt all rows ≡ record rows { receipts = rows.receipts ++ all }
with_receipts [] rows = ap (λ (l : List ReceiptRowOf). let r : RowsOf = record rows { receipts = l } in r) (sym (append-nil rows.receipts))
with_receipts (x ∷ xs) rows = with_receipts xs (with_receipt x rows) ∙ ap (λ (l : List ReceiptRowOf). let r : RowsOf = record rows { receipts = l } in r) (push_twice rows.receipts x xs)

pub with_changes : (all : List ChangeRowOf) (rows : RowsOf) → with_each with_change all rows ≡ record rows { changes = rows.changes ++ all }
with_changes [] rows = ap (λ (l : List ChangeRowOf). let r : RowsOf = record rows { changes = l } in r) (sym (append-nil rows.changes))
with_changes (x ∷ xs) rows = with_changes xs (with_change x rows) ∙ ap (λ (l : List ChangeRowOf). let r : RowsOf = record rows { changes = l } in r) (push_twice rows.changes x xs)

-- ---- one row less

any_push : (p : RecordRowOf → Bool) (xs : List RecordRowOf) (x : RecordRowOf) → list_any p (xs ++ x ∷ []) ≡ (list_any p xs || p x)
any_push p [] x = elim (p x) as (λ b. (b || false) ≡ b) [ true ↦ refl | false ↦ refl ]
any_push p (y ∷ ys) x = elim (p y) as (λ b. (b || list_any p (ys ++ x ∷ [])) ≡ ((b || list_any p ys) || p x)) [ true ↦ refl | false ↦ any_push p ys x ]

filter_twice : (p q r : RecordRowOf → Bool) (rows : List RecordRowOf) → ((x : RecordRowOf) → r x ≡ (q x && p x)) → filter r rows ≡ filter p (filter q rows)
filter_twice p q r [] each = refl
filter_twice p q r (x ∷ rows) each =
    rw (each x) (elim (q x) as (λ b. cond (b && p x) (x ∷ filter r rows) (filter r rows) ≡ filter p (cond b (x ∷ filter q rows) (filter q rows))) [
      | true ↦ rw (filter_twice p q r rows each) refl
      | false ↦ filter_twice p q r rows each
    ])

nor : (a b : Bool) → not (a || b) ≡ (not a && not b)
nor true b = refl
nor false b = refl

without_push : (gone : List RecordRowOf) (k : RecordRowOf) (rows : List RecordRowOf) → without (gone ++ k ∷ []) rows ≡ filter (λ r. not (same_key k r)) (without gone rows)
without_push gone k rows =
    filter_twice (λ r. not (same_key k r)) (λ r. not (list_any (λ g. same_key g r) gone)) (λ r. not (list_any (λ g. same_key g r) (gone ++ k ∷ []))) rows
    (λ r. ap not (any_push (λ g. same_key g r) gone k) ∙ nor (list_any (λ g. same_key g r) gone) (same_key k r))

pub without_more : (gone : List RecordRowOf) (i : ℕ) (k : RecordRowOf) (rows : RowsOf) → i < length gone → k ≡ get_or gone i k
    → without_records (take (i + 1) gone) rows ≡ without_record k (without_records (take i gone) rows)
without_more gone i k rows low is =
    ap (λ (l : List RecordRowOf). let r : RowsOf = record rows { records = l } in r)
    (ap (λ l. without l rows.records) (take_more gone i k low ∙ ap (λ x. take i gone ++ x ∷ []) (sym is)) ∙ without_push (take i gone) k rows.records)

pub without_none : (rows : List RecordRowOf) → without [] rows ≡ rows
without_none [] = refl
without_none (r ∷ rows) = ap (λ l. r ∷ l) (without_none rows)

pub on_part : {X E : Type 0} (r : Result X E) (A B : Type 0) → (A → B) → OnOk r A → OnOk r B
on_part (Ok x) A B f h = f h
on_part (Err e) A B f h = tt

-- a transaction begins with nothing but its mode
pub stays_begun : (old new : State) → Stays (record old { in_transaction = true }) new → Stays old new
stays_begun old new h = record {
  survives = record { clean = h.survives.clean; shield = h.survives.shield; counts = h.survives.counts; limit = h.survives.limit; closes = h.survives.closes; crash = h.survives.crash };
  kept = λ clean. let k = h.kept clean in record { was_open = k.was_open; committed = k.committed };
}

-- the same for texts that are handed in as strings
pub with_zones_of : {X : Type 0} (text : X → List ℕ) (all : List X) (rows : RowsOf) → with_each (λ x. with_zone (text x)) all rows ≡ record rows { zones = rows.zones ++ map text all }
with_zones_of text [] rows = ap (λ (l : List (List ℕ)). let r : RowsOf = record rows { zones = l } in r) (sym (append-nil rows.zones))
with_zones_of text (x ∷ xs) rows = with_zones_of text xs (with_zone (text x) rows) ∙ ap (λ (l : List (List ℕ)). let r : RowsOf = record rows { zones = l } in r) (push_twice rows.zones (text x) (map text xs))

-- all parts of a batch, in turn
pub written_in_turn : {X : Type 0} (text : X → List ℕ) (w : BatchOf) (zones : List X) → w.zones ≡ map text zones → (a b c d e z : State)
    → Part a b (with_each (λ x. with_zone (text x)) zones) → Part b c (λ rows. with_each with_record w.added (without_records w.removed rows)) → Part c d (with_each with_change w.changes)
    → Part d e (with_each with_receipt w.receipts) → Part e z (λ rows. record rows { versions = versions_with w.version rows.versions }) → Part a z (written w)
written_in_turn text w zones are a b c d e z one two three four five =
    part_same a z _ (written w) (λ rows.
    let zoned : RowsOf = record rows { zones = rows.zones ++ w.zones } in
    let changed_records : RowsOf = record zoned { records = without w.removed rows.records ++ w.added } in
    let changed : RowsOf = record changed_records { changes = rows.changes ++ w.changes } in
    let kept : RowsOf = record changed { receipts = rows.receipts ++ w.receipts } in
    let put = λ (r : RowsOf). with_each with_record w.added (without_records w.removed r) in
    let at_zones : with_each (λ x. with_zone (text x)) zones rows ≡ zoned = with_zones_of text zones rows ∙ ap (λ (l : List (List ℕ)). let r : RowsOf = record rows { zones = rows.zones ++ l } in r) (sym are) in
    let at_records : put (with_each (λ x. with_zone (text x)) zones rows) ≡ changed_records = ap put at_zones ∙ with_records w.added (without_records w.removed zoned) in
    let at_changed : with_each with_change w.changes (put (with_each (λ x. with_zone (text x)) zones rows)) ≡ changed = ap (with_each with_change w.changes) at_records ∙ with_changes w.changes changed_records in
    let at_kept : with_each with_receipt w.receipts (with_each with_change w.changes (put (with_each (λ x. with_zone (text x)) zones rows))) ≡ kept =
    ap (with_each with_receipt w.receipts) at_changed ∙ with_receipts w.receipts changed in
    ap (λ (r : RowsOf). let q : RowsOf = record r { versions = versions_with w.version r.versions } in q) at_kept)
    (part_then a e z _ _ (part_then a d e _ _ (part_then a c d _ _ (part_then a b c _ _ one two) three) four) five)

-- one row less before the others or after them
pub without_first : (k : RecordRowOf) (gone : List RecordRowOf) (rows : List RecordRowOf) → without (k ∷ gone) rows ≡ filter (λ r. not (same_key k r)) (without gone rows)
without_first k gone rows =
    filter_twice (λ r. not (same_key k r)) (λ r. not (list_any (λ g. same_key g r) gone)) (λ r. not (list_any (λ g. same_key g r) (k ∷ gone))) rows
    (λ r. nor (same_key k r) (list_any (λ g. same_key g r) gone) ∙ both_ways (not (same_key k r)) (not (list_any (λ g. same_key g r) gone)))
  where
    both_ways : (a b : Bool) → (a && b) ≡ (b && a)
    both_ways true true = refl
    both_ways true false = refl
    both_ways false true = refl
    both_ways false false = refl

-- a row in the place of the first that goes, once the others went, and before the others that come
pub replaced_first : (k : RecordRowOf) (gone : List RecordRowOf) (x : RecordRowOf) (more : List RecordRowOf) (rows : RowsOf)
    → with_each with_record more (with_record x (without_record k (without_records gone rows))) ≡ with_each with_record (x ∷ more) (without_records (k ∷ gone) rows)
replaced_first k gone x more rows = ap (λ (l : List RecordRowOf). let r : RowsOf = record rows { records = l } in with_each with_record more (with_record x r)) (sym (without_first k gone rows.records))

-- a slice is its first item and the others
abbrev pub rest_of : {X : Type 0} → List X → List X
rest_of xs = take (length xs - 1) (drop 1 xs)

pub the_rest : {X : Type 0} (xs : List X) (x : X) → 1 ≤ length xs → x ≡ get_or xs 0 x → x ∷ rest_of xs ≡ xs
the_rest [] x low is = absurd (omega (arith, low))
the_rest (y ∷ xs) x low is = rw (is, take_all (length (y ∷ xs) - 1) xs (omega arith)) refl
