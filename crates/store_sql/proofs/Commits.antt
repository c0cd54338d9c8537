-- The end of a transaction, and of a call that only asks.
use Rattle.std.proofs.Common.{◌≡◌, ◌⊎◌, inl, inr, ◌≤◌, Bool, true, false, Ok, Err, Result, OnOk, OnErr, IfOk, IfErr, IsTrue, refl, sym, ap, subst, ◌∙◌, arith, true≢false}
use Rattle.sqlite_trees.specs.Tree.{Trees}
use Rattle.sqlite_trees.specs.View.{doubt}
use Rattle.sqlite_trees.proofs.Doubt.{no_doubt}
use Rattle.sqlite.specs.declared.error.Error.{Error}
use Rattle.sqlite.specs.Effect.{Database}
use Rattle.sqlite.specs.State.{State, HasCleanDisk, Survives, KeepsCommit, Shows, IsUnchanged, IsRolledBack}
use Rattle.sqlite.specs.Steps.{FailsToCommit}
use Rattle.store_sql.specs.Rows.{RowsOf}
use Rattle.store_sql.specs.Tables.{no_schema}
use Rattle.store_sql.specs.Holds.{AreRows, Reads, IsSettled, Holds, Leaves, OnlyAsks, IsGoing, Stays, Part, Keeps}

pub clean_if_open : (is_clean is_open : Bool) → (is_clean ≡ false → is_open ≡ false) → IsTrue is_open → doubt is_clean ≡ 0
clean_if_open true is_open shut up = no_doubt true refl
clean_if_open false is_open shut up = absurd (true≢false (sym up ∙ shut refl))

pub on_ok_when : {X E : Type 0} (r : Result X E) (H A B : Type 0) → (H → OnOk r A) → ((H → A) → B) → OnOk r B
on_ok_when (Ok x) H A B h f = f h
on_ok_when (Err e) H A B h f = tt

pub on_err_when : {X E : Type 0} (r : Result X E) (H : Type 0) (P : E → Type 0) (B : Type 0) → ((e : E) → (H → P e) → B) → (H → IfErr r P) → OnErr r B
on_err_when (Ok x) H P B f h = tt
on_err_when (Err e) H P B f h = f e h

pub on_err : {X E : Type 0} (r : Result X E) (B : Type 0) → B → OnErr r B
on_err (Ok x) B h = tt
on_err (Err e) B h = h

pub if_ok_then : {X E : Type 0} (r : Result X E) (P Q : X → Type 0) → IfOk r P → ((x : X) → P x → Q x) → IfOk r Q
if_ok_then (Ok x) P Q h f = f x h
if_ok_then (Err e) P Q h f = tt

-- a crash leaves what it left before
pub left_before : (a b : State) → Survives a b (λ _. ⊥) → HasCleanDisk b → (db : Trees) → b.may_leave db → a.may_leave db
left_before a b s clean db may = elim (s.crash clean db may) [ inl was ↦ was | inr none ↦ absurd none ]

pub keeps_then : (a b c : State) → Keeps a b → Keeps b c → Keeps a c
keeps_then a b c one two up =
    let k = two up in
    let j = one k.0 in
    (j.0, k.1 ∙ j.1, (λ settled. k.2 (j.1 ∙ settled ∙ sym (j.2 settled)) ∙ j.2 settled))

pub unchanged_keeps_all : (old new : State) → IsUnchanged old new → Keeps old new
unchanged_keeps_all old new h up = (h.0.was_open, h.0.committed_is, (λ _. h.0.now_is))

pub rolled_keeps_all : (old new : State) → IsRolledBack old new → Keeps old new
rolled_keeps_all old new h up = (h.was_open up, (h.undone up).1, (λ settled. (h.undone up).0 ∙ settled))

-- a transaction that was rolled back
pub undone_keeps : (old mid new : State) → (HasCleanDisk mid → KeepsCommit (record old { in_transaction = true }) mid) → (HasCleanDisk new → IsRolledBack mid new) → doubt mid.is_clean ≤ doubt new.is_clean
    → (IsTrue new.is_open → HasCleanDisk new) → Keeps old new
undone_keeps old mid new kept back later clean_now up =
    let clean = clean_now up in
    let early : HasCleanDisk mid = omega arith in
    let it = back clean in
    let was = it.was_open up in
    ((kept early).was_open was, (it.undone up).1 ∙ (kept early).committed was, (λ settled. (it.undone up).0 ∙ (kept early).committed was ∙ settled))

pub holds_on : (old new : State) (rows : RowsOf) → Keeps old new → Holds old rows → Holds new rows
holds_on old new rows keeps h up =
    let k = keeps up in
    let s = h k.0 in
    let now : new.now ≡ old.now = k.2 s.1 in
    (subst (λ d. Reads d rows) (sym now) s.0, k.1 ∙ s.1 ∙ sym now)

pub only_asks : (old new : State) → IsSettled old → Stays old new → Keeps old new → new.in_transaction ≡ false → ((db : Trees) → IsTrue new.is_open → new.may_leave db → db ≡ new.committed.trees)
    → OnlyAsks old new
only_asks old new settled stays keeps ended law = record {
  same = λ rows h. holds_on old new rows keeps h;
  left = λ clean db may. left_before old new stays.survives clean db may;
  honest = λ clean. omega (arith, stays.survives.clean);
  ended = ended;
  settled = λ up. let k = keeps up in k.1 ∙ settled k.0 ∙ sym (k.2 (settled k.0));
  kept = λ up clean db may. law db up may;
  now = λ up. let k = keeps up in (k.0, k.2 (settled k.0) ∙ sym (settled k.0), k.1);
}

pub asks_then : (a b c : State) → OnlyAsks a b → OnlyAsks b c → OnlyAsks a c
asks_then a b c one two = record {
  same = λ rows h. two.same rows (one.same rows h);
  left = λ clean db may. one.left (two.honest clean) db (two.left clean db may);
  honest = λ clean. one.honest (two.honest clean);
  ended = two.ended;
  settled = two.settled;
  kept = two.kept;
  now = λ up. let k = two.now up in let j = one.now k.0 in (j.0, k.1 ∙ j.2, k.2 ∙ j.2);
}

-- an answer of a store that is open is of what it shows
pub shows_still : (old new : State) → IsSettled old → Keeps old new → new.in_transaction ≡ false → IsTrue new.is_open → Shows old new old.now old.now false
shows_still old new settled keeps ended up =
    let k = keeps up in
    record { was_open = k.0; is_open = up; now_is = k.2 (settled k.0); committed_is = k.1 ∙ settled k.0; mode = ended }

-- an answer tells that nothing else was held
pub held_before : (old new : State) (rows : RowsOf) → OnlyAsks old new → Shows old new old.now old.now false → Holds new rows → Holds old rows
held_before old new rows asks shows h up =
    let s = h shows.is_open in
    let now = asks.now shows.is_open in
    (subst (λ d. Reads d rows) shows.now_is s.0, sym now.1 ∙ shows.now_is)

pub shows_then : (a b c : State) → Shows a b a.now a.now false → Shows b c b.now b.now false → Shows a c a.now a.now false
shows_then a b c one two = record { was_open = one.was_open; is_open = two.is_open; now_is = two.now_is ∙ one.now_is; committed_is = two.committed_is ∙ one.now_is; mode = two.mode }

module _ (old mid new : State) where
  abbrev begun : State
  begun = record old { in_transaction = true }

  pub made : (rows : RowsOf) (f : RowsOf → RowsOf) → Part begun mid f → (HasCleanDisk new → Shows mid new mid.now mid.now false) → doubt mid.is_clean ≤ doubt new.is_clean → (IsTrue new.is_open → HasCleanDisk new)
      → Holds old rows → Holds new (f rows)
  made rows f part ok later clean_now h up =
      let clean = clean_now up in
      let early : HasCleanDisk mid = omega arith in
      let shows = ok clean in
      let start = h ((part.stays.kept early).was_open shows.was_open) in
      (subst (λ d. Reads d (f rows)) (sym shows.now_is) (part.reads early rows start.0), shows.committed_is ∙ sym shows.now_is)

  pub durable : (rows : RowsOf) (f : RowsOf → RowsOf) → Part begun mid f → (HasCleanDisk new → Shows mid new mid.now mid.now false) → doubt mid.is_clean ≤ doubt new.is_clean
      → ((db : Trees) → IsTrue new.is_open → new.may_leave db → db ≡ new.committed.trees) → Holds old rows → Leaves new (λ db. AreRows db (f rows))
  durable rows f part ok later settled h clean db may =
      let early : HasCleanDisk mid = omega arith in
      let shows = ok clean in
      let start = h ((part.stays.kept early).was_open shows.was_open) in
      subst (λ t. AreRows t (f rows)) (sym (settled db shows.is_open may ∙ ap (λ (d : Database). d.trees) shows.committed_is)) (part.reads early rows start.0).tables

  pub failed_end : (e : Error) → (HasCleanDisk new → FailsToCommit mid new e) → (HasCleanDisk mid → IsGoing mid) → doubt mid.is_clean ≤ doubt new.is_clean → HasCleanDisk new → IsRolledBack mid new
  failed_end e fails going later clean =
      let early : HasCleanDisk mid = omega arith in
      elim (fails clean) [
        | inl it ↦ it.3
        | inr it ↦ absurd (true≢false (sym (going early).1 ∙ it.1))
      ]

  pub left_either : (rows : RowsOf) (f : RowsOf → RowsOf) → Part begun mid f → (HasCleanDisk mid → IsGoing mid) → Survives mid new (λ db. db ≡ mid.now.trees) → Holds old rows
      → HasCleanDisk new → (db : Trees) → new.may_leave db → old.may_leave db ⊎ AreRows db (f rows)
  left_either rows f part going two h clean db may =
      let early : HasCleanDisk mid = omega (arith, two.clean) in
      elim (two.crash clean db may) [
        | inl before ↦ inl (left_before begun mid part.stays.survives early db before)
        | inr is ↦ inr (subst (λ t. AreRows t (f rows)) (sym is) (part.reads early rows (h ((part.stays.kept early).was_open (going early).0)).0).tables)
      ]

  pub left_nothing : Survives begun mid (λ _. ⊥) → Survives mid new (λ _. ⊥) → HasCleanDisk new → (db : Trees) → new.may_leave db → old.may_leave db
  left_nothing one two clean db may =
      let early : HasCleanDisk mid = omega (arith, two.clean) in
      left_before begun mid one early db (left_before mid new two clean db may)

  -- ---- the same where the tables are made

  pub made_first : (rows : RowsOf) → (HasCleanDisk mid → Reads mid.now rows) → (HasCleanDisk new → Shows mid new mid.now mid.now false) → doubt mid.is_clean ≤ doubt new.is_clean → (IsTrue new.is_open → HasCleanDisk new)
      → Holds new rows
  made_first rows reads ok later clean_now up =
      let clean = clean_now up in
      let early : HasCleanDisk mid = omega arith in
      let shows = ok clean in
      (subst (λ d. Reads d rows) (sym shows.now_is) (reads early), shows.committed_is ∙ sym shows.now_is)

  pub durable_first : (rows : RowsOf) → (HasCleanDisk mid → Reads mid.now rows) → (HasCleanDisk new → Shows mid new mid.now mid.now false) → doubt mid.is_clean ≤ doubt new.is_clean
      → ((db : Trees) → IsTrue new.is_open → new.may_leave db → db ≡ new.committed.trees) → Leaves new (λ db. AreRows db rows)
  durable_first rows reads ok later settled clean db may =
      let early : HasCleanDisk mid = omega arith in
      let shows = ok clean in
      subst (λ t. AreRows t rows) (sym (settled db shows.is_open may ∙ ap (λ (d : Database). d.trees) shows.committed_is)) (reads early).tables

  pub left_first : (rows : RowsOf) → (HasCleanDisk mid → Reads mid.now rows) → Stays begun mid → Survives mid new (λ db. db ≡ mid.now.trees)
      → HasCleanDisk new → (db : Trees) → new.may_leave db → old.may_leave db ⊎ AreRows db rows
  left_first rows reads stays two clean db may =
      let early : HasCleanDisk mid = omega (arith, two.clean) in
      elim (two.crash clean db may) [
        | inl before ↦ inl (left_before begun mid stays.survives early db before)
        | inr is ↦ inr (subst (λ t. AreRows t rows) (sym is) (reads early).tables)
      ]

  -- no table was made
  pub none_made : old.now.schema ≡ no_schema → IsSettled old → Keeps old new → IsTrue new.is_open → (new.now.schema ≡ no_schema) × (new.committed ≡ new.now)
  none_made none settled keeps up =
      let k = keeps up in
      let now : new.now ≡ old.now = k.2 (settled k.0) in
      (ap (λ (d : Database). d.schema) now ∙ none, k.1 ∙ settled k.0 ∙ sym now)

pub if_ok_all : {X E : Type 0} (r : Result X E) (A B : Type 0) (P Q : X → Type 0) → OnOk r A → OnOk r B → IfOk r P → ((x : X) → A → B → P x → Q x) → IfOk r Q
if_ok_all (Ok x) A B P Q a b p f = f x a b p
if_ok_all (Err e) A B P Q a b p f = tt

pub if_ok_with : {X E : Type 0} (r : Result X E) (A : Type 0) (P Q : X → Type 0) → OnOk r A → IfOk r P → ((x : X) → A → P x → Q x) → IfOk r Q
if_ok_with (Ok x) A P Q a p f = f x a p
if_ok_with (Err e) A P Q a p f = tt

-- rows that are shown by a connection that only asked are held by it, and a crash leaves them
pub held_now : (old new : State) (rows : RowsOf) → OnlyAsks old new → IsTrue new.is_open → Reads new.now rows → Holds new rows × Leaves new (λ db. AreRows db rows)
held_now old new rows asks up reads =
    let settled = asks.settled up in (
      λ _. (reads, settled),
      λ clean db may. subst (λ t. AreRows t rows) (ap (λ (d : Database). d.trees) (sym settled) ∙ sym (asks.kept up clean db may)) reads.tables,
    )
