-- A query inside a transaction keeps what was committed, whatever its text means.
use Rattle.store_sql.specs.Holds.{Keeps}
use Rattle.store_sql.proofs.Commits.{unchanged_keeps_all, rolled_keeps_all}
use Rattle.std.proofs.Common.{◌≡◌, ◌⊎◌, ◌∙◌, inl, inr, ℕ, Bool, true, false, refl, sym, subst, List, Ok, Err, Result, IfOk, IfErr, IsTrue, Option, Some, None}
use Rattle.sqlite_value.specs.Order.{Row}
use Rattle.sqlite_schema.specs.declared.command.Returning.{Returning}
use Rattle.sqlite_resolve.specs.declared.compiled.Compiled.{Compiled}
use Rattle.sqlite.specs.declared.error.Error.{Error}
use Rattle.sqlite.specs.State.{State, KeepsCommit, IsUnchanged, IsRolledBack, IsNotRun, FailsToQuery, FailsToShow, IsTooLate, ShowsRows, Shown, RunsCommand, ExecutesInside}

module _ (old new : State) where
  pub unchanged_keeps : IsUnchanged old new → KeepsCommit old new
  unchanged_keeps h = record { was_open = λ _. h.0.was_open; committed = λ _. h.0.committed_is }

  pub rolled_keeps : IsRolledBack old new → KeepsCommit old new
  rolled_keeps h = record { was_open = h.was_open; committed = λ up. (h.undone up).1 }

  pub not_run_keeps : (sql : List ℕ) (params : Row) (e : Error) → IsNotRun old new sql params e → KeepsCommit old new
  unfolding IsNotRun
  not_run_keeps sql params e (inl h) = unchanged_keeps h.1
  not_run_keeps sql params e (inr h) = rolled_keeps h.3

  command_keeps : (sql : List ℕ) (c : Compiled) (params : Row) (e : Error) → RunsCommand old new sql c params (Err e) → KeepsCommit old new
  command_keeps sql c params e (inl h) = unchanged_keeps h.1
  command_keeps sql c params e (inr h) = rolled_keeps h.3

  show_keeps : (sql : List ℕ) (c : Compiled) (params : Row) (e : Error) (what : Option Returning) → FailsToShow old new sql c params e what → KeepsCommit old new
  show_keeps sql c params e None h = unchanged_keeps h.3
  show_keeps sql c params e (Some what) h = command_keeps sql c params e h

  pub refused_keeps : (sql : List ℕ) (params : Row) (e : Error) → FailsToQuery sql params old new e ⊎ IsTooLate sql params old new e → KeepsCommit old new
  unfolding FailsToQuery
  refused_keeps sql params e (inl (inl h)) = not_run_keeps sql params e h
  refused_keeps sql params e (inl (inr h)) = show_keeps sql h.0 _ e h.0.returning h.2
  refused_keeps sql params e (inr h) = unchanged_keeps h.5

  rows_keep : (sql : List ℕ) (c : Compiled) (params : Row) (rows : List Row) (what : Option Returning) → IsTrue old.in_transaction → ShowsRows old new sql c params rows what → KeepsCommit old new × IsTrue old.is_open
  rows_keep sql c params rows None inside h = (unchanged_keeps h.3, h.3.0.was_open)
  rows_keep sql c params rows (Some what) inside h =
      let shown = h.1.shown in
      (record { was_open = λ _. shown.was_open; committed = λ _. rw inside at shown.committed_is }, shown.was_open)

  pub shown_keeps : (sql : List ℕ) (params : Row) (rows : List Row) → IsTrue old.in_transaction → Shown sql params old new rows → KeepsCommit old new × IsTrue old.is_open
  unfolding Shown
  shown_keeps sql params rows inside h = rows_keep sql h.0 _ rows h.0.returning inside h.2

  pub query_keeps : {X : Type 0} (items : X → List Row) (sql : List ℕ) (params : Row) (r : Result X Error) → IsTrue old.in_transaction → IfOk r (λ x. Shown sql params old new (items x))
      → IfErr r (λ e. FailsToQuery sql params old new e ⊎ IsTooLate sql params old new e) → KeepsCommit old new
  query_keeps items sql params (Ok x) inside h _ = (shown_keeps sql params (items x) inside h).0
  query_keeps items sql params (Err e) inside _ h = refused_keeps sql params e h

  pub not_run_keeps_all : (sql : List ℕ) (params : Row) (e : Error) → IsNotRun old new sql params e → Keeps old new
  unfolding IsNotRun
  not_run_keeps_all sql params e (inl h) = unchanged_keeps_all old new h.1
  not_run_keeps_all sql params e (inr h) = rolled_keeps_all old new h.3

  inside_leaves : (sql : List ℕ) (params : Row) (r : Result ℕ Error) → ExecutesInside 0 sql params old new r → KeepsCommit old new
  inside_leaves sql params (Ok count) h = record { was_open = λ _. h.1.was_open; committed = λ _. h.1.committed_is }
  inside_leaves sql params (Err e) (inl h) = elim h.1 [ inl same ↦ unchanged_keeps same | inr back ↦ rolled_keeps back ]
  inside_leaves sql params (Err e) (inr h) = unchanged_keeps h.2

  -- a statement inside a transaction, or after the end of one
  pub inside_keeps : (sql : List ℕ) (params : Row) (r : Result ℕ Error) (inside : Bool) → old.in_transaction ≡ inside → (old.in_transaction ≡ false → new ≡ old) → (IsTrue old.in_transaction → ExecutesInside 0 sql params old new r) → KeepsCommit old new
  inside_keeps sql params r true is ended runs = inside_leaves sql params r (runs is)
  inside_keeps sql params r false is ended runs = subst (KeepsCommit old) (sym (ended is)) (record { was_open = λ up. up; committed = λ up. refl })

  -- only inside one is a statement run
  pub ran_inside : (sql : List ℕ) (params : Row) (r : Result ℕ Error) (count : ℕ) (e : Error) (inside : Bool) → r ≡ Ok count → old.in_transaction ≡ inside → (old.in_transaction ≡ false → r ≡ Err e) → (IsTrue old.in_transaction → ExecutesInside 0 sql params old new r)
      → ExecutesInside 0 sql params old new (Ok count)
  ran_inside sql params r count e true ok is ended runs = subst (ExecutesInside 0 sql params old new) ok (runs is)
  ran_inside sql params r count e false ok is ended runs = absurd (let both : Ok count ≡ Err e = sym ok ∙ ended is in cc)
