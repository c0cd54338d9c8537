-- What is asked of a connection that holds a state.
use Rattle.std.specs.Prelude.{◌≡◌, ◌≢◌, ℕ, List, [], Option, Some, None, Result, OnOk, IsTrue, pos}
use Rattle.sqlite.specs.State.{State as Shown, HasCleanDisk}
use Rattle.office_model.specs.States.{Held, State}
use Rattle.store_sql.specs.Rows.{RecordRowOf, RowsOf}
use Rattle.store_sql.specs.Holds.{Holds, Leaves}
use Rattle.store_rows.specs.Contents.{AreOfState}
use Rattle.office_store.specs.Holds.{HoldsState, LeavesStates}

-- What a call that only asks leaves: the rows as they were, and so the state, and no further outcome of a crash.
pub record Asked (old new : Shown) : Type 0 where
  pub rows : (rows : RowsOf) → Holds old rows → Holds new rows
  pub same : (s : State) → HoldsState old s → HoldsState new s
  pub left : Leaves new old.may_leave
  pub crash : (s t : State) → LeavesStates old s t → LeavesStates new s t
  pub honest : HasCleanDisk new → HasCleanDisk old

-- the rows that are shown now were shown before, and so the state; and the connection is open
pub record Only (old new : Shown) : Type 0 where
  pub rows : (rows : RowsOf) → Holds new rows → Holds old rows
  pub same : (s : State) → HoldsState new s → HoldsState old s
  pub up : IsTrue new.is_open

-- What a call that only asks leaves; and where it answers, what is shown now was shown before.
abbrev pub AsksOnly : {X E : Type 0} → Shown → Shown → Result X E → Type 0
AsksOnly old new result = Asked old new × (HasCleanDisk new → OnOk result (Only old new))

-- A question about a zone of a state is answered so: by nothing where there is no zone of the origin, and else by what is so of
-- the rows of the state.
abbrev pub Finds : {X : Type 0} → (RowsOf → X → Type 0) → State → List (List ℕ) → Option X → Type 0
Finds P s origin None = s.zones origin ≡ None
Finds P s origin (Some x) = (all : RowsOf) × AreOfState (pos 2) all s × (held : Held) × (s.zones origin ≡ Some held) × P all x

-- A question about the records of a zone is answered by what stands at its origin: by nothing where nothing stands there.
abbrev pub Stands : {X : Type 0} → List RecordRowOf → (X → Type 0) → Option X → Type 0
Stands there P None = there ≡ []
Stands there P (Some x) = (there ≢ []) × P x
