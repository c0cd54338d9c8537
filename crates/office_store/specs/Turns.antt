-- What a call leaves that turns the state that is held into another, all of it or nothing.
use Rattle.std.specs.Prelude.{Result, OnOk, OnErr}
use Rattle.sqlite.specs.State.{State as Shown, HasCleanDisk}
use Rattle.office_model.specs.States.{State}
use Rattle.office_store.specs.Holds.{HoldsState, LeavesStates}

pub record Turns {X E : Type 0} (old new : Shown) (result : Result X E) (after : State → State) : Type 0 where
  -- the other state is held where the call answers, and the same where it refuses
  pub made : HasCleanDisk new → OnOk result ((s : State) → HoldsState old s → HoldsState new (after s))
  pub failed : OnErr result ((s : State) → HoldsState old s → HoldsState new s)
  -- a crash leaves the other state where it answers, and one of the two where it refuses
  pub kept : HasCleanDisk new → OnOk result ((s : State) → HoldsState old s → LeavesStates new (after s) (after s))
  pub crash : OnErr result ((s : State) → HoldsState old s → LeavesStates old s s → LeavesStates new s (after s))
  -- a store that has kept its word had kept it before
  pub honest : HasCleanDisk new → HasCleanDisk old
