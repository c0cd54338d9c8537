use Rattle.std.proofs.Common.{◌≡◌, ◌+◌, ◌≤◌, length, take, Option, vec_len}
use Rattle.std.specs.Prelude.{sum_by}
use Rattle.std.specs.Vec.{vec_capacity}
use Rattle.office_model.specs.States.{State}
use Rattle.office_model.specs.Tables.{LeavesOr}
use Rattle.office_core.specs.Runs.{IsRun, state_after, kept, other_in, counted_failures}
use Rattle.office_core.proofs.runs.replies_to.Given as goal

abbrev pub invariant-loop-call : goal.invariant-loop-call
invariant-loop-call g l = record {
  len : vec_len l.replies ≡ l.call-index;
  room : length l.calls ≤ vec_capacity l.replies;
  honest : g.T.ZoneTable.is_honest l.table → g.T.ZoneTable.is_honest l.fn.table;
  counts : g.T.ZoneTable.failures l.table ≡ g.T.ZoneTable.failures l.fn.table + sum_by counted_failures l.replies.items;
  crash : g.T.ZoneTable.is_honest l.table → (s : State) (other : Option State) → g.T.ZoneTable.holds l.fn.table s → LeavesOr (g.T.ZoneTable.leaves l.fn.table) s other
      → LeavesOr (g.T.ZoneTable.leaves l.table) (state_after l.policy s (kept (take l.call-index l.calls) l.replies.items)) (other_in l.policy s other (take l.call-index l.calls) l.replies.items);
  run : g.T.ZoneTable.is_honest l.table → (s : State) → g.T.ZoneTable.holds l.fn.table s → IsRun (g.T.ZoneTable.holds l.table) l.policy s (take l.call-index l.calls) l.replies.items;
}
