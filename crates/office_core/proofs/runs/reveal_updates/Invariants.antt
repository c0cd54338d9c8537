use Rattle.std.proofs.Common.{take}
use Rattle.office_core.specs.Runs.{HaveUpdates}
use Rattle.office_core.proofs.runs.reveal_updates.Given as goal

abbrev pub invariant-loop-call : goal.invariant-loop-call
invariant-loop-call l = HaveUpdates (take l.call-index l.calls)
