use Rattle.std.proofs.Common.{◌≡◌, ◌≤◌, take, length}
use Rattle.std.specs.List.{filter}
use Rattle.zone_core.specs.Updates.{adds_soa}
use Rattle.cli_updates.proofs.split.soas_added.Given as goal

abbrev pub invariant-loop-operation : goal.invariant-loop-operation
invariant-loop-operation l = (l.soas ≡ length (filter adds_soa (take l.operation-index l.operations))) × (l.soas ≤ l.operation-index)
