use Rattle.std.proofs.Common.{drop}
use Rattle.std.specs.Prelude.{◌↔◌}
use Rattle.store_rows.specs.Checks.{AreChangesInTurn}
use Rattle.store_rows.proofs.zones.are_changes_of.Given as goal

-- what is left passes where all passes
abbrev pub invariant-loop-origin : goal.invariant-loop-origin
invariant-loop-origin l = AreChangesInTurn (drop l.origin-index l.origins) l.left ↔ AreChangesInTurn l.fn.origins l.fn.changes
