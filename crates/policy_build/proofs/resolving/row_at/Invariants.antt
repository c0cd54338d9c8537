use Rattle.std.proofs.Common.{◌≡◌, drop}
use Rattle.policy_build.specs.Resolving.{row_called}
use Rattle.policy_build.proofs.resolving.row_at.Given as goal

-- no row so far is called so
abbrev pub invariant-loop-i : goal.invariant-loop-i
invariant-loop-i g l = row_called l.id l.rows ≡ row_called l.id (drop l.i l.rows)
