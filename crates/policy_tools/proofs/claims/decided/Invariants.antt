use Rattle.std.proofs.Common.{◌≡◌, take}
use Rattle.dns_data.specs.declared.record_type.RecordType.{RecordType}
use Rattle.grant_policy.specs.declared.action.Action.{Action}
use Rattle.policy_tools.specs.Points.{has_point}
use Rattle.policy_tools.specs.Claims.{is_decided}
use Rattle.policy_tools.proofs.claims.decided.Given as goal

-- the pairs of the entries so far
abbrev pub invariant-loop-entry : goal.invariant-loop-entry
invariant-loop-entry l = (t : RecordType) (a : Action) → has_point l.points.bits t a ≡ is_decided (take l.entry-index l.entries) l.callers t a
