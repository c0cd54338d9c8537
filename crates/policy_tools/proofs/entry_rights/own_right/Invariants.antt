use Rattle.std.proofs.Common.{◌≡◌, take}
use Rattle.dns_data.specs.declared.record_type.RecordType.{RecordType}
use Rattle.grant_policy.specs.declared.action.Action.{Action}
use Rattle.grant_policy.specs.declared.callers.Callers.TheVariants.{One}
use Rattle.policy_tools.specs.declared.exposure.Right.{Right}
use Rattle.policy_tools.specs.Points.{has_point}
use Rattle.policy_tools.specs.Claims.{is_decided}
use Rattle.policy_tools.specs.EntryRights.{IsWanted, GrantsAmong}
use Rattle.policy_tools.proofs.entry_rights.own_right.Given as goal

-- what the entries so far decided for the caller; none of them grants what is looked for
abbrev pub invariant-loop-entry : goal.invariant-loop-entry
invariant-loop-entry l = record {
  decided : (t : RecordType) (a : Action) → has_point l.decided.bits t a ≡ is_decided (take l.entry-index l.entries) (One l.caller) t a;
  none : (right : Right) → IsWanted l.fn.wanted right → ¬ GrantsAmong (One l.caller) l.entries l.entry-index right;
}
