use Rattle.std.proofs.Common.{◌≡◌, ◌⊎◌, ◌↔◌, ℕ, ◌<◌, true, false, length, get_or, take}
use Rattle.dns_data.specs.declared.record_type.RecordType.{RecordType}
use Rattle.grant_policy.specs.declared.action.Action.{Action}
use Rattle.policy_tools.specs.Points.{has_point}
use Rattle.policy_tools.specs.Claims.{Hits, is_decided}
use Rattle.policy_tools.proofs.taking.mark.Given as goal

-- the rules of the entries so far are marked, and their pairs are decided
abbrev pub invariant-loop-entry : goal.invariant-loop-entry
invariant-loop-entry l = record {
  marks : (j : ℕ) → j < length l.found → (get_or l.found j false ≡ true) ↔ ((get_or l.initial.found j false ≡ true) ⊎ Hits l.claim l.entries l.entry-index j);
  decided : (t : RecordType) (a : Action) → has_point l.decided.bits t a ≡ is_decided (take l.entry-index l.entries) l.claim.rule.now.callers t a;
}
