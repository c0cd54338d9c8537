use Rattle.std.proofs.Common.{Option, Some, None, IfSome}
use Rattle.grant_policy.specs.declared.action.Action.{Action}
use Rattle.grant_policy.specs.declared.grants.Regions.{Regions}
use Rattle.grant_policy.specs.Grants.{AreKnown}
use Rattle.grant_policy.proofs.grants.Grants.count_question.Goals as goal

of_action : (P : Action → Regions → Type 0) (action : Action) (found : Option Regions) → IfSome found (λ r. (a : Action) → P a r) → IfSome found (P action)
of_action P action None each = tt
of_action P action (Some r) each = each action

pub invariant_of-self-2 : goal.invariant_of-self-2
invariant_of-self-2 c =
    of_action (λ action r. AreKnown (record { rules = c.self.inside.policy.now; caller = c.self.inside.caller.now; action = action }) r.boundaries r.region r.known) c.self.inside.action c.of.result c.of.ensures
