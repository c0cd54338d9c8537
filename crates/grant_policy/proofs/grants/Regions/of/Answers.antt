use Rattle.grant_policy.specs.Grants.{GrantsOf}
use Rattle.grant_policy.proofs.GrantLemmas.{none_known}
use Rattle.grant_policy.proofs.grants.Regions.of.Goals as goal

pub returns-in-Ok : goal.returns-in-Ok
returns-in-Ok c = λ action.
    let grants : GrantsOf = record { rules = c.args.policy.now; caller = c.args.caller.now; action = action } in
    none_known grants c.in-Ok.boundaries 0 c.nothing.result (rw c.rules.ensures.rules at c.in-Ok.ensures) c.nothing.ensures
