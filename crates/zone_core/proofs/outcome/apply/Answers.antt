use Rattle.std.proofs.Common.{IfOk, subst}
use Rattle.zone_core.specs.Zones.{ZoneOf}
use Rattle.zone_core.specs.Accounts.{Leaves}
use Rattle.zone_core.specs.declared.outcome.Outcome.{Outcome}
use Rattle.zone_core.proofs.outcome.apply.Goals as goal

pub returns-clause-left : goal.returns-clause-left
returns-clause-left c =
    subst (λ (z : ZoneOf). IfOk c.apply_owned.result (λ (o : Outcome). Leaves z c.args.update.now o.zone)) c.in_ok-try_copy.ensures c.apply_owned.ensures.left
