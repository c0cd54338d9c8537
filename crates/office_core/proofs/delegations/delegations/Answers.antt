use Rattle.std.proofs.Common.{IfSome, sym, subst}
use Rattle.zone_core.specs.Sets.{InOrder}
use Rattle.office_core.proofs.delegations.delegations.Goals as goal

pub delegation_report-requires : goal.delegation_report-requires
delegation_report-requires g c =
    subst InOrder (sym c.deref.ensures.value) (subst (λ f. IfSome f (λ rs. InOrder rs.items)) c.in-Some.is c.in_ok-records.ensures.order)
