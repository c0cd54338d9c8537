use Rattle.std.proofs.Common.{IfSome, sym, subst}
use Rattle.dns_data.specs.Rdata.{type_of}
use Rattle.grant_policy.specs.Grants.{includes}
use Rattle.zone_core.specs.Sets.{InOrder}
use Rattle.zone_core.proofs.RowLemmas.{InOrder-filter}
use Rattle.office_store.proofs.cache.included_of.Goals as goal

pub returns-clause-order : goal.returns-clause-order
returns-clause-order c =
    let grants = c.args.grants.now in
    let rows = c.in-Some.records.items in
    subst InOrder (sym c.in_ok-included.ensures.value)
    (InOrder-filter (λ r. includes grants r.owner (type_of r.rdata)) rows (subst (λ f. IfSome f (λ rs. InOrder rs.items)) c.in-Some.is c.requires))
