use Rattle.std.proofs.Common.{◌∙◌}
use Rattle.dns_data.proofs.GroupOrderLemmas.{one_less, passes, decides}
use Rattle.dns_data.proofs.order.cmp_ended_groups.Goals as goal

pub returns-in-Some-Some : goal.returns-in-Some-Some
returns-in-Some-Some c u v =
    let l = c.loop-our in
    let some = c.in-Some-Some in
    decides l.ours.now l.theirs.now some.our.now some.their.now some.field-0-1-0.now some.field-0-1-1.now some.ensures.cases.0 some.ensures'.cases.0 c.cmp_ended_group.result c.cmp_ended_group.ensures.decides c.cmp_ended_group.ensures.differs u v ∙ l.invariant.1 u v

pub loop-our-preserved : goal.loop-our-preserved
loop-our-preserved c =
    let l = c.loop-our in
    let some = c.in-Some-Some in (
      one_less l.ours.now l.theirs.now some.our.now some.their.now some.field-0-1-0.now some.field-0-1-1.now some.ensures.cases.0 some.ensures'.cases.0 l.invariant.0,
      λ u v. passes l.ours.now l.theirs.now some.our.now some.their.now some.field-0-1-0.now some.field-0-1-1.now some.ensures.cases.0 some.ensures'.cases.0 c.if-our-their.false u v ∙ l.invariant.1 u v,
    )
