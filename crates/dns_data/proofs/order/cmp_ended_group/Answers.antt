use Rattle.dns_data.proofs.GroupOrderLemmas.{group_decides, groups_differ}
use Rattle.dns_data.proofs.order.cmp_ended_group.Goals as goal

pub returns-clause-decides : goal.returns-clause-decides
returns-clause-decides c u v =
    rw (c.cmp.ensures, c.as_slice.ensures.value, c.as_slice-2.ensures.value, c.ended_group_text.ensures, c.ended_group_text-2.ensures)
    (group_decides c.args.first c.args.second c.ranges.first.fits c.ranges.second.fits c.requires u v)

pub returns-clause-differs : goal.returns-clause-differs
returns-clause-differs c =
    rw (c.cmp.ensures, c.as_slice.ensures.value, c.as_slice-2.ensures.value, c.ended_group_text.ensures, c.ended_group_text-2.ensures)
    (groups_differ c.args.first c.args.second c.ranges.first.fits c.ranges.second.fits c.requires)
