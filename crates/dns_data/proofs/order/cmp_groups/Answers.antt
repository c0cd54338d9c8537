use Rattle.dns_data.proofs.GroupOrderLemmas.{lasts_decide}
use Rattle.dns_data.proofs.order.cmp_groups.Goals as goal

pub returns-in-Some-Some : goal.returns-in-Some-Some
returns-in-Some-Some c =
    let some = c.in-Some-Some in
    rw (c.then.ensures, c.cmp-last.ensures, c.as_slice.ensures.value, c.as_slice-in-Some-Some.ensures.value, c.group_text.ensures, c.group_text-in-Some-Some.ensures)
    (lasts_decide c.cmp_ended_groups.result c.args.first.now c.args.second.now some.ours.now some.theirs.now some.our.now some.their.now some.ensures.cases.0 some.ensures'.cases.0 c.cmp_ended_groups.ensures)
