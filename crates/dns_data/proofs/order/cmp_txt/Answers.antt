use Rattle.std.proofs.Common.{sym}
use Rattle.dns_names.proofs.TextOrderLemmas.{was_even}
use Rattle.dns_data.proofs.StringOrderLemmas.{texts_order, string_passes}
use Rattle.dns_data.proofs.order.cmp_txt.Goals as goal

pub loop-order-init : goal.loop-order-init
loop-order-init c =
    rw (c.as_slice-ours.ensures.strings, c.as_slice-theirs.ensures.strings) (sym (texts_order c.args.first.now c.args.second.now))

pub loop-order-preserved : goal.loop-order-preserved
loop-order-preserved c =
    let l = c.loop-order in
    let some = c.in-Some-Some in
    rw (c.cmp_strings-order.ensures, c.octets.ensures.octets, c.octets-in-Some-Some.ensures.octets)
    (string_passes l.order _ l.ours.now l.theirs.now l.invariant (was_even l.order c.is_eq.result c.is_eq.ensures c.loop-order-test.true) some.our.now some.their.now some.our_rest.now some.their_rest.now some.ensures.cases.0 some.ensures'.cases.0 c.octets.ensures.string c.octets-in-Some-Some.ensures.string)
