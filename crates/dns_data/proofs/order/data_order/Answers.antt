use Rattle.std.proofs.Common.{◌≡◌, sym, refl}
use Rattle.dns_data.proofs.RecordOrderLemmas.{by_type, data_answers}
use Rattle.dns_data.specs.Text.{data_text}
use Rattle.dns_data.proofs.OrderLemmas.{by_octets, tied_then}
use Rattle.dns_data.proofs.order.data_order.Goals as goal

pub returns-in-Equal-clause-same : goal.returns-in-Equal-clause-same
returns-in-Equal-clause-same c =
    let a = c.args.first.now in
    let b = c.args.second.now in
    let head : c.cmp-by_type.result ≡ by_type a b = rw (c.cmp-by_type.ensures, c.rank.ensures, c.rank-2.ensures, c.record_type.ensures.value, c.record_type-2.ensures.value) refl in
    data_answers a b c.record_type.ensures.rdata c.record_type-2.ensures.rdata c.cmp_rdata.result
    (rw c.cmp_rdata.ensures (tied_then (by_type a b) (by_octets (data_text a) (data_text b)) (rw (sym head) c.in-Equal.is)))
