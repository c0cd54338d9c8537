use Rattle.dns_data.specs.declared.record_type.RecordType.TheVariants as types
use Rattle.dns_data.specs.Types.{fields_of}
use Rattle.dns_data.proofs.OrderLemmas.{values_order}
use Rattle.dns_data.proofs.order.cmp_srv.Goals as goal

pub returns : goal.returns
returns c =
    let srv = c.in-Srv-Srv in
    rw (c.then-3.ensures, c.then-2.ensures, c.then.ensures, c.cmp_decimals.ensures, c.cmp_decimals-2.ensures, c.cmp_decimals-3.ensures, c.cmp_text.ensures, c.from.ensures, c.from-2.ensures, c.from-3.ensures, c.from-4.ensures, c.from-5.ensures, c.from-6.ensures, srv.is-0, srv.is-1)
    (values_order (fields_of types.Srv) (srv.priority, (srv.weight, (srv.port, (srv.target, tt)))) (srv.other_priority, (srv.other_weight, (srv.other_port, (srv.other_target, tt)))) tt tt)
