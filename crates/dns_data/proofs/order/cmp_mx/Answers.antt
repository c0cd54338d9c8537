use Rattle.dns_data.specs.declared.record_type.RecordType.TheVariants as types
use Rattle.dns_data.specs.Types.{fields_of}
use Rattle.dns_data.proofs.OrderLemmas.{values_order}
use Rattle.dns_data.proofs.order.cmp_mx.Goals as goal

pub returns : goal.returns
returns c =
    let mx = c.in-Mx-Mx in
    rw (c.then.ensures, c.cmp_decimals.ensures, c.cmp_text.ensures, c.from.ensures, c.from-2.ensures, mx.is-0, mx.is-1)
    (values_order (fields_of types.Mx) (mx.preference, (mx.exchange, tt)) (mx.other_preference, (mx.other_exchange, tt)) tt tt)
