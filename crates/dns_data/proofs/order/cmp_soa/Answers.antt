use Rattle.dns_data.specs.declared.record_type.RecordType.TheVariants as types
use Rattle.dns_data.specs.Types.{fields_of}
use Rattle.dns_data.specs.Rdata.{soa_values}
use Rattle.dns_data.proofs.OrderLemmas.{values_order}
use Rattle.dns_data.proofs.order.cmp_soa.Goals as goal

pub returns : goal.returns
returns c =
    rw (c.then-6.ensures, c.then-5.ensures, c.then-4.ensures, c.then-3.ensures, c.then-2.ensures, c.then.ensures, c.cmp_text.ensures, c.cmp_text-2.ensures, c.cmp_decimals.ensures, c.cmp_decimals-2.ensures, c.cmp_decimals-3.ensures, c.cmp_decimals-4.ensures, c.cmp_decimals-5.ensures)
    (values_order (fields_of types.Soa) (soa_values c.args.first.now) (soa_values c.args.second.now) tt tt)
