use Rattle.dns_data.specs.declared.record_type.RecordType.TheVariants as types
use Rattle.dns_data.specs.Types.{fields_of}
use Rattle.dns_data.proofs.OrderLemmas.{values_order}
use Rattle.dns_data.proofs.order.cmp_ds.Goals as goal

pub returns : goal.returns
returns c =
    let ds = c.in-Ds-Ds in
    rw (c.then-3.ensures, c.then-2.ensures, c.then.ensures, c.cmp_decimals.ensures, c.cmp_decimals-2.ensures, c.cmp_decimals-3.ensures, c.cmp.ensures, c.octets.ensures.octets, c.octets-2.ensures.octets, c.from.ensures, c.from-2.ensures, c.from-3.ensures, c.from-4.ensures, c.from-5.ensures, c.from-6.ensures, ds.is-0, ds.is-1)
    (values_order (fields_of types.Ds) (ds.key_tag, (ds.algorithm, (ds.digest_type, ds.digest))) (ds.other_key_tag, (ds.other_algorithm, (ds.other_digest_type, ds.other_digest))) c.octets.ensures.digest c.octets-2.ensures.digest)
