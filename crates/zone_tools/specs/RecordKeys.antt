-- The laws of the order of keys, by which records are told apart (RFC 2136 section 1.1.1).
use Rattle.std.specs.Prelude.{refl}
use Rattle.std.specs.Ordering.{as_partial_cmp}
use Rattle.std.specs.Cmp.{IsEquivalence, IsPartialEquivalence, IsPartialOrder, eq_by_cmp_equiv, partial_equiv_from_equiv, partial_order_from_agreeing_total}
use Rattle.dns_data.specs.RecordOrder.{key_total}
use Rattle.zone_core.specs.Sets.{key_cmp, same_key}

pub same_key_equiv : IsEquivalence same_key
same_key_equiv = eq_by_cmp_equiv key_total

pub same_key_partial : IsPartialEquivalence same_key
same_key_partial = partial_equiv_from_equiv same_key_equiv

pub key_partial : IsPartialOrder same_key (as_partial_cmp key_cmp)
key_partial = partial_order_from_agreeing_total key_cmp key_total (λ x y. refl) (λ x y. refl)
