-- When the fields of two SOA records are the same: each of them is.
use Rattle.std.specs.Prelude.{Bool, nat_eq}
use Rattle.std.specs.Ordering.{eq_of_both, on}
use Rattle.std.specs.Cmp.{IsEquivalence, IsPartialEquivalence, partial_equiv_from_equiv, on_equiv, and_equiv, nat_eq_equiv}
use Rattle.dns_names.specs.Order.{same_name, same_name_equiv}
use Rattle.dns_data.specs.declared.soa.SoaFields.{SoaFields}

abbrev pub same_soa : SoaFields → SoaFields → Bool
same_soa =
    eq_of_both (on (λ s. s.mname) same_name)
    (eq_of_both (on (λ s. s.rname) same_name)
    (eq_of_both (on (λ s. s.serial.0) nat_eq)
    (eq_of_both (on (λ s. s.refresh.0) nat_eq)
    (eq_of_both (on (λ s. s.retry.0) nat_eq)
    (eq_of_both (on (λ s. s.expire.0) nat_eq) (on (λ s. s.minimum.0) nat_eq))))))

pub same_soa_equiv : IsEquivalence same_soa
same_soa_equiv =
    and_equiv (on_equiv (λ s. s.mname) same_name_equiv)
    (and_equiv (on_equiv (λ s. s.rname) same_name_equiv)
    (and_equiv (on_equiv (λ s. s.serial.0) nat_eq_equiv)
    (and_equiv (on_equiv (λ s. s.refresh.0) nat_eq_equiv)
    (and_equiv (on_equiv (λ s. s.retry.0) nat_eq_equiv)
    (and_equiv (on_equiv (λ s. s.expire.0) nat_eq_equiv) (on_equiv (λ s. s.minimum.0) nat_eq_equiv))))))

pub same_soa_partial : IsPartialEquivalence same_soa
same_soa_partial = partial_equiv_from_equiv same_soa_equiv
