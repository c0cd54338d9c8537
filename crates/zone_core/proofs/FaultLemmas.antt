-- What is wrong with a row as a zone, told by tests of its records.
use Rattle.std.proofs.Common.{◌≡◌, ◌≢◌, ◌<◌, ◌≤◌, ℕ, List, length, Bool, true, false, not, arith, ◌&&◌, ◌==◌, nat_lt, if◌then◌else◌, Option, Some, None, sym, ap, ◌∙◌}
use Rattle.std.specs.List.{list_any}
use Rattle.std.proofs.lemmas.Bool.{ne_eqb}
use Rattle.std.proofs.lemmas.Bool.Decides.{nat_tests}
use Rattle.dns_data.specs.declared.record.Record.{Record}
use Rattle.dns_data.specs.declared.record_type.RecordType.TheVariants as types
use Rattle.zone_core.specs.declared.faults.ZoneFault.{ZoneFault}
use Rattle.zone_core.specs.declared.faults.ZoneFault.TheVariants.{RootOrigin, OutOfZone, SoaNotAtOrigin, NoSoa, TwoSoa, NoOriginNs, TwoCnames, CnameAndOther}
use Rattle.zone_core.specs.Sets.{key_of, set_of, InOrder, count, has, at_name, at}
use Rattle.zone_core.specs.Zones.{fault_in, is_soa, is_outside, is_of_two_cnames, is_cname_beside_other}
use Rattle.zone_core.proofs.RowLemmas.{has_is}

-- the first fault, by what each test says
abbrev pub fault_by : Bool → Bool → Bool → Bool → Bool → Bool → Bool → Bool → Option ZoneFault
fault_by root out elsewhere none several ns two cname_and_other =
    if root then Some RootOrigin
    else (if out then Some OutOfZone
    else (if elsewhere then Some SoaNotAtOrigin
    else (if none then Some NoSoa
    else (if several then Some TwoSoa
    else (if not ns then Some NoOriginNs
    else (if two then Some TwoCnames
    else (if cname_and_other then Some CnameAndOther else None)))))))

module _ (origin : List (List ℕ)) (rs : List Record) where
  abbrev pub outs : Bool
  outs = list_any (λ r. is_outside origin (key_of r)) rs

  abbrev pub elsewheres : Bool
  elsewheres = list_any (λ r. is_soa (key_of r) && not (at_name origin (key_of r))) rs

  abbrev pub two_cnames : Bool
  two_cnames = list_any (λ r. is_of_two_cnames (set_of rs) (key_of r)) rs

  abbrev pub cnames_and_others : Bool
  cnames_and_others = list_any (λ r. is_cname_beside_other (set_of rs) (key_of r)) rs

  pub fault_of_row : InOrder rs → fault_by (length origin == 0) outs elsewheres (count (set_of rs) is_soa == 0) (nat_lt 1 (count (set_of rs) is_soa)) (has (set_of rs) (at origin types.Ns)) two_cnames cnames_and_others ≡ fault_in origin (set_of rs)
  fault_of_row order =
      let set = set_of rs in
      λ i. fault_by (length origin == 0) (sym (has_is (is_outside origin) rs order) i) (sym (has_is (λ k. is_soa k && not (at_name origin k)) rs order) i) (count set is_soa == 0) (nat_lt 1 (count set is_soa)) (has set (at origin types.Ns))
      (sym (has_is (is_of_two_cnames set) rs order) i) (sym (has_is (is_cname_beside_other set) rs order) i)

-- ---- numbers of SOA records

pub no_soa : (n m : ℕ) → n ≡ m → n ≡ 0 → true ≡ (m == 0)
no_soa n m e zero = sym (ap (λ x. x == 0) zero) ∙ ap (λ x. x == 0) e

pub some_soa : (n m : ℕ) → n ≡ m → n ≢ 0 → false ≡ (m == 0)
some_soa n m e more = sym (ne_eqb n 0 more) ∙ ap (λ x. x == 0) e

pub several_soas : (n m : ℕ) → n ≡ m → 1 < n → true ≡ nat_lt 1 m
several_soas n m e more = sym (lt_ltb n more) ∙ ap (nat_lt 1) e
  where
    lt_ltb : (n : ℕ) → 1 < n → nat_lt 1 n ≡ true
    lt_ltb n h = grind (arith, nat_tests)

pub one_soa : (n m : ℕ) → n ≡ m → n ≤ 1 → false ≡ nat_lt 1 m
one_soa n m e few = sym (le_ltb n few) ∙ ap (nat_lt 1) e
  where
    le_ltb : (n : ℕ) → n ≤ 1 → nat_lt 1 n ≡ false
    le_ltb n h = grind (arith, nat_tests)
