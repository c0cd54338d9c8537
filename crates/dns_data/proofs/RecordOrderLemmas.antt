-- Records tie in record order exactly where they are the same.
use Rattle.std.proofs.Common.{◌≡◌, ◌≢◌, ◌↔◌, ℕ, inl, inr, refl, sym, ap, ◌∙◌}
use Rattle.std.specs.Prelude.{◌==◌, Some}
use Rattle.std.specs.List.{find}
use Rattle.std.specs.declared.cmp.Ordering.{Ordering}
use Rattle.std.specs.declared.cmp.Ordering.TheVariants.{Less, Equal, Greater}
use Rattle.std.specs.Ordering.{nat_cmp, ordering_then, is_eq}
use Rattle.std.specs.Cmp.{tied_itself}
use Rattle.std.specs.Cmp.Lexicographic.{nat_list_cmp_total}
use Rattle.dns_names.specs.Order.{canonical_cmp, canonical_total}
use Rattle.dns_names.proofs.KeyLaws.{three, tied, octets_exact}
use Rattle.dns_names.proofs.NameLemmas.{same_name-Decides}
use Rattle.dns_data.specs.declared.record.Record.{Record}
use Rattle.dns_data.specs.declared.record_type.RecordType.{RecordType}
use Rattle.dns_data.specs.declared.record_type.RecordType.TheVariants as types
use Rattle.dns_data.specs.declared.rdata.Data.{Data}
use Rattle.dns_data.specs.Rdata.{type_of, IsRdata, SameRecord}
use Rattle.dns_data.specs.Text.{data_text}
use Rattle.dns_data.specs.Types.{kept_types}
use Rattle.dns_data.specs.RecordOrder.{rank_of, data_order, record_order}
use Rattle.dns_data.proofs.ApartLaws.{one_text}
use Rattle.dns_data.proofs.KeptLaws.{same_Some}
use Rattle.dns_data.proofs.OrderLemmas.{by_octets, then_assoc}

-- ---- a place is the place of one type

rank_found : (t : RecordType) → find (λ u. rank_of u == rank_of t) kept_types ≡ Some t
rank_found types.A = refl
rank_found t = refl

pub one_rank : (t u : RecordType) → rank_of t ≡ rank_of u → t ≡ u
one_rank t u e = same_Some t u (sym (rank_found t) ∙ ap (λ (n : ℕ). find (λ v. rank_of v == n) kept_types) e ∙ rank_found u)

-- ---- records that tie

numbers_exact : (a b : ℕ) → nat_cmp a b ≡ Equal → a ≡ b
numbers_exact a b e = elim (three a b) [ inl l ↦ absurd (let no = sym l.0 ∙ e in cc) | inr r ↦ elim r [ inl same ↦ same | inr g ↦ absurd (let no = sym g.0 ∙ e in cc) ] ]

both_tied : (first second : Ordering) → ordering_then first second ≡ Equal → (first ≡ Equal) × (second ≡ Equal)
both_tied Less second e = absurd cc
both_tied Equal second e = (refl, e)
both_tied Greater second e = absurd cc

-- ---- data

abbrev pub by_type : Data → Data → Ordering
by_type a b = nat_cmp (rank_of (type_of a)) (rank_of (type_of b))

module _ (a b : Data) (is : IsRdata a) (also : IsRdata b) where
  ties_same : data_order a b ≡ Equal → a ≡ b
  ties_same e =
      let whole = both_tied (by_type a b) (by_octets (data_text a) (data_text b)) e in
      let types = one_rank (type_of a) (type_of b) (numbers_exact (rank_of (type_of a)) (rank_of (type_of b)) whole.0) in
      one_text a b is also types (octets_exact (data_text a) (data_text b) whole.1)

  same_ties : a ≡ b → data_order a b ≡ Equal
  same_ties same = rw (same, tied (rank_of (type_of b)), tied_itself nat_list_cmp_total (data_text b)) refl

  pub data_answers : (order : Ordering) → order ≡ data_order a b → (order ≡ Equal) ↔ (a ≡ b)
  data_answers order e = (λ even. ties_same (sym e ∙ even), λ same. e ∙ same_ties same)

-- ---- records

-- by owner, and then by data
pub record_is : (a b : Record) → ordering_then (canonical_cmp a.owner b.owner) (data_order a.rdata b.rdata) ≡ record_order a b
record_is a b = then_assoc (canonical_cmp a.owner b.owner) (by_type a.rdata b.rdata) (by_octets (data_text a.rdata) (data_text b.rdata))

module _ (a b : Record) where
  owners_same : canonical_cmp a.owner b.owner ≡ Equal → a.owner ≡ b.owner
  owners_same e = (same_name-Decides a.owner b.owner).0 (ap is_eq e)

  owners_tie : a.owner ≡ b.owner → canonical_cmp a.owner b.owner ≡ Equal
  owners_tie e = rw (e, tied_itself canonical_total b.owner) refl

  pub answers : canonical_cmp a.owner b.owner ≡ Equal → (order : Ordering) → (order ≡ Equal) ↔ (a.rdata ≡ b.rdata) → (order ≡ Equal) ↔ SameRecord a b
  answers owners order same = (λ e. (owners_same owners, same.0 e), λ both. same.1 both.1)

  pub differ_answers : (order : Ordering) → order ≡ canonical_cmp a.owner b.owner → order ≢ Equal → (order ≡ Equal) ↔ SameRecord a b
  differ_answers order is differ = (λ e. absurd (differ e), λ both. is ∙ owners_tie both.0)
