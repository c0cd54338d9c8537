-- What `==` says of records and their data.
use Rattle.std.proofs.Common.{◌≡◌, ◌↔◌, ℕ, Bool, true, false, IsTrue, refl, sym, ap, subst, ◌∙◌, eqb-true}
use Rattle.std.specs.Bool.{Decides}
use Rattle.std.specs.Prelude.{◌&&◌, ◌==◌, not, bytes_eq}
use Rattle.std.specs.Cmp.Lexicographic.{pointwise}
use Rattle.dns_names.specs.Order.{same_name}
use Rattle.std.proofs.lemmas.Bool.Decides.{Decides-eqb}
use Rattle.std.proofs.lemmas.Slice.Eq.{bytes_eq-Decides, slice_eq-Decides}
use Rattle.std.specs.declared.net.ipv4_addr.Ipv4Addr.{Ipv4Addr}
use Rattle.std.specs.declared.net.ipv6_addr.Ipv6Addr.{Ipv6Addr}
use Rattle.dns_names.proofs.NameLemmas.{same_name-Decides}
use Rattle.dns_data.specs.declared.record.Record.{Record}
use Rattle.dns_data.specs.declared.rdata.Data.{Data}
use Rattle.dns_data.specs.declared.record_type.RecordType.{RecordType}
use Rattle.dns_data.specs.declared.record_type.RecordType.TheVariants as types
use Rattle.dns_data.specs.contracts.rdata.DataPartialEq.TheImpl as of_data
use Rattle.dns_data.specs.Fields.{Kind, Name, Number, Seconds, Ipv4, Ipv6, Fields, End, ◌▸◌, Strings, Digest, Value, Values}
use Rattle.dns_data.specs.Types.{type_number, fields_of}
use Rattle.dns_data.specs.Rdata.{data_with, SameRecord}
use Rattle.dns_data.proofs.KeptLaws.{one_number}
use Rattle.dns_data.proofs.DataLaws.{each_data}

-- ---- tests of several parts

both : {P Q : Type 0} (s t : Bool) → Decides s P → Decides t Q → Decides (s && t) (P × Q)
both true t p q = (λ e. (p.0 refl, q.0 e), λ h. q.1 h.1)
both false t p q = (λ e. absurd cc, λ h. p.1 h.0)

via : {P Q : Type 0} (t : Bool) → Decides t P → (P → Q) → (Q → P) → Decides t Q
via t d to from = (λ e. to (d.0 e), λ q. d.1 (from q))

untrue : (s : Bool) → s ≡ false → IsTrue s → ⊥
untrue true e h = cc
untrue false e h = cc

-- values of two variants, by the numbers of these, are not the same
pub apart : {A : Type 0} (variant : A → ℕ) (s : Bool) (a b : A) → s ≡ false → (variant a == variant b) ≡ false → Decides s (a ≡ b)
apart variant s a b differ other =
    (λ e. absurd (untrue s differ e), λ e. absurd (untrue (variant a == variant b) other ((Decides-eqb (variant a) (variant b)).1 (ap variant e))))

-- ---- values of fields

abbrev same_value : (kind : Kind) → Value kind → Value kind → Bool
same_value Name v w = same_name v w
same_value (Number width) v w = v == w
same_value Seconds v w = v == w
same_value Ipv4 v w = bytes_eq v.octets w.octets
same_value Ipv6 v w = bytes_eq v.segments w.segments

value_decides : (kind : Kind) (v w : Value kind) → Decides (same_value kind v w) (v ≡ w)
value_decides Name v w = same_name-Decides v w
value_decides (Number width) v w = Decides-eqb v w
value_decides Seconds v w = Decides-eqb v w
value_decides Ipv4 v w = via _ (bytes_eq-Decides v.octets w.octets) (λ e. λ i. record { octets = e i }) (λ e. ap (λ (a : Ipv4Addr). a.octets) e)
value_decides Ipv6 v w = via _ (bytes_eq-Decides v.segments w.segments) (λ e. λ i. record { segments = e i }) (λ e. ap (λ (a : Ipv6Addr). a.segments) e)

abbrev same_values : (fields : Fields) → Values fields → Values fields → Bool
same_values End v w = true
same_values (kind ▸ End) v w = same_value kind v.0 w.0
same_values (kind ▸ fields) v w = same_value kind v.0 w.0 && same_values fields v.1 w.1
same_values Strings v w = pointwise bytes_eq v w
same_values Digest v w = bytes_eq v w

abbrev Decided : (fields : Fields) → Values fields → Values fields → Type 0
Decided fields v w = Decides (same_values fields v w) (v ≡ w)

one_more : (kind : Kind) (fields : Fields) (v w : Value kind × Values fields) → Decided fields v.1 w.1 → Decided (kind ▸ fields) v w
one_more kind End v w rest = via _ (value_decides kind v.0 w.0) (λ e. λ i. (e i, tt)) (λ e. ap (λ (x : Value kind × Values End). x.0) e)
one_more kind fields v w rest =
    via _ (both _ _ (value_decides kind v.0 w.0) rest) (λ e. λ i. (e.0 i, e.1 i))
    (λ e. (ap (λ (x : Value kind × Values fields). x.0) e, ap (λ (x : Value kind × Values fields). x.1) e))

values_decide : (fields : Fields) (v w : Values fields) → Decided fields v w
values_decide End v w = (λ e. refl, λ e. refl)
values_decide (kind ▸ fields) v w = one_more kind fields v w (values_decide fields v.1 w.1)
values_decide Strings v w = slice_eq-Decides bytes_eq-Decides v w _ refl
values_decide Digest v w = bytes_eq-Decides v w

-- ---- data

abbrev same_data : Data → Data → Bool
same_data a b = of_data.ghosts.eq a b

-- of one type: the test of their values
same_with : (t : RecordType) (v w : Values (fields_of t)) → same_data (data_with t v) (data_with t w) ≡ same_values (fields_of t) v w
same_with types.A v w = refl
same_with t v w = refl

-- of two types: none
other_types : (t u : RecordType) (v : Values (fields_of t)) (w : Values (fields_of u)) → (not (type_number t == type_number u) && same_data (data_with t v) (data_with u w)) ≡ false
other_types types.A types.A v w = refl
other_types t types.A v w = refl
other_types t u v w = refl

same_itself : (a : Data) → same_data a a ≡ true
same_itself = each_data (λ d. same_data d d ≡ true) (λ t v. same_with t v v ∙ (values_decide (fields_of t) v v).1 refl)

are_one : (t u : RecordType) (v : Values (fields_of t)) (w : Values (fields_of u)) → same_data (data_with t v) (data_with u w) ≡ true → data_with t v ≡ data_with u w
are_one t u v w yes' = by_number (type_number t == type_number u) refl
  where
    At : RecordType → Type 0
    At k = (x : Values (fields_of k)) → same_data (data_with t v) (data_with k x) ≡ true → data_with t v ≡ data_with k x

    here : At t
    here x is = ap (data_with t) ((values_decide (fields_of t) v x).0 (sym (same_with t v x) ∙ is))

    by_number : (b : Bool) → (type_number t == type_number u) ≡ b → data_with t v ≡ data_with u w
    by_number true e = subst At (one_number t u (eqb-true (type_number t) (type_number u) e)) here w yes'
    by_number false e =
        let never = sym (ap (λ (b : Bool). not b && same_data (data_with t v) (data_with u w)) e) ∙ other_types t u v w in
        absurd (let both = sym yes' ∙ never in cc)

pub data_decides : (a b : Data) → Decides (of_data.ghosts.eq a b) (a ≡ b)
data_decides a b = (
  each_data (λ c. same_data c b ≡ true → c ≡ b) (λ t v. each_data (λ d. same_data (data_with t v) d ≡ true → data_with t v ≡ d) (λ u w. are_one t u v w) b) a,
  λ same. subst (λ (d : Data). same_data a d ≡ true) same (same_itself a),
)

-- ---- records

pub same_then : (a b : Record) (s t : Bool) → s ≡ true → Decides s (a.owner ≡ b.owner) → Decides t (a.rdata ≡ b.rdata) → IsTrue t ↔ SameRecord a b
same_then a b s t e p q = (λ h. (p.0 e, q.0 h), λ h. q.1 h.1)

pub same_else : (a b : Record) (s : Bool) → s ≡ false → Decides s (a.owner ≡ b.owner) → IsTrue s ↔ SameRecord a b
same_else a b s e p = (λ h. absurd (untrue s e h), λ h. p.1 h.0)
