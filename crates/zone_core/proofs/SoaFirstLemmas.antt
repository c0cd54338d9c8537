-- The SOA of a zone is its first record.
use Rattle.std.proofs.Common.{◌≡◌, ℕ, zero, suc, List, [], ◌∷◌, length, get_or, ◌<◌, Bool, true, false, cond, Option, Some, None, refl, sym, ap, subst, ◌∙◌, arith}
use Rattle.std.specs.declared.cmp.Ordering.{Ordering}
use Rattle.std.specs.declared.cmp.Ordering.TheVariants.{Less, Equal, Greater}
use Rattle.std.specs.Ordering.{nat_cmp, ordering_then, is_eq, is_lt, is_le}
use Rattle.std.specs.List.{filter}
use Rattle.std.specs.List.Sorted.{IsStrictlySortedBy}
use Rattle.std.specs.FinMap.{find}
use Rattle.std.specs.Cmp.Lexicographic.{slice_cmp}
use Rattle.std.proofs.lemmas.Bool.{false_from_ne_true}
use Rattle.std.proofs.lemmas.Bool.Decides.{nat_tests}
use Rattle.dns_data.specs.Text.{data_text}
use Rattle.dns_names.specs.Order.{canonical_cmp}
use Rattle.dns_names.proofs.NameLemmas.{is_within-Decides}
use Rattle.dns_data.specs.declared.record.Record.{Record}
use Rattle.dns_data.specs.declared.record_type.RecordType.TheVariants as types
use Rattle.dns_data.specs.Rdata.{type_of}
use Rattle.dns_data.proofs.RecordOrderLemmas.{one_rank}
use Rattle.zone_core.specs.Sets.{key_of, key_cmp, rank_of, keyed, record_order, set_of, IsIn, at}
use Rattle.zone_core.specs.Zones.{ZoneOf, IsSoaOf, soa_at, first_of}
use Rattle.zone_core.specs.Views.{zone_in, AreOfZone}
use Rattle.zone_core.proofs.SetLemmas.{name_self}
use Rattle.zone_core.proofs.RowLemmas.{get-set_of, first_in, found_has, listing-part}
use Rattle.zone_core.proofs.WithinLemmas.{not_before}

no_less : (n : ℕ) → nat_cmp n 0 ≡ Less → ⊥
no_less zero e = cc
no_less (suc n) e = absurd (let f = rw (three n) at e in cc)
  where
    three : (n : ℕ) → nat_cmp (suc n) 0 ≡ Greater
    three n = grind (arith, nat_tests)

zero_tie : (n : ℕ) → nat_cmp n 0 ≡ Equal → n ≡ 0
zero_tie zero e = refl
zero_tie (suc n) e = absurd (let f = rw (three n) at e in cc)
  where
    three : (n : ℕ) → nat_cmp (suc n) 0 ≡ Greater
    three n = grind (arith, nat_tests)

-- an owner that is not before the origin, and a type that is not before SOA
pub parts_less : (a b c : Ordering) → is_lt a ≡ false → ordering_then (ordering_then a b) c ≡ Less → (a ≡ Equal) × (is_le b ≡ true)
parts_less Less b c h e = absurd cc
parts_less Equal Less c h e = (refl, refl)
parts_less Equal Equal c h e = (refl, refl)
parts_less Equal Greater c h e = absurd cc
parts_less Greater b c h e = absurd cc

pub le_zero : (n : ℕ) → is_le (nat_cmp n 0) ≡ true → n ≡ 0
le_zero n e = by_order (nat_cmp n 0) e (no_less n) (zero_tie n)
  where
    by_order : (o : Ordering) → is_le o ≡ true → (o ≡ Less → ⊥) → (o ≡ Equal → n ≡ 0) → n ≡ 0
    by_order Less h f g = absurd (f refl)
    by_order Equal h f g = g refl
    by_order Greater h f g = absurd cc

same_rank : {A : Type 0} (t : Bool) (r x : Record) (o : Option Record) → cond t (Some r) o ≡ Some x → (r ≡ x → A) → (o ≡ Some x → A) → A
same_rank true r x o e here later = here cc
same_rank false r x o e here later = later e

module _ (origin : List (List ℕ)) (rs : List Record) (is : AreOfZone origin rs) where
  abbrev zone : ZoneOf
  zone = zone_in origin rs

  module _ (soa : Record) (one : IsSoaOf zone soa) where
    -- a record before the SOA would be an SOA
    before_none : (r : Record) → IsIn r (set_of rs) → record_order r soa ≡ Less → r ≡ soa
    before_none r here less =
        let inside = is.zone.owners r here in
        let low : is_lt (canonical_cmp r.owner soa.owner) ≡ false =
        rw one.origin (false_from_ne_true (is_lt (canonical_cmp r.owner origin)) (λ t. let f = not_before origin r.owner t in let c : true ≡ false = sym ((is_within-Decides r.owner origin).1 inside) ∙ f in absurd cc)) in
        let both = parts_less (canonical_cmp r.owner soa.owner) (nat_cmp (rank_of (type_of r.rdata)) (rank_of (type_of soa.rdata))) (slice_cmp nat_cmp (data_text r.rdata) (data_text soa.rdata)) low less in
        let rank : rank_of (type_of r.rdata) ≡ 0 = le_zero (rank_of (type_of r.rdata)) (rw one.type at both.1) in
        one.alone r here (one_rank (type_of r.rdata) types.Soa rank)

-- the first record of a row that makes a zone
pub head_is : (origin : List (List ℕ)) (rs : List Record) → AreOfZone origin rs → (soa : Record) → IsSoaOf (zone_in origin rs) soa → (rest : List Record) × (rs ≡ soa ∷ rest)
unfolding IsStrictlySortedBy
head_is origin [] is soa one = absurd (let f : None ≡ Some soa = sym (get-set_of [] (key_of soa)) ∙ one.here in cc)
head_is origin (r ∷ rest) is soa one =
    let found : find key_cmp (key_of soa) (keyed (r ∷ rest)) ≡ Some soa = sym (get-set_of (r ∷ rest) (key_of soa)) ∙ one.here in
    let same : r ≡ soa =
    same_rank (is_eq (key_cmp (key_of soa) (key_of r))) r soa (find key_cmp (key_of soa) (keyed rest)) found (λ x. x)
    (λ later. before_none origin (r ∷ rest) is soa one r (first_in r rest) (found_has (λ s. record_order r s ≡ Less) rest (key_of soa) soa is.order.0 later)) in
    (rest, ap (λ x. x ∷ rest) same)

pub soa_first : (origin : List (List ℕ)) (rs : List Record) → AreOfZone origin rs → (soa : Record) → IsSoaOf (zone_in origin rs) soa → soa_at origin (set_of rs) ≡ Some soa
soa_first origin rs is soa one =
    let head = head_is origin rs is soa one in
    let test : at origin types.Soa (key_of soa) ≡ true = rw (one.origin, one.type, name_self origin) refl in
    ap first_of (listing-part (at origin types.Soa) rs is.order) ∙ ap (λ xs. first_of (filter (λ r. at origin types.Soa (key_of r)) xs)) head.1
    ∙ ap (λ b. first_of (cond b (soa ∷ filter (λ r. at origin types.Soa (key_of r)) head.0) (filter (λ r. at origin types.Soa (key_of r)) head.0))) test

pub zone_head : (origin : List (List ℕ)) (rs : List Record) → AreOfZone origin rs → (soa : Record) × IsSoaOf (zone_in origin rs) soa × ((rest : List Record) × (rs ≡ soa ∷ rest))
zone_head origin rs is = (is.zone.soa.0, is.zone.soa.1, head_is origin rs is is.zone.soa.0 is.zone.soa.1)

pub some_row : (origin : List (List ℕ)) (rs : List Record) → AreOfZone origin rs → 0 < length rs
some_row origin rs is = let head = zone_head origin rs is in rw (head.2.1) (positive (length head.2.0))
  where
    positive : (n : ℕ) → 0 < suc n
    positive n = omega arith

-- the record at the front is the SOA
pub front_is : (origin : List (List ℕ)) (rs : List Record) → AreOfZone origin rs → (r : Record) → r ≡ get_or rs 0 r → IsSoaOf (zone_in origin rs) r
front_is origin rs is r front =
    let head = zone_head origin rs is in
    subst (IsSoaOf (zone_in origin rs)) (sym (front ∙ ap (λ (xs : List Record). get_or xs 0 r) head.2.1)) head.1
