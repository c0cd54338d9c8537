-- The records of hosts whose addresses occur more than once.
use Rattle.std.proofs.Common.{◌≡◌, ◌≢◌, ℕ, zero, suc, ◌+◌, ◌-◌, ◌<◌, ◌≤◌, Bool, true, false, not, cond, ◌==◌, ◌&&◌, List, [], ◌∷◌, ◌++◌, length, get_or, take, refl, sym, ap, subst, ◌∙◌, arith, inl, inr}
use Rattle.std.specs.List.{AllByRecursion, Contains, filter}
use Rattle.std.specs.List.Sorted.{IsPermutation, IsSorted, IsNonDecreasingBy}
use Rattle.std.proofs.lemmas.Bool.{eq-eqb}
use Rattle.std.proofs.lemmas.List.{append-nil, append_assoc}
use Rattle.std.proofs.lemmas.List.Sorted.{Contains-permutation, IsPermutation-sym, IsNonDecreasingBy-from_sort}
use Rattle.dns_data.specs.declared.record.Record.{Record}
use Rattle.dns_data.specs.declared.rdata.Data.{Data}
use Rattle.dns_data.specs.declared.rdata.Data.TheVariants.{A, Aaaa}
use Rattle.dns_data.specs.Rdata.{IsRecord}
use Rattle.zone_core.proofs.MetLemmas.{Among, among_of, of_among, among_append}
use Rattle.zone_tools.specs.HostNames.{is_wildcard}
use Rattle.zone_tools.specs.ReverseNames.{IsPlaceOf}
use Rattle.zone_tools.specs.SharedAddresses.{HasPlace, IsShared, AreShared, HaveRepeated, address_number, is_address, if_same_number, is_host_address, number_order, same_neighbours}
use Rattle.zone_tools.proofs.PointerLemmas.{all_of, all_at}
use Rattle.zone_tools.proofs.SharedLemmas.{filter_parts, in_filter}

abbrev number : Record → ℕ
number r = address_number r.rdata

-- ---- neighbours as far as a loop has come

neighbours_more : (rs : List Record) (k : ℕ) (d e : Record) → suc k < length rs
    → same_neighbours (take (suc (suc k)) rs) ≡ same_neighbours (take (suc k) rs) ++ if_same_number (get_or rs k d) (get_or rs (suc k) e)
neighbours_more [] k d e lt = absurd (omega (arith, lt))
neighbours_more (x ∷ []) k d e lt = absurd (omega (arith, lt))
neighbours_more (x ∷ y ∷ rs) zero d e lt = append-nil (if_same_number x y)
neighbours_more (x ∷ y ∷ rs) (suc k) d e lt =
    ap (λ (zs : List Record). if_same_number x y ++ zs) (neighbours_more (y ∷ rs) k d e (omega (arith, lt)))
    ∙ sym (append_assoc (if_same_number x y) (same_neighbours (take (suc k) (y ∷ rs))) (if_same_number (get_or (y ∷ rs) k d) (get_or (y ∷ rs) (suc k) e)))

pub neighbours_at : (rs : List Record) (at : ℕ) (d e : Record) → 1 ≤ at → at < length rs
    → same_neighbours (take (at + 1) rs) ≡ same_neighbours (take at rs) ++ if_same_number (get_or rs (at - 1) d) (get_or rs at e)
neighbours_at rs zero d e low high = absurd (omega (arith, low))
neighbours_at rs (suc k) d e low high =
    let next : suc k + 1 ≡ suc (suc k) = omega arith in
    let last : k ≡ suc k - 1 = omega arith in
    ap (λ (n : ℕ). same_neighbours (take n rs)) next
    ∙ (neighbours_more rs k d e high ∙ ap (λ (n : ℕ). same_neighbours (take (suc k) rs) ++ if_same_number (get_or rs n d) (get_or rs (suc k) e)) last)

-- ---- neighbours are of the records

same_are : (x y r : Record) → Among r (if_same_number x y) → Among r (x ∷ y ∷ [])
same_are x y r a = by_test (number x == number y) a
  where
    by_test : (b : Bool) → Among r (cond b (x ∷ y ∷ []) []) → Among r (x ∷ y ∷ [])
    by_test true a = a
    by_test false a = absurd a

neighbours_are : (rs : List Record) (r : Record) → Among r (same_neighbours rs) → Among r rs
neighbours_are [] r a = absurd a
neighbours_are (x ∷ []) r a = absurd a
neighbours_are (x ∷ y ∷ rs) r a =
    (elim ((among_append (if_same_number x y) (same_neighbours (y ∷ rs)) r).0 a) [
      | inl same ↦ of_two (same_are x y r same)
      | inr later ↦ inr (neighbours_are (y ∷ rs) r later)
    ])
  where
    of_two : Among r (x ∷ y ∷ []) → Among r (x ∷ y ∷ rs)
    of_two (inl e) = inl e
    of_two (inr (inl e)) = inr (inl e)
    of_two (inr (inr none)) = absurd none

-- ---- of two with one number both are neighbours

same_there : (x y r : Record) → number x ≡ number y → Among r (x ∷ y ∷ []) → Among r (if_same_number x y)
same_there x y r e a = subst (λ (b : Bool). Among r (cond b (x ∷ y ∷ []) [])) (sym (eq-eqb (number x) (number y) e)) a

abbrev Rise : List Record → Type 0
Rise = IsNonDecreasingBy number

tail_rises : (x : Record) (rs : List Record) → Rise (x ∷ rs) → Rise rs
tail_rises x rs up i j d le lt = up (suc i) (suc j) d (omega (arith, le)) (omega (arith, lt))

least : (x : Record) (rs : List Record) (r : Record) → Rise (x ∷ rs) → Among r rs → number x ≤ number r
least x rs r up a =
    let c = of_among rs r a in
    let le = up 0 (suc c.0) r (omega arith) (omega (arith, c.1)) in
    subst (λ (s : Record). number x ≤ number s) c.2 le

between : (x y r : Record) → number x ≤ number y → number y ≤ number r → number x ≡ number r → number x ≡ number y
between x y r low high e = omega (arith, low, high, e)

in_first : (x y : Record) (rs : List Record) (r : Record) → Among r (if_same_number x y) → Among r (same_neighbours (x ∷ y ∷ rs))
in_first x y rs r a = (among_append (if_same_number x y) (same_neighbours (y ∷ rs)) r).1 (inl a)

in_rest : (x y : Record) (rs : List Record) (r : Record) → Among r (same_neighbours (y ∷ rs)) → Among r (same_neighbours (x ∷ y ∷ rs))
in_rest x y rs r a = (among_append (if_same_number x y) (same_neighbours (y ∷ rs)) r).1 (inr a)

-- the second of records in order has the number of the first if any later one has it
second_same : (x y : Record) (rs : List Record) (r : Record) → Rise (x ∷ y ∷ rs) → Among r (y ∷ rs) → number x ≡ number r → number x ≡ number y
second_same x y rs r up (inl f) e = e ∙ ap number f
second_same x y rs r up (inr a) e = between x y r (least x (y ∷ rs) y up (inl refl)) (least y rs r (tail_rises x (y ∷ rs) up) a) e

behind_same : (x : Record) (rs : List Record) (r : Record) → Rise (x ∷ rs) → Among r rs → number x ≡ number r → Among r (same_neighbours (x ∷ rs))
behind_same x [] r up a e = absurd a
behind_same x (y ∷ rs) r up (inl f) e = in_first x y rs r (same_there x y r (e ∙ ap number f) (inr (inl f)))
behind_same x (y ∷ rs) r up (inr a) e =
    in_rest x y rs r (behind_same y rs r (tail_rises x (y ∷ rs) up) a (sym (second_same x y rs r up (inr a) e) ∙ e))

two_same : (rs : List Record) (r s : Record) → Rise rs → Among r rs → Among s rs → number r ≡ number s → r ≢ s → Among r (same_neighbours rs)
two_same [] r s up a b e apart = absurd a
two_same (x ∷ rs) r s up (inl f) (inl g) e apart = absurd (apart (f ∙ sym g))
two_same (x ∷ []) r s up (inl f) (inr b) e apart = absurd b
two_same (x ∷ y ∷ rs) r s up (inl f) (inr b) e apart =
    in_first x y rs r (same_there x y r (second_same x y rs s up b (ap number (sym f) ∙ e)) (inl f))
two_same (x ∷ rs) r s up (inr a) (inl g) e apart = behind_same x rs r up a (ap number (sym g) ∙ sym e)
two_same (x ∷ []) r s up (inr a) (inr b) e apart = absurd a
two_same (x ∷ y ∷ rs) r s up (inr a) (inr b) e apart = in_rest x y rs r (two_same (y ∷ rs) r s (tail_rises x (y ∷ rs) up) a b e apart)

-- ---- the records that are repeated

pub are_repeated : (rs sorted : List Record) → IsPermutation (filter is_host_address rs) sorted → IsSorted number_order sorted → HaveRepeated rs (same_neighbours sorted)
are_repeated rs sorted there up = record { each = each; all = all }
  where
    hosts : List Record
    hosts = filter is_host_address rs

    rises : Rise sorted
    rises = IsNonDecreasingBy-from_sort number sorted up

    each : (r : Record) → Contains (same_neighbours sorted) r → Contains rs r
    each r c =
        let a = neighbours_are sorted r (among_of (same_neighbours sorted) r c) in
        (filter_parts is_host_address rs r (Contains-permutation sorted hosts r (IsPermutation-sym hosts sorted there) (of_among sorted r a))).0

    in_sorted : (r : Record) → Contains rs r → is_host_address r ≡ true → Among r sorted
    in_sorted r c host = among_of sorted r (Contains-permutation hosts sorted r there (in_filter is_host_address rs r c host))

    all : (r s : Record) → Contains rs r → Contains rs s → is_host_address r ≡ true → is_host_address s ≡ true → r.rdata ≡ s.rdata → r.owner ≢ s.owner
        → Contains (same_neighbours sorted) r
    all r s c d host also same apart =
        of_among (same_neighbours sorted) r
        (two_same sorted r s rises (in_sorted r c host) (in_sorted s d also) (ap address_number same) (λ e. apart (ap (λ (x : Record). x.owner) e)))

-- ---- addresses that are shared among the repeated are shared among all

host_is : (origin : List (List ℕ)) (owner place : List (List ℕ)) (d : Data) → IsPlaceOf origin d place → is_wildcard owner ≡ false → (is_address d && not (is_wildcard owner)) ≡ true
host_is origin owner place (A address) is host = ap not host
host_is origin owner place (Aaaa address) is host = ap not host
host_is origin owner place d none host = absurd none

module _ (origin : List (List ℕ)) (rs repeated : List Record) (have : HaveRepeated rs repeated) where
  has_place : (r : Record) → HasPlace origin repeated r → HasPlace origin rs r
  has_place r has = record { there = have.each r has.there; host = has.host; owner = has.owner; place = has.place }

  is_shared : (r : Record) → IsShared origin repeated r → IsShared origin rs r
  is_shared r shared = record {
    place = has_place r shared.place;
    other = shared.other;
    other_place = has_place shared.other shared.other_place;
    address = shared.address;
    name = shared.name;
  }

  is_host : (r : Record) → HasPlace origin rs r → is_host_address r ≡ true
  is_host r has = host_is origin r.owner has.owner r.rdata has.place has.host

  place_kept : (r s : Record) → HasPlace origin rs r → HasPlace origin rs s → r.rdata ≡ s.rdata → r.owner ≢ s.owner → HasPlace origin repeated r
  place_kept r s has also same apart = record {
    there = have.all r s has.there also.there (is_host r has) (is_host s also) same apart;
    host = has.host;
    owner = has.owner;
    place = has.place;
  }

  shared_kept : (r : Record) → IsShared origin rs r → IsShared origin repeated r
  shared_kept r shared = record {
    place = place_kept r shared.other shared.place shared.other_place (sym shared.address) (λ e. shared.name (sym e));
    other = shared.other;
    other_place = place_kept shared.other r shared.other_place shared.place shared.address shared.name;
    address = shared.address;
    name = shared.name;
  }

  pub are_records : AllByRecursion IsRecord rs → AllByRecursion IsRecord repeated
  are_records are = all_of IsRecord repeated (λ r a. all_at IsRecord rs r are (among_of rs r (have.each r (of_among repeated r a))))

  pub shared_of_repeated : (shared : List Record) → AreShared origin repeated shared → AreShared origin rs shared
  shared_of_repeated shared are = record { each = λ r c. is_shared r (are.each r c); all = λ r of. are.all r (shared_kept r of); order = are.order }
