-- SOA records with serials, and sets in which an SOA takes the place of another.
use Rattle.std.proofs.Common.{◌≡◌, ℕ, ◌<◌, ◌^◌, List, Bool, true, false, cond, ◌&&◌, ◌==◌, if◌then◌else◌, Option, Some, None, inl, inr, refl, sym, ap, subst, ◌∙◌, arith}
use Rattle.std.specs.Option.{option_map_or}
use Rattle.std.specs.FinMap.{get}
use Rattle.std.proofs.lemmas.Bool.{and_parts, eqb-true}
use Rattle.std.proofs.lemmas.Bool.Decides.{nat_tests}
use Rattle.dns_data.specs.declared.record.Record.{Record}
use Rattle.dns_data.specs.declared.record_type.RecordType.TheVariants as types
use Rattle.dns_data.specs.declared.rdata.Data.{Data}
use Rattle.dns_data.specs.declared.rdata.Data.TheVariants as variants
use Rattle.dns_data.specs.Rdata.{type_of, IsRdata, IsRecord}
use Rattle.dns_data.proofs.RecordOrderLemmas.{one_rank}
use Rattle.zone_core.specs.Serials.{serial_sum, is_less}
use Rattle.zone_core.specs.Sets.{Records, Key, key_of, rank_of, same_key, cut, at, is_same}
use Rattle.dns_names.specs.Labels.{IsWithin}
use Rattle.zone_core.specs.Zones.{is_soa, is_cname, soa_in, serial_in, soa_at, serial_at}
use Rattle.zone_core.specs.Effects.{next_data, next_version, with_next, add_soa, add_cname, add_other, is_misplaced, add, takes_over, serial_advanced}
use Rattle.zone_core.proofs.SetLemmas.{key_is, key_self, by_cases, get-put, kept_by_put, kept_by_cut, same_sets}
use Rattle.zone_core.proofs.ZoneLemmas.{There, Keys, found_uncut, at_is, at_has, keys_soa, soa_is, no, kind}
use Rattle.zone_core.proofs.VersionLemmas.{is_less-Decides, next_less}
use Rattle.zone_core.proofs.ChangedLemmas.{same_sets_are_one}
use Rattle.zone_tools.specs.Differences.{data_at, at_serial, with_soa, is_equal}
use Rattle.zone_tools.proofs.DiffListLemmas.{retimed}

-- ---- serials of SOA records

pub next_at : (d : Data) → next_data d ≡ data_at (serial_sum (option_map_or (λ soa. soa.serial.0) (soa_in d) 0) 1) d
next_at (variants.Soa soa) = refl
next_at d = refl

pub next_is_at : (r : Record) → next_version r ≡ at_serial (serial_sum (serial_in r) 1) r
next_is_at r = ap (λ d. record r { rdata = d }) (next_at r.rdata)

data_twice : (p q : ℕ) (d : Data) → data_at p (data_at q d) ≡ data_at p d
data_twice p q (variants.Soa soa) = refl
data_twice p q d = refl

pub at_twice : (p q : ℕ) (r : Record) → at_serial p (at_serial q r) ≡ at_serial p r
at_twice p q r = ap (λ d. record r { rdata = d }) (data_twice p q r.rdata)

data_own : (d : Data) → data_at (option_map_or (λ soa. soa.serial.0) (soa_in d) 0) d ≡ d
data_own (variants.Soa soa) = refl
data_own d = refl

pub at_own : (r : Record) → at_serial (serial_in r) r ≡ r
at_own r = ap (λ d. record r { rdata = d }) (data_own r.rdata)

pub data_type : (q : ℕ) (d : Data) → type_of (data_at q d) ≡ type_of d
data_type q (variants.Soa soa) = refl
data_type q d = refl

data_serial : (q : ℕ) (d : Data) → type_of d ≡ types.Soa → option_map_or (λ soa. soa.serial.0) (soa_in (data_at q d)) 0 ≡ q
data_serial q (variants.Soa soa) e = refl
data_serial q d e = absurd cc

pub serial_is : (q : ℕ) (r : Record) → type_of r.rdata ≡ types.Soa → serial_in (at_serial q r) ≡ q
serial_is q r e = data_serial q r.rdata e

data_fits : (q : ℕ) (d : Data) → q < 2 ^ 32 → IsRdata d → IsRdata (data_at q d)
data_fits q (variants.Soa soa) fits is =
    record { mname = is.mname; rname = is.rname; serial = fits; refresh = is.refresh; retry = is.retry; expire = is.expire; minimum = is.minimum }
data_fits q d fits is = is

pub at_fits : (q : ℕ) (r : Record) → q < 2 ^ 32 → IsRecord r → IsRecord (at_serial q r)
at_fits q r fits is = record { owner = is.owner; ttl = is.ttl; rdata = data_fits q r.rdata fits is.rdata }

own_serial : (d : Data) → IsRdata d → option_map_or (λ soa. soa.serial.0) (soa_in d) 0 < 2 ^ 32
own_serial (variants.Soa soa) is = is.serial
own_serial d is = omega arith

pub serial_fits : (r : Record) → IsRecord r → serial_in r < 2 ^ 32
serial_fits r is = own_serial r.rdata is.rdata

pub sum_fits : (s : ℕ) → serial_sum s 1 < 2 ^ 32
sum_fits s = grind arith

pub less_next : (s : ℕ) → s < 2 ^ 32 → is_less s (serial_sum s 1) ≡ true
less_next s fits = (is_less-Decides s (serial_sum s 1)).1 (next_less s fits)

pub not_less : (s : ℕ) → is_less s s ≡ true → ⊥
not_less s e = elim ((is_less-Decides s s).0 e) [ inl less ↦ omega (arith, less.0) | inr less ↦ omega (arith, less.0) ]

pub self : (n : ℕ) → (n == n) ≡ true
self n = grind (arith, nat_tests)

-- ---- equal records

pub equal_is : (a b : Record) → IsRecord a → IsRecord b → is_equal a b ≡ true → a ≡ b
equal_is a b is also e =
    let both = and_parts (same_key (key_of a) (key_of b)) (a.ttl == b.ttl) e in
    ap (λ m. record a { ttl = m }) (eqb-true a.ttl b.ttl both.1) ∙ retimed a b is also (key_is (key_of a) (key_of b) both.0)

pub is_equal_self : (a : Record) → is_equal a a ≡ true
is_equal_self a = ap (λ b. b && (a.ttl == a.ttl)) (key_self (key_of a)) ∙ self a.ttl

-- ---- an SOA in the place of another

module _ (origin : List (List ℕ)) where
  -- a record that is an SOA at the origin
  pub record IsSoaHere (soa : Record) : Type 0 where
    pub is : IsRecord soa
    pub type : type_of soa.rdata ≡ types.Soa
    pub home : soa.owner ≡ origin

  at_soa : (soa : Record) → IsSoaHere soa → (k : Key) → k.0 ≡ origin → is_soa k ≡ true → at soa.owner types.Soa k ≡ true
  at_soa soa here k home e = at_has soa.owner types.Soa k (home ∙ sym here.home) (eqb-true k.1 (rank_of types.Soa) e)

  off_soa : (soa : Record) (k : Key) → is_soa k ≡ false → at soa.owner types.Soa k ≡ false
  off_soa soa k off =
      by_cases (at soa.owner types.Soa k) (at soa.owner types.Soa k ≡ false)
      (λ t. absurd (no (is_soa k) (kind k types.Soa (at_is soa.owner types.Soa k t).1) off)) (λ t. t)

  -- other records are left
  pub other_with : (set : Records) (soa : Record) → IsSoaHere soa → (k : Key) → is_soa k ≡ false → get (with_soa set soa) k ≡ get set k
  other_with set soa here k off =
      kept_by_put (cut set (at soa.owner types.Soa)) soa k (λ same. no (is_soa k) (ap is_soa same ∙ kind (key_of soa) types.Soa (ap rank_of here.type)) off)
      ∙ kept_by_cut set (at soa.owner types.Soa) k (off_soa soa k off)

  module _ (set : Records) (z : Keys origin set) where
    -- the SOA of a set
    pub soa_here : IsSoaHere z.soa_there.0
    soa_here =
        let kept = z.rows.kept z.soa z.soa_there.0 z.soa_there.1 in
        record {
          is = kept.1;
          type = one_rank (type_of z.soa_there.0.rdata) types.Soa (ap (λ (q : Key). q.1) kept.0 ∙ z.soa_type);
          home = ap (λ (q : Key). q.0) kept.0 ∙ z.soa_origin;
        }

    key_here : key_of z.soa_there.0 ≡ z.soa
    key_here = (z.rows.kept z.soa z.soa_there.0 z.soa_there.1).0

    one_soa : (k : Key) → There set k → is_soa k ≡ true → k ≡ z.soa
    one_soa k there e = z.soa_alone k there (eqb-true k.1 (rank_of types.Soa) e)

    -- under the keys of SOA records there is only that one
    pub own_soa : (k : Key) → is_soa k ≡ true → get set k ≡ cond (same_key k (key_of z.soa_there.0)) (Some z.soa_there.0) None
    own_soa k e =
        by_cases (same_key k (key_of z.soa_there.0)) (get set k ≡ cond (same_key k (key_of z.soa_there.0)) (Some z.soa_there.0) None)
        (λ t. ap (get set) (key_is k (key_of z.soa_there.0) t ∙ key_here) ∙ z.soa_there.1 ∙ sym (ap (λ b. cond b (Some z.soa_there.0) None) t))
        (λ t. by_option t (get set k) refl ∙ sym (ap (λ b. cond b (Some z.soa_there.0) None) t))
      where
        by_option : same_key k (key_of z.soa_there.0) ≡ false → (o : Option Record) → get set k ≡ o → get set k ≡ None
        by_option t None f = f
        by_option t (Some x) f = absurd (no (same_key k (key_of z.soa_there.0)) (ap (λ q. same_key q (key_of z.soa_there.0)) (one_soa k (x, f) e ∙ sym key_here) ∙ key_self (key_of z.soa_there.0)) t)

    pub soa_with : (soa : Record) → IsSoaHere soa → (k : Key) → is_soa k ≡ true → get (with_soa set soa) k ≡ cond (same_key k (key_of soa)) (Some soa) None
    soa_with soa here k e = get-put (cut set (at soa.owner types.Soa)) soa k ∙ ap (cond (same_key k (key_of soa)) (Some soa)) (bare (get (cut set (at soa.owner types.Soa)) k) refl)
      where
        bare : (o : Option Record) → get (cut set (at soa.owner types.Soa)) k ≡ o → o ≡ None
        bare None f = refl
        bare (Some x) f =
            let both = found_uncut set (at soa.owner types.Soa) k x f in
            absurd (no (at soa.owner types.Soa k) (at_soa soa here k (ap (λ (q : Key). q.0) (one_soa k (x, both.1) e) ∙ z.soa_origin) e) both.0)

    -- a set that has these other records and this SOA
    pub is_with : (soa : Record) → IsSoaHere soa → (other : Records) → ((k : Key) → is_soa k ≡ false → get other k ≡ get set k)
        → ((k : Key) → is_soa k ≡ true → get other k ≡ cond (same_key k (key_of soa)) (Some soa) None) → other ≡ with_soa set soa
    is_with soa here other others soas =
        same_sets other (with_soa set soa) (λ k.
        by_cases (is_soa k) (get other k ≡ get (with_soa set soa) k)
        (λ e. soas k e ∙ sym (soa_with soa here k e))
        (λ e. others k e ∙ sym (other_with set soa here k e)))

    pub own_with : set ≡ with_soa set z.soa_there.0
    own_with = is_with z.soa_there.0 soa_here set (λ k e. refl) own_soa

    pub keys_with : (soa : Record) → IsSoaHere soa → (k : Keys origin (with_soa set soa)) × (k.soa_there.0 ≡ soa)
    keys_with soa here =
        keys_soa origin set z soa here.is (subst (λ o. IsWithin o origin) (z.soa_origin ∙ sym here.home) (z.rows.owners z.soa z.soa_there)) here.type here.home

    pub with_at : (soa : Record) → IsSoaHere soa → soa_at origin (with_soa set soa) ≡ Some soa
    with_at soa here = let k = keys_with soa here in soa_is origin (with_soa set soa) k.0 ∙ ap (λ (r : Record). Some r) k.1

  -- the later SOA takes the place
  pub with_twice : (set : Records) (z : Keys origin set) (one soa : Record) → IsSoaHere one → IsSoaHere soa → with_soa (with_soa set one) soa ≡ with_soa set soa
  with_twice set z one soa one_here here =
      is_with set z soa here (with_soa (with_soa set one) soa)
      (λ k e. other_with (with_soa set one) soa here k e ∙ other_with set one one_here k e)
      (soa_with (with_soa set one) (keys_with set z one one_here).0 soa here)

  -- ---- its addition

  pub added_soa : (set : Records) (z : Keys origin set) (soa : Record) → IsSoaHere soa → is_less (serial_in z.soa_there.0) (serial_in soa) ≡ true → add origin set soa ≡ with_soa set soa
  added_soa set z soa here less =
      ap (λ b. if b then add_soa set soa else (if is_cname (key_of soa) then add_cname set soa else (if is_misplaced origin soa then set else add_other set soa)))
      (kind (key_of soa) types.Soa (ap rank_of here.type))
      ∙ ap (λ b. if b then with_soa set soa else set) (ap (takes_over soa) (ap (λ o. soa_at o set) here.home ∙ soa_is origin set z) ∙ less)

  -- ---- the serial

  pub serial_own : (set : Records) (z : Keys origin set) → serial_at origin set ≡ serial_in z.soa_there.0
  serial_own set z = ap (λ o. option_map_or serial_in o 0) (soa_is origin set z)

  module _ (old made : Records) (z : Keys origin old) (m : Keys origin made) where
    -- where another serial was taken, it stays
    pub stays_taken : is_less (serial_in z.soa_there.0) (serial_in m.soa_there.0) ≡ true → serial_advanced origin old made ≡ made
    stays_taken less = by_same (is_same old made) refl
      where
        differ : (serial_at origin old == serial_at origin made) ≡ false
        differ = by_cases (serial_at origin old == serial_at origin made) ((serial_at origin old == serial_at origin made) ≡ false)
            (λ t.
            let same : serial_in z.soa_there.0 ≡ serial_in m.soa_there.0 = sym (serial_own old z) ∙ eqb-true (serial_at origin old) (serial_at origin made) t ∙ serial_own made m in
            absurd (not_less (serial_in z.soa_there.0) (ap (is_less (serial_in z.soa_there.0)) same ∙ less)))
            (λ t. t)

        by_same : (b : Bool) → is_same old made ≡ b → (if b then old else (if serial_at origin old == serial_at origin made then with_next made (soa_at origin made) else made)) ≡ made
        by_same true e = (same_sets_are_one old made z.rows.kept m.rows.kept).0 e
        by_same false e = ap (λ b. if b then with_next made (soa_at origin made) else made) differ

    -- where the serial is the same and something else is not, the SOA is one version further
    pub goes_further : is_same old made ≡ false → m.soa_there.0 ≡ z.soa_there.0 → serial_advanced origin old made ≡ with_soa made (next_version z.soa_there.0)
    goes_further differ same =
        ap (λ b. if b then old else (if serial_at origin old == serial_at origin made then with_next made (soa_at origin made) else made)) differ
        ∙ ap (λ b. if b then with_next made (soa_at origin made) else made)
        (ap (λ s. serial_at origin old == s) (serial_own made m ∙ ap serial_in same ∙ sym (serial_own old z)) ∙ self (serial_at origin old))
        ∙ ap (with_next made) (soa_is origin made m ∙ ap (λ (r : Record). Some r) same)

  -- where nothing changed, nothing does
  pub stays_same : (old : Records) → Keys origin old → serial_advanced origin old old ≡ old
  stays_same old z =
      ap (λ b. if b then old else (if serial_at origin old == serial_at origin old then with_next old (soa_at origin old) else old)) ((same_sets_are_one old old z.rows.kept z.rows.kept).1 refl)
