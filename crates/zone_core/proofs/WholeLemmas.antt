-- A set in which nothing is wrong is a zone's.
use Rattle.std.proofs.Common.{◌≡◌, ◌<◌, ℕ, zero, suc, List, length, Bool, true, false, not, ◌&&◌, ◌||◌, ◌==◌, nat_lt, if◌then◌else◌, Option, Some, None, refl, sym, ap, ◌∙◌, arith}
use Rattle.std.specs.List.{AllByRecursion}
use Rattle.std.specs.FinMap.{get}
use Rattle.std.proofs.lemmas.Bool.{and_parts, eqb-true, false_from_ne_true}
use Rattle.std.proofs.lemmas.Bool.Decides.{nat_tests}
use Rattle.dns_names.specs.Labels.{IsWithin, is_within}
use Rattle.dns_names.specs.Order.{same_name}
use Rattle.dns_names.proofs.NameLemmas.{is_within-Decides}
use Rattle.dns_data.specs.declared.record.Record.{Record}
use Rattle.dns_data.specs.declared.record_type.RecordType.{RecordType}
use Rattle.dns_data.specs.declared.record_type.RecordType.TheVariants as types
use Rattle.dns_data.specs.Rdata.{type_of, IsRecord}
use Rattle.dns_data.proofs.RecordOrderLemmas.{one_rank}
use Rattle.zone_core.specs.declared.faults.ZoneFault.{ZoneFault}
use Rattle.zone_core.specs.Sets.{Records, Key, key_of, rank_of, set_of, InOrder, IsIn, count, has, at_name, at}
use Rattle.zone_core.specs.Zones.{IsZone, AreKept, fault_in, is_soa, is_cname, is_outside, is_of_two_cnames, is_cname_beside_other}
use Rattle.zone_core.specs.Views.{AreOfZone, set_ttl, min_ttl_rows}
use Rattle.zone_core.proofs.SetLemmas.{name_is, name_self, has_found, some_found, one_found, two_found}
use Rattle.zone_core.proofs.RowLemmas.{get-set_of, found_has, found_key, in_has}
use Rattle.zone_core.proofs.FaultLemmas.{fault_by}
use Rattle.zone_core.proofs.MinTtlLemmas.{min_ttl_all, min_ttl_order, ttl_beside}

-- ---- tests that find nothing

else_none : (b : Bool) (x : ZoneFault) (o : Option ZoneFault) → (if b then Some x else o) ≡ None → (b ≡ false) × (o ≡ None)
else_none true x o e = absurd cc
else_none false x o e = (refl, e)

opened : (b : Bool) → not b ≡ false → b ≡ true
opened true e = refl
opened false e = absurd cc

neither : (a b : Bool) → (a || b) ≡ false → (a ≡ false) × (b ≡ false)
neither true b e = absurd cc
neither false b e = (refl, e)

not_empty : (n : ℕ) → (n == 0) ≡ false → 0 < n
not_empty zero e = absurd cc
not_empty (suc n) e = omega arith

both_true : (a b : Bool) → a ≡ true → b ≡ true → (a && b) ≡ true
both_true true b e f = f
both_true false b e f = absurd cc

self : (n : ℕ) → (n == n) ≡ true
self n = grind (arith, nat_tests)

-- a record of a type
is_type : (t : RecordType) (r : Record) → type_of r.rdata ≡ t → ((key_of r).1 == rank_of t) ≡ true
is_type t r e = rw e (self (rank_of t))

typed : (t : RecordType) (r : Record) → ((key_of r).1 == rank_of t) ≡ true → type_of r.rdata ≡ t
typed t r e = one_rank (type_of r.rdata) t (eqb-true (rank_of (type_of r.rdata)) (rank_of t) e)

at_set : (name : List (List ℕ)) (t : RecordType) (r : Record) → r.owner ≡ name → type_of r.rdata ≡ t → at name t (key_of r) ≡ true
at_set name t r e f = both_true (same_name r.owner name) ((key_of r).1 == rank_of t) (rw e (name_self name)) (is_type t r f)

few : (m n : ℕ) → nat_lt 1 m ≡ false → nat_lt m n ≡ false → nat_lt 1 n ≡ false
few m n e f = grind (arith, nat_tests)

positive : (n : ℕ) → 0 < n → (n == 0) ≡ false
positive n h = grind (arith, nat_tests)

not_false : (b : Bool) → not b ≡ true → b ≡ false
not_false true e = absurd cc
not_false false e = refl

more_than_one : (m n : ℕ) → (m == 0) ≡ false → nat_lt m n ≡ true → nat_lt 1 n ≡ false → ⊥
more_than_one m n e f g = grind (arith, nat_tests)

module _ (origin : List (List ℕ)) (set : Records) (kept : AreKept set) where
  -- a test that finds nothing fails for each record
  none_is : (p : Key → Bool) → has set p ≡ false → (r : Record) → IsIn r set → p (key_of r) ≡ false
  none_is p e r here = false_from_ne_true (p (key_of r)) (λ holds. let f : true ≡ false = sym (has_found set p (key_of r) r holds here) ∙ e in absurd cc)

  -- records that are both found by a test that finds no two
  same_found : (p : Key → Bool) → nat_lt 1 (count set p) ≡ false → (r s : Record) → IsIn r set → IsIn s set → p (key_of r) ≡ true → p (key_of s) ≡ true → s ≡ r
  same_found p e r s here there f g =
      let keys = one_found set p (key_of s) (key_of r) s r e g f there here in
      let both : Some s ≡ Some r = sym there ∙ ap (get set) keys ∙ here in
      cc

  -- what is found is in the set
  is_in : (k : Key) (r : Record) → get set k ≡ Some r → (key_of r ≡ k) × IsIn r set
  is_in k r e = let own = (kept k r e).0 in (own, ap (get set) own ∙ e)

  pub zone_of_set : fault_in origin set ≡ None
      → ((r s : Record) → IsIn r set → IsIn s set → s.owner ≡ r.owner → type_of s.rdata ≡ type_of r.rdata → s.ttl ≡ r.ttl)
      → IsZone (record { origin = origin; records = set })
  zone_of_set none ttls =
      let root = else_none (length origin == 0) _ _ none in
      let out = else_none (has set (is_outside origin)) _ _ root.1 in
      let elsewhere = else_none (has set (λ k. is_soa k && not (at_name origin k))) _ _ out.1 in
      let some = else_none (count set is_soa == 0) _ _ elsewhere.1 in
      let one = else_none (nat_lt 1 (count set is_soa)) _ _ some.1 in
      let served = else_none (not (has set (at origin types.Ns))) _ _ one.1 in
      let two = else_none (has set (is_of_two_cnames set)) _ _ served.1 in
      let cname_and_other = else_none (has set (is_cname_beside_other set)) _ _ two.1 in
      let outside : (r : Record) → IsIn r set → (not (is_within r.owner origin) ≡ false) × (((key_of r).1 == rank_of types.Ds) && same_name r.owner origin ≡ false) =
      λ r here. neither (not (is_within r.owner origin)) (((key_of r).1 == rank_of types.Ds) && same_name r.owner origin) (none_is (is_outside origin) out.0 r here) in
      let inside : (r : Record) → IsIn r set → IsWithin r.owner origin = λ r here. (is_within-Decides r.owner origin).0 (opened (is_within r.owner origin) (outside r here).0) in
      let soa = some_found set is_soa (ap not some.0) in
      let soa_in = is_in soa.0 soa.1 soa.3 in
      let soa_type = typed types.Soa soa.1 (ap is_soa soa_in.0 ∙ soa.2) in
      let soa_home = none_is (λ k. is_soa k && not (at_name origin k)) elsewhere.0 soa.1 soa_in.1 in
      let ns = some_found set (at origin types.Ns) (opened (has set (at origin types.Ns)) served.0) in
      let ns_in = is_in ns.0 ns.1 ns.3 in
      let ns_both = and_parts (same_name ns.1.owner origin) ((key_of ns.1).1 == rank_of types.Ns) (ap (at origin types.Ns) ns_in.0 ∙ ns.2) in
      record {
        not_root = not_empty (length origin) root.0;
        kept = kept;
        soa = (
          soa.1,
          record {
            here = soa_in.1;
            origin = name_is soa.1.owner origin (opened (same_name soa.1.owner origin) (rw (is_type types.Soa soa.1 soa_type) at soa_home));
            type = soa_type;
            alone = λ r here t. same_found is_soa one.0 soa.1 r soa_in.1 here (is_type types.Soa soa.1 soa_type) (is_type types.Soa r t);
          },
        );
        servers = (ns.1, record { here = ns_in.1; origin = name_is ns.1.owner origin ns_both.0; type = typed types.Ns ns.1 ns_both.1 });
        cnames = λ r s here there t e.
            let alone : nat_lt 1 (count set (at r.owner types.Cname)) ≡ false = rw (is_type types.Cname r t) at (none_is (is_of_two_cnames set) two.0 r here) in
            let no_more : nat_lt (count set (at r.owner types.Cname)) (count set (at_name r.owner)) ≡ false = rw (is_type types.Cname r t) at (none_is (is_cname_beside_other set) cname_and_other.0 r here) in
            same_found (at_name r.owner) (few _ _ alone no_more) r s here there (name_self r.owner) (rw e (name_self r.owner));
        owners = inside;
        signers = λ r here t. (inside r here, λ e. let both = (outside r here).1 in let f : true ≡ false = sym (both_true ((key_of r).1 == rank_of types.Ds) (same_name r.owner origin) (is_type types.Ds r t) (rw e (name_self origin))) ∙ both in cc);
        ttls = ttls;
      }

  -- ---- in a zone nothing is wrong

  module _ (zone : IsZone (record { origin = origin; records = set })) where
    -- a test that no record passes
    nothing_passes : (p : Key → Bool) → ((r : Record) → IsIn r set → p (key_of r) ≡ true → ⊥) → has set p ≡ false
    nothing_passes p none =
        false_from_ne_true (has set p) (λ found.
        let some = some_found set p found in
        let own = is_in some.0 some.1 some.3 in
        none some.1 own.1 (ap p own.0 ∙ some.2))

    -- a test by which all that pass are one
    one_passes : (p : Key → Bool) → ((r s : Record) → IsIn r set → IsIn s set → p (key_of r) ≡ true → p (key_of s) ≡ true → s ≡ r) → nat_lt 1 (count set p) ≡ false
    one_passes p same =
        false_from_ne_true (nat_lt 1 (count set p)) (λ many.
        let two = two_found set p many in
        let mine = is_in two.first two.one two.one_found in
        let yours = is_in two.second two.other two.other_found in
        let equal = same two.one two.other mine.1 yours.1 (ap p mine.0 ∙ two.one_passes) (ap p yours.0 ∙ two.other_passes) in
        two.apart (sym mine.0 ∙ ap key_of (sym equal) ∙ yours.0))

    cname_at : (name : List (List ℕ)) (r s : Record) → IsIn r set → IsIn s set → ((key_of r).1 == rank_of types.Cname) ≡ true → r.owner ≡ name → at_name name (key_of s) ≡ true → s ≡ r
    cname_at name r s here there t e f = zone.cnames r s here there (typed types.Cname r t) (name_is s.owner name f ∙ sym e)

    lone : (name : List (List ℕ)) → nat_lt 1 (count set (at name types.Cname)) ≡ false
    lone name =
        one_passes (at name types.Cname) (λ r s here there p q.
        let mine = and_parts (same_name r.owner name) ((key_of r).1 == rank_of types.Cname) p in
        let yours = and_parts (same_name s.owner name) ((key_of s).1 == rank_of types.Cname) q in
        cname_at name r s here there mine.1 (name_is r.owner name mine.0) yours.0)

    alone_at : (r : Record) → IsIn r set → is_cname (key_of r) ≡ true → nat_lt 1 (count set (at_name r.owner)) ≡ false
    alone_at r here t =
        one_passes (at_name r.owner) (λ x y in_x in_y p q.
        cname_at r.owner r y here in_y t refl q ∙ sym (cname_at r.owner r x here in_x t refl p))

    pub no_fault : fault_in origin set ≡ None
    no_fault =
        let out : has set (is_outside origin) ≡ false =
        nothing_passes (is_outside origin) (λ r here p.
        let inside : is_within r.owner origin ≡ true = (is_within-Decides r.owner origin).1 (zone.owners r here) in
        let second : (((key_of r).1 == rank_of types.Ds) && same_name r.owner origin) ≡ true = rw inside at p in
        let both = and_parts ((key_of r).1 == rank_of types.Ds) (same_name r.owner origin) second in
        (zone.signers r here (typed types.Ds r both.0)).1 (name_is r.owner origin both.1)) in
        let home : has set (λ k. is_soa k && not (at_name origin k)) ≡ false =
        nothing_passes (λ k. is_soa k && not (at_name origin k)) (λ r here p.
        let both = and_parts (is_soa (key_of r)) (not (same_name r.owner origin)) p in
        let one = zone.soa.1.alone r here (typed types.Soa r both.0) in
        let at_home : same_name r.owner origin ≡ true = rw (one, zone.soa.1.origin) (name_self origin) in
        let f : false ≡ true = sym (ap not at_home) ∙ both.1 in
        cc) in
        let some : (count set is_soa == 0) ≡ false = not_false (count set is_soa == 0) (has_found set is_soa (key_of zone.soa.0) zone.soa.0 (is_type types.Soa zone.soa.0 zone.soa.1.type) zone.soa.1.here) in
        let one : nat_lt 1 (count set is_soa) ≡ false =
        one_passes is_soa (λ r s here there p q. zone.soa.1.alone s there (typed types.Soa s q) ∙ sym (zone.soa.1.alone r here (typed types.Soa r p))) in
        let served : has set (at origin types.Ns) ≡ true = has_found set (at origin types.Ns) (key_of zone.servers.0) zone.servers.0 (at_set origin types.Ns zone.servers.0 zone.servers.1.origin zone.servers.1.type) zone.servers.1.here in
        let two : has set (is_of_two_cnames set) ≡ false =
        nothing_passes (is_of_two_cnames set) (λ r here p.
        let both = and_parts (is_cname (key_of r)) (nat_lt 1 (count set (at r.owner types.Cname))) p in
        let f : true ≡ false = sym both.1 ∙ lone r.owner in
        cc) in
        let cname_and_other : has set (is_cname_beside_other set) ≡ false =
        nothing_passes (is_cname_beside_other set) (λ r here p.
        let both = and_parts (is_cname (key_of r)) (nat_lt (count set (at r.owner types.Cname)) (count set (at_name r.owner))) p in
        let there = has_found set (at r.owner types.Cname) (key_of r) r (at_set r.owner types.Cname r refl (typed types.Cname r both.0)) here in
        more_than_one (count set (at r.owner types.Cname)) (count set (at_name r.owner)) (not_false (count set (at r.owner types.Cname) == 0) there) both.1 (alone_at r here both.0)) in
        λ i. fault_by (root i) (out i) (home i) (some i) (one i) (served i) (two i) (cname_and_other i)
      where
        root : (length origin == 0) ≡ false
        root = positive (length origin) zone.not_root

-- ---- a row that was evened

pub kept_of : (rs : List Record) → AllByRecursion IsRecord rs → AreKept (set_of rs)
kept_of rs all k r e =
    let found = sym (get-set_of rs k) ∙ e in
    (sym (found_key rs k r found), found_has IsRecord rs k r all found)

pub min_ttl_zone : (origin : List (List ℕ)) (rs : List Record) → InOrder rs → AllByRecursion IsRecord (min_ttl_rows rs) → fault_in origin (set_of (min_ttl_rows rs)) ≡ None → AreOfZone origin (min_ttl_rows rs)
min_ttl_zone origin rs order all none =
    record {
      order = min_ttl_order rs order;
      zone = zone_of_set origin (set_of (min_ttl_rows rs)) (kept_of (min_ttl_rows rs) all) none (λ r s here there e t.
          let same = ttl_beside rs r s (both_true (same_name s.owner r.owner) ((key_of s).1 == (key_of r).1) (rw e (name_self r.owner)) (rw t (self (rank_of (type_of r.rdata))))) in
          let mine = in_has (λ x. x.ttl ≡ set_ttl rs x) (min_ttl_rows rs) r (min_ttl_all rs) here in
          let yours = in_has (λ x. x.ttl ≡ set_ttl rs x) (min_ttl_rows rs) s (min_ttl_all rs) there in
          yours ∙ sym same ∙ sym mine);
    }
