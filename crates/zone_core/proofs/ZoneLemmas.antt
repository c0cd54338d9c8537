-- A zone stays one under operations, and its SOA stays, or gives way to one of a greater serial.
use Rattle.std.proofs.Common.{◌≡◌, ℕ, suc, ◌<◌, ◌≤◌, List, [], ◌∷◌, length, map, Bool, true, false, cond, not, ◌&&◌, ◌||◌, ◌==◌, if◌then◌else◌, Option, Some, None, ◌⊎◌, inl, inr, refl, sym, ap, subst, ◌∙◌, arith}
use Rattle.std.specs.List.{AllByRecursion, filter}
use Rattle.std.specs.Option.{option_map}
use Rattle.std.specs.FinMap.{get, len, find, entries, len-entries, get-entries}
use Rattle.std.proofs.lemmas.Bool.{and_parts, eqb-true, false_from_ne_true, true_from_ne_false}
use Rattle.std.proofs.lemmas.Bool.Decides.{nat_tests}
use Rattle.dns_names.specs.Labels.{IsWithin, IsBelow}
use Rattle.dns_names.specs.Order.{same_name}
use Rattle.dns_data.specs.declared.record.Record.{Record}
use Rattle.dns_data.specs.declared.record_type.RecordType.{RecordType}
use Rattle.dns_data.specs.declared.record_type.RecordType.TheVariants as types
use Rattle.dns_data.specs.Rdata.{type_of, IsRecord}
use Rattle.dns_data.proofs.RecordOrderLemmas.{one_rank}
use Rattle.zone_core.specs.Sets.{Records, Key, key_of, key_cmp, rank_of, same_key, listing, IsIn, part, cut, has, at_name, at, put, with_ttl}
use Rattle.zone_core.specs.Zones.{IsZone, AreKept, is_soa, is_cname, soa_at, first_of}
use Rattle.zone_core.specs.declared.update.Operation.{Operation}
use Rattle.zone_core.specs.declared.update.Operation.TheVariants.{Add, DeleteRrset, DeleteName, DeleteRecord}
use Rattle.zone_core.specs.Updates.{acted_name, adds_soa, IsOperation}
use Rattle.zone_core.specs.Effects.{is_other_type, takes_over, add_soa, add_cname, add_other, is_misplaced, add, is_guarded, delete_rrset, goes, delete_name, key_at, is_other_ns, stays, delete_record, effect, effects}
use Rattle.zone_core.proofs.SetLemmas.{name_is, name_self, key_is, key_self, key_other, get-cut, get-put, found_by_put, kept_by_put, kept_by_cut, found_in_part, found_of_part, none_there, some_is, some_found}
use Rattle.zone_core.proofs.EffectLemmas.{retag, get-with_ttl, untouched}

-- ---- a zone by the keys of its records

abbrev pub There : Records → Key → Type 0
There set k = (r : Record) × (get set k ≡ Some r)

-- what holds of the records of a zone, whichever they are
pub record Rows (origin : List (List ℕ)) (set : Records) : Type 0 where
  pub kept : AreKept set
  pub cnames : (j k : Key) → There set j → There set k → j.1 ≡ rank_of types.Cname → k.0 ≡ j.0 → k ≡ j
  pub owners : (k : Key) → There set k → IsWithin k.0 origin
  pub signers : (k : Key) → There set k → k.1 ≡ rank_of types.Ds → IsBelow k.0 origin
  pub ttls : (j k : Key) (r s : Record) → get set j ≡ Some r → get set k ≡ Some s → k.0 ≡ j.0 → k.1 ≡ j.1 → s.ttl ≡ r.ttl

pub record Keys (origin : List (List ℕ)) (set : Records) : Type 0 where
  pub rows : Rows origin set
  pub soa : Key
  pub soa_there : There set soa
  pub soa_origin : soa.0 ≡ origin
  pub soa_type : soa.1 ≡ rank_of types.Soa
  pub soa_alone : (k : Key) → There set k → k.1 ≡ rank_of types.Soa → k ≡ soa
  pub ns : Key
  pub ns_there : There set ns
  pub ns_origin : ns.0 ≡ origin
  pub ns_type : ns.1 ≡ rank_of types.Ns

module _ (origin : List (List ℕ)) (set : Records) where
  pub keys_of : IsZone (record { origin = origin; records = set }) → Keys origin set
  keys_of z =
      let own : (k : Key) (r : Record) → get set k ≡ Some r → (key_of r ≡ k) × IsIn r set = λ k r e. let same = (z.kept k r e).0 in (same, ap (get set) same ∙ e) in
      record {
        rows = record {
          kept = z.kept;
          cnames = λ j k there here t e. let first = own j there.0 there.1 in let second = own k here.0 here.1 in
              sym second.0 ∙ ap key_of (z.cnames there.0 here.0 first.1 second.1 (one_rank _ types.Cname (ap (λ (q : Key). q.1) first.0 ∙ t)) (ap (λ (q : Key). q.0) second.0 ∙ e ∙ sym (ap (λ (q : Key). q.0) first.0))) ∙ first.0;
          owners = λ k there. let mine = own k there.0 there.1 in subst (λ (q : Key). IsWithin q.0 origin) mine.0 (z.owners there.0 mine.1);
          signers = λ k there t. let mine = own k there.0 there.1 in subst (λ (q : Key). IsBelow q.0 origin) mine.0 (z.signers there.0 mine.1 (one_rank _ types.Ds (ap (λ (q : Key). q.1) mine.0 ∙ t)));
          ttls = λ j k r s e f names kinds. let first = own j r e in let second = own k s f in
              z.ttls r s first.1 second.1 (ap (λ (q : Key). q.0) second.0 ∙ names ∙ sym (ap (λ (q : Key). q.0) first.0)) (one_rank _ _ (ap (λ (q : Key). q.1) second.0 ∙ kinds ∙ sym (ap (λ (q : Key). q.1) first.0)));
        };
        soa = key_of z.soa.0;
        soa_there = (z.soa.0, z.soa.1.here);
        soa_origin = z.soa.1.origin;
        soa_type = ap rank_of z.soa.1.type;
        soa_alone = λ k there t. let mine = own k there.0 there.1 in
            sym mine.0 ∙ ap key_of (z.soa.1.alone there.0 mine.1 (one_rank _ types.Soa (ap (λ (q : Key). q.1) mine.0 ∙ t)));
        ns = key_of z.servers.0;
        ns_there = (z.servers.0, z.servers.1.here);
        ns_origin = z.servers.1.origin;
        ns_type = ap rank_of z.servers.1.type;
      }

  pub zone_of_keys : 0 < length origin → Keys origin set → IsZone (record { origin = origin; records = set })
  zone_of_keys not_root z =
      let found : (r s : Record) → IsIn r set → IsIn s set → key_of s ≡ key_of r → s ≡ r = λ r s here there e. let both : Some s ≡ Some r = sym there ∙ ap (get set) e ∙ here in cc in
      let soa_key = (z.rows.kept z.soa z.soa_there.0 z.soa_there.1).0 in
      let ns_key = (z.rows.kept z.ns z.ns_there.0 z.ns_there.1).0 in
      let soa_in : IsIn z.soa_there.0 set = ap (get set) soa_key ∙ z.soa_there.1 in
      record {
        not_root = not_root;
        kept = z.rows.kept;
        soa = (
          z.soa_there.0,
          record {
            here = soa_in;
            origin = ap (λ (q : Key). q.0) soa_key ∙ z.soa_origin;
            type = one_rank _ types.Soa (ap (λ (q : Key). q.1) soa_key ∙ z.soa_type);
            alone = λ r here t. found z.soa_there.0 r soa_in here (z.soa_alone (key_of r) (r, here) (ap rank_of t) ∙ sym soa_key);
          },
        );
        servers = (
          z.ns_there.0,
          record { here = ap (get set) ns_key ∙ z.ns_there.1; origin = ap (λ (q : Key). q.0) ns_key ∙ z.ns_origin; type = one_rank _ types.Ns (ap (λ (q : Key). q.1) ns_key ∙ z.ns_type) },
        );
        cnames = λ r s here there t e. found r s here there (z.rows.cnames (key_of r) (key_of s) (r, here) (s, there) (ap rank_of t) e);
        owners = λ r here. z.rows.owners (key_of r) (r, here);
        signers = λ r here t. z.rows.signers (key_of r) (r, here) (ap rank_of t);
        ttls = λ r s here there e t. z.rows.ttls (key_of r) (key_of s) r s here there e (ap rank_of t);
      }

-- ---- records that are taken away

pub found_uncut : (set : Records) (p : Key → Bool) (k : Key) (r : Record) → get (cut set p) k ≡ Some r → (p k ≡ false) × (get set k ≡ Some r)
found_uncut set p k r e = by_test (p k) refl (sym (get-cut set p k) ∙ e)
  where
    by_test : (b : Bool) → p k ≡ b → cond b None (get set k) ≡ Some r → (p k ≡ false) × (get set k ≡ Some r)
    by_test true t e = absurd cc
    by_test false t e = (t, e)

rows_cut : (origin : List (List ℕ)) (set : Records) (p : Key → Bool) → Rows origin set → Rows origin (cut set p)
rows_cut origin set p z =
    let was : (k : Key) → There (cut set p) k → There set k = λ k there. (there.0, (found_uncut set p k there.0 there.1).1) in
    record {
      kept = λ k r e. z.kept k r (found_uncut set p k r e).1;
      cnames = λ j k there here. z.cnames j k (was j there) (was k here);
      owners = λ k there. z.owners k (was k there);
      signers = λ k there. z.signers k (was k there);
      ttls = λ j k r s e f. z.ttls j k r s (found_uncut set p j r e).1 (found_uncut set p k s f).1;
    }

abbrev still_uncut : (set : Records) (p : Key → Bool) (k : Key) → There set k → p k ≡ false → There (cut set p) k
still_uncut set p k there e = (there.0, kept_by_cut set p k e ∙ there.1)

-- a zone's records without those that pass a test, where its SOA does not and some NS at the origin does not
abbrev keys_cut : (origin : List (List ℕ)) (set : Records) (p : Key → Bool) (z : Keys origin set) → p z.soa ≡ false
    → (ns : Key) → There set ns → ns.0 ≡ origin → ns.1 ≡ rank_of types.Ns → p ns ≡ false → Keys origin (cut set p)
keys_cut origin set p z soa_stays ns ns_there ns_origin ns_type ns_stays =
    record {
      rows = rows_cut origin set p z.rows;
      soa = z.soa;
      soa_there = still_uncut set p z.soa z.soa_there soa_stays;
      soa_origin = z.soa_origin;
      soa_type = z.soa_type;
      soa_alone = λ k there. z.soa_alone k (there.0, (found_uncut set p k there.0 there.1).1);
      ns = ns;
      ns_there = still_uncut set p ns ns_there ns_stays;
      ns_origin = ns_origin;
      ns_type = ns_type;
    }

pub keys_without : (origin : List (List ℕ)) (set : Records) (p : Key → Bool) (z : Keys origin set) → p z.soa ≡ false → p z.ns ≡ false → Keys origin (cut set p)
keys_without origin set p z soa_stays ns_stays = keys_cut origin set p z soa_stays z.ns z.ns_there z.ns_origin z.ns_type ns_stays

-- ---- tests of keys

self : (n : ℕ) → (n == n) ≡ true
self n = grind (arith, nat_tests)

pub kind : (k : Key) (t : RecordType) → k.1 ≡ rank_of t → (k.1 == rank_of t) ≡ true
kind k t e = rw e (self (rank_of t))

pub both_true : (a b : Bool) → a ≡ true → b ≡ true → (a && b) ≡ true
both_true true b e f = f
both_true false b e f = absurd cc

both_false : (a b : Bool) → (a ≡ true → b ≡ true → ⊥) → (a && b) ≡ false
both_false true true f = absurd (f refl refl)
both_false true false f = refl
both_false false b f = refl

pub at_is : (name : List (List ℕ)) (t : RecordType) (k : Key) → at name t k ≡ true → (k.0 ≡ name) × (k.1 ≡ rank_of t)
at_is name t k e = let both = and_parts (same_name k.0 name) (k.1 == rank_of t) e in (name_is k.0 name both.0, eqb-true k.1 (rank_of t) both.1)

pub at_has : (name : List (List ℕ)) (t : RecordType) (k : Key) → k.0 ≡ name → k.1 ≡ rank_of t → at name t k ≡ true
at_has name t k e f = both_true (same_name k.0 name) (k.1 == rank_of t) (rw e (name_self name)) (kind k t f)

-- SOA and NS are guarded
guards_soa : (n : ℕ) → n ≡ rank_of types.Soa → is_guarded n ≡ true
guards_soa n e = rw e refl

guards_ns : (n : ℕ) → n ≡ rank_of types.Ns → is_guarded n ≡ true
guards_ns n e = rw e refl

pub no : (b : Bool) → b ≡ true → b ≡ false → ⊥
no b e f = let g : true ≡ false = sym e ∙ f in cc

-- ---- deletions

-- a zone's keys of another set, in which the SOA is the same
abbrev Kept : (origin : List (List ℕ)) (a : Records) → Keys origin a → Records → Type 0
Kept origin a z b = (k : Keys origin b) × (k.soa_there.0 ≡ z.soa_there.0)

module _ (origin : List (List ℕ)) (set : Records) (z : Keys origin set) where
  -- a guarded key at the origin passes no test of a set that may go
  guarded_set : (name : List (List ℕ)) (t : RecordType) → (same_name name origin && is_guarded (rank_of t)) ≡ false → (k : Key) → k.0 ≡ origin → is_guarded k.1 ≡ true → at name t k ≡ false
  guarded_set name t free k home guard =
      false_from_ne_true (at name t k) (λ e.
      let is = at_is name t k e in
      let same : same_name name origin ≡ true = rw (sym is.0, home) (name_self origin) in
      let own : is_guarded (rank_of t) ≡ true = ap is_guarded (sym is.1) ∙ guard in
      no (same_name name origin && is_guarded (rank_of t)) (both_true (same_name name origin) (is_guarded (rank_of t)) same own) free)

  keys_rrset : (name : List (List ℕ)) (t : RecordType) → Kept origin set z (delete_rrset origin set name t)
  keys_rrset name t = by_test (same_name name origin && is_guarded (rank_of t)) refl
    where
      by_test : (b : Bool) → (same_name name origin && is_guarded (rank_of t)) ≡ b → Kept origin set z (if b then set else cut set (at name t))
      by_test true e = (z, refl)
      by_test false e = (
        keys_cut origin set (at name t) z (guarded_set name t e z.soa z.soa_origin (guards_soa z.soa.1 z.soa_type))
            z.ns z.ns_there z.ns_origin z.ns_type (guarded_set name t e z.ns z.ns_origin (guards_ns z.ns.1 z.ns_type)),
        refl,
      )

  guarded_name : (name : List (List ℕ)) (k : Key) → k.0 ≡ origin → is_guarded k.1 ≡ true → goes origin name k ≡ false
  guarded_name name k home guard =
      both_false (at_name name k) (not (same_name name origin && is_guarded k.1)) (λ e f.
      let same : same_name name origin ≡ true = rw (sym (name_is k.0 name e), home) (name_self origin) in
      let g : not true ≡ true = sym (ap not (both_true (same_name name origin) (is_guarded k.1) same guard)) ∙ f in
      cc)

  keys_name : (name : List (List ℕ)) → Kept origin set z (delete_name origin set name)
  keys_name name = (
    keys_cut origin set (goes origin name) z (guarded_name name z.soa z.soa_origin (guards_soa z.soa.1 z.soa_type))
        z.ns z.ns_there z.ns_origin z.ns_type (guarded_name name z.ns z.ns_origin (guards_ns z.ns.1 z.ns_type)),
    refl,
  )

  -- a record that does not stay
  keys_record : (key : Key) → Kept origin set z (delete_record origin set key)
  keys_record key = by_test (stays origin set key) refl
    where
      away : (k : Key) → (k ≡ key → ⊥) → same_key key k ≡ false
      away k differ = key_other key k (λ same. differ (sym same))

      by_ns : stays origin set key ≡ false → same_key key z.soa ≡ false → (b : Bool) → same_key key z.ns ≡ b → Kept origin set z (cut set (same_key key))
      by_ns free soa_stays false e = (keys_cut origin set (same_key key) z soa_stays z.ns z.ns_there z.ns_origin z.ns_type e, refl)
      by_ns free soa_stays true e =
          let is : key ≡ z.ns = key_is key z.ns e in
          let home : same_name key.0 origin ≡ true = rw (ap (λ (q : Key). q.0) is, z.ns_origin) (name_self origin) in
          let type : (key.1 == rank_of types.Ns) ≡ true = kind key types.Ns (ap (λ (q : Key). q.1) is ∙ z.ns_type) in
          let others : has set (is_other_ns key) ≡ true = true_from_ne_false (has set (is_other_ns key)) (λ none. no (stays origin set key) (both_true (same_name key.0 origin) _ home (second (key.1 == rank_of types.Soa) _ (both_true (key.1 == rank_of types.Ns) (not (has set (is_other_ns key))) type (ap not none)))) free) in
          let other = some_found set (is_other_ns key) others in
          let both = and_parts (at key.0 types.Ns other.0) (not (same_key key other.0)) other.2 in
          let at_ns = at_is key.0 types.Ns other.0 both.0 in
          (keys_cut origin set (same_key key) z soa_stays other.0 (other.1, other.3) (at_ns.0 ∙ ap (λ (q : Key). q.0) is ∙ z.ns_origin) at_ns.1 (not_true (same_key key other.0) both.1), refl)
        where
          second : (a b : Bool) → b ≡ true → (a || b) ≡ true
          second true b e = refl
          second false b e = e

          not_true : (b : Bool) → not b ≡ true → b ≡ false
          not_true true e = absurd cc
          not_true false e = refl

      by_test : (b : Bool) → stays origin set key ≡ b → Kept origin set z (if b then set else cut set (same_key key))
      by_test true e = (z, refl)
      by_test false e =
          by_ns e (away z.soa (λ same.
          let home : same_name key.0 origin ≡ true = rw (ap (λ (q : Key). q.0) (sym same), z.soa_origin) (name_self origin) in
          let type : (key.1 == rank_of types.Soa) ≡ true = kind key types.Soa (ap (λ (q : Key). q.1) (sym same) ∙ z.soa_type) in
          no (stays origin set key) (both_true (same_name key.0 origin) _ home (ap (λ b. b || ((key.1 == rank_of types.Ns) && not (has set (is_other_ns key)))) type)) e)) (same_key key z.ns) refl

-- ---- a record that is put

pub found_put : (set : Records) (r : Record) (k : Key) (y : Record) → get (put set r) k ≡ Some y → ((k ≡ key_of r) × (y ≡ r)) ⊎ (get set k ≡ Some y)
found_put set r k y e = by_test (same_key k (key_of r)) refl (sym (get-put set r k) ∙ e)
  where
    by_test : (b : Bool) → same_key k (key_of r) ≡ b → cond b (Some r) (get set k) ≡ Some y → ((k ≡ key_of r) × (y ≡ r)) ⊎ (get set k ≡ Some y)
    by_test true t e = let f : Some y ≡ Some r = sym e in inl (key_is k (key_of r) t, cc)
    by_test false t e = inr e

-- what a set allows to be put into it
record Room (origin : List (List ℕ)) (set : Records) (r : Record) : Type 0 where
  record_is : IsRecord r
  inside : IsWithin r.owner origin
  below : type_of r.rdata ≡ types.Ds → IsBelow r.owner origin
  cname_alone : type_of r.rdata ≡ types.Cname → (k : Key) → There set k → k.0 ≡ r.owner → ⊥
  no_cname : (k : Key) → There set k → k.1 ≡ rank_of types.Cname → k.0 ≡ r.owner → ⊥
  same_ttl : (k : Key) (s : Record) → get set k ≡ Some s → k.0 ≡ r.owner → k.1 ≡ rank_of (type_of r.rdata) → s.ttl ≡ r.ttl

rows_put : (origin : List (List ℕ)) (set : Records) (r : Record) → Rows origin set → Room origin set r → Rows origin (put set r)
rows_put origin set r z room =
    record {
      kept = λ k y e. (elim (found_put set r k y e) [ inl both ↦ (ap key_of both.1 ∙ sym both.0, subst IsRecord (sym both.1) room.record_is) | inr old ↦ z.kept k y old ]);
      cnames = λ j k there here t e. (elim (found_put set r j there.0 there.1) [
        | inl mine ↦ elim (found_put set r k here.0 here.1) [
          | inl yours ↦ yours.0 ∙ sym mine.0
          | inr old ↦ absurd (room.cname_alone (one_rank _ types.Cname (ap (λ (q : Key). q.1) (sym mine.0) ∙ t)) k (here.0, old) (e ∙ ap (λ (q : Key). q.0) mine.0))
        ]
        | inr was ↦ elim (found_put set r k here.0 here.1) [
          | inl yours ↦ absurd (room.no_cname j (there.0, was) t (sym e ∙ ap (λ (q : Key). q.0) yours.0))
          | inr old ↦ z.cnames j k (there.0, was) (here.0, old) t e
        ]
      ]);
      owners = λ k there. (elim (found_put set r k there.0 there.1) [ inl both ↦ subst (λ (q : Key). IsWithin q.0 origin) (sym both.0) room.inside | inr old ↦ z.owners k (there.0, old) ]);
      signers = λ k there t. (elim (found_put set r k there.0 there.1) [
        | inl both ↦ subst (λ (q : Key). IsBelow q.0 origin) (sym both.0) (room.below (one_rank _ types.Ds (ap (λ (q : Key). q.1) (sym both.0) ∙ t)))
        | inr old ↦ z.signers k (there.0, old) t
      ]);
      ttls = λ j k x y e f names kinds. (elim (found_put set r j x e) [
        | inl mine ↦ elim (found_put set r k y f) [
          | inl yours ↦ ap (λ (q : Record). q.ttl) (yours.1 ∙ sym mine.1)
          | inr old ↦ room.same_ttl k y old (names ∙ ap (λ (q : Key). q.0) mine.0) (kinds ∙ ap (λ (q : Key). q.1) mine.0) ∙ sym (ap (λ (q : Record). q.ttl) mine.1)
        ]
        | inr was ↦ elim (found_put set r k y f) [
          | inl yours ↦ ap (λ (q : Record). q.ttl) yours.1 ∙ sym (room.same_ttl j x was (sym names ∙ ap (λ (q : Key). q.0) yours.0) (sym kinds ∙ ap (λ (q : Key). q.1) yours.0))
          | inr old ↦ z.ttls j k x y was old names kinds
        ]
      ]);
    }

still_put : (set : Records) (r : Record) (k : Key) → There set k → There (put set r) k
still_put set r k there = by_test (same_key k (key_of r)) refl
  where
    by_test : (b : Bool) → same_key k (key_of r) ≡ b → There (put set r) k
    by_test true t = (r, get-put set r k ∙ ap (λ b. cond b (Some r) (get set k)) t)
    by_test false t = (there.0, get-put set r k ∙ ap (λ b. cond b (Some r) (get set k)) t ∙ there.1)

-- ---- TTLs that are changed

pub found_given : (set : Records) (test : Key → Bool) (ttl : ℕ) (k : Key) (y : Record) → get (with_ttl set test ttl) k ≡ Some y → (x : Record) × (get set k ≡ Some x) × (retag test ttl k x ≡ y)
found_given set test ttl k y e = by_option (get set k) refl (sym (get-with_ttl set test ttl k) ∙ e)
  where
    by_option : (o : Option Record) → get set k ≡ o → option_map (retag test ttl k) o ≡ Some y → (x : Record) × (get set k ≡ Some x) × (retag test ttl k x ≡ y)
    by_option None is f = absurd cc
    by_option (Some x) is f = (x, is, cc)

still_given : (set : Records) (test : Key → Bool) (ttl : ℕ) (k : Key) → There set k → There (with_ttl set test ttl) k
still_given set test ttl k there = (retag test ttl k there.0, get-with_ttl set test ttl k ∙ ap (option_map (retag test ttl k)) there.1)

was_given : (set : Records) (test : Key → Bool) (ttl : ℕ) (k : Key) → There (with_ttl set test ttl) k → There set k
was_given set test ttl k there = let found = found_given set test ttl k there.0 there.1 in (found.0, found.1)

pub either_fits : (b : Bool) (m n : ℕ) → m ≤ 2147483647 → n ≤ 2147483647 → (if b then m else n) ≤ 2147483647
either_fits true m n h g = h
either_fits false m n h g = g

retag_is : (test : Key → Bool) (ttl : ℕ) (k : Key) (x : Record) → ttl ≤ 2147483647 → IsRecord x → IsRecord (retag test ttl k x)
retag_is test ttl k x fits is = record { owner = is.owner; ttl = either_fits (test k) ttl x.ttl fits is.ttl; rdata = is.rdata }

retag_key : (test : Key → Bool) (ttl : ℕ) (k : Key) (x : Record) → key_of (retag test ttl k x) ≡ key_of x
retag_key test ttl k x = refl

retag_ttl : (test : Key → Bool) (ttl : ℕ) (k : Key) (x : Record) → (retag test ttl k x).ttl ≡ (if test k then ttl else x.ttl)
retag_ttl test ttl k x = refl

rows_given : (origin : List (List ℕ)) (set : Records) (name : List (List ℕ)) (t : RecordType) (ttl : ℕ) → ttl ≤ 2147483647 → Rows origin set → Rows origin (with_ttl set (at name t) ttl)
rows_given origin set name t ttl fits z =
    record {
      kept = λ k y e. let found = found_given set (at name t) ttl k y e in let was = z.kept k found.0 found.1 in
          (ap key_of (sym found.2) ∙ retag_key (at name t) ttl k found.0 ∙ was.0, subst IsRecord found.2 (retag_is (at name t) ttl k found.0 fits was.1));
      cnames = λ j k there here. z.cnames j k (was_given set (at name t) ttl j there) (was_given set (at name t) ttl k here);
      owners = λ k there. z.owners k (was_given set (at name t) ttl k there);
      signers = λ k there. z.signers k (was_given set (at name t) ttl k there);
      ttls = λ j k x y e f names kinds.
          let mine = found_given set (at name t) ttl j x e in
          let yours = found_given set (at name t) ttl k y f in
          let tests : at name t k ≡ at name t j = λ i. same_name (names i) name && (kinds i == rank_of t) in
          ap (λ (q : Record). q.ttl) (sym yours.2) ∙ retag_ttl (at name t) ttl k yours.0
          ∙ (λ i. if tests i then ttl else z.ttls j k mine.0 yours.0 mine.1 yours.1 names kinds i)
          ∙ sym (ap (λ (q : Record). q.ttl) (sym mine.2) ∙ retag_ttl (at name t) ttl j mine.0);
    }

-- ---- additions

-- the same of another set in which the SOA is the same, or has a greater serial
abbrev pub Heir : (origin : List (List ℕ)) (a : Records) → Keys origin a → Records → Type 0
Heir origin a z b = (k : Keys origin b) × ((k.soa_there.0 ≡ z.soa_there.0) ⊎ (takes_over k.soa_there.0 (Some z.soa_there.0) ≡ true))

first_entry : (m : Records) (es : List (Key × Record)) → entries m ≡ es → (es ≡ [] → ⊥) → (k : Key) × (r : Record) × (first_of (map (λ e. e.1) es) ≡ Some r) × (get m k ≡ Some r)
first_entry m [] is some = absurd (some refl)
first_entry m (e ∷ es) is some = (e.0, e.1, refl, get-entries m e.0 ∙ ap (find key_cmp e.0) is ∙ ap (λ b. cond b (Some e.1) (find key_cmp e.0 es)) (key_self e.0))

pub soa_is : (origin : List (List ℕ)) (set : Records) (z : Keys origin set) → soa_at origin set ≡ Some z.soa_there.0
soa_is origin set z =
    let p : Key → Bool = at origin types.Soa in
    let here : p z.soa ≡ true = at_has origin types.Soa z.soa z.soa_origin z.soa_type in
    let first = first_entry (part set p) (entries (part set p)) refl (λ bare.
    some_is (part set p) z.soa z.soa_there.0 (found_in_part set p z.soa here ∙ z.soa_there.1) (get-entries (part set p) z.soa ∙ ap (find key_cmp z.soa) bare)) in
    let found = found_of_part set p first.0 first.1 first.3 in
    let one = z.soa_alone first.0 (first.1, found.1) (at_is origin types.Soa first.0 found.0).1 in
    first.2 ∙ sym found.1 ∙ ap (get set) one ∙ z.soa_there.1

pub is_kind : (r : Record) (t : RecordType) → ((key_of r).1 == rank_of t) ≡ true → type_of r.rdata ≡ t
is_kind r t e = one_rank (type_of r.rdata) t (eqb-true (rank_of (type_of r.rdata)) (rank_of t) e)

pub none_found : (set : Records) (p : Key → Bool) → has set p ≡ false → first_of (listing (part set p)) ≡ None
none_found set p e = ap (λ (es : List (Key × Record)). first_of (map (λ e. e.1) es)) (bare (entries (part set p)) (sym (len-entries (part set p)) ∙ eqb-true _ _ (opened (len (part set p) == 0) e)))
  where
    opened : (b : Bool) → not b ≡ false → b ≡ true
    opened true e = refl
    opened false e = absurd cc

    bare : (es : List (Key × Record)) → length es ≡ 0 → es ≡ []
    bare [] e = refl
    bare (e ∷ es) f = absurd cc

module _ (origin : List (List ℕ)) (set : Records) (z : Keys origin set) (r : Record) (is : IsRecord r) (inside : IsWithin r.owner origin) where
  soa_home : takes_over r (soa_at r.owner set) ≡ true → r.owner ≡ origin
  soa_home e =
      let some : has set (at r.owner types.Soa) ≡ true = true_from_ne_false (has set (at r.owner types.Soa)) (λ none. no (takes_over r (soa_at r.owner set)) e (ap (takes_over r) (none_found set (at r.owner types.Soa) none))) in
      let found = some_found set (at r.owner types.Soa) some in
      let where_is = at_is r.owner types.Soa found.0 found.2 in
      sym where_is.0 ∙ ap (λ (q : Key). q.0) (z.soa_alone found.0 (found.1, found.3) where_is.1) ∙ z.soa_origin

  -- an SOA in the place of the one at the origin
  pub keys_soa : type_of r.rdata ≡ types.Soa → r.owner ≡ origin → (k : Keys origin (put (cut set (at r.owner types.Soa)) r)) × (k.soa_there.0 ≡ r)
  keys_soa type home =
      let p : Key → Bool = at r.owner types.Soa in
      let ns_stays : p z.ns ≡ false = both_false (same_name z.ns.0 r.owner) (z.ns.1 == rank_of types.Soa) (λ e f. let g : rank_of types.Ns ≡ rank_of types.Soa = sym z.ns_type ∙ eqb-true z.ns.1 (rank_of types.Soa) f in cc) in (
        record {
          rows = rows_put origin (cut set p) r (rows_cut origin set p z.rows)
              (record {
                record_is = is;
                inside = inside;
                below = λ t. let f : types.Ds ≡ types.Soa = sym t ∙ type in absurd cc;
                cname_alone = λ t. let f : types.Cname ≡ types.Soa = sym t ∙ type in absurd cc;
                no_cname = λ k there t e.
                    let both = z.rows.cnames k z.soa (there.0, (found_uncut set p k there.0 there.1).1) z.soa_there t (z.soa_origin ∙ sym home ∙ sym e) in
                    let f : rank_of types.Soa ≡ rank_of types.Cname = sym z.soa_type ∙ ap (λ (q : Key). q.1) both ∙ t in cc;
                same_ttl = λ k s e name kinds. absurd (no (p k) (at_has r.owner types.Soa k name (kinds ∙ ap rank_of type)) (found_uncut set p k s e).0);
              });
          soa = key_of r;
          soa_there = (r, found_by_put (cut set p) r);
          soa_origin = home;
          soa_type = ap rank_of type;
          soa_alone = λ k there t. (elim (found_put (cut set p) r k there.0 there.1) [
            | inl both ↦ both.0
            | inr old ↦
                let was = found_uncut set p k there.0 old in
                let one = z.soa_alone k (there.0, was.1) t in
                absurd (no (p k) (at_has r.owner types.Soa k (ap (λ (q : Key). q.0) one ∙ z.soa_origin ∙ sym home) t) was.0)
          ]);
          ns = z.ns;
          ns_there = still_put (cut set p) r z.ns (still_uncut set p z.ns z.ns_there ns_stays);
          ns_origin = z.ns_origin;
          ns_type = z.ns_type;
        },
        refl,
      )

  keys_add_soa : type_of r.rdata ≡ types.Soa → Heir origin set z (add_soa set r)
  keys_add_soa type = by_test (takes_over r (soa_at r.owner set)) refl
    where
      by_test : (b : Bool) → takes_over r (soa_at r.owner set) ≡ b → Heir origin set z (if b then put (cut set (at r.owner types.Soa)) r else set)
      by_test true e =
          let k = keys_soa type (soa_home e) in
          (k.0, inr (ap (λ x. takes_over x (Some z.soa_there.0)) k.1 ∙ ap (takes_over r) (sym (ap (λ n. soa_at n set) (soa_home e) ∙ soa_is origin set z)) ∙ e))
      by_test false e = (z, inl refl)

  keys_add_cname : type_of r.rdata ≡ types.Cname → Kept origin set z (add_cname set r)
  keys_add_cname type = by_test (has set (is_other_type r.owner)) refl
    where
      p : Key → Bool
      p = at_name r.owner

      -- a record of another type stands elsewhere
      elsewhere : has set (is_other_type r.owner) ≡ false → (k : Key) → There set k → is_cname k ≡ false → p k ≡ false
      elsewhere none k there e =
          false_from_ne_true (p k) (λ at.
          some_is set k there.0 there.1 (none_there set (is_other_type r.owner) k none (both_true (p k) (not (is_cname k)) at (ap not e))))

      by_test : (b : Bool) → has set (is_other_type r.owner) ≡ b → Kept origin set z (if b then set else put (cut set p) r)
      by_test true e = (z, refl)
      by_test false e =
          let soa_stays = elsewhere e z.soa z.soa_there (ap (λ n. n == rank_of types.Cname) z.soa_type) in
          let ns_stays = elsewhere e z.ns z.ns_there (ap (λ n. n == rank_of types.Cname) z.ns_type) in
          let gone : (k : Key) → There (cut set p) k → k.0 ≡ r.owner → ⊥ = λ k there name. no (p k) (rw name (name_self r.owner)) (found_uncut set p k there.0 there.1).0 in (
            record {
              rows = rows_put origin (cut set p) r (rows_cut origin set p z.rows)
                  (record {
                    record_is = is;
                    inside = inside;
                    below = λ t. let f : types.Ds ≡ types.Cname = sym t ∙ type in absurd cc;
                    cname_alone = λ t k there name. gone k there name;
                    no_cname = λ k there t name. gone k there name;
                    same_ttl = λ k s f name kinds. absurd (gone k (s, f) name);
                  });
              soa = z.soa;
              soa_there = (z.soa_there.0, kept_by_put (cut set p) r z.soa (λ same. let f : rank_of types.Soa ≡ rank_of types.Cname = sym z.soa_type ∙ ap (λ (q : Key). q.1) same ∙ ap rank_of type in cc) ∙ kept_by_cut set p z.soa soa_stays ∙ z.soa_there.1);
              soa_origin = z.soa_origin;
              soa_type = z.soa_type;
              soa_alone = λ k there t. (elim (found_put (cut set p) r k there.0 there.1) [
                | inl both ↦ (let f : rank_of types.Cname ≡ rank_of types.Soa = sym (ap rank_of type) ∙ ap (λ (q : Key). q.1) (sym both.0) ∙ t in absurd cc)
                | inr old ↦ z.soa_alone k (there.0, (found_uncut set p k there.0 old).1) t
              ]);
              ns = z.ns;
              ns_there = still_put (cut set p) r z.ns (still_uncut set p z.ns z.ns_there ns_stays);
              ns_origin = z.ns_origin;
              ns_type = z.ns_type;
            },
            refl,
          )

  keys_add_other : is_soa (key_of r) ≡ false → is_cname (key_of r) ≡ false → is_misplaced origin r ≡ false → Kept origin set z (add_other set r)
  keys_add_other not_soa not_cname placed = by_test (has set (at r.owner types.Cname)) refl
    where
      q : Key → Bool
      q = at r.owner (type_of r.rdata)

      soa_differs : z.soa.1 ≡ rank_of (type_of r.rdata) → ⊥
      soa_differs e = no (is_soa (key_of r)) (kind (key_of r) types.Soa (sym e ∙ z.soa_type)) not_soa

      soa_apart : q z.soa ≡ false
      soa_apart = both_false (same_name z.soa.0 r.owner) (z.soa.1 == rank_of (type_of r.rdata)) (λ e f. soa_differs (eqb-true z.soa.1 (rank_of (type_of r.rdata)) f))

      by_test : (b : Bool) → has set (at r.owner types.Cname) ≡ b → Kept origin set z (if b then set else put (with_ttl set q r.ttl) r)
      by_test true e = (z, refl)
      by_test false e =
          let base : Records = with_ttl set q r.ttl in
          let was : (k : Key) → There base k → There set k = was_given set q r.ttl in (
            record {
              rows = rows_put origin base r (rows_given origin set r.owner (type_of r.rdata) r.ttl is.ttl z.rows)
                  (record {
                    record_is = is;
                    inside = inside;
                    below = λ t. (inside, λ home. no (is_misplaced origin r) (both_true (same_name r.owner origin) (rank_of (type_of r.rdata) == rank_of types.Ds) (rw home (name_self origin)) (kind (key_of r) types.Ds (ap rank_of t))) placed);
                    cname_alone = λ t. absurd (no (is_cname (key_of r)) (kind (key_of r) types.Cname (ap rank_of t)) not_cname);
                    no_cname = λ k there t name. let mine = was k there in some_is set k mine.0 mine.1 (none_there set (at r.owner types.Cname) k e (at_has r.owner types.Cname k name t));
                    same_ttl = λ k s f name kinds.
                        let found = found_given set q r.ttl k s f in
                        ap (λ (x : Record). x.ttl) (sym found.2) ∙ retag_ttl q r.ttl k found.0 ∙ ap (λ b. if b then r.ttl else found.0.ttl) (at_has r.owner (type_of r.rdata) k name kinds);
                  });
              soa = z.soa;
              soa_there = (z.soa_there.0, kept_by_put base r z.soa (λ same. soa_differs (ap (λ (x : Key). x.1) same)) ∙ get-with_ttl set q r.ttl z.soa ∙ untouched q r.ttl z.soa (get set z.soa) soa_apart ∙ z.soa_there.1);
              soa_origin = z.soa_origin;
              soa_type = z.soa_type;
              soa_alone = λ k there t. (elim (found_put base r k there.0 there.1) [
                | inl both ↦ absurd (no (is_soa (key_of r)) (kind (key_of r) types.Soa (ap (λ (x : Key). x.1) (sym both.0) ∙ t)) not_soa)
                | inr old ↦ z.soa_alone k (was k (there.0, old)) t
              ]);
              ns = z.ns;
              ns_there = still_put base r z.ns (still_given set q r.ttl z.ns z.ns_there);
              ns_origin = z.ns_origin;
              ns_type = z.ns_type;
            },
            refl,
          )

  keys_put : is_soa (key_of r) ≡ false → Kept origin set z (if is_cname (key_of r) then add_cname set r else (if is_misplaced origin r then set else add_other set r))
  keys_put not_soa = by_cname (is_cname (key_of r)) refl
    where
      by_place : is_cname (key_of r) ≡ false → (b : Bool) → is_misplaced origin r ≡ b → Kept origin set z (if b then set else add_other set r)
      by_place not_cname true e = (z, refl)
      by_place not_cname false e = keys_add_other not_soa not_cname e

      by_cname : (b : Bool) → is_cname (key_of r) ≡ b → Kept origin set z (if b then add_cname set r else (if is_misplaced origin r then set else add_other set r))
      by_cname true e = keys_add_cname (is_kind r types.Cname e)
      by_cname false e = by_place e (is_misplaced origin r) refl

  keys_add_kept : is_soa (key_of r) ≡ false → Kept origin set z (add origin set r)
  keys_add_kept not_soa = by_soa (is_soa (key_of r)) not_soa (add_soa set r) _ (keys_put not_soa)
    where
      by_soa : (b : Bool) → b ≡ false → (x y : Records) → Kept origin set z y → Kept origin set z (if b then x else y)
      by_soa true e x y k = absurd cc
      by_soa false e x y k = k

  keys_add : Heir origin set z (add origin set r)
  keys_add = by_soa (is_soa (key_of r)) refl
    where
      by_soa : (b : Bool) → is_soa (key_of r) ≡ b → Heir origin set z (if b then add_soa set r else (if is_cname (key_of r) then add_cname set r else (if is_misplaced origin r then set else add_other set r)))
      by_soa true e = keys_add_soa (is_kind r types.Soa e)
      by_soa false e = let k = keys_put e in (k.0, inl k.1)

-- ---- operations

effect_kept : (origin : List (List ℕ)) (set : Records) (z : Keys origin set) (op : Operation) → IsOperation op → IsWithin (acted_name op) origin → adds_soa op ≡ false → Kept origin set z (effect origin set op)
effect_kept origin set z (Add r) is inside e = keys_add_kept origin set z r is inside e
effect_kept origin set z (DeleteRrset name t) is inside e = keys_rrset origin set z name t
effect_kept origin set z (DeleteName name) is inside e = keys_name origin set z name
effect_kept origin set z (DeleteRecord name rdata) is inside e = keys_record origin set z (key_at name rdata)

pub effect_heir : (origin : List (List ℕ)) (set : Records) (z : Keys origin set) (op : Operation) → IsOperation op → IsWithin (acted_name op) origin → Heir origin set z (effect origin set op)
effect_heir origin set z (Add r) is inside = keys_add origin set z r is inside
effect_heir origin set z (DeleteRrset name t) is inside = let k = keys_rrset origin set z name t in (k.0, inl k.1)
effect_heir origin set z (DeleteName name) is inside = let k = keys_name origin set z name in (k.0, inl k.1)
effect_heir origin set z (DeleteRecord name rdata) is inside = let k = keys_record origin set z (key_at name rdata) in (k.0, inl k.1)

module _ (origin : List (List ℕ)) where
  effects_kept : (set : Records) (z : Keys origin set) (ops : List Operation) → AllByRecursion IsOperation ops → AllByRecursion (λ op. IsWithin (acted_name op) origin) ops → length (filter adds_soa ops) ≡ 0 → Kept origin set z (effects origin set ops)
  effects_kept set z [] all inside none = (z, refl)
  effects_kept set z (op ∷ ops) all inside none =
      by_test (λ step. effects_kept (effect origin set op) step ops all.1 inside.1) (adds_soa op) refl none
    where
      by_test : ((step : Keys origin (effect origin set op)) → length (filter adds_soa ops) ≡ 0 → Kept origin (effect origin set op) step (effects origin (effect origin set op) ops)) → (b : Bool) → adds_soa op ≡ b → length (cond b (op ∷ filter adds_soa ops) (filter adds_soa ops)) ≡ 0 → Kept origin set z (effects origin (effect origin set op) ops)
      by_test more true e f = absurd cc
      by_test more false e f =
          let step = effect_kept origin set z op all.0 inside.0 e in
          let rest = more step.0 f in
          (rest.0, rest.1 ∙ step.1)

  pub effects_heir : (set : Records) (z : Keys origin set) (ops : List Operation) → AllByRecursion IsOperation ops → AllByRecursion (λ op. IsWithin (acted_name op) origin) ops → length (filter adds_soa ops) ≤ 1 → Heir origin set z (effects origin set ops)
  effects_heir set z [] all inside few = (z, inl refl)
  effects_heir set z (op ∷ ops) all inside few =
      by_test (λ step. effects_heir (effect origin set op) step ops all.1 inside.1) (adds_soa op) refl few
    where
      none_more : (n : ℕ) → suc n ≤ 1 → n ≡ 0
      none_more n h = grind arith

      by_test : ((step : Keys origin (effect origin set op)) → length (filter adds_soa ops) ≤ 1 → Heir origin (effect origin set op) step (effects origin (effect origin set op) ops)) → (b : Bool) → adds_soa op ≡ b → length (cond b (op ∷ filter adds_soa ops) (filter adds_soa ops)) ≤ 1 → Heir origin set z (effects origin (effect origin set op) ops)
      by_test more true e f =
          let step = effect_heir origin set z op all.0 inside.0 in
          let rest = effects_kept (effect origin set op) step.0 ops all.1 inside.1 (none_more (length (filter adds_soa ops)) f) in
          (rest.0, elim (step.1) [ inl same ↦ inl (rest.1 ∙ same) | inr over ↦ inr (ap (λ x. takes_over x (Some z.soa_there.0)) rest.1 ∙ over) ])
      by_test more false e f =
          let step = effect_kept origin set z op all.0 inside.0 e in
          let rest = more step.0 f in
          (rest.0, elim (rest.1) [ inl same ↦ inl (same ∙ step.1) | inr over ↦ inr (ap (λ x. takes_over rest.0.soa_there.0 (Some x)) (sym step.1) ∙ over) ])
