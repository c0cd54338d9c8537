-- The SOA at the origin: no operation takes it, none brings one, and the next serial is of no other record.
use Rattle.std.proofs.Common.{◌≡◌, ℕ, List, [], ◌∷◌, map, Bool, true, false, cond, not, ◌&&◌, ◌||◌, ◌==◌, Option, Some, None, refl, sym, ap, subst, ◌∙◌}
use Rattle.std.specs.FinMap.{get, entries, find, get-entries}
use Rattle.std.proofs.lemmas.Bool.{and_parts, eqb-true, false_from_ne_true, true_from_ne_false}
use Rattle.dns_names.specs.Order.{same_name}
use Rattle.dns_data.specs.declared.record.Record.{Record}
use Rattle.dns_data.specs.declared.record_type.RecordType.TheVariants as types
use Rattle.dns_data.specs.Rdata.{type_of}
use Rattle.zone_core.specs.declared.update.Operation.{Operation}
use Rattle.zone_core.specs.declared.update.Operation.TheVariants.{Add, DeleteRrset, DeleteName, DeleteRecord}
use Rattle.zone_core.specs.Sets.{Records, Key, key_of, key_cmp, rank_of, same_key, part, cut, has, at_name, at, put, with_ttl, is_same}
use Rattle.zone_core.specs.Zones.{is_soa, is_cname, soa_at, serial_at, first_of}
use Rattle.zone_core.specs.Updates.{acted_name}
use Rattle.zone_core.specs.Effects.{is_other_type, takes_over, add_soa, add_cname, add_other, is_misplaced, add, is_guarded, goes, key_at, is_other_ns, stays, effect, effects, next_version, with_next, serial_advanced}
use Rattle.zone_core.proofs.SetLemmas.{by_cases, name_is, name_self, key_is, key_self, kept_by_cut, gone_by_cut, kept_by_put, found_by_put, found_of_part, same_has, none_there, has_found}
use Rattle.zone_core.proofs.EffectLemmas.{get-with_ttl, untouched, effect_away}
use Rattle.zone_core.proofs.ZoneLemmas.{at_is, at_has, kind, no, both_true, none_found}
use Rattle.zone_core.proofs.VersionLemmas.{next_type}
use Rattle.zone_core.proofs.OwnLemmas.{AreOwn, effects_own}

-- ---- choices

-- a choice both of whose sides are one to f
pub either : {A B : Type 0} (f : A → B) (b : Bool) (x y : A) (z : B) → (b ≡ true → f x ≡ z) → (b ≡ false → f y ≡ z) → f (cond b x y) ≡ z
either f true x y z p q = p refl
either f false x y z p q = q refl

or_left : (a b : Bool) → a ≡ true → (a || b) ≡ true
or_left true b e = refl
or_left false b e = absurd cc

not_true : (b : Bool) → not b ≡ true → b ≡ true → ⊥
not_true true e f = absurd cc
not_true false e f = cc

-- ---- whether the origin has an SOA

module _ (origin : List (List ℕ)) where
  abbrev pub of_soa : Key → Bool
  of_soa = at origin types.Soa

  pub home : (name : List (List ℕ)) → name ≡ origin → same_name name origin ≡ true
  home name here = rw here (name_self origin)

  pub rank : (k : Key) → of_soa k ≡ true → k.1 ≡ rank_of types.Soa
  rank k e = (at_is origin types.Soa k e).1

  -- the key of a record of another type
  other_key : (r : Record) → is_soa (key_of r) ≡ false → (k : Key) → of_soa k ≡ true → k ≡ key_of r → ⊥
  other_key r differs k e same = no (is_soa (key_of r)) (kind (key_of r) types.Soa (sym (ap (λ (q : Key). q.1) same) ∙ rank k e)) differs

  other_set : (r : Record) → is_soa (key_of r) ≡ false → (k : Key) → of_soa k ≡ true → at r.owner (type_of r.rdata) k ≡ false
  other_set r differs k e =
      false_from_ne_true (at r.owner (type_of r.rdata) k) (λ t.
      no (is_soa (key_of r)) (kind (key_of r) types.Soa (sym (at_is r.owner (type_of r.rdata) k t).1 ∙ rank k e)) differs)

  guard : (n : ℕ) → n ≡ rank_of types.Soa → is_guarded n ≡ true
  guard n e = rw e refl

  module _ (z : Records) where
    soa_stands : (r : Record) → takes_over r (soa_at r.owner z) ≡ true → has z (at r.owner types.Soa) ≡ true
    soa_stands r e =
        true_from_ne_false (has z (at r.owner types.Soa)) (λ none. no (takes_over r (soa_at r.owner z)) e (ap (takes_over r) (none_found z (at r.owner types.Soa) none)))

    soa_here : (r : Record) → r.owner ≡ origin → is_soa (key_of r) ≡ true → has (add_soa z r) of_soa ≡ has z of_soa
    soa_here r here type =
        either (λ (s : Records). has s of_soa) (takes_over r (soa_at r.owner z)) (put (cut z (at r.owner types.Soa)) r) z (has z of_soa)
        (λ e. has_found (put (cut z (at r.owner types.Soa)) r) of_soa (key_of r) r (at_has origin types.Soa (key_of r) here (eqb-true (key_of r).1 (rank_of types.Soa) type)) (found_by_put (cut z (at r.owner types.Soa)) r)
        ∙ sym (subst (λ (n : List (List ℕ)). has z (at n types.Soa) ≡ true) here (soa_stands r e)))
        (λ e. refl)

    cname_here : (r : Record) → r.owner ≡ origin → is_soa (key_of r) ≡ false → has (add_cname z r) of_soa ≡ has z of_soa
    cname_here r here differs =
        either (λ (s : Records). has s of_soa) (has z (is_other_type r.owner)) z (put (cut z (at_name r.owner)) r) (has z of_soa) (λ e. refl)
        (λ e. same_has (put (cut z (at_name r.owner)) r) z of_soa (λ k t.
        let owner : at_name r.owner k ≡ true = rw ((at_is origin types.Soa k t).0, here) (name_self origin) in
        let soa : is_cname k ≡ false = ap (λ n. n == rank_of types.Cname) (rank k t) in
        kept_by_put (cut z (at_name r.owner)) r k (other_key r differs k t) ∙ gone_by_cut z (at_name r.owner) k owner
        ∙ sym (none_there z (is_other_type r.owner) k e (both_true (at_name r.owner k) (not (is_cname k)) owner (ap not soa)))))

    other_here : (r : Record) → is_soa (key_of r) ≡ false → has (add_other z r) of_soa ≡ has z of_soa
    other_here r differs =
        let p : Key → Bool = at r.owner (type_of r.rdata) in
        either (λ (s : Records). has s of_soa) (has z (at r.owner types.Cname)) z (put (with_ttl z p r.ttl) r) (has z of_soa) (λ e. refl)
        (λ e. same_has (put (with_ttl z p r.ttl) r) z of_soa (λ k t.
        kept_by_put (with_ttl z p r.ttl) r k (other_key r differs k t) ∙ get-with_ttl z p r.ttl k ∙ untouched p r.ttl k (get z k) (other_set r differs k t)))

    add_here : (r : Record) → r.owner ≡ origin → has (add origin z r) of_soa ≡ has z of_soa
    add_here r here =
        either (λ (s : Records). has s of_soa) (is_soa (key_of r)) (add_soa z r) _ (has z of_soa) (soa_here r here) (λ differs.
        either (λ (s : Records). has s of_soa) (is_cname (key_of r)) (add_cname z r) _ (has z of_soa) (λ e. cname_here r here differs) (λ e.
        either (λ (s : Records). has s of_soa) (is_misplaced origin r) z (add_other z r) (has z of_soa) (λ f. refl) (λ f. other_here r differs)))

    -- an operation at the origin
    at_origin : (op : Operation) → acted_name op ≡ origin → has (effect origin z op) of_soa ≡ has z of_soa
    at_origin (Add r) here = add_here r here
    at_origin (DeleteRrset name t) here =
        either (λ (s : Records). has s of_soa) (same_name name origin && is_guarded (rank_of t)) z (cut z (at name t)) (has z of_soa) (λ e. refl)
        (λ e. same_has (cut z (at name t)) z of_soa (λ k f. kept_by_cut z (at name t) k (false_from_ne_true (at name t k) (λ g.
        no (same_name name origin && is_guarded (rank_of t)) (both_true (same_name name origin) (is_guarded (rank_of t)) (home name here) (guard (rank_of t) (sym (at_is name t k g).1 ∙ rank k f))) e))))
    at_origin (DeleteName name) here =
        same_has (cut z (goes origin name)) z of_soa (λ k f. kept_by_cut z (goes origin name) k (false_from_ne_true (goes origin name k) (λ g.
        not_true (same_name name origin && is_guarded k.1) (and_parts (at_name name k) (not (same_name name origin && is_guarded k.1)) g).1
        (both_true (same_name name origin) (is_guarded k.1) (home name here) (guard k.1 (rank k f))))))
    at_origin (DeleteRecord name rdata) here =
        let key = key_at name rdata in
        either (λ (s : Records). has s of_soa) (stays origin z key) z (cut z (same_key key)) (has z of_soa) (λ e. refl)
        (λ e. same_has (cut z (same_key key)) z of_soa (λ k f. kept_by_cut z (same_key key) k (false_from_ne_true (same_key key k) (λ g.
        no (stays origin z key)
        (both_true (same_name name origin) ((key.1 == rank_of types.Soa) || ((key.1 == rank_of types.Ns) && not (has z (is_other_ns key)))) (home name here)
        (or_left (key.1 == rank_of types.Soa) ((key.1 == rank_of types.Ns) && not (has z (is_other_ns key))) (kind key types.Soa (ap (λ (q : Key). q.1) (key_is key k g) ∙ rank k f)))) e))))

  -- no operation takes the origin's SOA, and none brings it one
  pub effect_soa : (z : Records) (op : Operation) → has (effect origin z op) of_soa ≡ has z of_soa
  effect_soa z op =
      by_cases (same_name (acted_name op) origin) (has (effect origin z op) of_soa ≡ has z of_soa) (λ e. at_origin z op (name_is (acted_name op) origin e))
      (λ e. same_has (effect origin z op) z of_soa (λ k f. effect_away origin z op k (λ g.
      no (same_name (acted_name op) origin) (home (acted_name op) (sym g ∙ (at_is origin types.Soa k f).0)) e)))

  effects_soa : (z : Records) (ops : List Operation) → has (effects origin z ops) of_soa ≡ has z of_soa
  effects_soa z [] = refl
  effects_soa z (op ∷ ops) = effects_soa (effect origin z op) ops ∙ effect_soa z op

-- ---- the serial

first_found : (m : Records) (es : List (Key × Record)) (x : Record) → entries m ≡ es → first_of (map (λ (e : Key × Record). e.1) es) ≡ Some x → (k : Key) × (get m k ≡ Some x)
first_found m [] x is e = absurd cc
first_found m (f ∷ es) x is e = (f.0, get-entries m f.0 ∙ ap (find key_cmp f.0) is ∙ ap (λ b. cond b (Some f.1) (find key_cmp f.0 es)) (key_self f.0) ∙ e)

module _ (origin : List (List ℕ)) where
  soa_found : (b : Records) (x : Record) → soa_at origin b ≡ Some x → (k : Key) × (of_soa origin k ≡ true) × (get b k ≡ Some x)
  soa_found b x e =
      let first = first_found (part b (of_soa origin)) (entries (part b (of_soa origin))) x refl e in
      let found = found_of_part b (of_soa origin) first.0 x first.1 in
      (first.0, found.0, found.1)

  record IsHome (b : Records) (soa : Record) : Type 0 where
    key : Key
    at_origin : of_soa origin key ≡ true
    there : get b key ≡ Some soa
    owner : soa.owner ≡ origin
    next_at : of_soa origin (key_of (next_version soa)) ≡ true

  is_home : (b : Records) → AreOwn b → (soa : Record) → soa_at origin b ≡ Some soa → IsHome b soa
  is_home b owns soa e =
      let found = soa_found b soa e in
      let key = (owns found.0 soa found.2).0 in
      let where_is = at_is origin types.Soa found.0 found.1 in
      let owner : soa.owner ≡ origin = ap (λ (q : Key). q.0) key ∙ where_is.0 in
      record {
        key = found.0;
        at_origin = found.1;
        there = found.2;
        owner = owner;
        next_at = at_has origin types.Soa (key_of (next_version soa)) owner (ap rank_of (next_type soa.rdata) ∙ ap (λ (q : Key). q.1) key ∙ where_is.1);
      }

  -- the next version of the SOA stands in its place
  next_other : (b : Records) → AreOwn b → (k : Key) → of_soa origin k ≡ false → (x : Option Record) → soa_at origin b ≡ x → get (with_next b x) k ≡ get b k
  next_other b owns k off None e = refl
  next_other b owns k off (Some soa) e =
      let is = is_home b owns soa e in
      kept_by_put (cut b (at soa.owner types.Soa)) (next_version soa) k (λ same. no (of_soa origin k) (ap (of_soa origin) same ∙ is.next_at) off)
      ∙ kept_by_cut b (at soa.owner types.Soa) k (ap (λ (n : List (List ℕ)). at n types.Soa k) is.owner ∙ off)

  next_here : (b : Records) → AreOwn b → (x : Option Record) → soa_at origin b ≡ x → has (with_next b x) (of_soa origin) ≡ has b (of_soa origin)
  next_here b owns None e = refl
  next_here b owns (Some soa) e =
      let is = is_home b owns soa e in
      has_found (with_next b (Some soa)) (of_soa origin) (key_of (next_version soa)) (next_version soa) is.next_at (found_by_put (cut b (at soa.owner types.Soa)) (next_version soa))
      ∙ sym (has_found b (of_soa origin) is.key soa is.at_origin is.there)

  pub advanced_other : (a b : Records) → AreOwn b → (k : Key) → of_soa origin k ≡ false → (is_same a b ≡ true → get a k ≡ get b k) → get (serial_advanced origin a b) k ≡ get b k
  advanced_other a b owns k off same =
      either (λ (s : Records). get s k) (is_same a b) a _ (get b k) same (λ e.
      either (λ (s : Records). get s k) (serial_at origin a == serial_at origin b) (with_next b (soa_at origin b)) b (get b k) (λ f. next_other b owns k off (soa_at origin b) refl) (λ f. refl))

  advanced_here : (a b : Records) → AreOwn b → has a (of_soa origin) ≡ has b (of_soa origin) → has (serial_advanced origin a b) (of_soa origin) ≡ has b (of_soa origin)
  advanced_here a b owns same =
      either (λ (s : Records). has s (of_soa origin)) (is_same a b) a _ (has b (of_soa origin)) (λ e. same) (λ e.
      either (λ (s : Records). has s (of_soa origin)) (serial_at origin a == serial_at origin b) (with_next b (soa_at origin b)) b (has b (of_soa origin)) (λ f. next_here b owns (soa_at origin b) refl) (λ f. refl))

  pub updated_soa : (a : Records) (ops : List Operation) → AreOwn a → has (serial_advanced origin a (effects origin a ops)) (of_soa origin) ≡ has a (of_soa origin)
  updated_soa a ops owns =
      advanced_here a (effects origin a ops) (effects_own origin a ops owns) (sym (effects_soa origin a ops)) ∙ effects_soa origin a ops

-- an SOA that is added at the origin changes no other record
pub soa_added : (origin : List (List ℕ)) (z : Records) (r : Record) → r.owner ≡ origin → is_soa (key_of r) ≡ true → (k : Key) → of_soa origin k ≡ false → get (add_soa z r) k ≡ get z k
soa_added origin z r here type k off =
    let there : of_soa origin (key_of r) ≡ true = at_has origin types.Soa (key_of r) here (eqb-true (key_of r).1 (rank_of types.Soa) type) in
    either (λ (s : Records). get s k) (takes_over r (soa_at r.owner z)) (put (cut z (at r.owner types.Soa)) r) z (get z k)
    (λ e. kept_by_put (cut z (at r.owner types.Soa)) r k (λ same. no (of_soa origin k) (ap (of_soa origin) same ∙ there) off)
    ∙ kept_by_cut z (at r.owner types.Soa) k (ap (λ (n : List (List ℕ)). at n types.Soa k) here ∙ off))
    (λ e. refl)
