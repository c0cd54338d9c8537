-- Two sets that are indistinguishable at some names: no prerequisite, no operation and no listing there tells them apart.
use Rattle.std.proofs.Common.{◌≡◌, ◌≢◌, ℕ, suc, List, [], ◌∷◌, Bool, true, false, cond, not, ◌&&◌, ◌||◌, ◌==◌, Option, Some, None, inl, inr, refl, sym, ap, subst, ◌∙◌, if◌then◌else◌}
use Rattle.std.specs.List.{AllByRecursion, filter, flat_map}
use Rattle.std.specs.Option.{option_or, option_map}
use Rattle.std.specs.FinMap.{get, len}
use Rattle.std.proofs.lemmas.Bool.{and_parts, false_from_ne_true}
use Rattle.dns_names.specs.Order.{same_name}
use Rattle.dns_data.specs.declared.record.Record.{Record}
use Rattle.dns_data.specs.declared.record_type.RecordType.{RecordType}
use Rattle.dns_data.specs.declared.record_type.RecordType.TheVariants as types
use Rattle.dns_data.specs.Rdata.{type_of}
use Rattle.dns_data.proofs.RecordOrderLemmas.{one_rank}
use Rattle.zone_core.specs.declared.prerequisite_code.PrerequisiteCode.{PrerequisiteCode}
use Rattle.zone_core.specs.declared.prerequisite_code.PrerequisiteCode.TheVariants.{NxDomain, YxDomain, NxRrset, YxRrset}
use Rattle.zone_core.specs.declared.update.Prerequisite.{Prerequisite}
use Rattle.zone_core.specs.declared.update.Prerequisite.TheVariants.{RrsetExists, RrsetEquals, RrsetAbsent, NameUsed, NameUnused}
use Rattle.zone_core.specs.declared.update.Operation.{Operation}
use Rattle.zone_core.specs.declared.update.Operation.TheVariants.{Add, DeleteRrset, DeleteName, DeleteRecord}
use Rattle.zone_core.specs.Sets.{Records, Key, key_of, rank_of, same_key, listing, part, cut, has, at_name, at, put, with_ttl, minus}
use Rattle.zone_core.specs.Zones.{AreKept, is_soa, is_cname, soa_at, first_of}
use Rattle.zone_core.specs.Updates.{acted_name}
use Rattle.zone_core.specs.Prerequisites.{fails, set_fails, given_for, are_data, failed, first_failed, verdict}
use Rattle.zone_core.specs.Effects.{is_other_type, takes_over, add_soa, add_cname, add_other, is_misplaced, add, is_guarded, goes, key_at, is_other_ns, stays, effect, effects, serial_advanced}
use Rattle.zone_core.specs.Visibility.{Indistinguishable, TestsSeen, IsInvisible, PassesSeen, VerdictsAreIndistinguishable, UpdatesStayIndistinguishable, InvisibleUpdatesAreIndistinguishable, ListingsAreIndistinguishable, PartsAreIndistinguishable, ChangesAreIndistinguishable, InvisibleChangesShowNothing}
use Rattle.zone_core.proofs.SetLemmas.{by_cases, name_is, name_self, get-part, get-cut, get-put, same_sets, same_parts, same_has, none_there, has_wider}
use Rattle.zone_core.proofs.EffectLemmas.{retag, get-with_ttl, effect_away}
use Rattle.zone_core.proofs.ZoneLemmas.{at_is, kind, no, both_true}
use Rattle.zone_core.proofs.OwnLemmas.{own, effects_own, effects_kept}
use Rattle.zone_core.proofs.OriginLemmas.{either, of_soa, home, rank, effect_soa, soa_added, advanced_other, updated_soa}
use Rattle.zone_core.proofs.ChangedLemmas.{kept_in_part, one_set}
use Rattle.zone_core.proofs.ListedLemmas.{passes, found_by, filtered, part_same, minus_kept, minus_same, minus_none, bare, bare_kept, nothing_listed}

-- two choices by equal tests, whose sides are equal to f
chosen : {A B : Type 0} (f : A → B) (b c : Bool) (x y u v : A) → b ≡ c → (b ≡ true → f x ≡ f u) → (b ≡ false → f y ≡ f v) → f (cond b x y) ≡ f (cond c u v)
chosen f true true x y u v e p q = p refl
chosen f true false x y u v e p q = absurd cc
chosen f false true x y u v e p q = absurd cc
chosen f false false x y u v e p q = q refl

put_alike : (c d : Records) (r : Record) (k : Key) → get c k ≡ get d k → get (put c r) k ≡ get (put d r) k
put_alike c d r k e = get-put c r k ∙ ap (cond (same_key k (key_of r)) (Some r)) e ∙ sym (get-put d r k)

-- ---- two sets that are indistinguishable

module _ (Seen : List (List ℕ) → Type 0) (origin : List (List ℕ)) (a b : Records) (alike : Indistinguishable Seen origin a b) where
  -- a test of what is seen, without the SOA at the origin
  part_alike : (p : Key → Bool) → ((k : Key) → p k ≡ true → Seen k.0) → ((k : Key) → p k ≡ true → of_soa origin k ≡ false) → part a p ≡ part b p
  part_alike p sees off = same_parts a b p (λ k e. alike.same k (sees k e) (off k e))

  -- and one that passes that SOA too, whatever its data
  wide_alike : (p : Key → Bool) → ((k : Key) → p k ≡ true → Seen k.0) → ((k : Key) → of_soa origin k ≡ true → p k ≡ true) → has a p ≡ has b p
  wide_alike p sees wide =
      by_cases (has a (of_soa origin)) (has a p ≡ has b p)
      (λ e. has_wider a (of_soa origin) p wide e ∙ sym (has_wider b (of_soa origin) p wide (sym alike.soa ∙ e)))
      (λ e. same_has a b p (λ k f. by_cases (of_soa origin k) (get a k ≡ get b k)
      (λ g. none_there a (of_soa origin) k e g ∙ sym (none_there b (of_soa origin) k (sym alike.soa ∙ e) g))
      (λ g. alike.same k (sees k f) g)))

  -- of the keys at a name a test passes all or no SOA
  name_alike : (name : List (List ℕ)) → Seen name → (p : Key → Bool) → ((k : Key) → p k ≡ true → k.0 ≡ name) → ((k : Key) → k.0 ≡ name → k.1 ≡ rank_of types.Soa → p k ≡ true) → has a p ≡ has b p
  name_alike name seen p here wide =
      by_cases (same_name name origin) (has a p ≡ has b p)
      (λ e. wide_alike p (λ k f. subst Seen (sym (here k f)) seen) (λ k f. let is = at_is origin types.Soa k f in wide k (is.0 ∙ sym (name_is name origin e)) is.1))
      (λ e. ap (λ (s : Records). not (len s == 0)) (part_alike p (λ k f. subst Seen (sym (here k f)) seen) (λ k f. false_from_ne_true (of_soa origin k) (λ g.
      no (same_name name origin) (rw (sym (here k f), (at_is origin types.Soa k g).0) (name_self origin)) e))))

  used_alike : (name : List (List ℕ)) → Seen name → has a (at_name name) ≡ has b (at_name name)
  used_alike name seen = name_alike name seen (at_name name) (λ k e. name_is k.0 name e) (λ k e type. rw e (name_self name))

  others_alike : (name : List (List ℕ)) → Seen name → has a (is_other_type name) ≡ has b (is_other_type name)
  others_alike name seen =
      name_alike name seen (is_other_type name) (λ k e. name_is k.0 name (and_parts (at_name name k) (not (is_cname k)) e).0)
      (λ k e type. both_true (at_name name k) (not (is_cname k)) (rw e (name_self name)) (ap (λ n. not (n == rank_of types.Cname)) type))

  -- a record set that is not the origin's SOA
  set_alike : (name : List (List ℕ)) (t : RecordType) → Seen name → (name ≡ origin → t ≢ types.Soa) → part a (at name t) ≡ part b (at name t)
  set_alike name t seen off =
      part_alike (at name t) (λ k e. subst Seen (sym (at_is name t k e).0) seen) (λ k e. false_from_ne_true (of_soa origin k) (λ f.
      let is = at_is name t k e in
      let soa = at_is origin types.Soa k f in
      off (sym is.0 ∙ soa.0) (one_rank t types.Soa (sym is.1 ∙ soa.1))))

  stands_alike : (name : List (List ℕ)) (t : RecordType) → Seen name → (name ≡ origin → t ≢ types.Soa) → has a (at name t) ≡ has b (at name t)
  stands_alike name t seen off = ap (λ (s : Records). not (len s == 0)) (set_alike name t seen off)

  -- ---- prerequisites

  fails_alike : (p : Prerequisite) → TestsSeen Seen origin p → fails a p ≡ fails b p
  fails_alike (RrsetExists name t) tests = ap (λ h. if h then None else Some NxRrset) (stands_alike name t tests.0 tests.1)
  fails_alike (RrsetEquals name rdata) tests = refl
  fails_alike (RrsetAbsent name t) tests = ap (λ h. if h then Some YxRrset else None) (stands_alike name t tests.0 tests.1)
  fails_alike (NameUsed name) tests = ap (λ h. if h then None else Some NxDomain) (used_alike name tests)
  fails_alike (NameUnused name) tests = ap (λ h. if h then Some YxDomain else None) (used_alike name tests)

  set_fails_alike : (all : List Prerequisite) (p : Prerequisite) → TestsSeen Seen origin p → set_fails a all p ≡ set_fails b all p
  set_fails_alike all (RrsetExists name t) tests = refl
  set_fails_alike all (RrsetEquals name rdata) tests =
      ap (λ (s : Records). if are_data s (flat_map (given_for name (type_of rdata)) all) then None else Some NxRrset) (set_alike name (type_of rdata) tests.0 tests.1)
  set_fails_alike all (RrsetAbsent name t) tests = refl
  set_fails_alike all (NameUsed name) tests = refl
  set_fails_alike all (NameUnused name) tests = refl

  first_alike : (code other : Prerequisite → Option PrerequisiteCode) → ((p : Prerequisite) → TestsSeen Seen origin p → code p ≡ other p) → (i : ℕ) (ps : List Prerequisite) → AllByRecursion (TestsSeen Seen origin) ps → first_failed code i ps ≡ first_failed other i ps
  first_alike code other same i [] all = refl
  first_alike code other same i (p ∷ ps) all = λ j. option_or (option_map (failed i) (same p all.0 j)) (first_alike code other same (suc i) ps all.1 j)

  verdict_alike : (ps : List Prerequisite) → AllByRecursion (TestsSeen Seen origin) ps → verdict a ps ≡ verdict b ps
  verdict_alike ps all =
      λ j. option_or (first_alike (fails a) (fails b) fails_alike 0 ps all j) (first_alike (set_fails a ps) (set_fails b ps) (set_fails_alike ps) 0 ps all j)

  -- ---- operations

  cut_alike : (p : Key → Bool) (k : Key) → get a k ≡ get b k → get (cut a p) k ≡ get (cut b p) k
  cut_alike p k e = get-cut a p k ∙ ap (cond (p k) None) e ∙ sym (get-cut b p k)

  given_alike : (p : Key → Bool) (ttl : ℕ) (k : Key) → get a k ≡ get b k → get (with_ttl a p ttl) k ≡ get (with_ttl b p ttl) k
  given_alike p ttl k e = get-with_ttl a p ttl k ∙ ap (option_map (retag p ttl k)) e ∙ sym (get-with_ttl b p ttl k)

  module _ (r : Record) (seen : Seen r.owner) (k : Key) (off : of_soa origin k ≡ false) (e : get a k ≡ get b k) where
    soa_alike : is_soa (key_of r) ≡ true → get (add_soa a r) k ≡ get (add_soa b r) k
    soa_alike type =
        by_cases (same_name r.owner origin) (get (add_soa a r) k ≡ get (add_soa b r) k)
        (λ f. let here = name_is r.owner origin f in soa_added origin a r here type k off ∙ e ∙ sym (soa_added origin b r here type k off))
        (λ f.
        let olds : soa_at r.owner a ≡ soa_at r.owner b = ap (λ (s : Records). first_of (listing s)) (set_alike r.owner types.Soa seen (λ here _. no (same_name r.owner origin) (home origin r.owner here) f)) in
        chosen (λ (s : Records). get s k) (takes_over r (soa_at r.owner a)) (takes_over r (soa_at r.owner b)) (put (cut a (at r.owner types.Soa)) r) a (put (cut b (at r.owner types.Soa)) r) b
        (ap (takes_over r) olds) (λ g. put_alike (cut a (at r.owner types.Soa)) (cut b (at r.owner types.Soa)) r k (cut_alike (at r.owner types.Soa) k e)) (λ g. e))

    cname_alike : get (add_cname a r) k ≡ get (add_cname b r) k
    cname_alike =
        chosen (λ (s : Records). get s k) (has a (is_other_type r.owner)) (has b (is_other_type r.owner)) a (put (cut a (at_name r.owner)) r) b (put (cut b (at_name r.owner)) r)
        (others_alike r.owner seen) (λ g. e) (λ g. put_alike (cut a (at_name r.owner)) (cut b (at_name r.owner)) r k (cut_alike (at_name r.owner) k e))

    other_alike : get (add_other a r) k ≡ get (add_other b r) k
    other_alike =
        let p : Key → Bool = at r.owner (type_of r.rdata) in
        chosen (λ (s : Records). get s k) (has a (at r.owner types.Cname)) (has b (at r.owner types.Cname)) a (put (with_ttl a p r.ttl) r) b (put (with_ttl b p r.ttl) r)
        (stands_alike r.owner types.Cname seen (λ _. cname_apart)) (λ g. e) (λ g. put_alike (with_ttl a p r.ttl) (with_ttl b p r.ttl) r k (given_alike p r.ttl k e))
      where
        cname_apart : types.Cname ≢ types.Soa
        cname_apart f = absurd cc

    add_alike : get (add origin a r) k ≡ get (add origin b r) k
    add_alike =
        chosen (λ (s : Records). get s k) (is_soa (key_of r)) (is_soa (key_of r)) (add_soa a r) _ (add_soa b r) _ refl soa_alike (λ _.
        chosen (λ (s : Records). get s k) (is_cname (key_of r)) (is_cname (key_of r)) (add_cname a r) _ (add_cname b r) _ refl (λ _. cname_alike) (λ _.
        chosen (λ (s : Records). get s k) (is_misplaced origin r) (is_misplaced origin r) a (add_other a r) b (add_other b r) refl (λ _. e) (λ _. other_alike)))

  stays_alike : (key : Key) → Seen key.0 → stays origin a key ≡ stays origin b key
  stays_alike key seen =
      let ns : (k : Key) → is_other_ns key k ≡ true → at key.0 types.Ns k ≡ true = λ k e. (and_parts (at key.0 types.Ns k) (not (same_key key k)) e).0 in
      let parts : part a (is_other_ns key) ≡ part b (is_other_ns key) =
      part_alike (is_other_ns key) (λ k e. subst Seen (sym (at_is key.0 types.Ns k (ns k e)).0) seen) (λ k e. false_from_ne_true (of_soa origin k) (λ f.
      let types : rank_of types.Ns ≡ rank_of types.Soa = sym (at_is key.0 types.Ns k (ns k e)).1 ∙ rank origin k f in cc)) in
      ap (λ (s : Records). same_name key.0 origin && ((key.1 == rank_of types.Soa) || ((key.1 == rank_of types.Ns) && not (not (len s == 0))))) parts

  effect_alike : (op : Operation) → Seen (acted_name op) → (k : Key) → Seen k.0 → of_soa origin k ≡ false → get (effect origin a op) k ≡ get (effect origin b op) k
  effect_alike (Add r) seen k sees off = add_alike r seen k off (alike.same k sees off)
  effect_alike (DeleteRrset name t) seen k sees off =
      let e = alike.same k sees off in
      chosen (λ (s : Records). get s k) (same_name name origin && is_guarded (rank_of t)) (same_name name origin && is_guarded (rank_of t)) a (cut a (at name t)) b (cut b (at name t)) refl
      (λ _. e) (λ _. cut_alike (at name t) k e)
  effect_alike (DeleteName name) seen k sees off = cut_alike (goes origin name) k (alike.same k sees off)
  effect_alike (DeleteRecord name rdata) seen k sees off =
      let e = alike.same k sees off in
      let key = key_at name rdata in
      chosen (λ (s : Records). get s k) (stays origin a key) (stays origin b key) a (cut a (same_key key)) b (cut b (same_key key)) (stays_alike key seen) (λ _. e) (λ _. cut_alike (same_key key) k e)

  after_alike : (op : Operation) → Seen (acted_name op) → Indistinguishable Seen origin (effect origin a op) (effect origin b op)
  after_alike op seen = record { same = effect_alike op seen; soa = effect_soa origin a op ∙ alike.soa ∙ sym (effect_soa origin b op) }

module _ (Seen : List (List ℕ) → Type 0) (origin : List (List ℕ)) where
  effects_alike : (a b : Records) → Indistinguishable Seen origin a b → (ops : List Operation) → AllByRecursion (λ op. Seen (acted_name op)) ops → Indistinguishable Seen origin (effects origin a ops) (effects origin b ops)
  effects_alike a b alike [] all = alike
  effects_alike a b alike (op ∷ ops) all = effects_alike (effect origin a op) (effect origin b op) (after_alike Seen origin a b alike op all.0) ops all.1

  -- an operation elsewhere, or one that adds an SOA at the origin
  effect_invisible : (z : Records) (op : Operation) → IsInvisible Seen origin op → (k : Key) → Seen k.0 → of_soa origin k ≡ false → get (effect origin z op) k ≡ get z k
  effect_invisible z (Add r) (inl away) k sees off = effect_away origin z (Add r) k (λ e. away (subst Seen e sees))
  effect_invisible z (Add r) (inr there) k sees off =
      let type : is_soa (key_of r) ≡ true = kind (key_of r) types.Soa (ap rank_of there.1) in
      either (λ (s : Records). get s k) (is_soa (key_of r)) (add_soa z r) _ (get z k) (λ _. soa_added origin z r there.0 type k off) (λ e. absurd (no (is_soa (key_of r)) type e))
  effect_invisible z (DeleteRrset name t) away k sees off = effect_away origin z (DeleteRrset name t) k (λ e. away (subst Seen e sees))
  effect_invisible z (DeleteName name) away k sees off = effect_away origin z (DeleteName name) k (λ e. away (subst Seen e sees))
  effect_invisible z (DeleteRecord name rdata) away k sees off = effect_away origin z (DeleteRecord name rdata) k (λ e. away (subst Seen e sees))

  effects_invisible : (z : Records) (ops : List Operation) → AllByRecursion (IsInvisible Seen origin) ops → (k : Key) → Seen k.0 → of_soa origin k ≡ false → get (effects origin z ops) k ≡ get z k
  effects_invisible z [] all k sees off = refl
  effects_invisible z (op ∷ ops) all k sees off = effects_invisible (effect origin z op) ops all.1 k sees off ∙ effect_invisible z op all.0 k sees off

-- ---- lists of records

module _ (Seen : List (List ℕ) → Type 0) (origin : List (List ℕ)) (f : Record → Bool) (passed : PassesSeen Seen origin f) where
  -- what is found and passes is seen
  sees : (a : Records) → AreKept a → (k : Key) (o : Option Record) → get a k ≡ o → passes f o ≡ true → Seen k.0 × (of_soa origin k ≡ false)
  sees a kept k None e t = absurd cc
  sees a kept k (Some r) e t = let key = (kept k r e).0 in subst (λ (q : Key). Seen q.0 × (of_soa origin q ≡ false)) key (passed r t)

  parts_alike : (a b : Records) → AreKept a → AreKept b → ((k : Key) → Seen k.0 → of_soa origin k ≡ false → get a k ≡ get b k) → part a (found_by f a) ≡ part b (found_by f b)
  parts_alike a b kept also same =
      same_sets (part a (found_by f a)) (part b (found_by f b)) (λ k. get-part a (found_by f a) k ∙ at_key k ∙ sym (get-part b (found_by f b) k))
    where
      at_key : (k : Key) → cond (found_by f a k) (get a k) None ≡ cond (found_by f b k) (get b k) None
      at_key k =
          by_cases (found_by f a k) (cond (found_by f a k) (get a k) None ≡ cond (found_by f b k) (get b k) None)
          (λ e. let seen = sees a kept k (get a k) refl e in ap (λ (o : Option Record). cond (passes f o) o None) (same k seen.0 seen.1)) (λ e.
          by_cases (found_by f b k) (cond (found_by f a k) (get a k) None ≡ cond (found_by f b k) (get b k) None)
          (λ g. let seen = sees b also k (get b k) refl g in ap (λ (o : Option Record). cond (passes f o) o None) (same k seen.0 seen.1))
          (λ g. ap (λ t. cond t (get a k) None) e ∙ sym (ap (λ t. cond t (get b k) None) g)))

  rows_alike : (a b : Records) → AreKept a → AreKept b → ((k : Key) → Seen k.0 → of_soa origin k ≡ false → get a k ≡ get b k) → filter f (listing a) ≡ filter f (listing b)
  rows_alike a b kept also same = filtered a kept f ∙ ap (λ (s : Records). listing s) (parts_alike a b kept also same) ∙ sym (filtered b also f)

-- ---- the laws

module _ (Seen : List (List ℕ) → Type 0) where
  pub verdicts_are_indistinguishable : VerdictsAreIndistinguishable Seen
  verdicts_are_indistinguishable origin a b alike ps all = verdict_alike Seen origin a b alike ps all

  pub updates_stay_indistinguishable : UpdatesStayIndistinguishable Seen
  updates_stay_indistinguishable origin a b kept also alike ops are seen =
      let made = effects_alike Seen origin a b alike ops seen in
      let other : (z : Records) → AreKept z → (k : Key) → of_soa origin k ≡ false → get (serial_advanced origin z (effects origin z ops)) k ≡ get (effects origin z ops) k =
      λ z is k off. advanced_other origin z (effects origin z ops) (effects_own origin z ops (own z is)) k off (λ e. one_set z (effects origin z ops) is (effects_kept origin z ops are is) e k) in
      record {
        same = λ k sees off. other a kept k off ∙ made.same k sees off ∙ sym (other b also k off);
        soa = updated_soa origin a ops (own a kept) ∙ alike.soa ∙ sym (updated_soa origin b ops (own b also));
      }

  pub invisible_updates_are_indistinguishable : InvisibleUpdatesAreIndistinguishable Seen
  invisible_updates_are_indistinguishable origin a kept ops invisible =
      let still = effects_invisible Seen origin a ops invisible in
      record {
        same = λ k sees off. sym (advanced_other origin a (effects origin a ops) (effects_own origin a ops (own a kept)) k off (λ _. sym (still k sees off)) ∙ still k sees off);
        soa = sym (updated_soa origin a ops (own a kept));
      }

  pub listings_are_indistinguishable : ListingsAreIndistinguishable Seen
  listings_are_indistinguishable origin a b kept also alike f passed = rows_alike Seen origin f passed a b kept also alike.same

  pub parts_are_indistinguishable : PartsAreIndistinguishable Seen
  parts_are_indistinguishable origin a b kept also alike test f passed =
      rows_alike Seen origin f passed (part a test) (part b test) (kept_in_part a test kept) (kept_in_part b test also) (λ k sees off. part_same a b test k (alike.same k sees off))

  pub changes_are_indistinguishable : ChangesAreIndistinguishable Seen
  changes_are_indistinguishable origin a b c d kept also first second f passed =
      rows_alike Seen origin f passed (minus a c) (minus b d) (minus_kept a c kept) (minus_kept b d also) (λ k sees off.
      minus_same a b c d k (first.same k sees off) (second.same k sees off))

  pub invisible_changes_show_nothing : InvisibleChangesShowNothing Seen
  invisible_changes_show_nothing origin a b kept alike f passed =
      rows_alike Seen origin f passed (minus a b) bare (minus_kept a b kept) bare_kept (λ k sees off. minus_none a b k (alike.same k sees off))
      ∙ ap (filter f) nothing_listed
