-- What updates in turn make of a zone: the records of the zone after one update with all their operations, and its SOA but for the serial.
use Rattle.std.proofs.Common.{◌≡◌, inl, inr, ℕ, List, [], ◌∷◌, ◌++◌, Bool, true, false, cond, not, ◌==◌, if◌then◌else◌, Option, Some, None, refl, sym, ap, subst, ◌∙◌}
use Rattle.std.specs.List.{AllByRecursion, filter}
use Rattle.std.specs.FinMap.{get}
use Rattle.dns_names.specs.Labels.{IsWithin}
use Rattle.dns_names.specs.Order.{same_name}
use Rattle.dns_data.specs.declared.record.Record.{Record}
use Rattle.dns_data.specs.declared.record_type.RecordType.TheVariants as types
use Rattle.dns_data.specs.Rdata.{type_of}
use Rattle.dns_data.proofs.RecordOrderLemmas.{one_rank}
use Rattle.zone_core.specs.declared.update.Operation.{Operation}
use Rattle.zone_core.specs.declared.update.Operation.TheVariants.{Add, DeleteRrset, DeleteName, DeleteRecord}
use Rattle.zone_core.specs.Sets.{Records, Key, key_of, rank_of, same_key, cut, has, at, put, is_same, IsIn}
use Rattle.zone_core.specs.Zones.{ZoneOf, IsZone, is_soa, soa_at, serial_at, serial_in}
use Rattle.zone_core.specs.Serials.{serial_sum}
use Rattle.zone_core.specs.Updates.{UpdateOf, IsOperation, acted_name, adds_soa}
use Rattle.zone_core.specs.Effects.{takes_over, add_soa, effect, effects, next_version, with_next, serial_advanced, zone_after}
use Rattle.zone_core.specs.Accounts.{Takes, Stays}
use Rattle.zone_core.specs.Visibility.{Indistinguishable}
use Rattle.zone_core.proofs.SetLemmas.{by_cases, name_is, name_self, get-cut, get-put, same_sets, has_nothing, has_found}
use Rattle.zone_core.proofs.ZoneLemmas.{Keys, keys_of, soa_is, at_is, at_has, kind, no, none_found, effect_heir}
use Rattle.zone_core.proofs.VersionLemmas.{next_keys}
use Rattle.zone_core.proofs.OwnLemmas.{own, effects_own, effects_kept}
use Rattle.zone_core.proofs.OriginLemmas.{either, advanced_other, soa_added}
use Rattle.zone_core.proofs.ChangedLemmas.{one_set, same_sets_are_one}
use Rattle.zone_core.proofs.AccountLemmas.{left_effects}
use Rattle.zone_core.proofs.VisibilityLemmas.{updates_stay_indistinguishable}
use Rattle.zone_tools.specs.Differences.{at_serial, with_soa, with_soa_at, with_serial}
use Rattle.zone_tools.specs.DifferencePromises.{AreWithin}
use Rattle.zone_tools.specs.UpdatesInTurn.{zone_after_parts, operations_of, adds_no_soa, PartsMakeTheRecords, PartsMakeTheZone}
use Rattle.zone_tools.proofs.DiffSoaLemmas.{next_is_at, at_twice}

-- ---- operations within an origin

module _ {X : Type 0} (P : X → Type 0) where
  pub all_front : (xs ys : List X) → AllByRecursion P (xs ++ ys) → AllByRecursion P xs
  all_front [] ys all = tt
  all_front (x ∷ xs) ys all = (all.0, all_front xs ys all.1)

  pub all_back : (xs ys : List X) → AllByRecursion P (xs ++ ys) → AllByRecursion P ys
  all_back [] ys all = all
  all_back (x ∷ xs) ys all = all_back xs ys all.1

  pub all_join : (xs ys : List X) → AllByRecursion P xs → AllByRecursion P ys → AllByRecursion P (xs ++ ys)
  all_join [] ys all more = more
  all_join (x ∷ xs) ys all more = (all.0, all_join xs ys all.1 more)

  all_filtered : (f : X → Bool) (xs : List X) → AllByRecursion P xs → AllByRecursion P (filter f xs)
  all_filtered f [] all = tt
  all_filtered f (x ∷ xs) all = by_test (f x) (all_filtered f xs all.1)
    where
      by_test : (b : Bool) → AllByRecursion P (filter f xs) → AllByRecursion P (cond b (x ∷ filter f xs) (filter f xs))
      by_test true rest = (all.0, rest)
      by_test false rest = rest

module _ (origin : List (List ℕ)) where
  pub are_operations : (ops : List Operation) → AreWithin origin ops → AllByRecursion IsOperation ops
  are_operations [] within = tt
  are_operations (op ∷ ops) within = (within.0.0, are_operations ops within.1)

  are_inside : (ops : List Operation) → AreWithin origin ops → AllByRecursion (λ op. IsWithin (acted_name op) origin) ops
  are_inside [] within = tt
  are_inside (op ∷ ops) within = (within.0.1, are_inside ops within.1)

  -- every name
  abbrev Any : List (List ℕ) → Type 0
  Any name = Unit {0}

  all_any : (ops : List Operation) → AllByRecursion (λ op. Any (acted_name op)) ops
  all_any [] = tt
  all_any (op ∷ ops) = (tt, all_any ops)

  -- ---- zones stay zones

  pub keys_effects : (z : Records) → Keys origin z → (ops : List Operation) → AreWithin origin ops → Keys origin (effects origin z ops)
  keys_effects z keys [] within = keys
  keys_effects z keys (op ∷ ops) within = keys_effects (effect origin z op) (effect_heir origin z keys op within.0.0 within.0.1).0 ops within.1

  pub keys_advanced : (z m : Records) → Keys origin z → Keys origin m → Keys origin (serial_advanced origin z m)
  keys_advanced z m keys made =
      choice (is_same z m) keys (choice (serial_at origin z == serial_at origin m) (rw (soa_is origin m made) (next_keys origin m m made (made, inl refl)).0) made)
    where
      choice : (b : Bool) {x y : Records} → Keys origin x → Keys origin y → Keys origin (if b then x else y)
      choice true x y = x
      choice false x y = y

  pub has_soa : (z : Records) → Keys origin z → has z (at origin types.Soa) ≡ true
  has_soa z keys = has_found z (at origin types.Soa) keys.soa keys.soa_there.0 (at_has origin types.Soa keys.soa keys.soa_origin keys.soa_type) keys.soa_there.1

  pub effects_append : (z : Records) (xs ys : List Operation) → effects origin z (xs ++ ys) ≡ effects origin (effects origin z xs) ys
  effects_append z [] ys = refl
  effects_append z (x ∷ xs) ys = effects_append (effect origin z x) xs ys

  -- ---- all but the origin's SOA

  abbrev pub Alike : Records → Records → Type 0
  Alike a b = (k : Key) → at origin types.Soa k ≡ false → get a k ≡ get b k

  pub advanced_alike : (z : Records) → Keys origin z → (ops : List Operation) → AreWithin origin ops → Alike (serial_advanced origin z (effects origin z ops)) (effects origin z ops)
  advanced_alike z keys ops within k off =
      advanced_other origin z (effects origin z ops) (effects_own origin z ops (own z keys.rows.kept)) k off
      (λ e. one_set z (effects origin z ops) keys.rows.kept (effects_kept origin z ops (are_operations ops within) keys.rows.kept) e k)

  effects_alike : (a b : Records) → Keys origin a → Keys origin b → Alike a b → (ops : List Operation) → AreWithin origin ops → Alike (effects origin a ops) (effects origin b ops)
  effects_alike a b keys also alike ops within k off =
      let both : Indistinguishable Any origin a b = record { same = λ j seen apart. alike j apart; soa = has_soa a keys ∙ sym (has_soa b also) } in
      let after = updates_stay_indistinguishable Any origin a b keys.rows.kept also.rows.kept both ops (are_operations ops within) (all_any ops) in
      sym (advanced_alike a keys ops within k off) ∙ after.same k tt off ∙ advanced_alike b also ops within k off

  -- an SOA that is added changes no other record
  module _ (z : Records) (keys : Keys origin z) (r : Record) (type : is_soa (key_of r) ≡ true) where
    -- elsewhere there is none whose place it takes
    pub none_elsewhere : (r.owner ≡ origin → ⊥) → soa_at r.owner z ≡ None
    none_elsewhere away =
        none_found z (at r.owner types.Soa) (has_nothing z (at r.owner types.Soa) (λ k here.
        by_found k here (get z k) refl))
      where
        by_found : (k : Key) → at r.owner types.Soa k ≡ true → (o : Option Record) → get z k ≡ o → o ≡ None
        by_found k here None e = refl
        by_found k here (Some x) e =
            let is = at_is r.owner types.Soa k here in
            absurd (away (sym is.0 ∙ ap (λ (q : Key). q.0) (keys.soa_alone k (x, e) is.1) ∙ keys.soa_origin))

    added_alike : Alike (add_soa z r) z
    added_alike k off =
        by_cases (same_name r.owner origin) (get (add_soa z r) k ≡ get z k)
        (λ e. soa_added origin z r (name_is r.owner origin e) type k off)
        (λ e. ap (λ o. get (if takes_over r o then put (cut z (at r.owner types.Soa)) r else z) k)
        (none_elsewhere (λ here. no (same_name r.owner origin) (subst (λ n. same_name n origin ≡ true) (sym here) (name_self origin)) e)))

  soa_alike : (z : Records) → Keys origin z → (op : Operation) → adds_soa op ≡ true → Alike (effect origin z op) z
  soa_alike z keys (Add r) type k off =
      either (λ (s : Records). get s k) (is_soa (key_of r)) (add_soa z r) _ (get z k) (λ e. added_alike z keys r type k off) (λ e. absurd (no (is_soa (key_of r)) type e))
  soa_alike z keys (DeleteRrset name t) type k off = absurd cc
  soa_alike z keys (DeleteName name) type k off = absurd cc
  soa_alike z keys (DeleteRecord name rdata) type k off = absurd cc

  -- without the operations that add an SOA
  plain_alike : (z : Records) → Keys origin z → (ops : List Operation) → AreWithin origin ops → Alike (effects origin z ops) (effects origin z (filter adds_no_soa ops))
  plain_alike z keys [] within k off = refl
  plain_alike z keys (op ∷ ops) within k off =
      let step = (effect_heir origin z keys op within.0.0 within.0.1).0 in
      by_cases (adds_soa op) (get (effects origin z (op ∷ ops)) k ≡ get (effects origin z (filter adds_no_soa (op ∷ ops))) k)
      (λ t. effects_alike (effect origin z op) z step keys (soa_alike z keys op t) ops within.1 k off ∙ plain_alike z keys ops within.1 k off ∙ sym (chosen t))
      (λ f. plain_alike (effect origin z op) step ops within.1 k off ∙ sym (chosen f))
    where
      chosen : {b : Bool} → adds_soa op ≡ b
          → get (effects origin z (filter adds_no_soa (op ∷ ops))) k ≡ get (effects origin z (cond (not b) (op ∷ filter adds_no_soa ops) (filter adds_no_soa ops))) k
      chosen e = ap (λ b. get (effects origin z (cond (not b) (op ∷ filter adds_no_soa ops) (filter adds_no_soa ops))) k) e

-- ---- updates in turn

pub parts_origin : (zone : ZoneOf) (parts : List UpdateOf) → (zone_after_parts zone parts).origin ≡ zone.origin
parts_origin zone [] = refl
parts_origin zone (u ∷ us) = parts_origin (zone_after zone u) us

pub parts_keys : (zone : ZoneOf) → Keys zone.origin zone.records → (parts : List UpdateOf) → AreWithin zone.origin (operations_of parts) → Keys zone.origin (zone_after_parts zone parts).records
parts_keys zone keys [] within = keys
parts_keys zone keys (u ∷ us) within =
    let own_within = all_front (λ op. IsOperation op × IsWithin (acted_name op) zone.origin) u.operations (operations_of us) within in
    parts_keys (zone_after zone u) (keys_advanced zone.origin zone.records (effects zone.origin zone.records u.operations) keys (keys_effects zone.origin zone.records keys u.operations own_within)) us
    (all_back (λ op. IsOperation op × IsWithin (acted_name op) zone.origin) u.operations (operations_of us) within)

pub parts_alike : (zone : ZoneOf) → Keys zone.origin zone.records → (parts : List UpdateOf) → AreWithin zone.origin (operations_of parts)
    → Alike zone.origin (zone_after_parts zone parts).records (effects zone.origin zone.records (operations_of parts))
parts_alike zone keys [] within k off = refl
parts_alike zone keys (u ∷ us) within k off =
    let origin = zone.origin in
    let own_within = all_front (λ op. IsOperation op × IsWithin (acted_name op) origin) u.operations (operations_of us) within in
    let more_within = all_back (λ op. IsOperation op × IsWithin (acted_name op) origin) u.operations (operations_of us) within in
    let made = effects origin zone.records u.operations in
    let made_keys = keys_effects origin zone.records keys u.operations own_within in
    let after_keys = keys_advanced origin zone.records made keys made_keys in
    parts_alike (zone_after zone u) after_keys us more_within k off
    ∙ effects_alike origin (serial_advanced origin zone.records made) made after_keys made_keys (advanced_alike origin zone.records keys u.operations own_within) (operations_of us) more_within k off
    ∙ sym (ap (λ (s : Records). get s k) (effects_append origin zone.records u.operations (operations_of us)))

-- a key of another record than an SOA is not the origin's
off_soa : (origin : List (List ℕ)) (k : Key) → is_soa k ≡ false → at origin types.Soa k ≡ false
off_soa origin k off =
    by_cases (at origin types.Soa k) (at origin types.Soa k ≡ false) (λ t. absurd (no (is_soa k) (kind k types.Soa (at_is origin types.Soa k t).1) off)) (λ f. f)

module _ (zone : ZoneOf) (parts : List UpdateOf) (whole : UpdateOf) (z : IsZone zone) where
  abbrev keys : Keys zone.origin zone.records
  keys = keys_of zone.origin zone.records z

  pub all_alike : AreWithin zone.origin (operations_of parts) → AreWithin zone.origin whole.operations → filter adds_no_soa (operations_of parts) ≡ filter adds_no_soa whole.operations
      → Alike zone.origin (zone_after_parts zone parts).records (zone_after zone whole).records
  all_alike within also same k off =
      parts_alike zone keys parts within k off
      ∙ plain_alike zone.origin zone.records keys (operations_of parts) within k off
      ∙ ap (λ (ops : List Operation). get (effects zone.origin zone.records ops) k) same
      ∙ sym (plain_alike zone.origin zone.records keys whole.operations also k off)
      ∙ sym (advanced_alike zone.origin zone.records keys whole.operations also k off)

pub parts_make_the_records : PartsMakeTheRecords
parts_make_the_records zone parts whole z within also same =
    record { origin = parts_origin zone parts; records = λ k off. all_alike zone parts whole z within also same k (off_soa zone.origin k off) }

-- ---- the SOA

-- the SOA of an origin is this one, but for the serial
abbrev pub HasSoa : List (List ℕ) → Records → Record → Type 0
HasSoa origin set soa = (r : Record) × (soa_at origin set ≡ Some r) × ((serial : ℕ) → at_serial serial r ≡ at_serial serial soa)

module _ (origin : List (List ℕ)) where
  record IsSoa (soa : Record) : Type 0 where
    home : soa.owner ≡ origin
    type : type_of soa.rdata ≡ types.Soa

  soa_stays : (z : Records) (soa : Record) → IsSoa soa → (ops : List Operation) → AllByRecursion (λ op. adds_soa op ≡ false) ops → Stays origin z ops soa
  soa_stays z soa is [] plain = tt
  soa_stays z soa is (op ∷ ops) plain = (not_taken op plain.0, soa_stays (effect origin z op) soa is ops plain.1)
    where
      not_taken : (op : Operation) → adds_soa op ≡ false → Takes origin z op soa → ⊥
      not_taken (Add x) no_soa takes = no (is_soa (key_of x)) (kind (key_of x) types.Soa (ap rank_of (sym takes.2 ∙ is.type))) no_soa
      not_taken (DeleteRrset name t) no_soa takes = takes.2 (sym takes.0 ∙ is.home, inl (sym takes.1 ∙ is.type))
      not_taken (DeleteName name) no_soa takes = takes.1 (sym takes.0 ∙ is.home, inl is.type)
      not_taken (DeleteRecord name rdata) no_soa takes = takes.2 (sym takes.0 ∙ is.home, inl (ap type_of (sym takes.1) ∙ is.type))

  -- a record that is an SOA at the origin is its SOA
  soa_found : (m : Records) → Keys origin m → (soa : Record) → IsSoa soa → IsIn soa m → soa_at origin m ≡ Some soa
  soa_found m made soa is here =
      let one = made.soa_alone (key_of soa) (soa, here) (ap rank_of is.type) in
      soa_is origin m made ∙ sym made.soa_there.1 ∙ ap (get m) (sym one) ∙ here

  module _ (z : Records) (keys : Keys origin z) where
    own_soa : IsSoa keys.soa_there.0
    own_soa =
        let kept = keys.rows.kept keys.soa keys.soa_there.0 keys.soa_there.1 in
        record { home = ap (λ (q : Key). q.0) kept.0 ∙ keys.soa_origin; type = is_type keys.soa_there.0 (ap (λ (q : Key). q.1) kept.0 ∙ keys.soa_type) }
      where
        is_type : (r : Record) → rank_of (type_of r.rdata) ≡ rank_of types.Soa → type_of r.rdata ≡ types.Soa
        is_type r e = one_rank (type_of r.rdata) types.Soa e

    pub effects_soa : (ops : List Operation) → AreWithin origin ops → AllByRecursion (λ op. adds_soa op ≡ false) ops → soa_at origin (effects origin z ops) ≡ Some keys.soa_there.0
    effects_soa ops within plain =
        let soa = keys.soa_there.0 in
        let here : IsIn soa z = ap (get z) (keys.rows.kept keys.soa soa keys.soa_there.1).0 ∙ keys.soa_there.1 in
        soa_found (effects origin z ops) (keys_effects origin z keys ops within) soa own_soa
        ((left_effects origin z keys ops (are_operations origin ops within) (are_inside origin ops within) soa).1 (inr (here, soa_stays z soa own_soa ops plain)))

    pub advanced_soa : (m : Records) → Keys origin m → (soa : Record) → HasSoa origin m soa → HasSoa origin (serial_advanced origin z m) soa
    advanced_soa m made soa has_it =
        by_same (is_same z m) refl
      where
        next : HasSoa origin (with_next m (soa_at origin m)) soa
        next =
            let n = next_keys origin m m made (made, inl refl) in
            let x = made.soa_there.0 in
            let mine : x ≡ has_it.0 = let both : Some x ≡ Some has_it.0 = sym (soa_is origin m made) ∙ has_it.1 in cc in (
              next_version x,
              ap (λ o. soa_at origin (with_next m o)) (soa_is origin m made) ∙ soa_is origin (with_next m (Some x)) n.0 ∙ ap (λ (r : Record). Some r) n.1,
              λ q. ap (at_serial q) (next_is_at x) ∙ at_twice q (serial_sum (serial_in x) 1) x ∙ ap (at_serial q) mine ∙ has_it.2 q,
            )

        by_serial : (b : Bool) → HasSoa origin (if b then with_next m (soa_at origin m) else m) soa
        by_serial true = next
        by_serial false = has_it

        by_same : (b : Bool) → is_same z m ≡ b → HasSoa origin (if b then z else (if serial_at origin z == serial_at origin m then with_next m (soa_at origin m) else m)) soa
        by_same true e = subst (λ (s : Records). HasSoa origin s soa) (sym ((same_sets_are_one z m keys.rows.kept made.rows.kept).0 e)) has_it
        by_same false e = by_serial (serial_at origin z == serial_at origin m)

    updated_soa : (ops : List Operation) → AreWithin origin ops → AllByRecursion (λ op. adds_soa op ≡ false) ops → HasSoa origin (serial_advanced origin z (effects origin z ops)) keys.soa_there.0
    updated_soa ops within plain = advanced_soa (effects origin z ops) (keys_effects origin z keys ops within) keys.soa_there.0 (keys.soa_there.0, effects_soa ops within plain, λ q. refl)

pub parts_soa : (zone : ZoneOf) (keys : Keys zone.origin zone.records) (parts : List UpdateOf) → AreWithin zone.origin (operations_of parts)
    → AllByRecursion (λ op. adds_soa op ≡ false) (operations_of parts) → HasSoa zone.origin (zone_after_parts zone parts).records keys.soa_there.0
parts_soa zone keys [] within plain = (keys.soa_there.0, soa_is zone.origin zone.records keys, λ q. refl)
parts_soa zone keys (u ∷ us) within plain =
    let origin = zone.origin in
    let own_within = all_front (λ op. IsOperation op × IsWithin (acted_name op) origin) u.operations (operations_of us) within in
    let more_within = all_back (λ op. IsOperation op × IsWithin (acted_name op) origin) u.operations (operations_of us) within in
    let made = effects origin zone.records u.operations in
    let next = keys_advanced origin zone.records made keys (keys_effects origin zone.records keys u.operations own_within) in
    let first = updated_soa origin zone.records keys u.operations own_within (all_front (λ op. adds_soa op ≡ false) u.operations (operations_of us) plain) in
    let rest = parts_soa (zone_after zone u) next us more_within (all_back (λ op. adds_soa op ≡ false) u.operations (operations_of us) plain) in
    let one : next.soa_there.0 ≡ first.0 = let both : Some next.soa_there.0 ≡ Some first.0 = sym (soa_is origin (zone_after zone u).records next) ∙ first.1 in cc in
    (rest.0, rest.1, λ q. rest.2 q ∙ ap (at_serial q) one ∙ first.2 q)

module _ (origin : List (List ℕ)) (a b : Records) (alike : Alike origin a b) (soa : Record) (home : soa.owner ≡ origin) where
  with_alike : with_soa a soa ≡ with_soa b soa
  with_alike = same_sets (with_soa a soa) (with_soa b soa) (λ k. get-with a k ∙ ap (cond (same_key k (key_of soa)) (Some soa)) (rest k) ∙ sym (get-with b k))
    where
      p : Key → Bool
      p = at soa.owner types.Soa

      get-with : (s : Records) (k : Key) → get (with_soa s soa) k ≡ cond (same_key k (key_of soa)) (Some soa) (cond (p k) None (get s k))
      get-with s k = get-put (cut s p) soa k ∙ ap (cond (same_key k (key_of soa)) (Some soa)) (get-cut s p k)

      rest : (k : Key) → cond (p k) None (get a k) ≡ cond (p k) None (get b k)
      rest k =
          by_cases (p k) (cond (p k) None (get a k) ≡ cond (p k) None (get b k))
          (λ t. ap (λ c. cond c None (get a k)) t ∙ sym (ap (λ c. cond c None (get b k)) t))
          (λ f. ap (cond (p k) None) (alike k (sym (ap (λ (n : List (List ℕ)). at n types.Soa k) home) ∙ f)))

module _ (origin : List (List ℕ)) (a b : Records) (alike : Alike origin a b) (soa : Record) (home : soa.owner ≡ origin) (first : HasSoa origin a soa) (second : HasSoa origin b soa) (serial : ℕ) where
  numbered : (s : Records) → HasSoa origin s soa → with_serial origin serial s ≡ with_soa s (at_serial serial soa)
  numbered s has_it = ap (with_soa_at serial s) has_it.1 ∙ ap (with_soa s) (has_it.2 serial)

  pub one_serial : with_serial origin serial a ≡ with_serial origin serial b
  one_serial = numbered a first ∙ with_alike origin a b alike (at_serial serial soa) home ∙ sym (numbered b second)

pub parts_make_the_zone : PartsMakeTheZone
parts_make_the_zone zone parts whole z within same plain serial =
    let origin = zone.origin in
    let keys = keys_of origin zone.records z in
    let parts_within = subst (AreWithin origin) (sym same) within in
    let home = parts_origin zone parts in
    let first = parts_soa zone keys parts parts_within (subst (AllByRecursion (λ op. adds_soa op ≡ false)) (sym same) plain) in
    let second = updated_soa origin zone.records keys whole.operations within plain in
    let one =
    one_serial origin (zone_after_parts zone parts).records (zone_after zone whole).records (all_alike zone parts whole z parts_within within (ap (filter adds_no_soa) same)) keys.soa_there.0
    (own_soa origin zone.records keys).home first second serial in
    λ i. record { origin = home i; records = (ap (λ o. with_serial o serial (zone_after_parts zone parts).records) home ∙ one) i }
