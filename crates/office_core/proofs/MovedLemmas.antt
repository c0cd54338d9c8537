-- What an update moves in a zone it asks for, but for the office's own advance of the SOA.
use Rattle.std.proofs.Common.{◌≡◌, ◌⊎◌, ℕ, zero, suc, List, [], ◌∷◌, Bool, true, false, cond, not, ◌&&◌, ◌||◌, ◌==◌, if◌then◌else◌, Option, Some, None, inl, inr, refl, sym, ap, subst, ◌∙◌, arith}
use Rattle.std.specs.Prelude.{slice_get}
use Rattle.std.specs.List.{AllByRecursion, list_any}
use Rattle.std.specs.Option.{option_map_or}
use Rattle.std.specs.FinMap.{get}
use Rattle.std.proofs.Math.Bool.{and-false}
use Rattle.std.proofs.lemmas.Bool.{and_parts, or_parts, eqb-true, false_from_ne_true, not-false}
use Rattle.std.proofs.lemmas.Bool.Decides.{nat_tests}
use Rattle.dns_names.specs.Labels.{IsWithin}
use Rattle.dns_names.specs.Order.{same_name}
use Rattle.dns_data.specs.declared.record.Record.{Record}
use Rattle.dns_data.specs.declared.record_type.RecordType.{RecordType}
use Rattle.dns_data.specs.declared.record_type.RecordType.TheVariants as types
use Rattle.dns_data.specs.Rdata.{type_of}
use Rattle.dns_data.proofs.RecordOrderLemmas.{one_rank}
use Rattle.grant_policy.specs.declared.action.Action.{Action}
use Rattle.grant_policy.specs.declared.action.Action.TheVariants as action
use Rattle.grant_policy.specs.declared.rule.Rule.{Rule}
use Rattle.grant_policy.specs.Rules.{same_type}
use Rattle.grant_policy.proofs.WordLemmas.{same_type-Decides}
use Rattle.zone_core.specs.declared.update.ItemList.TheVariants as lists
use Rattle.zone_core.specs.declared.update.Operation.{Operation}
use Rattle.zone_core.specs.declared.update.Operation.TheVariants.{Add, DeleteRrset, DeleteName, DeleteRecord}
use Rattle.zone_core.specs.Sets.{Records, Key, key_of, rank_of, same_key, IsIn, cut, has, at_name, at, put, with_ttl, same_ttl, minus, is_same}
use Rattle.zone_core.specs.Zones.{ZoneOf, IsZone, is_soa, is_cname, soa_at, serial_in, serial_at}
use Rattle.zone_core.specs.Updates.{UpdateOf, IsUpdate, ActsWithin, IsOperation, acted_name, place_in}
use Rattle.zone_core.specs.Effects.{is_other_type, takes_over, add_soa, add_cname, add_other, is_misplaced, add, is_guarded, goes, delete_name, key_at, stays, effect, effects, next_version, with_next, serial_advanced, zone_after}
use Rattle.zone_core.proofs.SetLemmas.{by_cases, name_is, name_self, key_other, get-cut, kept_by_cut, gone_by_cut, kept_by_put, none_there, found_of_part}
use Rattle.zone_core.proofs.EffectLemmas.{get-with_ttl, untouched, effect_away}
use Rattle.zone_core.proofs.ZoneLemmas.{Keys, Heir, keys_of, at_is, both_true, no, is_kind, soa_is, effect_heir}
use Rattle.zone_core.proofs.VersionLemmas.{heir_of, next_keys, updates_keep}
use Rattle.zone_core.proofs.LeaveLemmas.{advanced_there}
use Rattle.office_core.specs.Footprints.{Point, OperationAsks, is_deleted_with, changes_type, delegates, change_of}
use Rattle.office_core.specs.Permissions.{IsGranted, IsPermitted}
use Rattle.office_core.specs.Promises.{IsAdvance, HasMoved, IsAskedAndGranted}
use Rattle.office_core.proofs.FootprintLemmas.{operation_asked}
use Rattle.office_core.proofs.FootprintLaws.{are_asked}

-- ---- an operation leaves what it does not ask for

none_left : (b : Bool) → ◌≡◌ {A = Option Record} (cond b None None) None
none_left true = refl
none_left false = refl

-- the records of a type at a name, by their keys
module _ (origin : List (List ℕ)) (set : Records) (z : Keys origin set) (k : Key) (t : RecordType) (is : k.1 ≡ rank_of t) where
  abbrev Stays : Records → Type 0
  Stays after = get after k ≡ get set k

  by_test : (b : Bool) (x y : Records) → (b ≡ true → Stays x) → (b ≡ false → Stays y) → Stays (if b then x else y)
  by_test true x y f g = f refl
  by_test false x y f g = g refl

  -- it is not the key of a record of another type
  other_rank : (u : RecordType) → same_type u t ≡ false → k.1 ≡ rank_of u → ⊥
  other_rank u other e = no (same_type u t) ((same_type-Decides u t).1 (one_rank u t (sym e ∙ is))) other

  off_at : (name : List (List ℕ)) (u : RecordType) → same_type u t ≡ false → at name u k ≡ false
  off_at name u other = false_from_ne_true (at name u k) (λ e. other_rank u other (at_is name u k e).1)

  not_put : (a : Records) (r : Record) → same_type (type_of r.rdata) t ≡ false → get (put a r) k ≡ get a k
  not_put a r other = kept_by_put a r k (λ same. other_rank (type_of r.rdata) other (ap (λ (q : Key). q.1) same))

  -- additions
  soa_leaves : (r : Record) → same_type (type_of r.rdata) t ≡ false → type_of r.rdata ≡ types.Soa → Stays (add_soa set r)
  soa_leaves r other soa =
      by_test (takes_over r (soa_at r.owner set)) (put (cut set (at r.owner types.Soa)) r) set
      (λ e. not_put (cut set (at r.owner types.Soa)) r other ∙ kept_by_cut set (at r.owner types.Soa) k (off_at r.owner types.Soa (ap (λ u. same_type u t) (sym soa) ∙ other))) (λ e. refl)

  cname_leaves : (r : Record) → k.0 ≡ r.owner → same_type (type_of r.rdata) t ≡ false → type_of r.rdata ≡ types.Cname → Stays (add_cname set r)
  cname_leaves r home other cname =
      let here : at_name r.owner k ≡ true = ap (λ n. same_name n r.owner) home ∙ name_self r.owner in
      let not_cname : is_cname k ≡ false = false_from_ne_true (is_cname k) (λ e. other_rank types.Cname (ap (λ u. same_type u t) (sym cname) ∙ other) (eqb-true k.1 (rank_of types.Cname) e)) in
      by_test (has set (is_other_type r.owner)) set (put (cut set (at_name r.owner)) r) (λ e. refl)
      (λ none. not_put (cut set (at_name r.owner)) r other ∙ gone_by_cut set (at_name r.owner) k here
      ∙ sym (none_there set (is_other_type r.owner) k none (both_true (at_name r.owner k) (not (is_cname k)) here (ap not not_cname))))

  other_leaves : (r : Record) → same_type (type_of r.rdata) t ≡ false → Stays (add_other set r)
  other_leaves r other =
      by_test (has set (at r.owner types.Cname)) set (put (with_ttl set (at r.owner (type_of r.rdata)) r.ttl) r) (λ e. refl)
      (λ e. not_put (with_ttl set (at r.owner (type_of r.rdata)) r.ttl) r other ∙ get-with_ttl set (at r.owner (type_of r.rdata)) r.ttl k
      ∙ untouched (at r.owner (type_of r.rdata)) r.ttl k (get set k) (off_at r.owner (type_of r.rdata) other))

  add_leaves : (r : Record) → k.0 ≡ r.owner → same_type (type_of r.rdata) t ≡ false → Stays (add origin set r)
  add_leaves r home other =
      by_test (is_soa (key_of r)) (add_soa set r) (if is_cname (key_of r) then add_cname set r else (if is_misplaced origin r then set else add_other set r))
      (λ e. soa_leaves r other (is_kind r types.Soa e))
      (λ e. by_test (is_cname (key_of r)) (add_cname set r) (if is_misplaced origin r then set else add_other set r)
      (λ f. cname_leaves r home other (is_kind r types.Cname f))
      (λ f. by_test (is_misplaced origin r) set (add_other set r) (λ g. refl) (λ g. other_leaves r other)))

  -- deletions
  bare_stays : (p : Key → Bool) → ((r : Record) → get set k ≡ Some r → ⊥) → Stays (cut set p)
  bare_stays p none = by_found (get set k) refl
    where
      by_found : (o : Option Record) → get set k ≡ o → Stays (cut set p)
      by_found None e = get-cut set p k ∙ ap (cond (p k) None) e ∙ none_left (p k) ∙ sym e
      by_found (Some r) e = absurd (none r e)

  guarded_stays : (name : List (List ℕ)) → same_name name origin ≡ true → is_guarded k.1 ≡ true → Stays (delete_name origin set name)
  guarded_stays name home guard =
      kept_by_cut set (goes origin name) k
      (ap (λ b. at_name name k && not (b && is_guarded k.1)) home ∙ ap (λ b. at_name name k && not b) guard ∙ and-false (at_name name k))

  name_leaves : (name : List (List ℕ)) (u : RecordType) → k.0 ≡ name → k.1 ≡ rank_of u → is_deleted_with origin name u ≡ false → Stays (delete_name origin set name)
  name_leaves name types.Soa home type off =
      by_cases (same_name name origin) (Stays (delete_name origin set name))
      (λ e. guarded_stays name e (ap is_guarded type))
      (λ e. bare_stays (goes origin name) (λ r there. no (same_name name origin)
      (ap (λ n. same_name n origin) (sym home ∙ ap (λ (q : Key). q.0) (z.soa_alone k (r, there) type) ∙ z.soa_origin) ∙ name_self origin) e))
  name_leaves name types.Ns home type off = guarded_stays name (not-false (same_name name origin) off) (ap is_guarded type)
  name_leaves name types.Ds home type off =
      bare_stays (goes origin name) (λ r there. (z.rows.signers k (r, there) type).1 (home ∙ name_is name origin (not-false (same_name name origin) off)))
  name_leaves name u home type off = absurd cc

  at_home : (op : Operation) → k.0 ≡ acted_name op → changes_type origin op t ≡ false → Stays (effect origin set op)
  at_home (Add r) home off = add_leaves r home off
  at_home (DeleteRrset name u) home off =
      by_test (same_name name origin && is_guarded (rank_of u)) set (cut set (at name u)) (λ e. refl) (λ e. kept_by_cut set (at name u) k (off_at name u off))
  at_home (DeleteName name) home off = name_leaves name t home is off
  at_home (DeleteRecord name rdata) home off =
      by_test (stays origin set (key_at name rdata)) set (cut set (same_key (key_at name rdata))) (λ e. refl)
      (λ e. kept_by_cut set (same_key (key_at name rdata)) k (key_other (key_at name rdata) k (λ same. other_rank (type_of rdata) off (ap (λ (q : Key). q.1) (sym same)))))

  effect_leaves : (op : Operation) → (same_name k.0 (acted_name op) && changes_type origin op t) ≡ false → Stays (effect origin set op)
  effect_leaves op off =
      by_cases (same_name k.0 (acted_name op)) (Stays (effect origin set op))
      (λ e. at_home op (name_is k.0 (acted_name op) e) (sym (ap (λ b. b && changes_type origin op t) e) ∙ off))
      (λ e. effect_away origin set op k (λ same. no (same_name k.0 (acted_name op)) (ap (λ n. same_name n (acted_name op)) same ∙ name_self (acted_name op)) e))

-- ---- operations in turn

-- whether an operation asks to change the records of a type at a name
abbrev pub asks_for : List (List ℕ) → List (List ℕ) → RecordType → Operation → Bool
asks_for origin name t op = same_name name (acted_name op) && changes_type origin op t

effects_leave : (origin : List (List ℕ)) (set : Records) → Keys origin set → (ops : List Operation) → AllByRecursion IsOperation ops → AllByRecursion (λ op. IsWithin (acted_name op) origin) ops
    → (k : Key) (t : RecordType) → k.1 ≡ rank_of t → list_any (asks_for origin k.0 t) ops ≡ false → get (effects origin set ops) k ≡ get set k
effects_leave origin set z [] all inside k t is none = refl
effects_leave origin set z (op ∷ ops) all inside k t is none =
    let both = or_parts (asks_for origin k.0 t op) (list_any (asks_for origin k.0 t) ops) none in
    effects_leave origin (effect origin set op) (effect_heir origin set z op all.0 inside.0).0 ops all.1 inside.1 k t is both.1
    ∙ effect_leaves origin set z k t is op both.0

-- ---- what an update asks for is granted

module _ {X : Type 0} where
  one_passes : (p : X → Bool) (xs : List X) → list_any p xs ≡ true → (i : ℕ) × (x : X) × (slice_get xs i ≡ Some x) × (p x ≡ true)
  one_passes p [] e = absurd cc
  one_passes p (x ∷ xs) e = by_first (p x) refl e (one_passes p xs)
    where
      by_first : (b : Bool) → p x ≡ b → (b || list_any p xs) ≡ true → (list_any p xs ≡ true → (i : ℕ) × (y : X) × (slice_get xs i ≡ Some y) × (p y ≡ true)) → (i : ℕ) × (y : X) × (slice_get (x ∷ xs) i ≡ Some y) × (p y ≡ true)
      by_first true t f rest = (zero, x, refl, t)
      by_first false t f rest = let found = rest f in (suc found.0, found.1, found.2, found.3)

  has_at : (P : X → Type 0) (xs : List X) (i : ℕ) (x : X) → AllByRecursion P xs → slice_get xs i ≡ Some x → P x
  has_at P [] i x all e = absurd cc
  has_at P (y ∷ xs) zero x all e = let same : y ≡ x = cc in subst P same all.0
  has_at P (y ∷ xs) (suc i) x all e = has_at P xs i x all.1 e

some_action : (b d : Bool) (x y : Action) → b ≡ true → (a : Action) × ((if b then (if d then Some x else Some y) else None) ≡ Some a)
some_action true true x y e = (x, refl)
some_action true false x y e = (y, refl)
some_action false d x y e = absurd cc

module _ (rules : List Rule) (caller : List ℕ) (origin : List (List ℕ)) (update : UpdateOf) (permitted : IsPermitted rules caller origin update) where
  asked_at : (i : ℕ) (op : Operation) → slice_get update.operations i ≡ Some op → (r : Record) → r.owner ≡ acted_name op → changes_type origin op (type_of r.rdata) ≡ true → IsAskedAndGranted rules caller origin update r
  asked_at i op at r name changes =
      let t = type_of r.rdata in
      let some = some_action (changes_type origin op t) (delegates origin (acted_name op) t) action.Delegate (change_of op) changes in
      let asks : OperationAsks origin op t some.0 = (operation_asked origin op t some.0).0 some.1 in
      let point : Point = record { place = place_in lists.Operations i; name = acted_name op; record_type = t; action = some.0 } in
      record {
        point = point;
        asked = (are_asked origin update point).1 (op, at, refl, asks);
        name = sym name;
        record_type = refl;
        granted = has_at (λ o. (u : RecordType) (a : Action) → OperationAsks origin o u a → IsGranted rules caller (acted_name o) u a) update.operations i op permitted.operations at t some.0 asks;
      }

  asked : (r : Record) → list_any (asks_for origin r.owner (type_of r.rdata)) update.operations ≡ true → IsAskedAndGranted rules caller origin update r
  asked r some =
      let found = one_passes (asks_for origin r.owner (type_of r.rdata)) update.operations some in
      let both = and_parts (same_name r.owner (acted_name found.1)) (changes_type origin found.1 (type_of r.rdata)) found.3 in
      asked_at found.0 found.1 found.2 r (name_is r.owner (acted_name found.1) both.0) both.1

-- ---- records that went or came

self : (n : ℕ) → (n == n) ≡ true
self n = grind (arith, nat_tests)

ttl_self : (o : Option Record) → same_ttl o o ≡ true
ttl_self None = refl
ttl_self (Some r) = self r.ttl

not_minus : (a b : Records) (r : Record) → IsIn r (minus a b) → get a (key_of r) ≡ get b (key_of r) → ⊥
not_minus a b r here same =
    let k = key_of r in
    let apart : not (same_ttl (get a k) (get b k)) ≡ true = (found_of_part a (λ j. not (same_ttl (get a j) (get b j))) k r here).0 in
    no (not (same_ttl (get a k) (get b k))) apart (ap (λ o. not (same_ttl (get a k) o)) (sym same) ∙ ap not (ttl_self (get a k)))

stayed : (a b : Records) (r : Record) → HasMoved a b r → get b (key_of r) ≡ get a (key_of r) → ⊥
stayed a b r (inl went) same = not_minus a b r went (sym same)
stayed a b r (inr came) same = not_minus b a r came same

-- ---- the office's own advance

module _ (zone : ZoneOf) (update : UpdateOf) (is_zone : IsZone zone) (is : IsUpdate update) (acts : ActsWithin zone.origin update) where
  abbrev origin : List (List ℕ)
  origin = zone.origin

  abbrev before : Records
  before = zone.records

  abbrev after : Records
  after = effects zone.origin zone.records update.operations

  abbrev z : Keys zone.origin zone.records
  z = keys_of zone.origin zone.records is_zone

  abbrev heir : Heir zone.origin zone.records (keys_of zone.origin zone.records is_zone) (effects zone.origin zone.records update.operations)
  heir = heir_of zone update is_zone is acts

  abbrev last : Keys zone.origin (serial_advanced zone.origin zone.records (effects zone.origin zone.records update.operations))
  last = keys_of zone.origin (zone_after zone update).records (updates_keep zone update is_zone is acts)

  leaves : (k : Key) (t : RecordType) → k.1 ≡ rank_of t → list_any (asks_for origin k.0 t) update.operations ≡ false → get after k ≡ get before k
  leaves k t = effects_leave origin before z update.operations is.operations acts.operations k t

  -- an SOA that went or came is that of the origin
  soa_home : (r : Record) → HasMoved before (serial_advanced origin before after) r → type_of r.rdata ≡ types.Soa → r.owner ≡ origin
  soa_home r (inl went) type =
      let there = (found_of_part before (λ j. not (same_ttl (get before j) (get (serial_advanced origin before after) j))) (key_of r) r went).1 in
      ap (λ (q : Key). q.0) (z.soa_alone (key_of r) (r, there) (ap rank_of type)) ∙ z.soa_origin
  soa_home r (inr came) type =
      let there = (found_of_part (serial_advanced origin before after) (λ j. not (same_ttl (get (serial_advanced origin before after) j) (get before j))) (key_of r) r came).1 in
      ap (λ (q : Key). q.0) (last.soa_alone (key_of r) (r, there) (ap rank_of type)) ∙ last.soa_origin

  module _ (none : list_any (asks_for zone.origin zone.origin types.Soa) update.operations ≡ false) where
    abbrev soa : Record
    soa = z.soa_there.0

    soa_before : soa_at origin before ≡ Some soa
    soa_before = soa_is origin before z

    -- where none asks for the SOA, the operations leave it
    soa_left : heir.0.soa_there.0 ≡ soa
    soa_left =
        let there : get after z.soa ≡ Some soa =
        leaves z.soa types.Soa z.soa_type (ap (λ n. list_any (asks_for origin n types.Soa) update.operations) z.soa_origin ∙ none) ∙ z.soa_there.1 in
        let both : Some heir.0.soa_there.0 ≡ Some soa = sym heir.0.soa_there.1 ∙ ap (get after) (sym (heir.0.soa_alone z.soa (soa, there) z.soa_type)) ∙ there in
        cc

    soa_after : soa_at origin after ≡ Some soa
    soa_after = soa_is origin after heir.0 ∙ ap (λ (x : Record). Some x) soa_left

    same_serial : (serial_at origin before == serial_at origin after) ≡ true
    same_serial =
        ap (λ o. option_map_or serial_in o 0 == serial_at origin after) soa_before ∙ ap (λ o. serial_in soa == option_map_or serial_in o 0) soa_after ∙ self (serial_in soa)

    next_there : soa_at origin (with_next after (soa_at origin after)) ≡ Some (next_version soa)
    next_there =
        let n = next_keys origin before after z heir in
        ap (λ o. soa_at origin (with_next after o)) (soa_is origin after heir.0) ∙ soa_is origin (with_next after (Some heir.0.soa_there.0)) n.0
        ∙ ap (λ (x : Record). Some x) n.1 ∙ ap (λ (x : Record). Some (next_version x)) soa_left

    advance : (r : Record) → HasMoved before (serial_advanced origin before after) r → soa_at origin (serial_advanced origin before after) ≡ Some (next_version soa)
    advance r moved = by_same (is_same before after) moved
      where
        by_serial : (b : Bool) → (serial_at origin before == serial_at origin after) ≡ b → soa_at origin (if b then with_next after (soa_at origin after) else after) ≡ Some (next_version soa)
        by_serial true e = next_there
        by_serial false e = absurd (no (serial_at origin before == serial_at origin after) same_serial e)

        by_same : (b : Bool) → HasMoved before (if b then before else (if serial_at origin before == serial_at origin after then with_next after (soa_at origin after) else after)) r
            → soa_at origin (if b then before else (if serial_at origin before == serial_at origin after then with_next after (soa_at origin after) else after)) ≡ Some (next_version soa)
        by_same true m = absurd (stayed before before r m refl)
        by_same false m = by_serial (serial_at origin before == serial_at origin after) refl

  unasked : (r : Record) → HasMoved before (serial_advanced origin before after) r → list_any (asks_for origin r.owner (type_of r.rdata)) update.operations ≡ false → IsAdvance origin before (serial_advanced origin before after) r
  unasked r moved none = by_cases (is_soa (key_of r)) (IsAdvance origin before (serial_advanced origin before after) r) (λ e. own (is_kind r types.Soa e)) (λ e. absurd (other e))
    where
      own : type_of r.rdata ≡ types.Soa → IsAdvance origin before (serial_advanced origin before after) r
      own type =
          let home = soa_home r moved type in
          let free : list_any (asks_for origin origin types.Soa) update.operations ≡ false = sym (λ i. list_any (asks_for origin (home i) (type i)) update.operations) ∙ none in
          record { type = type; owner = home; next = (soa free, soa_before free, advance free r moved) }

      other : is_soa (key_of r) ≡ false → ⊥
      other e =
          stayed before (serial_advanced origin before after) r moved
          (advanced_there origin before after z heir r (λ type. no (is_soa (key_of r)) (ap (λ n. n == rank_of types.Soa) (ap rank_of type) ∙ self (rank_of types.Soa)) e)
          ∙ leaves (key_of r) (type_of r.rdata) refl none)

  -- what moved was asked for and granted, or is the advance
  pub moved_right : (rules : List Rule) (caller : List ℕ) → IsPermitted rules caller origin update → (r : Record) → HasMoved before (zone_after zone update).records r
      → IsAdvance origin before (zone_after zone update).records r ⊎ IsAskedAndGranted rules caller origin update r
  moved_right rules caller permitted r moved =
      by_cases (list_any (asks_for origin r.owner (type_of r.rdata)) update.operations)
      (IsAdvance origin before (zone_after zone update).records r ⊎ IsAskedAndGranted rules caller origin update r)
      (λ some. inr (asked rules caller origin update permitted r some)) (λ none. inl (unasked r moved none))
