-- An update that may have made a change acts at a name of the change.
use Rattle.std.proofs.Common.{◌≡◌, List, [], ◌∷◌, Bool, true, false, cond, not, ◌&&◌, ◌==◌, if◌then◌else◌, Option, Some, None, is_some, inl, inr, refl, sym, ap, subst, ◌∙◌}
use Rattle.std.specs.List.{AllByRecursion, list_any, find}
use Rattle.std.specs.Option.{option_map_or}
use Rattle.std.specs.FinMap.{get, len, empty, get-empty, len-empty}
use Rattle.std.proofs.lemmas.Bool.{false_from_ne_true}
use Rattle.dns_names.specs.Order.{same_name}
use Rattle.dns_data.specs.declared.record.Record.{Record}
use Rattle.dns_data.specs.declared.record_type.RecordType.TheVariants as types
use Rattle.zone_core.specs.Sets.{Records, Key, key_of, key_cmp, listing, cut, minus, same_ttl, is_same, at, IsIn}
use Rattle.zone_core.specs.Zones.{ZoneOf, AreKept, serial_at, soa_at}
use Rattle.zone_core.specs.Updates.{UpdateOf, IsUpdate}
use Rattle.zone_core.specs.Effects.{effects, next_version, with_next, zone_after}
use Rattle.zone_core.specs.Changes.{ChangeOf, is_empty}
use Rattle.zone_core.proofs.SetLemmas.{by_cases, name_is, name_self, kept_by_put, kept_by_cut, same_sets, found_of_part}
use Rattle.zone_core.proofs.RowLemmas.{in_has}
use Rattle.zone_core.proofs.ChangedLemmas.{listed, kept_in_part}
use Rattle.zone_core.proofs.SerialAdvanceLemmas.{get-minus}
use Rattle.zone_core.proofs.ChangeLemmas.{effects_away, same_ttl_self}
use Rattle.zone_core.proofs.ZoneLemmas.{Keys, Heir, keys_of, at_is, soa_is}
use Rattle.zone_core.proofs.VersionLemmas.{heir_of, home, updates_keep}
use Rattle.zone_core.proofs.MetLemmas.{Among}
use Rattle.zone_tools.specs.Makers.{MayHaveMade}
use Rattle.zone_tools.specs.Past.{acts_at, elsewhere, touched_name, new_record, adds_key, lacks}
use Rattle.zone_tools.specs.History.{has_key}
use Rattle.zone_tools.proofs.HistoryLemmas.{has_key-some}
use Rattle.zone_tools.proofs.GainLemmas.{gains}
use Rattle.zone_core.proofs.OutcomeLemmas.{ttl_turned}
use Rattle.std.specs.Prelude.{option_and_then}
use Rattle.zone_tools.proofs.IdleLemmas.{bare_change}
use Rattle.zone_tools.proofs.PastLemmas.{all_listed}

-- ---- the first that passes

found_passes : {X : Type 0} (p : X → Bool) (xs : List X) (x : X) → find p xs ≡ Some x → Among x xs × (p x ≡ true)
found_passes p [] x e = absurd cc
found_passes {X} p (y ∷ ys) x e = by_test (p y) refl e (found_passes p ys x)
  where
    later : Among x ys × (p x ≡ true) → Among x (y ∷ ys) × (p x ≡ true)
    later both = (inr both.0, both.1)

    by_test : (b : Bool) → p y ≡ b → cond b (Some y) (find p ys) ≡ Some x → (find p ys ≡ Some x → Among x ys × (p x ≡ true)) → Among x (y ∷ ys) × (p x ≡ true)
    by_test true t f rest = let one : y ≡ x = cc in (inl (sym one), ap p (sym one) ∙ t)
    by_test false t f rest = later (rest f)

none_passes : {X : Type 0} (p : X → Bool) (xs : List X) → find p xs ≡ None → AllByRecursion (λ x. p x ≡ false) xs
none_passes p [] e = tt
none_passes {X} p (y ∷ ys) e = by_test (p y) refl e (none_passes p ys)
  where
    by_test : (b : Bool) → p y ≡ b → cond b (Some y) (find p ys) ≡ None → (find p ys ≡ None → AllByRecursion (λ x. p x ≡ false) ys) → (p y ≡ false) × AllByRecursion (λ x. p x ≡ false) ys
    by_test true t f rest = absurd cc
    by_test false t f rest = (t, rest f)

each_is : {X : Type 0} (P : X → Type 0) (xs : List X) (x : X) → AllByRecursion P xs → Among x xs → P x
each_is P [] x all a = absurd a
each_is {X} P (y ∷ ys) x all a = (elim a [ inl e ↦ subst P (sym e) all.0 | inr later ↦ each_is P ys x all.1 later ])

-- ---- what two sets differ in

-- what is listed of two sets is not found the same in both
not_same : (a b : Records) (r : Record) → AreKept a → Among r (listing (minus a b)) → get b (key_of r) ≡ get a (key_of r) → ⊥
not_same a b r kept there same =
    let here : IsIn r (minus a b) = each_is (λ x. IsIn x (minus a b)) (listing (minus a b)) r (all_listed (minus a b) (kept_in_part a (λ k. not (same_ttl (get a k) (get b k))) kept)).inside there in
    let gone : get (minus a b) (key_of r) ≡ None =
    get-minus a b (key_of r) ∙ ap (λ o. cond (not (same_ttl (get a (key_of r)) o)) (get a (key_of r)) None) same
    ∙ ap (λ t. cond (not t) (get a (key_of r)) None) (same_ttl_self (get a (key_of r))) in
    let bad : Some r ≡ None = sym here ∙ gone in
    cc

-- where what is found of a set is the same, nothing differs
nothing_differs : (a b : Records) (k : Key) → get b k ≡ get a k → get (minus a b) k ≡ None
nothing_differs a b k same =
    get-minus a b k ∙ ap (λ o. cond (not (same_ttl (get a k) o)) (get a k) None) same ∙ ap (λ t. cond (not t) (get a k) None) (same_ttl_self (get a k))

empty_len : (m : Records) → ((k : Key) → get m k ≡ None) → (len m == 0) ≡ true
empty_len m none = ap (λ (s : Records). len s == 0) (same_sets m empty (λ k. none k ∙ sym (get-empty key_cmp k))) ∙ ap (λ n. n == 0) (len-empty key_cmp Record)

-- sets of which nothing differs are the same
same_where : (a b : Records) → ((k : Key) → get (minus a b) k ≡ None) → ((k : Key) → get (minus b a) k ≡ None) → is_same a b ≡ true
same_where a b first second = (λ i. empty_len (minus a b) first i && empty_len (minus b a) second i)

-- ---- the zone after an update

next_away : (a : Records) (r : Record) (k : Key) → (k.0 ≡ r.owner → ⊥) → get (with_next a (Some r)) k ≡ get a k
next_away a r k away =
    let p : Key → Bool = at r.owner types.Soa in
    kept_by_put (cut a p) (next_version r) k (λ same. away (ap (λ (q : Key). q.0) same))
    ∙ kept_by_cut a p k (false_from_ne_true (p k) (λ e. away (at_is r.owner types.Soa k e).0))

module _ (zone : ZoneOf) (update : UpdateOf) (change : ChangeOf) (is : IsUpdate update) (may : MayHaveMade zone update change) where
  abbrev before : Records
  before = zone.records

  abbrev made : Records
  made = effects zone.origin before update.operations

  abbrev after : Records
  after = (zone_after zone update).records

  abbrev first_keys : Keys zone.origin before
  first_keys = keys_of zone.origin before may.is_zone

  heir : Heir zone.origin before first_keys made
  heir = heir_of zone update may.is_zone is may.inside

  kept_before : AreKept before
  kept_before = may.is_zone.kept

  kept_after : AreKept after
  kept_after = (updates_keep zone update may.is_zone is may.inside).kept

  -- where an update does nothing to the set, the zone after it is the zone
  after_same : is_same before made ≡ true → after ≡ before
  after_same e = ap (λ b. if b then before else (if serial_at zone.origin before == serial_at zone.origin made then with_next made (soa_at zone.origin made) else made)) e

  -- elsewhere than at the origin the serial is not
  after_made : (k : Key) → (k.0 ≡ zone.origin → ⊥) → is_same before made ≡ false → get after k ≡ get made k
  after_made k off e =
      ap (λ b. get (if b then before else (if serial_at zone.origin before == serial_at zone.origin made then with_next made (soa_at zone.origin made) else made)) k) e
      ∙ by_serial (serial_at zone.origin before == serial_at zone.origin made)
    where
      next : get (with_next made (soa_at zone.origin made)) k ≡ get made k
      next =
          ap (λ o. get (with_next made o) k) (soa_is zone.origin made heir.0)
          ∙ next_away made heir.0.soa_there.0 k (λ name. off (name ∙ home zone.origin before made first_keys heir))

      by_serial : (b : Bool) → get (if b then with_next made (soa_at zone.origin made) else made) k ≡ get made k
      by_serial true = next
      by_serial false = refl

  -- at a name where the update does not act the set stays
  made_away : (k : Key) → acts_at k.0 update.operations ≡ false → get made k ≡ get before k
  made_away k e = effects_away zone.origin before update.operations k e

  after_away : (k : Key) → (k.0 ≡ zone.origin → ⊥) → acts_at k.0 update.operations ≡ false → get after k ≡ get before k
  after_away k off e =
      by_cases (is_same before made) (get after k ≡ get before k) (λ t. ap (λ (s : Records). get s k) (after_same t)) (λ f. after_made k off f ∙ made_away k e)

  -- the records of the change
  goes : change.removed ≡ listing (minus before after)
  goes = sym (ap (λ (c : ChangeOf). c.removed) may.makes)

  comes : change.added ≡ listing (minus after before)
  comes = sym (ap (λ (c : ChangeOf). c.added) may.makes)

  off_origin : (r : Record) → not (same_name r.owner zone.origin) ≡ true → r.owner ≡ zone.origin → ⊥
  off_origin r e name = let t : same_name r.owner zone.origin ≡ true = ap (λ n. same_name n zone.origin) name ∙ name_self zone.origin in let bad : false ≡ true = sym (ap not t) ∙ e in cc

  -- a record that goes or comes elsewhere than at the origin is at a name where the update acts
  gone_acted : (r : Record) → elsewhere zone.origin change.removed ≡ Some r → acts_at r.owner update.operations ≡ false → ⊥
  gone_acted r e none =
      let found = found_passes (λ x. not (same_name x.owner zone.origin)) change.removed r e in
      not_same before after r kept_before (subst (Among r) goes found.0) (after_away (key_of r) (off_origin r found.1) none)

  come_acted : (r : Record) → elsewhere zone.origin change.added ≡ Some r → acts_at r.owner update.operations ≡ false → ⊥
  come_acted r e none =
      let found = found_passes (λ x. not (same_name x.owner zone.origin)) change.added r e in
      not_same after before r kept_after (subst (Among r) comes found.0) (sym (after_away (key_of r) (off_origin r found.1) none))

  -- a set that differs from another at the origin only
  only_here : (a b : Records) (rs : List Record) → AreKept a → rs ≡ listing (minus a b) → elsewhere zone.origin rs ≡ None → (k : Key) → (k.0 ≡ zone.origin → ⊥) → get (minus a b) k ≡ None
  only_here a b rs kept are none k off = by_found (get (minus a b) k) refl
    where
      rows_kept : AreKept (minus a b)
      rows_kept = kept_in_part a (λ j. not (same_ttl (get a j) (get b j))) kept

      at_origin : AllByRecursion (λ r. not (same_name r.owner zone.origin) ≡ false) (listing (minus a b))
      at_origin = subst (AllByRecursion (λ r. not (same_name r.owner zone.origin) ≡ false)) are (none_passes (λ x. not (same_name x.owner zone.origin)) rs none)

      not_false : (b : Bool) → not b ≡ false → b ≡ true
      not_false true e = refl
      not_false false e = absurd cc

      by_found : (o : Option Record) → get (minus a b) k ≡ o → o ≡ None
      by_found None e = refl
      by_found (Some r) e =
          let own : key_of r ≡ k = (rows_kept k r e).0 in
          let here : IsIn r (minus a b) = ap (get (minus a b)) own ∙ e in
          let name : not (same_name r.owner zone.origin) ≡ false =
          in_has (λ x. not (same_name x.owner zone.origin) ≡ false) (listing (minus a b)) r at_origin (ap (λ (s : Records). get s (key_of r)) (listed (minus a b) rows_kept).set ∙ here) in
          absurd (off (sym (ap (λ (q : Key). q.0) own) ∙ name_is r.owner zone.origin (not_false (same_name r.owner zone.origin) name)))

  -- a change at the origin only is of an update that acts there
  origin_acted : elsewhere zone.origin change.removed ≡ None → elsewhere zone.origin change.added ≡ None → acts_at zone.origin update.operations ≡ false → ⊥
  origin_acted no_gone no_come none =
      by_cases (is_same before made) ⊥ (λ t. unchanged (after_same t)) (λ f. let t : is_same before made ≡ true = same_where before made (gone f) (come f) in let bad : true ≡ false = sym t ∙ f in cc)
    where
      unchanged : after ≡ before → ⊥
      unchanged e =
          let same : is_same before after ≡ true = same_where before after (λ k. nothing_differs before after k (ap (λ (s : Records). get s k) e)) (λ k. nothing_differs after before k (ap (λ (s : Records). get s k) (sym e))) in
          let bad : true ≡ false = sym same ∙ sym (bare_change before after) ∙ ap is_empty may.makes ∙ may.something in
          cc

      here : (k : Key) → same_name k.0 zone.origin ≡ true → get made k ≡ get before k
      here k t = made_away k (ap (λ name. acts_at name update.operations) (name_is k.0 zone.origin t) ∙ none)

      there : (k : Key) → same_name k.0 zone.origin ≡ false → k.0 ≡ zone.origin → ⊥
      there k f name = let t : same_name k.0 zone.origin ≡ true = ap (λ n. same_name n zone.origin) name ∙ name_self zone.origin in let bad : true ≡ false = sym t ∙ f in cc

      gone : is_same before made ≡ false → (k : Key) → get (minus before made) k ≡ None
      gone f k =
          by_cases (same_name k.0 zone.origin) (get (minus before made) k ≡ None) (λ t. nothing_differs before made k (here k t))
          (λ e. get-minus before made k ∙ ap (λ o. cond (not (same_ttl (get before k) o)) (get before k) None) (sym (after_made k (there k e) f)) ∙ sym (get-minus before after k)
          ∙ only_here before after change.removed kept_before goes no_gone k (there k e))

      come : is_same before made ≡ false → (k : Key) → get (minus made before) k ≡ None
      come f k =
          by_cases (same_name k.0 zone.origin) (get (minus made before) k ≡ None) (λ t. nothing_differs made before k (sym (here k t)))
          (λ e. get-minus made before k ∙ ap (λ o. cond (not (same_ttl o (get before k))) o None) (sym (after_made k (there k e) f)) ∙ sym (get-minus after before k)
          ∙ only_here after before change.added kept_after comes no_come k (there k e))

  -- an update that may have made the change acts at a name of it
  pub acts_there : acts_at (touched_name zone.origin change) update.operations ≡ true
  acts_there = by_cases (acts_at (touched_name zone.origin change) update.operations) _ (λ t. t) (λ f. absurd (by_gone (elsewhere zone.origin change.removed) (elsewhere zone.origin change.added) refl refl f))
    where
      by_gone : (o p : Option Record) → elsewhere zone.origin change.removed ≡ o → elsewhere zone.origin change.added ≡ p
          → acts_at (option_map_or (λ r. r.owner) o (option_map_or (λ r. r.owner) p zone.origin)) update.operations ≡ false → ⊥
      by_gone (Some r) p e f none = gone_acted r e none
      by_gone None (Some r) e f none = come_acted r f none
      by_gone None None e f none = origin_acted e f none

  -- a record that comes elsewhere and is new is one that the update adds
  brought : (r : Record) → elsewhere zone.origin change.added ≡ Some r → has_key change.removed (key_of r) ≡ false → list_any (adds_key (key_of r)) update.operations ≡ true
  brought r e new = gains zone.origin (key_of r) update.operations before r gone made_here
    where
      found : Among r change.added × (not (same_name r.owner zone.origin) ≡ true)
      found = found_passes (λ x. not (same_name x.owner zone.origin)) change.added r e

      there : Among r (listing (minus after before))
      there = subst (Among r) comes found.0

      here : IsIn r (minus after before)
      here = each_is (λ x. IsIn x (minus after before)) (listing (minus after before)) r (all_listed (minus after before) (kept_in_part after (λ k. not (same_ttl (get after k) (get before k))) kept_after)).inside there

      now : get after (key_of r) ≡ Some r
      now = (found_of_part after (λ k. not (same_ttl (get after k) (get before k))) (key_of r) r here).1

      differ : not (same_ttl (get after (key_of r)) (get before (key_of r))) ≡ true
      differ = (found_of_part after (λ k. not (same_ttl (get after k) (get before k))) (key_of r) r here).0

      made_here : get made (key_of r) ≡ Some r
      made_here =
          by_cases (is_same before made) (get made (key_of r) ≡ Some r) (λ t. absurd (not_same after before r kept_after there (ap (λ (s : Records). get s (key_of r)) (sym (after_same t)))))
          (λ f. sym (after_made (key_of r) (off_origin r found.1) f) ∙ now)

      turned : (o p : Option Record) → not (same_ttl o p) ≡ true → not (same_ttl p o) ≡ true
      turned o p t = ap not (ttl_turned p o) ∙ t

      by_old : (o : Option Record) → get before (key_of r) ≡ o → o ≡ None
      by_old None f = refl
      by_old (Some s) f =
          let there_too : get (minus before after) (key_of r) ≡ Some s =
          get-minus before after (key_of r) ∙ ap (λ b. cond b (get before (key_of r)) None) (turned (get after (key_of r)) (get before (key_of r)) differ) ∙ f in
          let rows = listed (minus before after) (kept_in_part before (λ k. not (same_ttl (get before k) (get after k))) kept_before) in
          let listed_too : has_key change.removed (key_of r) ≡ true =
          ap (λ rs. has_key rs (key_of r)) goes ∙ has_key-some (listing (minus before after)) (key_of r) ∙ ap is_some (ap (λ (w : Records). get w (key_of r)) rows.set ∙ there_too) in
          let bad : true ≡ false = sym listed_too ∙ new in
          absurd cc

      gone : get before (key_of r) ≡ None
      gone = by_old (get before (key_of r)) refl

  -- so an update that may have made the change does not lack it
  pub never_lacks : lacks (new_record zone.origin change) update.operations ≡ false
  never_lacks = by_found (elsewhere zone.origin change.added) refl
    where
      by_key : (r : Record) → elsewhere zone.origin change.added ≡ Some r → (b : Bool) → has_key change.removed (key_of r) ≡ b → lacks (if b then None else Some r) update.operations ≡ false
      by_key r e true f = refl
      by_key r e false f = ap not (brought r e f)

      by_found : (o : Option Record) → elsewhere zone.origin change.added ≡ o → lacks (option_and_then (λ r. if has_key change.removed (key_of r) then None else Some r) o) update.operations ≡ false
      by_found None e = refl
      by_found (Some r) e = by_key r e (has_key change.removed (key_of r)) refl
