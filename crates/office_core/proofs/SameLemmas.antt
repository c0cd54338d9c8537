-- Two states in which a caller sees the same, and what a step of that caller or of another leaves of it.
use Rattle.std.proofs.Common.{◌≡◌, ◌≢◌, ℕ, List, [], ◌∷◌, ◌++◌, Bool, true, false, ◌&&◌, ◌==◌, Option, Some, None, refl, sym, ap, subst, ◌∙◌, if◌then◌else◌, append_assoc, append-nil}
use Rattle.std.specs.Prelude.{option_map, bytes_eq}
use Rattle.std.specs.List.{AllByRecursion, flat_map}
use Rattle.std.specs.Option.{option_or}
use Rattle.std.specs.FinMap.{len}
use Rattle.std.proofs.lemmas.Bool.{and_parts, false_from_ne_true}
use Rattle.std.proofs.lemmas.Slice.Eq.{bytes_eq-Decides}
use Rattle.dns_names.specs.Order.{same_name}
use Rattle.dns_data.specs.declared.record_type.RecordType.TheVariants as types
use Rattle.dns_data.specs.Rdata.{type_of}
use Rattle.dns_data.proofs.RecordOrderLemmas.{one_rank}
use Rattle.grant_policy.specs.declared.action.Action.TheVariants as action
use Rattle.grant_policy.specs.declared.rule.Rule.{Rule}
use Rattle.grant_policy.specs.Decisions.{Verdict, granted, denied, decision, is_granted}
use Rattle.zone_core.specs.Sets.{Records, key_of, listing, part, within, at, minus, is_same}
use Rattle.zone_core.specs.Zones.{IsZone, AreKept}
use Rattle.zone_core.specs.Updates.{UpdateOf, IsUpdate, ActsWithin, first_outside}
use Rattle.zone_core.specs.Visibility.{Indistinguishable, IsInvisible, PassesSeen}
use Rattle.zone_core.proofs.SetLemmas.{name_is, empty_is}
use Rattle.zone_core.proofs.UpdateLemmas.{none_outside}
use Rattle.zone_core.proofs.ZoneLemmas.{at_is}
use Rattle.zone_core.proofs.VersionLemmas.{updates_keep}
use Rattle.zone_core.proofs.ListedLemmas.{nothing_listed}
use Rattle.zone_core.proofs.VisibilityLemmas.{verdicts_are_indistinguishable, updates_stay_indistinguishable, invisible_updates_are_indistinguishable, listings_are_indistinguishable, parts_are_indistinguishable, changes_are_indistinguishable, invisible_changes_show_nothing}
use Rattle.zone_core.specs.Changes.{ChangeOf, change_between}
use Rattle.office_model.specs.declared.request.Request.{Request}
use Rattle.office_model.specs.declared.request.Request.TheVariants as requests
use Rattle.office_model.specs.declared.request.Query.{Query}
use Rattle.office_model.specs.declared.reply.UpdateReply.{UpdateReply}
use Rattle.office_model.specs.declared.reply.UpdateReply.TheVariants.{NoError, Failed}
use Rattle.office_model.specs.declared.receipt.Receipt.{Receipt}
use Rattle.office_model.specs.Replies.{ReplyOf}
use Rattle.office_model.specs.States.{Held, State, zone_held, AreZones, hold, keep}
use Rattle.office_core.specs.Footprints.{footprint}
use Rattle.office_core.specs.Permissions.{question, IsGranted, IsPermitted, first_denial}
use Rattle.office_core.specs.Machine.{may_list, listed, seen_of, if_some, seen, of_zone, query_reply, outside_reply, denied_reply, failed_reply, refused_by, refusal, with_change, held_after, receipt, Turn, unchanged, answered, updated, step, made_now, made}
use Rattle.office_core.specs.Runs.{HasUpdate}
use Rattle.office_core.specs.Isolation.{IsOwn, IsBlindAt, SeesNoSoa, origin_of}
use Rattle.office_core.proofs.PermissionLaws.{none_permits}
use Rattle.office_core.proofs.OwnNameLemmas.{own_name, not_soa, permitted_tests, permitted_acts}

-- ---- no refusal

neither : {A : Type 0} (x y : Option A) → option_or x y ≡ None → (x ≡ None) × (y ≡ None)
neither None y e = (refl, e)
neither (Some a) y e = absurd cc

not_mapped : {A B : Type 0} (f : A → B) (x : Option A) → option_map f x ≡ None → x ≡ None
not_mapped f None e = refl
not_mapped f (Some a) e = absurd cc

or_last : {A : Type 0} (x y z : Option A) → (x ≡ None → y ≡ z) → option_or x y ≡ option_or x z
or_last None y z e = e refl
or_last (Some a) y z e = refl

-- what an update that is made meets
pub record IsMade (rules : List Rule) (caller : List ℕ) (origin : List (List ℕ)) (update : UpdateOf) : Type 0 where
  pub within : ActsWithin origin update
  pub permitted : IsPermitted rules caller origin update

not_denied : (rules : List Rule) (caller : List ℕ) (origin : List (List ℕ)) (update : UpdateOf) → denied_reply rules caller origin update ≡ None → IsPermitted rules caller origin update
not_denied rules caller origin update e =
    none_permits rules caller origin update (not_mapped refused_by (first_denial rules caller (footprint origin update)) e)

pub not_refused : (rules : List Rule) (caller : List ℕ) (origin : List (List ℕ)) (update : UpdateOf) (x : Option Held) → refusal rules caller origin update x ≡ None → IsMade rules caller origin update
not_refused rules caller origin update None e = absurd cc
not_refused rules caller origin update (Some held) e =
    let first = neither (outside_reply origin update) (option_or (denied_reply rules caller origin update) (failed_reply held.records update)) e in
    let second = neither (denied_reply rules caller origin update) (failed_reply held.records update) first.1 in
    record {
      within = (none_outside origin update (first_outside origin update) refl).0 (not_mapped _ (first_outside origin update) first.0);
      permitted = not_denied rules caller origin update second.0;
    }

-- ---- changes

flat_map-push : {A B : Type 0} (f : A → List B) (xs : List A) (x : A) → flat_map f (xs ++ x ∷ []) ≡ flat_map f xs ++ f x
flat_map-push f [] x = append-nil (f x)
flat_map-push f (y ∷ xs) x = ap (λ r. f y ++ r) (flat_map-push f xs x) ∙ sym (append_assoc (f y) (flat_map f xs) (f x))

nothing_in : (a : Records) → (len a == 0) ≡ true → listing a ≡ []
nothing_in a e = ap (λ (s : Records). listing s) (empty_is a e) ∙ nothing_listed

module _ (rules : List Rule) (caller : List ℕ) where
  -- what is seen of a change
  shown : Records → Records → List ChangeOf
  shown a b = if_some (seen_of rules caller (change_between a b))

  -- of one of which nothing is seen
  shows_none : (a b : Records) → listed rules caller (listing (minus a b)) ≡ [] → listed rules caller (listing (minus b a)) ≡ [] → shown a b ≡ []
  unfolding shown
  shows_none a b e f = λ i. if_some (record { removed = e i; added = f i })

  -- a change shows the same whether or not it is kept
  seen_with : (a b : Records) (cs : List ChangeOf) → seen rules caller (with_change a b cs) ≡ seen rules caller cs ++ shown a b
  unfolding shown
  seen_with a b cs = by_test (is_same a b) refl
    where
      by_test : (t : Bool) → is_same a b ≡ t → seen rules caller (if t then cs else cs ++ change_between a b ∷ []) ≡ seen rules caller cs ++ shown a b
      by_test true e =
          let parts = and_parts (len (minus a b) == 0) (len (minus b a) == 0) e in
          let none = shows_none a b (ap (listed rules caller) (nothing_in (minus a b) parts.0)) (ap (listed rules caller) (nothing_in (minus b a) parts.1)) in
          sym (append-nil (seen rules caller cs)) ∙ ap (λ xs. seen rules caller cs ++ xs) (sym none)
      by_test false e = flat_map-push (λ c. if_some (seen_of rules caller c)) cs (change_between a b)

  -- ---- the relation

  -- what is held of an origin looks the same to the caller
  pub record Sees (origin : List (List ℕ)) (a b : Held) : Type 0 where
    pub zone : IsZone (zone_held origin a)
    pub other : IsZone (zone_held origin b)
    pub blind : IsBlindAt rules caller origin
    pub alike : Indistinguishable (IsOwn rules caller) origin a.records b.records
    pub changes : seen rules caller a.changes ≡ seen rules caller b.changes

  abbrev pub SameZone : List (List ℕ) → Option Held → Option Held → Type 0
  SameZone origin None None = Unit {0}
  SameZone origin None (Some b) = ⊥
  SameZone origin (Some a) None = ⊥
  SameZone origin (Some a) (Some b) = Sees origin a b

  pub record Same (s t : State) : Type 0 where
    pub zones : (origin : List (List ℕ)) → SameZone origin (s.zones origin) (t.zones origin)
    pub receipts : (id : List ℕ) → s.receipts caller id ≡ t.receipts caller id

  -- ---- what may be listed

  granted_is : (v : Verdict) → is_granted v ≡ true → (id : List ℕ) × (v ≡ granted id)
  granted_is (granted id) e = (id, refl)
  granted_is (denied by) e = absurd cc

  lists_own : (origin : List (List ℕ)) → IsBlindAt rules caller origin → PassesSeen (IsOwn rules caller) origin (may_list rules caller)
  lists_own origin blind r e =
      let may : IsGranted rules caller r.owner (type_of r.rdata) action.List = granted_is (decision (question caller r.owner (type_of r.rdata) action.List) rules) e in (
        own_name rules caller r.owner (type_of r.rdata) action.List may,
        false_from_ne_true (at origin types.Soa (key_of r)) (λ t.
            let is = at_is origin types.Soa (key_of r) t in
            not_soa rules caller origin r.owner (type_of r.rdata) action.List blind.unlisted may is.0 (one_rank (type_of r.rdata) types.Soa is.1)),
      )

  pub all_listed : (origin : List (List ℕ)) (a b : Held) → Sees origin a b → listed rules caller (listing a.records) ≡ listed rules caller (listing b.records)
  all_listed origin a b sees =
      listings_are_indistinguishable (IsOwn rules caller) origin a.records b.records sees.zone.kept sees.other.kept sees.alike (may_list rules caller) (lists_own origin sees.blind)

  pub part_listed : (origin top : List (List ℕ)) (a b : Held) → Sees origin a b → listed rules caller (listing (part a.records (within top))) ≡ listed rules caller (listing (part b.records (within top)))
  part_listed origin top a b sees =
      parts_are_indistinguishable (IsOwn rules caller) origin a.records b.records sees.zone.kept sees.other.kept sees.alike (within top) (may_list rules caller) (lists_own origin sees.blind)

  pub of_zone_alike : (origin : List (List ℕ)) (x y : Option Held) → SameZone origin x y → (reads : Held → ReplyOf) → ((a b : Held) → Sees origin a b → reads a ≡ reads b) → of_zone x reads ≡ of_zone y reads
  of_zone_alike origin None None z reads same = refl
  of_zone_alike origin None (Some b) z reads same = absurd z
  of_zone_alike origin (Some a) None z reads same = absurd z
  of_zone_alike origin (Some a) (Some b) z reads same = same a b z

  -- ---- whether an update is refused

  refusal_alike : (origin : List (List ℕ)) (update : UpdateOf) (x y : Option Held) → SameZone origin x y → refusal rules caller origin update x ≡ refusal rules caller origin update y
  refusal_alike origin update None None z = refl
  refusal_alike origin update None (Some b) z = absurd z
  refusal_alike origin update (Some a) None z = absurd z
  refusal_alike origin update (Some a) (Some b) z =
      or_last (outside_reply origin update) _ _ (λ _.
      or_last (denied_reply rules caller origin update) (failed_reply a.records update) (failed_reply b.records update) (λ e.
      ap (option_map Failed)
      (verdicts_are_indistinguishable (IsOwn rules caller) origin a.records b.records z.alike update.prerequisites
      (permitted_tests rules caller origin z.blind.unchecked update (not_denied rules caller origin update e)))))

  -- ---- an update of the caller's own

  change_alike : (origin : List (List ℕ)) → IsBlindAt rules caller origin → (a b c d : Records) → AreKept a → AreKept b → AreKept c → AreKept d → Indistinguishable (IsOwn rules caller) origin a b → Indistinguishable (IsOwn rules caller) origin c d → shown a c ≡ shown b d
  unfolding shown
  change_alike origin blind a b c d kept_a kept_b kept_c kept_d before after =
      let passed = lists_own origin blind in
      let removed = changes_are_indistinguishable (IsOwn rules caller) origin a b c d kept_a kept_b before after (may_list rules caller) passed in
      let added = changes_are_indistinguishable (IsOwn rules caller) origin c d a b kept_c kept_d after before (may_list rules caller) passed in
      λ i. if_some (record { removed = removed i; added = added i })

  held_alike : (origin : List (List ℕ)) (update : UpdateOf) → IsUpdate update → IsMade rules caller origin update → (a b : Held) → Sees origin a b → Sees origin (held_after origin update a) (held_after origin update b)
  held_alike origin update is made a b sees =
      let c = (held_after origin update a).records in
      let d = (held_after origin update b).records in
      let zone = updates_keep (zone_held origin a) update sees.zone is made.within in
      let other = updates_keep (zone_held origin b) update sees.other is made.within in
      let alike = updates_stay_indistinguishable (IsOwn rules caller) origin a.records b.records sees.zone.kept sees.other.kept sees.alike update.operations is.operations (permitted_acts rules caller origin update made.permitted) in
      let change = change_alike origin sees.blind a.records b.records c d sees.zone.kept sees.other.kept zone.kept other.kept sees.alike alike in
      record {
        zone = zone;
        other = other;
        blind = sees.blind;
        alike = alike;
        changes = seen_with a.records c a.changes ∙ (λ i. sees.changes i ++ change i) ∙ sym (seen_with b.records d b.changes);
      }

  after_alike : (origin : List (List ℕ)) (update : UpdateOf) → IsUpdate update → (x y : Option Held) → SameZone origin x y → refusal rules caller origin update x ≡ None → SameZone origin (option_map (held_after origin update) x) (option_map (held_after origin update) y)
  after_alike origin update is None None z e = tt
  after_alike origin update is None (Some b) z e = absurd z
  after_alike origin update is (Some a) None z e = absurd z
  after_alike origin update is (Some a) (Some b) z e = held_alike origin update is (not_refused rules caller origin update (Some a) e) a b z

  -- ---- an update of another's

  -- an invisible change of a zone
  change_invisible : (origin : List (List ℕ)) → IsBlindAt rules caller origin → (a c : Held) → IsZone (zone_held origin a) → IsZone (zone_held origin c) → Indistinguishable (IsOwn rules caller) origin a.records c.records → shown a.records c.records ≡ []
  change_invisible origin blind a c before after alike =
      let passed = lists_own origin blind in
      let turned : Indistinguishable (IsOwn rules caller) origin c.records a.records = record { same = λ k own off. sym (alike.same k own off); soa = sym alike.soa } in
      shows_none a.records c.records
      (invisible_changes_show_nothing (IsOwn rules caller) origin a.records c.records before.kept alike (may_list rules caller) passed)
      (invisible_changes_show_nothing (IsOwn rules caller) origin c.records a.records after.kept turned (may_list rules caller) passed)

  held_invisible : (origin : List (List ℕ)) (update : UpdateOf) → IsUpdate update → ActsWithin origin update → AllByRecursion (IsInvisible (IsOwn rules caller) origin) update.operations → (a b : Held) → Sees origin a b → Sees origin (held_after origin update a) b
  held_invisible origin update is acts invisible a b sees =
      let c = held_after origin update a in
      let after = updates_keep (zone_held origin a) update sees.zone is acts in
      let alike = invisible_updates_are_indistinguishable (IsOwn rules caller) origin a.records sees.zone.kept update.operations invisible in
      record {
        zone = after;
        other = sees.other;
        blind = sees.blind;
        alike = record { same = λ k own off. sym (alike.same k own off) ∙ sees.alike.same k own off; soa = sym alike.soa ∙ sees.alike.soa };
        changes = seen_with a.records c.records a.changes ∙ ap (λ xs. seen rules caller a.changes ++ xs) (change_invisible origin sees.blind a c sees.zone after alike) ∙ append-nil (seen rules caller a.changes) ∙ sees.changes;
      }

  after_invisible : (other : List ℕ) (origin : List (List ℕ)) (update : UpdateOf) → IsUpdate update → (x y : Option Held) → SameZone origin x y → refusal rules other origin update x ≡ None → AllByRecursion (IsInvisible (IsOwn rules caller) origin) update.operations → SameZone origin (option_map (held_after origin update) x) y
  after_invisible other origin update is None y z e invisible = z
  after_invisible other origin update is (Some a) None z e invisible = absurd z
  after_invisible other origin update is (Some a) (Some b) z e invisible = held_invisible origin update is (not_refused rules other origin update (Some a) e).within invisible a b z

  -- ---- what is held and kept

  same_hold : (s t : State) (origin : List (List ℕ)) (x y : Option Held) → Same s t → SameZone origin x y → Same (hold s origin x) (hold t origin y)
  same_hold s t origin x y same z = record { zones = λ o. at_origin o (same_name o origin) refl; receipts = same.receipts }
    where
      at_origin : (o : List (List ℕ)) (here : Bool) → same_name o origin ≡ here → SameZone o (if here then x else s.zones o) (if here then y else t.zones o)
      at_origin o true e = subst (λ (n : List (List ℕ)). SameZone n x y) (sym (name_is o origin e)) z
      at_origin o false e = same.zones o

  away_hold : (s t : State) (origin : List (List ℕ)) (x : Option Held) → Same s t → SameZone origin x (t.zones origin) → Same (hold s origin x) t
  away_hold s t origin x same z = record { zones = λ o. at_origin o (same_name o origin) refl; receipts = same.receipts }
    where
      at_origin : (o : List (List ℕ)) (here : Bool) → same_name o origin ≡ here → SameZone o (if here then x else s.zones o) (t.zones o)
      at_origin o true e = subst (λ (n : List (List ℕ)). SameZone n x (t.zones n)) (sym (name_is o origin e)) z
      at_origin o false e = same.zones o

  same_keep : (s t : State) (id : List ℕ) (kept : Receipt) → Same s t → Same (keep s caller id kept) (keep t caller id kept)
  same_keep s t id kept same = record {
    zones = same.zones;
    receipts = λ i. ap (λ (x : Option Receipt). if bytes_eq caller caller && bytes_eq i id then Some kept else x) (same.receipts i);
  }

  away_keep : (s t : State) (other id : List ℕ) (kept : Receipt) → other ≢ caller → Same s t → Same (keep s other id kept) t
  away_keep s t other id kept differs same = record {
    zones = same.zones;
    receipts = λ i. ap (λ b. if b && bytes_eq i id then Some kept else s.receipts caller i) (false_from_ne_true (bytes_eq caller other) (λ e. differs (sym ((bytes_eq-Decides caller other).0 e)))) ∙ same.receipts i;
  }

  -- ---- the steps of the caller

  pub record Turns (x y : Turn) : Type 0 where
    pub reply : x.reply ≡ y.reply
    pub after : Same x.after y.after

  unchanged_alike : (s t : State) → Same s t → (x y : ReplyOf) → x ≡ y → Turns (unchanged s x) (unchanged t y)
  unchanged_alike s t same x y e = record { reply = e; after = same }

  answered_alike : (s t : State) → Same s t → (id : List ℕ) (origin : List (List ℕ)) (update : UpdateOf) → IsUpdate update → (f : Option UpdateReply) → refusal rules caller origin update (s.zones origin) ≡ f → Turns (answered s caller id origin update f) (answered t caller id origin update f)
  answered_alike s t same id origin update is (Some reply) e = record { reply = refl; after = same_keep s t id (receipt origin update reply) same }
  answered_alike s t same id origin update is None e =
      let x = option_map (held_after origin update) (s.zones origin) in
      let y = option_map (held_after origin update) (t.zones origin) in
      record {
        reply = refl;
        after = same_keep (hold s origin x) (hold t origin y) id (receipt origin update NoError)
            (same_hold s t origin x y same (after_alike origin update is (s.zones origin) (t.zones origin) (same.zones origin) e));
      }

  updated_alike : (s t : State) → Same s t → (id : List ℕ) (origin : List (List ℕ)) (update : UpdateOf) → IsUpdate update → (kept : Option Receipt) → Turns (updated rules s caller id origin update kept) (updated rules t caller id origin update kept)
  updated_alike s t same id origin update is (Some kept) = record { reply = refl; after = same }
  updated_alike s t same id origin update is None =
      subst (λ (f : Option UpdateReply). Turns (answered s caller id origin update (refusal rules caller origin update (s.zones origin))) (answered t caller id origin update f))
      (refusal_alike origin update (s.zones origin) (t.zones origin) (same.zones origin))
      (answered_alike s t same id origin update is (refusal rules caller origin update (s.zones origin)) refl)

  -- the caller's own step, where queries are answered alike: the same reply, and the caller sees the same
  pub step_alike : (s t : State) → Same s t → ((query : Query) → query_reply rules s caller query ≡ query_reply rules t caller query)
      → (request : Request) → HasUpdate request → Turns (step rules s caller request) (step rules t caller request)
  step_alike s t same alike (requests.Update origin id update) is =
      subst (λ (kept : Option Receipt). Turns (updated rules s caller id origin update (s.receipts caller id)) (updated rules t caller id origin update kept)) (same.receipts id)
      (updated_alike s t same id origin update is (s.receipts caller id))
  step_alike s t same alike (requests.Read query) is = unchanged_alike s t same _ _ (alike query)

  -- ---- the steps of another

  answered_away : (s t : State) → Same s t → (other : List ℕ) → other ≢ caller → (id : List ℕ) (origin : List (List ℕ)) (update : UpdateOf) → IsUpdate update → (f : Option UpdateReply) → refusal rules other origin update (s.zones origin) ≡ f → AllByRecursion (IsInvisible (IsOwn rules caller) origin) (made_now None f update) → Same (answered s other id origin update f).after t
  answered_away s t same other differs id origin update is (Some reply) e invisible = away_keep s t other id (receipt origin update reply) differs same
  answered_away s t same other differs id origin update is None e invisible =
      let x = option_map (held_after origin update) (s.zones origin) in
      away_keep (hold s origin x) t other id (receipt origin update NoError) differs
      (away_hold s t origin x same (after_invisible other origin update is (s.zones origin) (t.zones origin) (same.zones origin) e invisible))

  updated_away : (s t : State) → Same s t → (other : List ℕ) → other ≢ caller → (id : List ℕ) (origin : List (List ℕ)) (update : UpdateOf) → IsUpdate update → (kept : Option Receipt) → AllByRecursion (IsInvisible (IsOwn rules caller) origin) (made_now kept (refusal rules other origin update (s.zones origin)) update) → Same (updated rules s other id origin update kept).after t
  updated_away s t same other differs id origin update is (Some kept) invisible = same
  updated_away s t same other differs id origin update is None invisible = answered_away s t same other differs id origin update is (refusal rules other origin update (s.zones origin)) refl invisible

  -- the step of another that stays invisible: the caller sees the same
  pub step_away : (s t : State) → Same s t → (other : List ℕ) → other ≢ caller → (request : Request) → HasUpdate request → AllByRecursion (IsInvisible (IsOwn rules caller) (origin_of request)) (made rules s other request) → Same (step rules s other request).after t
  step_away s t same other differs (requests.Update origin id update) is invisible = updated_away s t same other differs id origin update is (s.receipts other id) invisible
  step_away s t same other differs (requests.Read query) is invisible = same

  -- ---- the opening state

  zone_self : (origin : List (List ℕ)) (x : Option Held) → ((held : Held) → x ≡ Some held → IsZone (zone_held origin held)) → ((held : Held) → x ≡ Some held → IsBlindAt rules caller origin) → SameZone origin x x
  zone_self origin None zones blind = tt
  zone_self origin (Some held) zones blind =
      record { zone = zones held refl; other = zones held refl; blind = blind held refl; alike = record { same = λ k own off. refl; soa = refl }; changes = refl }

  pub same_self : (s : State) → AreZones s → SeesNoSoa rules caller s → Same s s
  same_self s zones blind = record { zones = λ origin. zone_self origin (s.zones origin) (zones origin) (blind origin); receipts = λ id. refl }
