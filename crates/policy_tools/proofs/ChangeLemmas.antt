-- What another policy changes at a name, and at the names of a group.
use Rattle.std.proofs.Common.{◌≡◌, ◌≢◌, ◌↔◌, ◌⊎◌, inl, inr, ℕ, ◌+◌, ◌<◌, ◌≤◌, Bool, true, false, ◌&&◌, not, List, [], ◌∷◌, ◌++◌, length, map, get_or, take, cond, Option, Some, None, refl, sym, ap, ◌∙◌, subst, ⊎_elim, arith, length-append, append_assoc, append-nil}
use Rattle.std.specs.List.{All, Contains}
use Rattle.std.specs.List.{list_any}
use Rattle.std.specs.Prelude.{bytes_eq}
use Rattle.std.proofs.lemmas.Bool.{false≢true, true_from_ne_false, both_ways}
use Rattle.std.proofs.lemmas.List.{length-map, map_push, take_more, get_or_default}
use Rattle.std.proofs.lemmas.List.Elements.{All-nil, All-push, All-weaker, All-contains, All-contains_itself, Contains-push, Contains-push_cases, Contains-append_left, Contains-append_right}
use Rattle.std.proofs.lemmas.List.Folds.{Any-from_list_any, list_any_at}
use Rattle.std.proofs.lemmas.List.Quantifiers.{all_pairs_push}
use Rattle.std.proofs.lemmas.Slice.Eq.{bytes_eq-Decides}
use Rattle.dns_names.specs.Labels.{IsName}
use Rattle.dns_data.specs.declared.record_type.RecordType.{RecordType}
use Rattle.grant_policy.specs.declared.action.Action.{Action}
use Rattle.grant_policy.specs.declared.callers.Callers.{Callers}
use Rattle.grant_policy.specs.declared.callers.Callers.TheVariants.{One}
use Rattle.grant_policy.specs.declared.rule.Rule.{Rule}
use Rattle.grant_policy.specs.Identifiers.{IsIdentifier}
use Rattle.grant_policy.specs.Isolated.{IsGranted}
use Rattle.policy_tools.specs.declared.claims.Claim.{Claim}
use Rattle.policy_tools.specs.declared.changes.GroupChanges.{GroupChanges}
use Rattle.policy_tools.specs.declared.name_changes.CallerChange.{CallerChange}
use Rattle.policy_tools.specs.declared.name_changes.Change.{Change}
use Rattle.policy_tools.specs.declared.name_changes.NameChanges.{NameChanges}
use Rattle.policy_tools.specs.declared.name_groups.NameGroup.{NameGroup}
use Rattle.policy_tools.specs.declared.name_groups.NameGroup.TheVariants.{Exactly, Below}
use Rattle.policy_tools.specs.declared.name_rights.CallerRights.{CallerRights}
use Rattle.policy_tools.specs.declared.name_rights.NameRights.{NameRights}
use Rattle.policy_tools.specs.Points.{has_point, Meet, Differ}
use Rattle.policy_tools.specs.Taking.{AreCallers}
use Rattle.policy_tools.specs.Claims.{IsClaim, rules_of}
use Rattle.policy_tools.specs.FreeNames.{IsFree, IsFreeBelow, IsFreeChild}
use Rattle.policy_tools.specs.Representatives.{AreAlike}
use Rattle.policy_tools.specs.NameRights.{rules_at, IsNamedIn, listed_of, IsListed, AreRightsAt}
use Rattle.policy_tools.specs.NameGroups.{IsTop, IsInGroup, AreTops}
use Rattle.policy_tools.specs.Changes.{IsGrantedOnlyBy, change_of, AreApart, AreChangesAt, AreAgreed, IsChange, IsChangeOf, IsSameChange, IsNoChange, HasNoChange, HasChangeRow, callers_of, IsSeen, IsCovered, AreChangeRows, AreChangesBetween, AddsChanges, PushesChanges, place_of, AreVersions, IsLike}
use Rattle.policy_tools.proofs.CallerLemmas.{names, free_identifier}
use Rattle.policy_tools.proofs.ClaimLemmas.{in_map, from_map}
use Rattle.policy_tools.proofs.NameRightLemmas.{looked_up, looked_up_in}
use Rattle.policy_tools.proofs.NameGroupLemmas.{rights_alike, pair_or_none, is_identifier, rule_of_caller, exactly_alike, child_among, child_alike, no_child}

-- ---- rows of callers

pub no_rows : (old new : NameRights) (others : Change) → AreChangeRows old new others [] []
no_rows old new others = record {
  each = All-nil (λ (row : CallerChange). IsChangeOf old new row.caller row.change);
  apart = All-nil (λ (row : CallerChange). AreApart row.change others);
  seen = All-nil (λ (row : CallerChange). IsSeen old new row.caller);
  once = λ i j d less lt. absurd (omega arith);
  covered = λ caller in'. absurd (omega (arith, in'.1));
}

module _ (old new : NameRights) (others : Change) (callers : List (List ℕ)) (rows : List CallerChange) (caller : List ℕ) (are : AreChangeRows old new others callers rows) where
  -- a caller that needs no row
  pub caller_covered : IsCovered old new others rows caller → AreChangeRows old new others (callers ++ caller ∷ []) rows
  caller_covered covered = record {
    each = are.each;
    apart = are.apart;
    seen = are.seen;
    once = are.once;
    covered = λ other in'.
        ⊎_elim
        (λ (before : Contains callers other). are.covered other before)
        (λ (here : caller ≡ other). subst (IsCovered old new others rows) here covered)
        (Contains-push_cases callers caller other in');
  }

  listed_later : (row : CallerChange) (other : List ℕ) → HasChangeRow rows other → HasChangeRow (rows ++ row ∷ []) other
  listed_later row other in' =
      let f : CallerChange → List ℕ = λ (r : CallerChange). r.caller in
      subst (λ (l : List (List ℕ)). Contains l other) (sym (map_push f rows row)) (Contains-append_left (map f rows) (row.caller ∷ []) other in')

  listed_last : (row : CallerChange) → HasChangeRow (rows ++ row ∷ []) row.caller
  listed_last row =
      let f : CallerChange → List ℕ = λ (r : CallerChange). r.caller in
      subst (λ (l : List (List ℕ)). Contains l row.caller) (sym (map_push f rows row)) (Contains-push (map f rows) row.caller)

  covered_later : (row : CallerChange) (other : List ℕ) → IsCovered old new others rows other → IsCovered old new others (rows ++ row ∷ []) other
  covered_later row other (inl listed) = inl (listed_later row other listed)
  covered_later row other (inr same) = inr same

  -- a caller that gets one
  pub caller_added : (row : CallerChange) → row.caller ≡ caller → IsChangeOf old new caller row.change → AreApart row.change others → IsSeen old new caller → ¬ HasChangeRow rows caller
      → AreChangeRows old new others (callers ++ caller ∷ []) (rows ++ row ∷ [])
  caller_added row is change apart seen fresh = record {
    each = All-push (λ (r : CallerChange). IsChangeOf old new r.caller r.change) rows row are.each (subst (λ (c : List ℕ). IsChangeOf old new c row.change) (sym is) change);
    apart = All-push (λ (r : CallerChange). AreApart r.change others) rows row are.apart apart;
    seen = All-push (λ (r : CallerChange). IsSeen old new r.caller) rows row are.seen (subst (IsSeen old new) (sym is) seen);
    once = all_pairs_push (λ (x y : CallerChange). x.caller ≢ y.caller) rows row are.once (λ k d lt same.
        fresh (subst (HasChangeRow rows) (same ∙ is) (in_map (λ (r : CallerChange). r.caller) rows (get_or rows k d) (k, lt, get_or_default rows k (get_or rows k d) d lt))));
    covered = λ other in'.
        ⊎_elim
        (λ (before : Contains callers other). covered_later row other (are.covered other before))
        (λ (here : caller ≡ other). inl (subst (HasChangeRow (rows ++ row ∷ [])) (is ∙ here) (listed_last row)))
        (Contains-push_cases callers caller other in');
  }

pub same_change : (old new : NameRights) (caller : List ℕ) (change others : Change) → IsChangeOf old new caller change → IsSameChange change others → IsChangeOf old new caller others
same_change old new caller change others is same = record { gives = λ t a. sym (same.gives t a) ∙ is.gives t a; takes = λ t a. sym (same.takes t a) ∙ is.takes t a }

pub row_from : (rows : List CallerChange) (caller : List ℕ) → list_any (λ row. bytes_eq row.caller caller) rows ≡ true → HasChangeRow rows caller
row_from rows caller yes' =
    let found = Any-from_list_any (λ (row : CallerChange). bytes_eq row.caller caller) rows yes' in
    subst (HasChangeRow rows) ((bytes_eq-Decides found.1.caller caller).0 found.4) (in_map (λ (row : CallerChange). row.caller) rows found.1 (found.0, found.2, found.3))

pub no_row : (rows : List CallerChange) (caller : List ℕ) → list_any (λ row. bytes_eq row.caller caller) rows ≡ false → ¬ HasChangeRow rows caller
no_row rows caller no' in' =
    let found = from_map (λ (row : CallerChange). row.caller) rows caller in' in
    let c = found.1 in
    false≢true
    (sym no' ∙ list_any_at (λ (row : CallerChange). bytes_eq row.caller caller) rows c.0 found.0 c.1
    (subst (λ (row : CallerChange). bytes_eq row.caller caller ≡ true) (sym c.2) ((bytes_eq-Decides found.0.caller caller).1 found.2)))

-- callers that are looked at one by one
pub no_callers : (old new : NameRights) (others : Change) (seen : List (List ℕ)) (rows : List CallerChange) (callers : List CallerRights) → AreChangeRows old new others seen rows
    → AreChangeRows old new others (seen ++ map (λ (r : CallerRights). r.caller) (take 0 callers)) rows
no_callers old new others seen rows callers are = subst (λ (l : List (List ℕ)). AreChangeRows old new others l rows) (sym (append-nil seen)) are

pub callers_more : (callers : List (List ℕ)) (rows : List CallerRights) (n : ℕ) (row : CallerRights) → n < length rows → row ≡ get_or rows n row
    → (callers ++ map (λ (r : CallerRights). r.caller) (take n rows)) ++ row.caller ∷ [] ≡ callers ++ map (λ (r : CallerRights). r.caller) (take (n + 1) rows)
callers_more callers rows n row lt is =
    let f : CallerRights → List ℕ = λ (r : CallerRights). r.caller in
    append_assoc callers (map f (take n rows)) (row.caller ∷ [])
    ∙ ap (λ (l : List (List ℕ)). callers ++ l) (sym (map_push f (take n rows) row))
    ∙ ap (λ (l : List CallerRights). callers ++ map f l) (ap (λ (r : CallerRights). take n rows ++ r ∷ []) is ∙ sym (take_more rows n row lt))

pub new_seen : (old new : NameRights) → All (λ row. IsSeen old new row.caller) new.named.items
new_seen old new =
    All-weaker (Contains new.named.items) (λ (row : CallerRights). IsSeen old new row.caller)
    (λ row in'. inl (in_map (λ (r : CallerRights). r.caller) new.named.items row in')) new.named.items (All-contains_itself new.named.items)

pub old_seen : (old new : NameRights) → All (λ row. IsSeen old new row.caller) old.named.items
old_seen old new =
    All-weaker (Contains old.named.items) (λ (row : CallerRights). IsSeen old new row.caller)
    (λ row in'. inr (in_map (λ (r : CallerRights). r.caller) old.named.items row in')) old.named.items (All-contains_itself old.named.items)

-- ---- changes at a name

module _ (old new : NameRights) (changes : NameChanges) (between : AreChangesBetween old new changes) where
  unlisted : (caller : List ℕ) → (¬ HasChangeRow changes.named.items caller) → IsChangeOf old new caller changes.others
  unlisted caller fresh = by (looked_up old.named.items old.others caller) (looked_up new.named.items new.others caller)
    where
      covered : Contains (callers_of new ++ callers_of old) caller → IsChangeOf old new caller changes.others
      covered in' =
          ⊎_elim
          (λ (row : HasChangeRow changes.named.items caller). absurd (fresh row))
          (λ (same : IsChangeOf old new caller changes.others). same)
          (between.rows.covered caller in')

      by : ((row : CallerRights) × Contains old.named.items row × (row.caller ≡ caller) × (listed_of old.named.items old.others caller ≡ row.rights)) ⊎ ((¬ IsListed old.named.items caller) × (listed_of old.named.items old.others caller ≡ old.others))
          → ((row : CallerRights) × Contains new.named.items row × (row.caller ≡ caller) × (listed_of new.named.items new.others caller ≡ row.rights)) ⊎ ((¬ IsListed new.named.items caller) × (listed_of new.named.items new.others caller ≡ new.others))
          → IsChangeOf old new caller changes.others
      by (inl (row, in', is, e)) there =
          covered (Contains-append_right (callers_of new) (callers_of old) caller (subst (Contains (callers_of old)) is (in_map (λ (r : CallerRights). r.caller) old.named.items row in')))
      by (inr none) (inl (row, in', is, e)) =
          covered (Contains-append_left (callers_of new) (callers_of old) caller (subst (Contains (callers_of new)) is (in_map (λ (r : CallerRights). r.caller) new.named.items row in')))
      by (inr (none, e)) (inr (none', e')) =
          subst (λ (o : ℕ). IsChange o (listed_of new.named.items new.others caller) changes.others) (sym e)
          (subst (λ (n : ℕ). IsChange old.others n changes.others) (sym e') between.others)

  pub change_is : (caller : List ℕ) → IsChangeOf old new caller (change_of changes.named.items changes.others caller)
  change_is caller = by (looked_up_in (λ (row : CallerChange). row.caller) (λ (row : CallerChange). row.change) changes.named.items changes.others caller)
    where
      by : ((row : CallerChange) × Contains changes.named.items row × (row.caller ≡ caller) × (change_of changes.named.items changes.others caller ≡ row.change)) ⊎ ((¬ HasChangeRow changes.named.items caller) × (change_of changes.named.items changes.others caller ≡ changes.others))
          → IsChangeOf old new caller (change_of changes.named.items changes.others caller)
      by (inl (row, in', is, e)) =
          subst (IsChangeOf old new caller) (sym e)
          (subst (λ (c : List ℕ). IsChangeOf old new c row.change) is (All-contains (λ (r : CallerChange). IsChangeOf old new r.caller r.change) changes.named.items row between.rows.each in'))
      by (inr (fresh, e)) = subst (IsChangeOf old new caller) (sym e) (unlisted caller fresh)

-- what is granted by one and not by the other
only_one : (given has lacks : Bool) (P Q : Type 0) → given ≡ (has && not lacks) → ((has ≡ true) ↔ P) → ((lacks ≡ true) ↔ Q) → ((given ≡ true) ↔ (P × ¬ Q))
only_one given true true P Q e p q = (λ yes'. absurd (false≢true (sym e ∙ yes')), λ both. absurd (both.1 (q.0 refl)))
only_one given true false P Q e p q = (λ yes'. (p.0 refl, λ no'. false≢true (q.1 no')), λ both. e)
only_one given false lacks P Q e p q = (λ yes'. absurd (false≢true (sym e ∙ yes')), λ both. absurd (false≢true (p.1 both.0)))

pub changes_at : (old new : List Rule) (name : List (List ℕ)) (before after : NameRights) (changes : NameChanges) → AreRightsAt old name before → AreRightsAt new name after → AreChangesBetween before after changes → AreChangesAt old new name changes
changes_at old new name before after changes was is between = record {
  gives = λ caller t a.
      only_one (has_point (change_of changes.named.items changes.others caller).gives t a) (has_point (listed_of after.named.items after.others caller) t a) (has_point (listed_of before.named.items before.others caller) t a)
      (IsGranted new caller name t a) (IsGranted old caller name t a) ((change_is before after changes between caller).gives t a) (is.granted caller t a) (was.granted caller t a);
  takes = λ caller t a.
      only_one (has_point (change_of changes.named.items changes.others caller).takes t a) (has_point (listed_of before.named.items before.others caller) t a) (has_point (listed_of after.named.items after.others caller) t a)
      (IsGranted old caller name t a) (IsGranted new caller name t a) ((change_is before after changes between caller).takes t a) (was.granted caller t a) (is.granted caller t a);
  apart = between.rows.apart;
  once = between.rows.once;
}

-- where nothing is listed nothing changes
pub agreed : (old new : List Rule) (name : List (List ℕ)) (changes : NameChanges) → AreChangesAt old new name changes → HasNoChange changes → AreAgreed old new name
agreed old new name changes at none caller t a =
    let others : change_of changes.named.items changes.others caller ≡ changes.others = ap (λ (l : List CallerChange). change_of l changes.others caller) none.named in (
      λ given. both_ways (has_point changes.others.gives t a) (none.others.gives t a) (sym (ap (λ (c : Change). has_point c.gives t a) others) ∙ (at.gives caller t a).1 given),
      λ taken. both_ways (has_point changes.others.takes t a) (none.others.takes t a) (sym (ap (λ (c : Change). has_point c.takes t a) others) ∙ (at.takes caller t a).1 taken),
    )

-- ---- where something changes

-- some pair is given or taken
record HasPair (change : Change) : Type 0 where
  record_type : RecordType
  action : Action
  there : (has_point change.gives record_type action ≡ true) ⊎ (has_point change.takes record_type action ≡ true)

pair_of_change : (change : Change) → (¬ IsNoChange change) → HasPair change
pair_of_change change some = by (pair_or_none change.gives) (pair_or_none change.takes)
  where
    by : Meet change.gives change.gives ⊎ ((t : RecordType) (a : Action) → has_point change.gives t a ≡ false) → Meet change.takes change.takes ⊎ ((t : RecordType) (a : Action) → has_point change.takes t a ≡ false) → HasPair change
    by (inl given) takes = record { record_type = given.record_type; action = given.action; there = inl given.in_one }
    by (inr none) (inl taken) = record { record_type = taken.record_type; action = taken.action; there = inr taken.in_one }
    by (inr none) (inr none') = absurd (some (record { gives = none; takes = none' }))

-- of two changes that are apart one has a pair
differing : (one other : ℕ) → Differ one other → (t : RecordType) × (a : Action) × ((has_point one t a ≡ true) ⊎ (has_point other t a ≡ true))
differing one other d = (d.record_type, d.action, by (has_point one d.record_type d.action) refl)
  where
    by : (b : Bool) → has_point one d.record_type d.action ≡ b → (has_point one d.record_type d.action ≡ true) ⊎ (has_point other d.record_type d.action ≡ true)
    by true e = inl e
    by false e = inr (true_from_ne_false (has_point other d.record_type d.action) (λ no'. d.differ (e ∙ sym no')))

pair_of_two : (one other : Change) → AreApart one other → HasPair one ⊎ HasPair other
pair_of_two one other (inl d) =
    let p = differing one.gives other.gives d in
    ⊎_elim
    (λ (h : has_point one.gives p.0 p.1 ≡ true). inl (record { record_type = p.0; action = p.1; there = inl h }))
    (λ (h : has_point other.gives p.0 p.1 ≡ true). inr (record { record_type = p.0; action = p.1; there = inl h }))
    p.2
pair_of_two one other (inr d) =
    let p = differing one.takes other.takes d in
    ⊎_elim
    (λ (h : has_point one.takes p.0 p.1 ≡ true). inl (record { record_type = p.0; action = p.1; there = inr h }))
    (λ (h : has_point other.takes p.0 p.1 ≡ true). inr (record { record_type = p.0; action = p.1; there = inr h }))
    p.2

-- an identifier for which something changes at a name
record ChangesFor (old new : List Rule) (name : List (List ℕ)) : Type 0 where
  caller : List ℕ
  identifier : IsIdentifier caller
  record_type : RecordType
  action : Action
  changed : IsGrantedOnlyBy new old caller name record_type action ⊎ IsGrantedOnlyBy old new caller name record_type action

rules_call : (claims : List Claim) → All IsClaim claims → (rule : Rule) → Contains (rules_of claims) rule → AreCallers rule.callers
rules_call claims all rule in' =
    let c = from_map (λ (x : Claim). x.rule.now) claims rule in' in
    subst (λ (r : Rule). AreCallers r.callers) c.2 (All-contains IsClaim claims c.0 all c.1).1

module _ (old new : List Claim) (few : (length old ≤ 1024) × (length new ≤ 1024)) (olds : All IsClaim old) (news : All IsClaim new) (name : List (List ℕ)) (before after : NameRights) (changes : NameChanges)
    (was : AreRightsAt (rules_of old) name before) (is : AreRightsAt (rules_of new) name after) (between : AreChangesBetween before after changes) where
  at : AreChangesAt (rules_of old) (rules_of new) name changes
  at = changes_at (rules_of old) (rules_of new) name before after changes was is between

  -- a caller with a row of rights is named by a rule
  named_by : (claims : List Claim) → All IsClaim claims → (rights : NameRights) → AreRightsAt (rules_of claims) name rights → (caller : List ℕ) → IsListed rights.named.items caller → IsIdentifier caller × ((rule : Rule) × Contains (rules_of claims) rule × (rule.callers ≡ One caller))
  named_by claims all rights are caller listed =
      let row = from_map (λ (r : CallerRights). r.caller) rights.named.items caller listed in
      let named = subst (IsNamedIn (rules_at (rules_of claims) name)) row.2 (All-contains (λ (r : CallerRights). IsNamedIn (rules_at (rules_of claims) name) r.caller) rights.named.items row.0 are.named row.1) in
      (is_identifier (rules_of claims) (rules_call claims all) name caller named, rule_of_caller (rules_of claims) (rules_call claims all) name caller named)

  seen_by : (caller : List ℕ) → IsSeen before after caller → IsIdentifier caller × ((rule : Rule) × Contains (rules_of old ++ rules_of new) rule × (rule.callers ≡ One caller))
  seen_by caller (inl listed) = let r = named_by new news after is caller listed in (r.0, (r.1.0, Contains-append_right (rules_of old) (rules_of new) r.1.0 r.1.1, r.1.2))
  seen_by caller (inr listed) = let r = named_by old olds before was caller listed in (r.0, (r.1.0, Contains-append_left (rules_of old) (rules_of new) r.1.0 r.1.1, r.1.2))

  seen_of : (row : CallerChange) → Contains changes.named.items row → IsSeen before after row.caller
  seen_of row in' = All-contains (λ (r : CallerChange). IsSeen before after r.caller) changes.named.items row between.rows.seen in'

  -- what changes for a caller by its listed change
  for_caller : (caller : List ℕ) → IsIdentifier caller → (change : Change) → change_of changes.named.items changes.others caller ≡ change → HasPair change → ChangesFor (rules_of old) (rules_of new) name
  for_caller caller identifier change e pair = record {
    caller = caller;
    identifier = identifier;
    record_type = pair.record_type;
    action = pair.action;
    changed = ⊎_elim
        (λ (h : has_point change.gives pair.record_type pair.action ≡ true). inl ((at.gives caller pair.record_type pair.action).0 (ap (λ (c : Change). has_point c.gives pair.record_type pair.action) e ∙ h)))
        (λ (h : has_point change.takes pair.record_type pair.action ≡ true). inr ((at.takes caller pair.record_type pair.action).0 (ap (λ (c : Change). has_point c.takes pair.record_type pair.action) e ∙ h)))
        pair.there;
  }

  -- what changes for all others does so for an identifier that no rule names
  for_others : HasPair changes.others → ChangesFor (rules_of old) (rules_of new) name
  for_others pair = for_caller free.0 free.1 changes.others (by (looked_up_in (λ (row : CallerChange). row.caller) (λ (row : CallerChange). row.change) changes.named.items changes.others free.0)) pair
    where
      all : List Callers
      all = map (λ (r : Rule). r.callers) (rules_of old ++ rules_of new)

      free : (identifier : List ℕ) × IsIdentifier identifier × ((own : Callers) → Contains all own → names identifier own ≡ false)
      free = free_identifier all (omega (arith, few.0, few.1, length-map (rules_of old ++ rules_of new) (λ (r : Rule). r.callers), length-append (rules_of old) (rules_of new), length-map old (λ (x : Claim). x.rule.now), length-map new (λ (x : Claim). x.rule.now)))

      by : ((row : CallerChange) × Contains changes.named.items row × (row.caller ≡ free.0) × (change_of changes.named.items changes.others free.0 ≡ row.change)) ⊎ ((¬ HasChangeRow changes.named.items free.0) × (change_of changes.named.items changes.others free.0 ≡ changes.others)) → change_of changes.named.items changes.others free.0 ≡ changes.others
      by (inl (row, in', of, e)) =
          let r = (seen_by row.caller (seen_of row in')).1 in
          let no' = free.2 (One row.caller) (subst (Contains all) r.2 (in_map (λ (x : Rule). x.callers) (rules_of old ++ rules_of new) r.0 r.1)) in
          absurd (false≢true (sym no' ∙ (bytes_eq-Decides row.caller free.0).1 of))
      by (inr (fresh, e)) = e

  for_row : (row : CallerChange) (rows : List CallerChange) → changes.named.items ≡ row ∷ rows → ChangesFor (rules_of old) (rules_of new) name
  for_row row rows e =
      ⊎_elim
      (λ (own : HasPair row.change). for_caller row.caller (seen_by row.caller (seen_of row in')).0 row.change here own)
      (λ (theirs : HasPair changes.others). for_others theirs)
      (pair_of_two row.change changes.others (All-contains (λ (r : CallerChange). AreApart r.change changes.others) changes.named.items row between.rows.apart in'))
    where
      in' : Contains changes.named.items row
      in' = subst (λ (l : List CallerChange). Contains l row) (sym e) (0, omega arith, refl)

      here : change_of changes.named.items changes.others row.caller ≡ row.change
      here =
          ap (λ (l : List CallerChange). change_of l changes.others row.caller) e
          ∙ ap (λ (b : Bool). cond b row.change (change_of rows changes.others row.caller)) ((bytes_eq-Decides row.caller row.caller).1 refl)

  changes_for : (¬ HasNoChange changes) → ChangesFor (rules_of old) (rules_of new) name
  changes_for some = by changes.named.items refl
    where
      by : (rows : List CallerChange) → changes.named.items ≡ rows → ChangesFor (rules_of old) (rules_of new) name
      by [] e = for_others (pair_of_change changes.others (λ none. some (record { named = e; others = none })))
      by (row ∷ rows) e = for_row row rows e

-- ---- rows of groups

alike_old : (old new : List Rule) (name other : List (List ℕ)) → AreAlike (old ++ new) name other → AreAlike old name other
alike_old old new name other alike rule in' = alike rule (Contains-append_left old new rule in')

alike_new : (old new : List Rule) (name other : List (List ℕ)) → AreAlike (old ++ new) name other → AreAlike new name other
alike_new old new name other alike rule in' = alike rule (Contains-append_right old new rule in')

pub adds_changes : (places : List Rule) (old new : List Claim) (name : List (List ℕ)) (group : NameGroup) (before after : NameRights) (changes : NameChanges) (rows rows' : List GroupChanges) → AreVersions places old new
    → IsLike (rules_of old ++ rules_of new) group name → AreRightsAt (rules_of old) name before → AreRightsAt (rules_of new) name after → AreChangesBetween before after changes
    → PushesChanges (record { group = group; changes = changes }) rows rows' → AddsChanges (rules_of old) (rules_of new) group rows rows'
adds_changes places old new name group before after changes rows rows' versions like was is between pushes = by pushes
  where
    at : (other : List (List ℕ)) → IsInGroup (rules_of old ++ rules_of new) other group → AreChangesAt (rules_of old) (rules_of new) other changes
    at other there =
        let alike = like.alike other there in
        changes_at (rules_of old) (rules_of new) other before after changes
        (rights_alike (rules_of old) other name before (alike_old (rules_of old) (rules_of new) other name alike) was)
        (rights_alike (rules_of new) other name after (alike_new (rules_of old) (rules_of new) other name alike) is) between

    by : PushesChanges (record { group = group; changes = changes }) rows rows' → AddsChanges (rules_of old) (rules_of new) group rows rows'
    by (inl (same, none)) = inl (same, λ other valid there. agreed (rules_of old) (rules_of new) other changes (at other there) none)
    by (inr (added, some)) =
        let c = changes_for old new versions.few versions.old versions.new name before after changes was is between some in
        inr (
          record { group = group; changes = changes },
          added,
          refl,
          (λ other valid there. at other there),
          record { name = name; valid = like.valid; among = like.among; caller = c.caller; identifier = c.identifier; record_type = c.record_type; action = c.action; changed = c.changed },
        )

-- ---- rules at the names of others

module _ (rules : List Rule) where
  placed : (rule : Rule) → Contains (map place_of rules) rule → (r : Rule) × Contains rules r × (r.at ≡ rule.at)
  placed rule in' = let r = from_map place_of rules rule in' in (r.0, r.1, ap (λ (x : Rule). x.at) r.2)

  top_from : (top : List (List ℕ)) → IsTop (map place_of rules) top → IsTop rules top
  top_from top (inl e) = inl e
  top_from top (inr (rule, in', e)) = let r = placed rule in' in inr (r.0, r.1, r.2 ∙ e)

  top_to : (top : List (List ℕ)) → IsTop rules top → IsTop (map place_of rules) top
  top_to top (inl e) = inl e
  top_to top (inr (rule, in', e)) = inr (place_of rule, in_map place_of rules rule in', e)

  pub tops_placed : (tops : List (List (List ℕ))) → AreTops (map place_of rules) tops → AreTops rules tops
  tops_placed tops are = record {
    valid = are.valid;
    each = λ top. (λ in'. top_from top ((are.each top).0 in'), λ is. (are.each top).1 (top_to top is));
    ordered = are.ordered;
  }

  free_from : (name : List (List ℕ)) → IsFree (map place_of rules) name → IsFree rules name
  free_from name free rule in' = free (place_of rule) (in_map place_of rules rule in')

  free_to : (name : List (List ℕ)) → IsFree rules name → IsFree (map place_of rules) name
  free_to name free rule in' e = let r = placed rule in' in free r.0 r.1 (r.2 ∙ e)

  pub child_placed : (top : List (List ℕ)) (child : Option (List (List ℕ))) → IsFreeChild (map place_of rules) top child → IsFreeChild rules top child
  child_placed top None none = λ label is free. none label is (free_to (label ∷ top) free)
  child_placed top (Some child) free = record { label = free.label; is = free.is; name = free.name; free = free_from child free.free }

-- ---- names that represent groups

pub like_top : (old new : List Claim) (top : List (List ℕ)) → IsTop (rules_of old ++ rules_of new) top → IsName top → IsLike (rules_of old ++ rules_of new) (Exactly top) top
like_top old new top at is = record {
  valid = is;
  among = (at, refl);
  alike = λ other there. exactly_alike (rules_of old ++ rules_of new) other top there;
}

module _ (merged : List Rule) (old new : List Claim) (top : List (List ℕ)) where
  both_free : (child : Option (List (List ℕ))) → AreVersions merged old new → IsFreeChild merged top child → IsFreeChild (rules_of old ++ rules_of new) top child
  both_free child versions free = child_placed (rules_of old ++ rules_of new) top child (subst (λ (l : List Rule). IsFreeChild l top child) versions.places free)

  pub like_child : (child : List (List ℕ)) → AreVersions merged old new → IsTop (rules_of old ++ rules_of new) top → IsFreeChild merged top (Some child) → IsLike (rules_of old ++ rules_of new) (Below top) child
  like_child child versions at found =
      let free : IsFreeBelow (rules_of old ++ rules_of new) top child = both_free (Some child) versions found in
      record {
        valid = free.name;
        among = child_among (rules_of old ++ rules_of new) top child at free;
        alike = λ other there. child_alike (rules_of old ++ rules_of new) other top child free there;
      }

  pub adds_no_changes : (rows : List GroupChanges) → AreVersions merged old new → IsFreeChild merged top None → AddsChanges (rules_of old) (rules_of new) (Below top) rows rows
  adds_no_changes rows versions none = inl (refl, λ name is among. absurd (no_child (rules_of old ++ rules_of new) top (both_free None versions none) name is among))
