-- Whether a limit is kept, by the entries at names that represent its names.
use Rattle.std.proofs.Common.{◌≡◌, ◌⊎◌, ℕ, ◌+◌, ◌<◌, ◌≤◌, ◌^◌, true, false, List, [], ◌∷◌, ◌++◌, length, map, get_or, take, Option, Some, None, Result, Ok, Err, IfOk, Vec, Global, refl, sym, ap, ◌∙◌, subst, arith, ⊎_elim, length-append, append_assoc, append-nil}
use Rattle.std.specs.Prelude.{slice_get, bytes_eq}
use Rattle.std.specs.List.{Contains, list_any}
use Rattle.std.proofs.lemmas.Bool.{cases_Bool, false≢true, false_from_ne_true, and_from}
use Rattle.std.proofs.lemmas.List.{get_or_default, length-map, take_more, take_all}
use Rattle.std.proofs.lemmas.List.Elements.{Contains-append_left, Contains-append_right, Contains-push, Contains-push_cases}
use Rattle.std.proofs.lemmas.List.Folds.{Any-from_list_any, list_any_at}
use Rattle.std.proofs.lemmas.Option.{slice_get_within}
use Rattle.std.proofs.lemmas.Slice.Eq.{bytes_eq-Decides}
use Rattle.dns_names.specs.Labels.{IsName, IsWithin, is_within}
use Rattle.dns_data.specs.declared.record_type.RecordType.{RecordType}
use Rattle.grant_policy.specs.declared.action.Action.{Action}
use Rattle.grant_policy.specs.declared.callers.Callers.{Callers}
use Rattle.grant_policy.specs.declared.callers.Callers.TheVariants.{Every, One}
use Rattle.grant_policy.specs.declared.rule.Rule.{Rule}
use Rattle.grant_policy.specs.declared.scope.Scope.{Scope}
use Rattle.grant_policy.specs.declared.scope.Scope.TheVariants.{Name, Subtree, Below}
use Rattle.grant_policy.specs.Identifiers.{IsIdentifier}
use Rattle.grant_policy.specs.Rules.{has, is_of, same_type, same_action}
use Rattle.grant_policy.specs.Scopes.{Covers, covers}
use Rattle.policy_tools.specs.declared.claims.Entry.{Entry}
use Rattle.policy_tools.specs.declared.expectation.Limit.{Limit}
use Rattle.policy_tools.specs.declared.exposure.Right.{Right}
use Rattle.policy_tools.specs.declared.limits.Excess.{Excess}
use Rattle.policy_tools.specs.Changes.{place_of}
use Rattle.policy_tools.specs.Claims.{AreEntries}
use Rattle.policy_tools.specs.EntryRights.{GrantsUnlisted, are_listed}
use Rattle.policy_tools.specs.Exposures.{IsGrantedBy, named_of}
use Rattle.policy_tools.specs.Limits.{IsLimited, IsKeptAt, IsKept, IsUnknown, UnlistedHas, IsExcess, RepresentLimit, ArePlaces, AddsPlaces}
use Rattle.policy_tools.specs.Points.{has_point, names_pair}
use Rattle.policy_tools.specs.Representatives.{AreAlike, Represent}
use Rattle.grant_policy.proofs.DecisionLaws.{same_Some}
use Rattle.grant_policy.proofs.RuleLemmas.{has-Decides}
use Rattle.grant_policy.proofs.ScopeLemmas.{covers-Decides, is_within-Decides, within_self, within_trans}
use Rattle.grant_policy.proofs.WordLemmas.{same_type-Decides, same_action-Decides}
use Rattle.policy_tools.proofs.CallerLemmas.{names, free_identifier, not_named}
use Rattle.policy_tools.proofs.ClaimLemmas.{in_map}
use Rattle.policy_tools.proofs.IsolatedLemmas.{among_self, includes_self, unnamed_by, not_one, granted_by_rule, rule_of_grant, GrantsAt, granted_at, spoken_of, at_granted, left_at, at_left, decision_alike}
use Rattle.policy_tools.proofs.RepresentativeLemmas.{covers_both}
use Rattle.policy_tools.proofs.SliceLemmas.{comparable}
use Rattle.policy_tools.proofs.TakeLemmas.{fst, snd}

-- ---- lists of callers

listed_in : (listed : List (List ℕ)) (caller : List ℕ) → list_any (λ other. bytes_eq other caller) listed ≡ true → Contains listed caller
listed_in listed caller e =
    let a = Any-from_list_any (λ (other : List ℕ). bytes_eq other caller) listed e in
    subst (Contains listed) ((bytes_eq-Decides a.1 caller).0 a.4) (a.0, a.2, a.3)

in_listed : (listed : List (List ℕ)) (caller : List ℕ) → Contains listed caller → list_any (λ other. bytes_eq other caller) listed ≡ true
in_listed listed caller (k, lt, is) =
    list_any_at (λ (other : List ℕ). bytes_eq other caller) listed k caller lt (subst (λ (other : List ℕ). bytes_eq other caller ≡ true) (sym is) ((bytes_eq-Decides caller caller).1 refl))

unlisted_one : (listed : List (List ℕ)) (caller : List ℕ) → are_listed listed (One caller) ≡ false → ¬ Contains listed caller
unlisted_one listed caller none in' = false≢true (sym none ∙ in_listed listed caller in')

-- a rule that speaks of a caller that a list has not speaks of others than its callers
not_listed : (listed : List (List ℕ)) (callers : Callers) (caller : List ℕ) → is_of callers caller ≡ true → ¬ Contains listed caller → are_listed listed callers ≡ false
not_listed listed Every caller of unlisted = refl
not_listed listed (One identifier) caller of unlisted =
    false_from_ne_true (are_listed listed (One identifier)) (λ yes'. unlisted (subst (Contains listed) ((bytes_eq-Decides identifier caller).0 of) (listed_in listed identifier yes')))

-- there is always another identifier, that neither a limit lists nor a rule names
unknown_some : (rules : List Rule) (limit : Limit) → length rules ≤ 1024 → length limit.callers < 2 ^ 64 → (caller : List ℕ) × IsIdentifier caller × IsUnknown rules limit caller
unknown_some rules limit few short = (
  free.0,
  free.1,
  record {
    unlisted = λ in'. not_one free.0 (One free.0) (free.2 (One free.0) (Contains-append_left ones others (One free.0) (in_map One listed free.0 in'))) refl;
    unnamed = λ rule in'. not_one free.0 rule.callers (free.2 rule.callers (Contains-append_right ones others rule.callers (in_map f rules rule in')));
  },
)
  where
    listed : List (List ℕ)
    listed = limit.callers

    f : Rule → Callers
    f = λ (rule : Rule). rule.callers

    ones : List Callers
    ones = map One listed

    others : List Callers
    others = map f rules

    free : (identifier : List ℕ) × IsIdentifier identifier × ((callers : Callers) → Contains (ones ++ others) callers → names identifier callers ≡ false)
    free = free_identifier (ones ++ others) (omega (arith, few, short, length-append ones others, length-map listed One, length-map rules f))

-- ---- at one name

-- the pairs of which a limit speaks
abbrev pub ArePairs : Limit → ℕ → Type 0
ArePairs limit wanted = (t : RecordType) (a : Action) → has_point wanted t a ≡ names_pair limit.types limit.actions t a

-- none of these entries grants one of some pairs to others than those of a list
abbrev pub NoneUnlisted : List (List ℕ) → ℕ → List Entry → Type 0
NoneUnlisted listed wanted entries = (e : Entry) (right : Right) → Contains entries e → ¬ GrantsUnlisted listed wanted e right

pub unlisted_more : (listed : List (List ℕ)) (wanted : ℕ) (entries : List Entry) (n : ℕ) (e : Entry) → n < length entries → e ≡ get_or entries n e → ((right : Right) → ¬ GrantsUnlisted listed wanted e right) → NoneUnlisted listed wanted (take n entries) → NoneUnlisted listed wanted (take (n + 1) entries)
unlisted_more listed wanted entries n e lt is here none x right in' g =
    let more : take (n + 1) entries ≡ take n entries ++ e ∷ [] = take_more entries n e lt ∙ ap (λ (y : Entry). take n entries ++ y ∷ []) (sym is) in
    ⊎_elim
    (λ (old : Contains (take n entries) x). none x right old g)
    (λ (new : e ≡ x). here right (subst (λ (y : Entry). GrantsUnlisted listed wanted y right) (sym new) g))
    (Contains-push_cases (take n entries) e x (subst (λ (l : List Entry). Contains l x) more in'))

in_pairs : (limit : Limit) (wanted : ℕ) (name : List (List ℕ)) (t : RecordType) (a : Action) → ArePairs limit wanted → IsLimited limit name t a → has_point wanted t a ≡ true
in_pairs limit wanted name t a are limited =
    are t a
    ∙ and_from (has same_type limit.types t) (has same_action limit.actions a) ((has-Decides same_type same_type-Decides limit.types t).1 limited.types)
    ((has-Decides same_action same_action-Decides limit.actions a).1 limited.actions)

from_pairs : (limit : Limit) (wanted : ℕ) (name : List (List ℕ)) (t : RecordType) (a : Action) → ArePairs limit wanted → Covers limit.scope limit.at name → has_point wanted t a ≡ true → IsLimited limit name t a
from_pairs limit wanted name t a are covered looked_for =
    let both = sym (are t a) ∙ looked_for in
    record {
      scope = covered;
      types = (has-Decides same_type same_type-Decides limit.types t).0 (fst (has same_type limit.types t) (has same_action limit.actions a) both);
      actions = (has-Decides same_action same_action-Decides limit.actions a).0 (snd (has same_type limit.types t) (has same_action limit.actions a) both);
    }

pub outside : (rules : List Rule) (limit : Limit) (name : List (List ℕ)) → covers limit.scope limit.at name ≡ false → IsKeptAt rules limit name
outside rules limit name no' caller t a unlisted limited g = false≢true (sym no' ∙ (covers-Decides limit.scope limit.at name).1 limited.scope)

module _ (rules : List Rule) (limit : Limit) (name : List (List ℕ)) (entries : List Entry) (wanted : ℕ) (are : AreEntries rules name (length rules) entries) (pairs : ArePairs limit wanted) where
  pub kept_at : NoneUnlisted limit.callers wanted entries → IsKeptAt rules limit name
  unfolding rule_of_grant at_granted
  kept_at none caller t a unlisted limited g =
      let by = rule_of_grant rules caller name t a g in
      let right : Right = record { record_type = t; action = a; rule = by.0 } in
      let callers = by.1.rule.callers in
      let of = (spoken_of rules caller name right by.1).0 in
      let at = at_granted rules callers caller name right (among_self callers caller of) by.1 (includes_self callers) in
      let found = at_left rules name entries are callers right at refl in
      let free : are_listed limit.callers found.0.claim.rule.now.callers ≡ false = subst (λ (c : Callers). are_listed limit.callers c ≡ false) (sym found.2) (not_listed limit.callers callers caller of unlisted) in
      none found.0 right found.1 (record { unlisted = free; grant = record { grants = found.3.grants; in_own = found.3.in_own; in_wanted = in_pairs limit wanted name t a pairs limited; number = found.3.number } })

  unlisted_has : (callers : Callers) (right : Right) → length rules ≤ 1024 → length limit.callers < 2 ^ 64 → are_listed limit.callers callers ≡ false → GrantsAt rules callers name right → UnlistedHas rules limit name (named_of callers) right
  unlisted_has Every right few short free g = record {
    some = unknown_some rules limit few short;
    each = λ other is. granted_at rules Every other name right (λ rule in'. not_named rule.callers other (unnamed_by rule.callers other (is.unnamed rule in'))) g;
  }
  unlisted_has (One identifier) right few short free g = (unlisted_one limit.callers identifier free, granted_at rules (One identifier) identifier name right (λ rule in'. refl) g)

  pub excess_is : (right : Right) (rule : Rule) (caller : Option (List ℕ)) → length rules ≤ 1024 → length limit.callers < 2 ^ 64 → IsName name → Covers limit.scope limit.at name → slice_get rules right.rule ≡ Some rule → caller ≡ named_of rule.callers → (e : Entry) × Contains entries e × GrantsUnlisted limit.callers wanted e right → IsExcess rules limit (record { caller = caller; name = name; right = right })
  unfolding left_at
  excess_is right rule caller few short is covered at whose (e, in', g) =
      let granted = left_at rules name entries are e wanted right in' g.grant in
      let same : e.claim.rule.now ≡ rule = same_Some e.claim.rule.now rule (sym granted.at ∙ at) in
      record {
        valid = is;
        limited = from_pairs limit wanted name right.record_type right.action pairs covered g.grant.in_wanted;
        has = subst (λ (o : Option (List ℕ)). UnlistedHas rules limit name o right) (ap (λ (r : Rule). named_of r.callers) same ∙ sym whose) (unlisted_has e.claim.rule.now.callers right few short g.unlisted granted);
      }

  pub right_within : (right : Right) → (e : Entry) × Contains entries e × GrantsUnlisted limit.callers wanted e right → right.rule < length rules
  right_within right (e, in', g) =
      let granted = left_at rules name entries are e wanted right in' g.grant in
      slice_get_within rules right.rule granted.rule granted.at

-- ---- at all names

kept_like : (rules : List Rule) (limit : Limit) (name other : List (List ℕ)) → AreAlike rules name other → Covers limit.scope limit.at other → IsKeptAt rules limit other → IsKeptAt rules limit name
kept_like rules limit name other alike covered kept caller t a unlisted limited g =
    kept caller t a unlisted (record { scope = covered; types = limited.types; actions = limited.actions }) (g.0, sym (decision_alike rules caller t a name other alike) ∙ g.1)

pub kept_all : (rules : List Rule) (limit : Limit) (names' : List (List (List ℕ))) → RepresentLimit rules limit names' → ((k : ℕ) → k < length names' → IsKeptAt rules limit (get_or names' k [])) → IsKept rules limit
kept_all rules limit names' all each name is caller t a unlisted limited g =
    let r = all.each name is limited.scope in
    let at : get_or names' r.1.0 [] ≡ r.0 = get_or_default names' r.1.0 [] r.0 r.1.1 ∙ r.1.2 in
    kept_like rules limit name r.0 r.3 r.2 (subst (λ (n : List (List ℕ)). IsKeptAt rules limit n) at (each r.1.0 r.1.1)) caller t a unlisted limited g

-- a name above some name within a top is above the top, unless it is within it
above : (at top name : List (List ℕ)) → ¬ IsWithin at top → IsWithin name top → IsWithin name at → IsWithin top at
above at top name out w c = ⊎_elim (λ (inside : IsWithin at top). absurd (out inside)) (λ (h : IsWithin top at). h) (comparable name at top c w)

-- a rule at a name that is not within another covers all names within that one, or none
covers_above : (scope : Scope) (at top name other : List (List ℕ)) → ¬ IsWithin at top → IsWithin name top → IsWithin other top → Covers scope at name → Covers scope at other
covers_above Name at top name other out w v e = absurd (out (subst (λ (n : List (List ℕ)). IsWithin n top) e w))
covers_above Subtree at top name other out w v c = within_trans other top at v (above at top name out w c)
covers_above Below at top name other out w v c = (within_trans other top at v (above at top name out w c.0), λ e. out (subst (λ (n : List (List ℕ)). IsWithin n top) e v))

alike_above : (rule : Rule) (top name other : List (List ℕ)) → ¬ IsWithin rule.at top → IsWithin name top → IsWithin other top → covers rule.scope rule.at name ≡ covers rule.scope rule.at other
alike_above rule top name other out w v = covers_both rule.scope rule.at name other (covers_above rule.scope rule.at top name other out w v) (covers_above rule.scope rule.at top other name out v w)

-- each name of a scope is within its name
covered_within : (scope : Scope) (at name : List (List ℕ)) → Covers scope at name → IsWithin name at
covered_within Name at name e = subst (λ (n : List (List ℕ)). IsWithin n at) (sym e) (within_self at)
covered_within Subtree at name w = w
covered_within Below at name w = w.0

pub limit_names : (rules : List Rule) (limit : Limit) (places : List Rule) (names' : List (List (List ℕ))) → ArePlaces rules limit places → Represent places names' → RepresentLimit rules limit names'
limit_names rules limit places names' are rep = record {
  valid = rep.valid;
  each = λ name is covered.
      let r = rep.each name is in
      let same : covers limit.scope limit.at name ≡ covers limit.scope limit.at r.0 =
      subst (λ (s : Scope). covers s limit.at name ≡ covers s limit.at r.0) are.scope
      (subst (λ (at : List (List ℕ)). covers are.place.scope at name ≡ covers are.place.scope at r.0) are.at (r.2 are.place are.own)) in
      let covers' = (covers-Decides limit.scope limit.at r.0).0 (sym same ∙ (covers-Decides limit.scope limit.at name).1 covered) in
      let w = covered_within limit.scope limit.at name covered in
      let v = covered_within limit.scope limit.at r.0 covers' in (
        r.0,
        r.1,
        covers',
        λ rule in'. ⊎_elim
            (λ (yes' : is_within rule.at limit.at ≡ true). r.2 (place_of rule) (are.each rule in' ((is_within-Decides rule.at limit.at).0 yes')))
            (λ (no' : is_within rule.at limit.at ≡ false). alike_above rule limit.at name r.0 (λ h. false≢true (sym no' ∙ (is_within-Decides rule.at limit.at).1 h)) w v)
            (cases_Bool (is_within rule.at limit.at)),
      );
}

pub limit_found : {E : Type 0} (rules : List Rule) (limit : Limit) (places : List Rule) (found : Result (Vec (List (List ℕ)) Global) E) → ArePlaces rules limit places → IfOk found (λ names'. Represent places names'.items) → IfOk found (λ names'. RepresentLimit rules limit names'.items)
limit_found rules limit places (Ok names') are rep = limit_names rules limit places names'.items are rep
limit_found rules limit places (Err e) are rep = tt

-- what is granted beyond a limit is against it
pub excess_not : (rules : List Rule) (limit : Limit) (excess : Excess) → IsExcess rules limit excess → ¬ IsKept rules limit
excess_not rules limit excess is kept = by excess.caller is.has
  where
    never : (who : List ℕ) → ¬ Contains limit.callers who → ¬ IsGrantedBy rules who excess.name excess.right
    never who unlisted g = kept excess.name is.valid who excess.right.record_type excess.right.action unlisted is.limited (granted_by_rule rules who excess.name excess.right g)

    by : (o : Option (List ℕ)) → ¬ UnlistedHas rules limit excess.name o excess.right
    by None has = never has.some.0 has.some.2.unlisted (has.each has.some.0 has.some.2)
    by (Some who) has = never who has.0 has.1

-- ---- places

pub places_first : (top : List (List ℕ)) (places : List Rule) → AddsPlaces [] top places places
places_first top places = record { more = []; are = sym (append-nil places); each = λ rule in' w. absurd (omega (arith, in'.1)) }

one_more : (rules : List Rule) (n : ℕ) (rule : Rule) → n < length rules → rule ≡ get_or rules n rule → (x : Rule) → Contains (take (n + 1) rules) x → Contains (take n rules) x ⊎ (rule ≡ x)
one_more rules n rule lt is x in' =
    let more : take (n + 1) rules ≡ take n rules ++ rule ∷ [] = take_more rules n rule lt ∙ ap (λ (y : Rule). take n rules ++ y ∷ []) (sym is) in
    Contains-push_cases (take n rules) rule x (subst (λ (l : List Rule). Contains l x) more in')

module _ (rules : List Rule) (n : ℕ) (rule : Rule) (lt : n < length rules) (is : rule ≡ get_or rules n rule) (top : List (List ℕ)) (old new : List Rule) (so_far : AddsPlaces (take n rules) top old new) where
  pub places_yes : (place : Rule) → place ≡ place_of rule → AddsPlaces (take (n + 1) rules) top old (new ++ place ∷ [])
  places_yes place at = record {
    more = so_far.more ++ place ∷ [];
    are = ap (λ (l : List Rule). l ++ place ∷ []) so_far.are ∙ append_assoc old so_far.more (place ∷ []);
    each = λ x in' w. ⊎_elim
        (λ (before : Contains (take n rules) x). Contains-append_left so_far.more (place ∷ []) (place_of x) (so_far.each x before w))
        (λ (here : rule ≡ x). subst (Contains (so_far.more ++ place ∷ [])) (at ∙ ap place_of here) (Contains-push so_far.more place))
        (one_more rules n rule lt is x in');
  }

  pub places_no : ¬ IsWithin rule.at top → AddsPlaces (take (n + 1) rules) top old new
  places_no out = record {
    more = so_far.more;
    are = so_far.are;
    each = λ x in' w. ⊎_elim
        (λ (before : Contains (take n rules) x). so_far.each x before w)
        (λ (here : rule ≡ x). absurd (out (subst (λ (r : Rule). IsWithin r.at top) (sym here) w)))
        (one_more rules n rule lt is x in');
  }

pub places_all : (rules : List Rule) (n : ℕ) (top : List (List ℕ)) (old new : List Rule) → length rules ≤ n → AddsPlaces (take n rules) top old new → AddsPlaces rules top old new
places_all rules n top old new all adds = subst (λ (l : List Rule). AddsPlaces l top old new) (take_all n rules all) adds

pub are_places : (rules : List Rule) (limit : Limit) (place : Rule) (places : List Rule) → place.scope ≡ limit.scope → place.at ≡ limit.at → AddsPlaces rules limit.at (place ∷ []) places → ArePlaces rules limit places
are_places rules limit place places scope at adds = record {
  place = place;
  scope = scope;
  at = at;
  own = subst (λ (l : List Rule). Contains l place) (sym adds.are) (0, omega arith, refl);
  each = λ rule in' w. subst (λ (l : List Rule). Contains l (place_of rule)) (sym adds.are) (Contains-append_right (place ∷ []) adds.more (place_of rule) (adds.each rule in' w));
}
