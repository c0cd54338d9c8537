-- The decision of a list of rules, and the relation that it is of.
use Rattle.std.proofs.Common.{◌≡◌, ◌↔◌, ◌≢◌, inl, inr, ℕ, zero, suc, ◌<◌, Bool, true, false, List, [], ◌∷◌, ◌++◌, Some, None, refl, sym, ap, ◌∙◌, subst, ⊎_elim, arith, ◌||◌, ◌≤◌, lit<, codes}
use Rattle.std.specs.Prelude.{slice_get}
use Rattle.std.proofs.lemmas.Bool.{cases_Bool, cases_lt}
use Rattle.std.proofs.lemmas.Bool.Decides.{not_from_Decides}
use Rattle.std.proofs.lemmas.List.Folds.{list_any_at}
use Rattle.std.specs.Bool.{Decides}
use Rattle.std.specs.List.{AllByRecursion, list_any}
use Rattle.dns_data.proofs.KeptLaws.{some_type}
use Rattle.grant_policy.specs.declared.action.Action.{Action}
use Rattle.grant_policy.specs.declared.action.Action.TheVariants as action
use Rattle.grant_policy.specs.declared.effect.Effect.{Effect}
use Rattle.grant_policy.specs.declared.effect.Effect.TheVariants.{Grant, Deny}
use Rattle.grant_policy.specs.declared.rule.Rule.{Rule}
use Rattle.dns_data.specs.Types.{kept_types}
use Rattle.grant_policy.specs.Words.{all_actions}
use Rattle.grant_policy.specs.Rules.{Question, Matches, matches}
use Rattle.grant_policy.specs.Decisions.{Verdict, granted, denied, effect_by, decided, decision, NoneMatches, IsFirstMatch, IsDecision, IsDecidedBy, decider, is_granted, has_right, has_right_to, HasRight}
use Rattle.grant_policy.proofs.RuleLemmas.{matches-Decides}

pub same_Some : {T : Type 0} (a b : T) → Some a ≡ Some b → a ≡ b
same_Some a b e = cc

-- ---- the decision is one

-- after a rule that does not match
later : (p : Question) (rule : Rule) (rules : List Rule) (v : Verdict) → ¬ Matches p rule → IsDecision p rules v → IsDecision p (rule ∷ rules) v
later p rule rules v not (inl (i, found, first, is)) =
    inl (suc i, found, record { at = first.at; matching = first.matching; first = λ j earlier lt at. before j earlier lt at }, is)
  where
    before : (j : ℕ) (earlier : Rule) → j < suc i → slice_get (rule ∷ rules) j ≡ Some earlier → ¬ Matches p earlier
    before zero earlier lt at = let e : rule ≡ earlier = same_Some rule earlier at in subst (λ (r : Rule). ¬ Matches p r) e not
    before (suc j) earlier lt at = first.first j earlier (omega arith) at
later p rule rules v not (inr (none, is)) = inr (λ j r at. any j r at, is)
  where
    any : (j : ℕ) (r : Rule) → slice_get (rule ∷ rules) j ≡ Some r → ¬ Matches p r
    any zero r at = let e : rule ≡ r = same_Some rule r at in subst (λ (s : Rule). ¬ Matches p s) e not
    any (suc j) r at = none j r at

pub decision_found : (p : Question) (rules : List Rule) → IsDecision p rules (decision p rules)
decision_found p [] = inr (λ j rule at. absurd cc, refl)
decision_found p (rule ∷ rules) =
    ⊎_elim
    (λ (yes' : matches p rule ≡ true). rw yes' (inl (0, rule, record { at = refl; matching = (matches-Decides p rule).0 yes'; first = λ j earlier lt at. absurd (omega arith) }, refl)))
    (λ (no' : matches p rule ≡ false). rw no' (later p rule rules (decision p rules) (not_from_Decides _ (matches-Decides p rule) no') (decision_found p rules)))
    (cases_Bool (matches p rule))

-- ---- rights

some_passes : {X : Type 0} (p : X → Bool) (xs : List X) → list_any p xs ≡ true → (x : X) × (p x ≡ true)
some_passes p [] e = absurd cc
some_passes {X} p (x ∷ xs) e = first (p x) refl (some_passes p xs) e
  where
    first : (b : Bool) → p x ≡ b → (list_any p xs ≡ true → (y : X) × (p y ≡ true)) → (b || list_any p xs) ≡ true → (y : X) × (p y ≡ true)
    first true is later e = (x, is)
    first false is later e = later e

pub some_action : (p : Action → Bool) (a : Action) → p a ≡ true → list_any p all_actions ≡ true
some_action p action.List e = list_any_at p all_actions 0 action.List (lit< tt) e
some_action p action.Check e = list_any_at p all_actions 1 action.List (lit< tt) e
some_action p action.Add e = list_any_at p all_actions 2 action.List (lit< tt) e
some_action p action.Delete e = list_any_at p all_actions 3 action.List (lit< tt) e
some_action p action.Delegate e = list_any_at p all_actions 4 action.List (lit< tt) e

pub granted_by : (v : Verdict) → is_granted v ≡ true → (id : List ℕ) × (v ≡ granted id)
granted_by (granted id) e = (id, refl)
granted_by (denied id) e = absurd cc

pub has_right-Decides : (rules : List Rule) (caller : List ℕ) (name : List (List ℕ)) → Decides (has_right rules caller name) (HasRight rules caller name)
has_right-Decides rules caller name = (
  λ e.
      let t = some_passes (has_right_to rules caller name) kept_types e in
      let a = some_passes (λ (b : Action). is_granted (decision (record { caller = caller; name = name; record_type = t.0; action = b }) rules)) all_actions t.1 in
      let by = granted_by (decision (record { caller = caller; name = name; record_type = t.0; action = a.0 }) rules) a.1 in
      record { record_type = t.0; action = a.0; id = by.0; granting = by.1 },
  λ r. some_type (has_right_to rules caller name) r.record_type (some_action (λ (b : Action). is_granted (decision (record { caller = caller; name = name; record_type = r.record_type; action = b }) rules)) r.action (ap is_granted r.granting)),
)

-- ---- laws

-- two decisions of one question are one
first_same : (p : Question) (rules : List Rule) (i j : ℕ) (a b : Rule) → IsFirstMatch p rules i a → IsFirstMatch p rules j b → a ≡ b
first_same p rules i j a b f g =
    ⊎_elim
    (λ (less : i < j). absurd (g.first i a less f.at f.matching))
    (λ (upto : j ≤ i). ⊎_elim
    (λ (less : j < i). absurd (f.first j b less g.at g.matching))
    (λ (from : i ≤ j). let same : i ≡ j = omega arith in same_Some a b (sym f.at ∙ ap (slice_get rules) same ∙ g.at))
    (cases_lt j i))
    (cases_lt i j)

pub decision_one : (p : Question) (rules : List Rule) (v w : Verdict) → IsDecision p rules v → IsDecision p rules w → v ≡ w
decision_one p rules v w (inl (i, a, f, e)) (inl (j, b, g, h)) = e ∙ ap decided (first_same p rules i j a b f g) ∙ sym h
decision_one p rules v w (inl (i, a, f, e)) (inr (none, h)) = absurd (none i a f.at f.matching)
decision_one p rules v w (inr (none, e)) (inl (j, b, g, h)) = absurd (none j b g.at g.matching)
decision_one p rules v w (inr (none, e)) (inr (none', h)) = e ∙ sym h

decided_not_closing : (effect : Effect) (id : List ℕ) → effect_by effect id ≡ denied None → ⊥
decided_not_closing Grant id e = cc
decided_not_closing Deny id e = cc

denial_by : (effect : Effect) (own id : List ℕ) → effect_by effect own ≡ denied (Some id) → (effect ≡ Deny) × (own ≡ id)
denial_by Grant own id e = absurd cc
denial_by Deny own id e = (refl, cc)

grant_by : (effect : Effect) (own id : List ℕ) → effect_by effect own ≡ granted id → (effect ≡ Grant) × (own ≡ id)
grant_by Grant own id e = (refl, cc)
grant_by Deny own id e = absurd cc

-- a denial that names a rule is that of the first rule that matches, and so is a grant
pub denied_by : (p : Question) (rules : List Rule) (id : List ℕ) → IsDecision p rules (denied (Some id)) → IsDecidedBy Deny id p rules
denied_by p rules id (inl (i, rule, f, e)) = let by = denial_by rule.effect rule.id id (sym e) in record { number = i; rule = rule; is_first = f; effect = by.0; id = by.1 }
denied_by p rules id (inr (none, e)) = absurd cc

pub grants_by : (p : Question) (rules : List Rule) (id : List ℕ) → IsDecision p rules (granted id) → IsDecidedBy Grant id p rules
grants_by p rules id (inl (i, rule, f, e)) = let by = grant_by rule.effect rule.id id (sym e) in record { number = i; rule = rule; is_first = f; effect = by.0; id = by.1 }
grants_by p rules id (inr (none, e)) = absurd cc

-- the closing default where no rule matches
pub closing_none : (p : Question) (rules : List Rule) (v : Verdict) → IsDecision p rules v → (v ≡ denied None) ↔ NoneMatches p rules
closing_none p rules v (inl (i, rule, f, e)) = (λ c. absurd (decided_not_closing rule.effect rule.id (sym e ∙ c)), λ none. absurd (none i rule f.at f.matching))
closing_none p rules v (inr (none, e)) = (λ c. none, λ n. e)

-- a rule at the end
pub decision_stays : (p : Question) (rules : List Rule) (rule : Rule) → decision p rules ≢ denied None → decision p (rules ++ rule ∷ []) ≡ decision p rules
decision_stays p [] rule some = absurd (some refl)
decision_stays p (first ∷ rules) rule some =
    ⊎_elim
    (λ (yes' : matches p first ≡ true). rw yes' refl)
    (λ (no' : matches p first ≡ false). rw no' (decision_stays p rules rule (rw no' at some)))
    (cases_Bool (matches p first))

-- ---- by whom it is decided

open_at : (rules : List Rule) (i : ℕ) (rule : Rule) → AllByRecursion (λ r. r.id ≢ codes "closing") rules → slice_get rules i ≡ Some rule → rule.id ≢ codes "closing"
open_at [] i rule all at = absurd cc
open_at (r ∷ rules) zero rule all at = let e : r ≡ rule = same_Some r rule at in subst (λ (s : Rule). s.id ≢ codes "closing") e all.0
open_at (r ∷ rules) (suc i) rule all at = open_at rules i rule all.1 at

decider_by : (effect : Effect) (id : List ℕ) → decider (effect_by effect id) ≡ id
decider_by Grant id = refl
decider_by Deny id = refl

pub decider_closing : (p : Question) (rules : List Rule) (v : Verdict) → IsDecision p rules v → AllByRecursion (λ r. r.id ≢ codes "closing") rules → (decider v ≡ codes "closing") ↔ NoneMatches p rules
decider_closing p rules v (inl (i, rule, f, e)) all =
    (λ c. absurd (open_at rules i rule all f.at (sym (decider_by rule.effect rule.id) ∙ ap decider (sym e) ∙ c)), λ none. absurd (none i rule f.at f.matching))
decider_closing p rules v (inr (none, e)) all = (λ c. none, λ n. ap decider e)
