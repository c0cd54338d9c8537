-- What a policy decides: what the first rule that matches does, and where none matches a denial, which is called `closing`.
use Rattle.std.specs.Prelude.{◌≡◌, ◌⊎◌, ℕ, ◌<◌, List, [], ◌∷◌, Bool, true, false, ◌&&◌, if◌then◌else◌, Option, Some, None, option_map, slice_get, codes}
use Rattle.std.specs.List.{list_any}
use Rattle.dns_names.specs.Labels.{is_within}
use Rattle.dns_data.specs.declared.record_type.RecordType.{RecordType}
use Rattle.grant_policy.specs.declared.action.Action.{Action}
use Rattle.grant_policy.specs.declared.decision.Decision.{Decision}
use Rattle.grant_policy.specs.declared.decision.Decision.TheVariants as code
use Rattle.grant_policy.specs.declared.effect.Effect.{Effect}
use Rattle.grant_policy.specs.declared.effect.Effect.TheVariants.{Grant, Deny}
use Rattle.grant_policy.specs.declared.rule.Rule.{Rule}
use Rattle.dns_data.specs.Types.{kept_types}
use Rattle.grant_policy.specs.Words.{all_actions}
use Rattle.grant_policy.specs.Rules.{Question, Matches, matches, is_of}

-- a grant by a rule, or a denial by a rule or by none
pub data Verdict : Type 0 where
  granted : List ℕ → Verdict
  denied : Option (List ℕ) → Verdict

-- what a rule decides where it matches
abbrev pub effect_by : Effect → List ℕ → Verdict
effect_by Grant id = granted id
effect_by Deny id = denied (Some id)

abbrev pub decided : Rule → Verdict
decided rule = effect_by rule.effect rule.id

-- no rule matches
abbrev pub NoneMatches : Question → List Rule → Type 0
NoneMatches asked rules = (j : ℕ) (rule : Rule) → slice_get rules j ≡ Some rule → ¬ Matches asked rule

-- rule i matches, and no rule below it
pub record IsFirstMatch (asked : Question) (rules : List Rule) (i : ℕ) (rule : Rule) : Type 0 where
  pub at : slice_get rules i ≡ Some rule
  pub matching : Matches asked rule
  pub first : (j : ℕ) (earlier : Rule) → j < i → slice_get rules j ≡ Some earlier → ¬ Matches asked earlier

-- the decision is that of the first rule that matches, and where none does a denial by no rule
abbrev pub IsDecision : Question → List Rule → Verdict → Type 0
IsDecision asked rules verdict =
    ((i : ℕ) × (rule : Rule) × IsFirstMatch asked rules i rule × (verdict ≡ decided rule))
    ⊎ (NoneMatches asked rules × (verdict ≡ denied None))

-- the rules one after the other
abbrev pub decision : Question → List Rule → Verdict
decision asked [] = denied None
decision asked (rule ∷ rules) = if matches asked rule then decided rule else decision asked rules

-- the first rule that matches has that effect and that id
pub record IsDecidedBy (does : Effect) (called : List ℕ) (asked : Question) (rules : List Rule) : Type 0 where
  pub number : ℕ
  pub rule : Rule
  pub is_first : IsFirstMatch asked rules number rule
  pub effect : rule.effect ≡ does
  pub id : rule.id ≡ called

-- ---- by whom it is decided

abbrev pub verdict_of : Decision → Verdict
verdict_of (code.Granted id) = granted id.now
verdict_of (code.Denied id) = denied (option_map (λ i. i.now) id)

-- the rule by its id, and no rule as `closing`
abbrev pub decider : Verdict → List ℕ
decider (granted id) = id
decider (denied None) = codes "closing"
decider (denied (Some id)) = id

abbrev pub is_granted : Verdict → Bool
is_granted (granted id) = true
is_granted (denied id) = false

-- ---- rights

-- some type and some action are granted to the caller at the name
pub record HasRight (rules : List Rule) (caller : List ℕ) (name : List (List ℕ)) : Type 0 where
  pub record_type : RecordType
  pub action : Action
  pub id : List ℕ
  pub granting : decision (record { caller = caller; name = name; record_type = record_type; action = action }) rules ≡ granted id

-- whether some action is granted
abbrev pub has_right_to : List Rule → List ℕ → List (List ℕ) → RecordType → Bool
has_right_to rules caller name record_type =
    list_any (λ a. is_granted (decision (record { caller = caller; name = name; record_type = record_type; action = a }) rules)) all_actions

-- and for some type
abbrev pub has_right : List Rule → List ℕ → List (List ℕ) → Bool
has_right rules caller name = list_any (has_right_to rules caller name) kept_types

-- ---- cost

-- a rule of the caller or of every caller, whose name is that name or above it
abbrev pub concerns : List ℕ → List (List ℕ) → Rule → Bool
concerns caller name rule = is_of rule.callers caller && is_within name rule.at
