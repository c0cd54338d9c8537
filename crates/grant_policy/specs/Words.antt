-- The words of a policy, and what each stands for.
use Rattle.std.specs.Prelude.{ℕ, List, [], ◌∷◌, Option, codes, bytes_eq}
use Rattle.std.specs.List.{find}
use Rattle.grant_policy.specs.declared.effect.Effect.{Effect}
use Rattle.grant_policy.specs.declared.effect.Effect.TheVariants.{Grant, Deny}
use Rattle.grant_policy.specs.declared.scope.Scope.{Scope}
use Rattle.grant_policy.specs.declared.scope.Scope.TheVariants.{Name, Subtree, Below}
use Rattle.grant_policy.specs.declared.action.Action.{Action}
use Rattle.grant_policy.specs.declared.action.Action.TheVariants as action

-- what a rule does where it matches
abbrev pub effect_text : Effect → List ℕ
effect_text Grant = codes "grant"
effect_text Deny = codes "deny"

-- which names a rule speaks of, counted from its own
abbrev pub scope_text : Scope → List ℕ
scope_text Name = codes "name"
scope_text Subtree = codes "subtree"
scope_text Below = codes "below"

-- what a caller does with records
abbrev pub action_text : Action → List ℕ
action_text action.List = codes "list"
action_text action.Check = codes "check"
action_text action.Add = codes "add"
action_text action.Delete = codes "delete"
action_text action.Delegate = codes "delegate"

-- the actions that there are
abbrev pub all_actions : List Action
all_actions = action.List ∷ action.Check ∷ action.Add ∷ action.Delete ∷ action.Delegate ∷ []

-- the place of each among them
abbrev pub action_place : Action → ℕ
action_place action.List = 0
action_place action.Check = 1
action_place action.Add = 2
action_place action.Delete = 3
action_place action.Delegate = 4

-- ---- reading: a word only as it is written here

abbrev pub effect_of : List ℕ → Option Effect
effect_of text = find (λ e. bytes_eq (effect_text e) text) (Grant ∷ Deny ∷ [])

abbrev pub scope_of : List ℕ → Option Scope
scope_of text = find (λ s. bytes_eq (scope_text s) text) (Name ∷ Subtree ∷ Below ∷ [])

abbrev pub action_of : List ℕ → Option Action
action_of text = find (λ a. bytes_eq (action_text a) text) all_actions
