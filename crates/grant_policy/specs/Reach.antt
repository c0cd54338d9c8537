-- How far within an origin a policy grants a caller an action.
use Rattle.std.specs.Prelude.{◌≡◌, ℕ, List, Bool, true, false, ◌&&◌, if◌then◌else◌, Option, Some, None, IfSome}
use Rattle.std.specs.List.{All, flat_map, list_any}
use Rattle.std.specs.Option.{option_to_list}
use Rattle.dns_names.specs.Labels.{IsWithin, is_within}
use Rattle.dns_data.specs.declared.record_type.RecordType.{RecordType}
use Rattle.grant_policy.specs.declared.action.Action.{Action}
use Rattle.grant_policy.specs.declared.effect.Effect.{Effect}
use Rattle.grant_policy.specs.declared.effect.Effect.TheVariants.{Grant, Deny}
use Rattle.grant_policy.specs.declared.rule.Rule.{Rule}
use Rattle.grant_policy.specs.Rules.{is_of, has, same_action}
use Rattle.grant_policy.specs.Decisions.{decision, is_granted}

-- each name within the origin at which the rules grant the caller the action for some type is within the top
abbrev pub GrantsWithin : List Rule → List ℕ → Action → List (List ℕ) → List (List ℕ) → Type 0
GrantsWithin rules caller action origin top =
    (name : List (List ℕ)) (record_type : RecordType) → IsWithin name origin
    → is_granted (decision (record { caller = caller; name = name; record_type = record_type; action = action }) rules) ≡ true
    → IsWithin name top

-- at no name within the origin do they grant it for any type
abbrev pub GrantsNowhere : List Rule → List ℕ → Action → List (List ℕ) → Type 0
GrantsNowhere rules caller action origin =
    (name : List (List ℕ)) (record_type : RecordType) → IsWithin name origin
    → is_granted (decision (record { caller = caller; name = name; record_type = record_type; action = action }) rules) ≡ false

-- ---- by the rules

abbrev pub is_grant : Effect → Bool
is_grant Grant = true
is_grant Deny = false

-- whether a rule grants a caller an action at some name
abbrev pub grants_to : List ℕ → Action → Rule → Bool
grants_to caller action rule = is_grant rule.effect && (is_of rule.callers caller && has same_action rule.actions action)

-- how far a rule at a name reaches within an origin: to that name, to the whole origin, or not at all
abbrev pub reach_at : List (List ℕ) → List (List ℕ) → Option (List (List ℕ))
reach_at at origin = if is_within at origin then Some at else (if is_within origin at then Some origin else None)

-- how far a rule does, if it grants
abbrev pub reach_of : List ℕ → Action → List (List ℕ) → Rule → Option (List (List ℕ))
reach_of caller action origin rule = if grants_to caller action rule then reach_at rule.at origin else None

-- two names are within a third, which is within each other name that both are within
pub record IsCommonAncestor (name other top : List (List ℕ)) : Type 0 where
  pub first : IsWithin name top
  pub second : IsWithin other top
  pub last : (above : List (List ℕ)) → IsWithin name above → IsWithin other above → IsWithin top above

-- a reach so far with one more name
abbrev pub IsWidened : Option (List (List ℕ)) → List (List ℕ) → List (List ℕ) → Type 0
IsWidened None name top = top ≡ name
IsWidened (Some so_far) name top = IsCommonAncestor so_far name top

-- ---- by all of them

-- each name to which a rule reaches within the origin is within a name
abbrev pub AreWithin : List Rule → List ℕ → Action → List (List ℕ) → List (List ℕ) → Type 0
AreWithin rules caller action origin above = All (λ rule. IfSome (reach_of caller action origin rule) (λ name. IsWithin name above)) rules

-- Rules reach to a name within the origin: what they grant there is within it. It is the last name that the names to which each of
-- them reaches are within; and so some rule does reach to a name.
pub record ReachTo (rules : List Rule) (caller : List ℕ) (action : Action) (origin top : List (List ℕ)) : Type 0 where
  pub inside : IsWithin top origin
  pub granted : GrantsWithin rules caller action origin top
  pub each : AreWithin rules caller action origin top
  pub last : (above : List (List ℕ)) → AreWithin rules caller action origin above → IsWithin top above

-- no rule reaches to a name within the origin, and nothing is granted there
pub record ReachNowhere (rules : List Rule) (caller : List ℕ) (action : Action) (origin : List (List ℕ)) : Type 0 where
  pub granted : GrantsNowhere rules caller action origin
  pub each : All (λ rule. reach_of caller action origin rule ≡ None) rules

-- the name to which rules reach, or that no rule reaches to any
abbrev pub IsReach : List Rule → List ℕ → Action → List (List ℕ) → Option (List (List ℕ)) → Type 0
IsReach rules caller action origin None = ReachNowhere rules caller action origin
IsReach rules caller action origin (Some top) = ReachTo rules caller action origin top

-- ---- by several names

-- the names to which rules reach within the origin, in their order
abbrev pub reaches : List ℕ → Action → List (List ℕ) → List Rule → List (List (List ℕ))
reaches caller action origin rules = flat_map (λ rule. option_to_list (reach_of caller action origin rule)) rules

-- each name within the origin at which the rules grant the caller the action for some type is within one of these
abbrev pub GrantsWithinSome : List Rule → List ℕ → Action → List (List ℕ) → List (List (List ℕ)) → Type 0
GrantsWithinSome rules caller action origin tops =
    (name : List (List ℕ)) (record_type : RecordType) → IsWithin name origin
    → is_granted (decision (record { caller = caller; name = name; record_type = record_type; action = action }) rules) ≡ true
    → list_any (λ top. is_within name top) tops ≡ true
