-- Where rules can grant a caller changes of records.
use Rattle.std.specs.Prelude.{◌≡◌, ℕ, List, [], ◌∷◌, Bool, ◌||◌, if◌then◌else◌}
use Rattle.std.specs.List.{list_any, flat_map}
use Rattle.dns_names.specs.Labels.{is_within}
use Rattle.grant_policy.specs.declared.action.Action.TheVariants as action
use Rattle.grant_policy.specs.declared.rule.Rule.{Rule}
use Rattle.grant_policy.specs.Reach.{grants_to}
use Rattle.zone_core.specs.Outermost.{AreApart}
use Rattle.zone_answers.specs.Answers.{Name}

-- the rules of a policy, and a caller
pub record RightsOf : Type 0 where
  pub rules : List Rule
  pub caller : List ℕ

-- whether a rule grants a caller some change of records at some name
abbrev pub grants_change : List ℕ → Rule → Bool
grants_change caller rule = grants_to caller action.Add rule || (grants_to caller action.Delete rule || grants_to caller action.Delegate rule)

-- the name that has all names within it at which a rule does
abbrev pub changed_within : List ℕ → Rule → List Name
changed_within caller rule = if grants_change caller rule then rule.at ∷ [] else []

-- whether a name is within that of some rule
abbrev pub may_grant : List Rule → List ℕ → Name → Bool
may_grant rules caller name = list_any (λ top. is_within name top) (flat_map (changed_within caller) rules)

-- the outermost of these names
pub record AreTops (rules : List Rule) (caller : List ℕ) (tops : List Name) : Type 0 where
  pub covers : (name : Name) → list_any (λ top. is_within name top) tops ≡ may_grant rules caller name
  pub apart : AreApart tops
