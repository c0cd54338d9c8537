-- Which rules of a policy can matter in some zones, and in which zones no rule does.
use Rattle.std.specs.Prelude.{◌≡◌, ◌⊎◌, ℕ, ◌≤◌, List, [], ◌∷◌, None}
use Rattle.std.specs.List.{Contains}
use Rattle.dns_names.specs.Labels.{IsName, IsWithin, wire_len}
use Rattle.dns_data.specs.declared.record_type.RecordType.{RecordType}
use Rattle.grant_policy.specs.declared.action.Action.{Action}
use Rattle.grant_policy.specs.declared.rule.Rule.{Rule}
use Rattle.grant_policy.specs.declared.scope.Scope.{Scope}
use Rattle.grant_policy.specs.declared.scope.Scope.TheVariants.{Name, Subtree, Below}
use Rattle.grant_policy.specs.Decisions.{decision, denied}
use Rattle.grant_policy.specs.Isolated.{question}
use Rattle.grant_policy.specs.Scopes.{Covers}

-- a rule speaks of some name within an origin
pub record Touches (rule : Rule) (origin : List (List ℕ)) : Type 0 where
  pub name : List (List ℕ)
  pub valid : IsName name
  pub covered : Covers rule.scope rule.at name
  pub within : IsWithin name origin

-- a rule speaks of some name within one of these origins
abbrev pub Matters : List (List (List ℕ)) → Rule → Type 0
Matters origins rule = (origin : List (List ℕ)) × Contains origins origin × Touches rule origin

-- one of these rules speaks of some name within an origin
abbrev pub IsSpokenOf : List Rule → List (List ℕ) → Type 0
IsSpokenOf rules origin = (rule : Rule) × Contains rules rule × Touches rule origin

-- those that have a property, in the order that they had
abbrev pub AreKept : {X : Type 0} → (X → Type 0) → List X → List X → Type 0
AreKept {X} Has [] kept = kept ≡ []
AreKept {X} Has (x ∷ xs) kept = (Has x × ((others : List X) × (kept ≡ x ∷ others) × AreKept Has xs others)) ⊎ ((¬ Has x) × AreKept Has xs kept)

-- a name is within one of these origins
abbrev pub IsWithinSome : List (List (List ℕ)) → List (List ℕ) → Type 0
IsWithinSome origins name = (origin : List (List ℕ)) × Contains origins origin × IsWithin name origin

-- rules decide the same at all names within these origins, whoever asks
abbrev pub DecideSame : List (List (List ℕ)) → List Rule → List Rule → Type 0
DecideSame origins rules others =
    (name : List (List ℕ)) → IsName name → IsWithinSome origins name → (caller : List ℕ) (t : RecordType) (a : Action)
    → decision (question caller name t a) rules ≡ decision (question caller name t a) others

-- at all names within an origin the closing default decides, whoever asks
abbrev pub IsClosed : List Rule → List (List ℕ) → Type 0
IsClosed rules origin =
    (name : List (List ℕ)) → IsName name → IsWithin name origin → (caller : List ℕ) (t : RecordType) (a : Action)
    → decision (question caller name t a) rules ≡ denied None

-- ---- by the name of a rule

-- there are names in a scope
abbrev pub HasNames : Scope → List (List ℕ) → Type 0
HasNames Name at = Unit {0}
HasNames Subtree at = Unit {0}
HasNames Below at = wire_len at ≤ 253

-- the name of a rule is within an origin, or above it, if the rule speaks of names below its own
abbrev pub Reaches : Scope → List (List ℕ) → List (List ℕ) → Type 0
Reaches Name at origin = IsWithin at origin
Reaches Subtree at origin = IsWithin at origin ⊎ IsWithin origin at
Reaches Below at origin = IsWithin at origin ⊎ IsWithin origin at
