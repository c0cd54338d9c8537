-- What keeps a caller from being isolated.
use Rattle.std.specs.Prelude.{◌≡◌, ◌≢◌, ℕ, List, Option, Some, None}
use Rattle.std.specs.List.{Contains}
use Rattle.dns_names.specs.Labels.{IsName}
use Rattle.dns_data.specs.declared.record_type.RecordType.TheVariants as types
use Rattle.grant_policy.specs.declared.callers.Callers.{Callers}
use Rattle.grant_policy.specs.declared.callers.Callers.TheVariants.{Every, One}
use Rattle.grant_policy.specs.declared.effect.Effect.TheVariants.{Grant}
use Rattle.grant_policy.specs.declared.rule.Rule.{Rule}
use Rattle.grant_policy.specs.Identifiers.{IsIdentifier}
use Rattle.grant_policy.specs.Decisions.{IsFirstMatch}
use Rattle.grant_policy.specs.Isolated.{question, ShowsRecords, ChangesRecords}
use Rattle.policy_tools.specs.declared.exposure.Exposure.{Exposure}
use Rattle.policy_tools.specs.declared.exposure.Exposure.TheVariants.{Soa, Shared}
use Rattle.policy_tools.specs.declared.exposure.Right.{Right}

-- the rule of this place grants it: it is the first that matches
pub record IsGrantedBy (rules : List Rule) (caller : List ℕ) (name : List (List ℕ)) (right : Right) : Type 0 where
  pub rule : Rule
  pub first : IsFirstMatch (question caller name right.record_type right.action) rules right.rule rule
  pub grants : rule.effect ≡ Grant

-- the caller that is named, if one is
abbrev pub named_of : Callers → Option (List ℕ)
named_of Every = None
named_of (One identifier) = Some identifier

-- no rule names the caller
abbrev pub IsUnnamed : List Rule → List ℕ → Type 0
IsUnnamed rules caller = (rule : Rule) → Contains rules rule → rule.callers ≢ One caller

-- another caller that no rule names
pub record IsUnnamedOther (rules : List Rule) (caller other : List ℕ) : Type 0 where
  pub differs : other ≢ caller
  pub unnamed : IsUnnamed rules other

-- every other caller that no rule names has the right, and there are such identifiers
pub record UnnamedHave (rules : List Rule) (caller : List ℕ) (name : List (List ℕ)) (right : Right) : Type 0 where
  pub some : (other : List ℕ) × IsIdentifier other × IsUnnamedOther rules caller other
  pub each : (other : List ℕ) → IsUnnamedOther rules caller other → IsGrantedBy rules other name right

-- another caller has the right: this one, or any that no rule names
abbrev pub OtherHas : List Rule → List ℕ → List (List ℕ) → Option (List ℕ) → Right → Type 0
OtherHas rules caller name (Some other) right = (other ≢ caller) × IsGrantedBy rules other name right
OtherHas rules caller name None right = UnnamedHave rules caller name right

-- the caller may list or check an SOA at the name
pub record SeesSoa (rules : List Rule) (caller : List ℕ) (name : List (List ℕ)) (right : Right) : Type 0 where
  pub valid : IsName name
  pub soa : right.record_type ≡ types.Soa
  pub shows : ShowsRecords right.action
  pub granted : IsGrantedBy rules caller name right

-- something is granted to the caller at the name, and another may change records there
pub record SharesName (rules : List Rule) (caller : List ℕ) (name : List (List ℕ)) (own : Right) (other : Option (List ℕ)) (theirs : Right) : Type 0 where
  pub valid : IsName name
  pub owns : IsGrantedBy rules caller name own
  pub changes : ChangesRecords theirs.action
  pub has : OtherHas rules caller name other theirs

abbrev pub IsExposed : List Rule → List ℕ → Exposure → Type 0
IsExposed rules caller (Soa name right) = SeesSoa rules caller name right
IsExposed rules caller (Shared name own other theirs) = SharesName rules caller name own other theirs
