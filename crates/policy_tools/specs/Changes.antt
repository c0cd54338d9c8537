-- What another policy changes: what one policy grants and another denies, for whom, at which names.
use Rattle.std.specs.Prelude.{◌≡◌, ◌≢◌, ◌↔◌, ◌⊎◌, ℕ, List, [], ◌∷◌, ◌++◌, map, length, None, ◌≤◌, true, false, ◌&&◌, not}
use Rattle.std.specs.List.{All, AllPairs, Contains}
use Rattle.dns_names.specs.Labels.{IsName}
use Rattle.dns_data.specs.declared.record_type.RecordType.{RecordType}
use Rattle.grant_policy.specs.declared.action.Action.{Action}
use Rattle.grant_policy.specs.declared.callers.Callers.TheVariants.{Every}
use Rattle.grant_policy.specs.declared.effect.Effect.TheVariants.{Deny}
use Rattle.grant_policy.specs.declared.rule.Rule.{Rule}
use Rattle.grant_policy.specs.Identifiers.{IsIdentifier}
use Rattle.grant_policy.specs.Isolated.{IsGranted}
use Rattle.policy_tools.specs.declared.claims.Claim.{Claim}
use Rattle.policy_tools.specs.declared.name_rights.NameRights.{NameRights}
use Rattle.policy_tools.specs.declared.name_groups.NameGroup.{NameGroup}
use Rattle.policy_tools.specs.declared.name_changes.Change.{Change}
use Rattle.policy_tools.specs.declared.name_changes.CallerChange.{CallerChange}
use Rattle.policy_tools.specs.declared.name_changes.NameChanges.{NameChanges}
use Rattle.policy_tools.specs.declared.changes.GroupChanges.{GroupChanges}
use Rattle.policy_tools.specs.Points.{has_point, Differ}
use Rattle.policy_tools.specs.Claims.{IsClaim, rules_of}
use Rattle.policy_tools.specs.NameRights.{listed_in, listed_of, IsListed}
use Rattle.policy_tools.specs.Representatives.{AreAlike}
use Rattle.policy_tools.specs.NameGroups.{IsInGroup, IsBefore, HasRowOf, AddsRowOf, AreRowsOf}

-- the first policy grants it, and the other denies it
abbrev pub IsGrantedOnlyBy : List Rule → List Rule → List ℕ → List (List ℕ) → RecordType → Action → Type 0
IsGrantedOnlyBy rules other caller name t a = IsGranted rules caller name t a × ¬ IsGranted other caller name t a

-- the change that is listed of a caller
abbrev pub change_of : List CallerChange → Change → List ℕ → Change
change_of rows others caller = listed_in (λ (row : CallerChange). row.caller) (λ (row : CallerChange). row.change) rows others caller

-- one gives or takes something that the other does not
abbrev pub AreApart : Change → Change → Type 0
AreApart one other = Differ one.gives other.gives ⊎ Differ one.takes other.takes

-- What changes at a name from an old policy to a new one. What is listed of each caller is exactly what the new policy alone grants it
-- there, and what the old one alone does; and a caller has a row of its own, and only one, exactly where something else changes for it than
-- for all others.
pub record AreChangesAt (old new : List Rule) (name : List (List ℕ)) (changes : NameChanges) : Type 0 where
  pub gives : (caller : List ℕ) (t : RecordType) (a : Action) → (has_point (change_of changes.named.items changes.others caller).gives t a ≡ true) ↔ IsGrantedOnlyBy new old caller name t a
  pub takes : (caller : List ℕ) (t : RecordType) (a : Action) → (has_point (change_of changes.named.items changes.others caller).takes t a ≡ true) ↔ IsGrantedOnlyBy old new caller name t a
  pub apart : All (λ row. AreApart row.change changes.others) changes.named.items
  pub once : AllPairs (λ x y. x.caller ≢ y.caller) changes.named.items

-- nothing changes at a name
abbrev pub AreAgreed : List Rule → List Rule → List (List ℕ) → Type 0
AreAgreed old new name = (caller : List ℕ) (t : RecordType) (a : Action) → (¬ IsGrantedOnlyBy new old caller name t a) × (¬ IsGrantedOnlyBy old new caller name t a)

-- something changes for some caller at some name of the group
pub record HasChange (old new : List Rule) (group : NameGroup) : Type 0 where
  pub name : List (List ℕ)
  pub valid : IsName name
  pub among : IsInGroup (old ++ new) name group
  pub caller : List ℕ
  pub identifier : IsIdentifier caller
  pub record_type : RecordType
  pub action : Action
  pub changed : IsGrantedOnlyBy new old caller name record_type action ⊎ IsGrantedOnlyBy old new caller name record_type action

-- the changes of a row are those at each name of its group
abbrev pub IsChangeRow : List Rule → List Rule → GroupChanges → Type 0
IsChangeRow old new row = (name : List (List ℕ)) → IsName name → IsInGroup (old ++ new) name row.group → AreChangesAt old new name row.changes

-- What changes at all names, by groups of names that each rule of both policies covers alike. What a row lists are the changes at each name
-- of its group, and there are some; where a name's group has no row nothing changes there; and rows are in order.
pub record AreGroupChanges (old new : List Rule) (rows : List GroupChanges) : Type 0 where
  pub changes : All (IsChangeRow old new) rows
  pub some : All (λ row. HasChange old new row.group) rows
  pub complete : (name : List (List ℕ)) → IsName name → HasRowOf (λ (row : GroupChanges). row.group) (old ++ new) rows name ⊎ AreAgreed old new name
  pub ordered : AllPairs (λ x y. IsBefore x.group y.group) rows

-- ---- by rights

-- what is given and taken by rights in place of others
pub record IsChange (old new : ℕ) (change : Change) : Type 0 where
  pub gives : (t : RecordType) (a : Action) → has_point change.gives t a ≡ (has_point new t a && not (has_point old t a))
  pub takes : (t : RecordType) (a : Action) → has_point change.takes t a ≡ (has_point old t a && not (has_point new t a))

-- the change of a caller
abbrev pub IsChangeOf : NameRights → NameRights → List ℕ → Change → Type 0
IsChangeOf old new caller change = IsChange (listed_of old.named.items old.others caller) (listed_of new.named.items new.others caller) change

-- a change has the same pairs as another
pub record IsSameChange (one other : Change) : Type 0 where
  pub gives : (t : RecordType) (a : Action) → has_point one.gives t a ≡ has_point other.gives t a
  pub takes : (t : RecordType) (a : Action) → has_point one.takes t a ≡ has_point other.takes t a

-- nothing is given or taken
pub record IsNoChange (change : Change) : Type 0 where
  pub gives : (t : RecordType) (a : Action) → has_point change.gives t a ≡ false
  pub takes : (t : RecordType) (a : Action) → has_point change.takes t a ≡ false

-- no caller has a row, and nothing changes for all
pub record HasNoChange (changes : NameChanges) : Type 0 where
  pub named : changes.named.items ≡ []
  pub others : IsNoChange changes.others

-- a caller has a row among changes
abbrev pub HasChangeRow : List CallerChange → List ℕ → Type 0
HasChangeRow rows caller = Contains (map (λ row. row.caller) rows) caller

-- the callers of the rows of rights
abbrev pub callers_of : NameRights → List (List ℕ)
callers_of rights = map (λ row. row.caller) rights.named.items

-- a caller has other rights at a name than all others by one of the policies
abbrev pub IsSeen : NameRights → NameRights → List ℕ → Type 0
IsSeen old new caller = IsListed new.named.items caller ⊎ IsListed old.named.items caller

-- a caller needs no row, since it has one, or the change of all others
abbrev pub IsCovered : NameRights → NameRights → Change → List CallerChange → List ℕ → Type 0
IsCovered old new others rows caller = HasChangeRow rows caller ⊎ IsChangeOf old new caller others

-- the rows of some callers
pub record AreChangeRows (old new : NameRights) (others : Change) (callers : List (List ℕ)) (rows : List CallerChange) : Type 0 where
  pub each : All (λ row. IsChangeOf old new row.caller row.change) rows
  pub apart : All (λ row. AreApart row.change others) rows
  pub seen : All (λ row. IsSeen old new row.caller) rows
  pub once : AllPairs (λ x y. x.caller ≢ y.caller) rows
  pub covered : (caller : List ℕ) → Contains callers caller → IsCovered old new others rows caller

-- the changes from rights at a name to others there
pub record AreChangesBetween (old new : NameRights) (changes : NameChanges) : Type 0 where
  pub others : IsChange old.others new.others changes.others
  pub rows : AreChangeRows old new changes.others (callers_of new ++ callers_of old) changes.named.items

-- ---- by groups

-- the row of a group is added, where something changes in it
abbrev pub AddsChanges : List Rule → List Rule → NameGroup → List GroupChanges → List GroupChanges → Type 0
AddsChanges old new = AddsRowOf (λ (row : GroupChanges). row.group) (IsChangeRow old new) (HasChange old new) (AreAgreed old new) (old ++ new)

-- the rows of some groups
abbrev pub AreChangesOf : List Rule → List Rule → List NameGroup → List GroupChanges → Type 0
AreChangesOf old new = AreRowsOf (λ (row : GroupChanges). row.group) (IsChangeRow old new) (HasChange old new) (AreAgreed old new) (old ++ new)

-- a row is added, unless nothing changes by it
abbrev pub PushesChanges : GroupChanges → List GroupChanges → List GroupChanges → Type 0
PushesChanges row before after = ((after ≡ before) × HasNoChange row.changes) ⊎ ((after ≡ before ++ row ∷ []) × (¬ HasNoChange row.changes))

-- ---- both policies

-- a rule at the name of another, which denies everybody everything
abbrev pub place_of : Rule → Rule
place_of rule = record { id = rule.id; effect = Deny; callers = Every; scope = rule.scope; at = rule.at; types = None; actions = None }

-- the claims of two policies, and rules at the names of their rules
pub record AreVersions (merged : List Rule) (before after : List Claim) : Type 0 where
  pub places : merged ≡ map place_of (rules_of before ++ rules_of after)
  pub old : All IsClaim before
  pub new : All IsClaim after
  pub few : (length before ≤ 1024) × (length after ≤ 1024)

-- a name of a group, to which all names of the group are alike
pub record IsLike (rules : List Rule) (group : NameGroup) (name : List (List ℕ)) : Type 0 where
  pub valid : IsName name
  pub among : IsInGroup rules name group
  pub alike : (other : List (List ℕ)) → IsInGroup rules other group → AreAlike rules other name
