-- Groups of names that each rule of a policy covers alike: each name that a rule has, the root, and what is below each of these.
use Rattle.std.specs.Prelude.{◌≡◌, ◌⊎◌, ◌↔◌, ℕ, List, [], ◌∷◌, ◌++◌}
use Rattle.std.specs.List.{All, AllPairs, Contains, flat_map}
use Rattle.std.specs.declared.cmp.Ordering.TheVariants.{Less}
use Rattle.dns_names.specs.Labels.{IsName, IsWithin, IsBelow}
use Rattle.dns_names.specs.Order.{canonical_cmp}
use Rattle.dns_data.specs.declared.record_type.RecordType.{RecordType}
use Rattle.grant_policy.specs.declared.action.Action.{Action}
use Rattle.policy_tools.specs.declared.name_groups.GroupRights.{GroupRights}
use Rattle.policy_tools.specs.declared.name_groups.NameGroup.{NameGroup}
use Rattle.policy_tools.specs.declared.name_groups.NameGroup.TheVariants.{Exactly, Below}
use Rattle.grant_policy.specs.declared.rule.Rule.{Rule}
use Rattle.grant_policy.specs.Identifiers.{IsIdentifier}
use Rattle.grant_policy.specs.Isolated.{IsGranted}
use Rattle.policy_tools.specs.NameRights.{AreRightsAt, HasNoRights}

-- the root, or a name that a rule has
abbrev pub IsTop : List Rule → List (List ℕ) → Type 0
IsTop rules top = (top ≡ []) ⊎ ((rule : Rule) × Contains rules rule × (rule.at ≡ top))

-- the top of a group
abbrev pub top_of : NameGroup → List (List ℕ)
top_of (Exactly top) = top
top_of (Below top) = top

-- a top itself; or what is below a top, and not at or below another top that is below it
abbrev pub IsInGroup : List Rule → List (List ℕ) → NameGroup → Type 0
IsInGroup rules name (Exactly top) = IsTop rules top × (name ≡ top)
IsInGroup rules name (Below top) = IsTop rules top × IsBelow name top × ((other : List (List ℕ)) → IsTop rules other → IsWithin name other → IsWithin top other)

-- each name is in one group, and in one only
pub record IsInOneGroup (rules : List Rule) (name : List (List ℕ)) : Type 0 where
  pub group : NameGroup
  pub among : IsInGroup rules name group
  pub only : (other : NameGroup) → IsInGroup rules name other → other ≡ group

-- a group is before another: in the canonical order of tops (RFC 4034 section 6.1), and a top before what is below it
abbrev pub IsBefore : NameGroup → NameGroup → Type 0
IsBefore (Exactly top) (Below other) = (top ≡ other) ⊎ (canonical_cmp top other ≡ Less)
IsBefore group other = canonical_cmp (top_of group) (top_of other) ≡ Less

-- something is granted to some caller at some name of the group
pub record HasGrant (rules : List Rule) (group : NameGroup) : Type 0 where
  pub name : List (List ℕ)
  pub valid : IsName name
  pub among : IsInGroup rules name group
  pub caller : List ℕ
  pub identifier : IsIdentifier caller
  pub record_type : RecordType
  pub action : Action
  pub granted : IsGranted rules caller name record_type action

-- nothing is granted to anybody at a name
abbrev pub HasNoGrant : List Rule → List (List ℕ) → Type 0
HasNoGrant rules name = (caller : List ℕ) (record_type : RecordType) (action : Action) → ¬ IsGranted rules caller name record_type action

-- the rights of a row are those at each name of its group
abbrev pub IsRowOf : List Rule → GroupRights → Type 0
IsRowOf rules row = (name : List (List ℕ)) → IsName name → IsInGroup rules name row.group → AreRightsAt rules name row.rights

-- a name's group has a row
pub record HasRowOf {R : Type 0} (group_of : R → NameGroup) (rules : List Rule) (rows : List R) (name : List (List ℕ)) : Type 0 where
  pub row : R
  pub among : Contains rows row
  pub group : IsInGroup rules name (group_of row)

abbrev pub HasRow : List Rule → List GroupRights → List (List ℕ) → Type 0
HasRow rules rows name = HasRowOf (λ (row : GroupRights). row.group) rules rows name

-- The rows of a policy. What a row lists are the rights at each name of its group, and some of them are granted; where a name's group
-- has no row nothing is granted there; and rows are in order.
pub record AreGroupRights (rules : List Rule) (rows : List GroupRights) : Type 0 where
  pub rights : All (IsRowOf rules) rows
  pub granted : All (λ row. HasGrant rules row.group) rows
  pub complete : (name : List (List ℕ)) → IsName name → HasRow rules rows name ⊎ HasNoGrant rules name
  pub ordered : AllPairs (λ x y. IsBefore x.group y.group) rows

-- ---- by tops

-- the tops, each once and in order
pub record AreTops (rules : List Rule) (tops : List (List (List ℕ))) : Type 0 where
  pub valid : All IsName tops
  pub each : (top : List (List ℕ)) → Contains tops top ↔ IsTop rules top
  pub ordered : AllPairs (λ x y. canonical_cmp x y ≡ Less) tops

-- the groups of a list of tops
abbrev pub groups_of : List (List (List ℕ)) → List NameGroup
groups_of tops = flat_map (λ top. Exactly top ∷ Below top ∷ []) tops

-- Rows of any kind are added group by group: a row of the group, where it has something to list, or else none.
abbrev pub AddsRowOf : {R : Type 0} → (R → NameGroup) → (R → Type 0) → (NameGroup → Type 0) → (List (List ℕ) → Type 0) → List Rule → NameGroup → List R → List R → Type 0
AddsRowOf {R} group_of IsRow Lists IsBare rules group old new =
    ((new ≡ old) × ((name : List (List ℕ)) → IsName name → IsInGroup rules name group → IsBare name))
    ⊎ ((row : R) × (new ≡ old ++ row ∷ []) × (group_of row ≡ group) × IsRow row × Lists group)

-- the rows of some groups, by the same
pub record AreRowsOf {R : Type 0} (group_of : R → NameGroup) (IsRow : R → Type 0) (Lists : NameGroup → Type 0) (IsBare : List (List ℕ) → Type 0) (rules : List Rule) (groups : List NameGroup) (rows : List R) : Type 0 where
  pub rights : All IsRow rows
  pub lists : All (λ row. Lists (group_of row)) rows
  pub done : (group : NameGroup) → Contains groups group → (name : List (List ℕ)) → IsName name → IsInGroup rules name group → HasRowOf group_of rules rows name ⊎ IsBare name
  pub among : All (λ row. Contains groups (group_of row)) rows
  pub ordered : AllPairs (λ x y. IsBefore (group_of x) (group_of y)) rows

-- the row of a group is added, where something is granted in it
abbrev pub AddsGroup : List Rule → NameGroup → List GroupRights → List GroupRights → Type 0
AddsGroup rules = AddsRowOf (λ (row : GroupRights). row.group) (IsRowOf rules) (HasGrant rules) (HasNoGrant rules) rules

-- the rights of some groups
abbrev pub AreRightsOf : List Rule → List NameGroup → List GroupRights → Type 0
AreRightsOf rules = AreRowsOf (λ (row : GroupRights). row.group) (IsRowOf rules) (HasGrant rules) (HasNoGrant rules) rules

-- a row is added, unless nothing is granted by it
abbrev pub PushesRow : GroupRights → List GroupRights → List GroupRights → Type 0
PushesRow row old new = ((new ≡ old) × HasNoRights row.rights) ⊎ ((new ≡ old ++ row ∷ []) × (¬ HasNoRights row.rights))
