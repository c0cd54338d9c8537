-- What `check rights` prints: who may do what by a policy, at a name or by groups of names.
use Rattle.std.specs.Prelude.{◌≡◌, ℕ, List, [], ◌∷◌, ◌++◌, if◌then◌else◌, codes, Option, Some, None}
use Rattle.std.specs.List.{flat_map}
use Rattle.dns_names.specs.Spelling.{name_text}
use Rattle.dns_data.specs.declared.record_type.RecordType.{RecordType}
use Rattle.dns_data.specs.Types.{kept_types, type_text}
use Rattle.grant_policy.specs.declared.action.Action.{Action}
use Rattle.policy_tools.specs.declared.name_groups.GroupRights.{GroupRights}
use Rattle.policy_tools.specs.declared.name_groups.NameGroup.{NameGroup}
use Rattle.policy_tools.specs.declared.name_groups.NameGroup.TheVariants.{Exactly, Below}
use Rattle.policy_tools.specs.declared.name_rights.CallerRights.{CallerRights}
use Rattle.policy_tools.specs.declared.name_rights.NameRights.{NameRights}
use Rattle.grant_policy.specs.declared.rule.Rule.{Rule}
use Rattle.policy_tools.specs.NameGroups.{AreGroupRights}
use Rattle.policy_tools.specs.NameRights.{AreRightsAt}
use Rattle.policy_tools.specs.Points.{has_point}
use Rattle.grant_policy.specs.Words.{action_text, all_actions}

-- ---- a caller

-- a type with which an action may be done, after a space
abbrev pub type_if : ℕ → Action → RecordType → List ℕ
type_if rights action t = if has_point rights t action then 32 ∷ type_text t else []

abbrev pub types_text : ℕ → Action → List ℕ
types_text rights action = flat_map (type_if rights action) kept_types

-- a line of an action and its types, if there are some
abbrev pub line_of_types : List ℕ → Action → List ℕ → List ℕ
line_of_types head action [] = []
line_of_types head action (o ∷ os) = head ++ 32 ∷ (action_text action ++ ((o ∷ os) ++ 10 ∷ []))

abbrev pub action_line : List ℕ → ℕ → Action → List ℕ
action_line head rights action = line_of_types head action (types_text rights action)

abbrev pub caller_lines : List ℕ → ℕ → List ℕ
caller_lines head rights = flat_map (action_line head rights) all_actions

-- and one of a caller that may do nothing
abbrev pub or_nothing : List ℕ → List ℕ → List ℕ
or_nothing head [] = head ++ (codes " nothing" ++ 10 ∷ [])
or_nothing head (o ∷ os) = o ∷ os

abbrev pub row_text : List ℕ → CallerRights → List ℕ
row_text scope row = or_nothing (scope ++ 32 ∷ row.caller) (caller_lines (scope ++ 32 ∷ row.caller) row.rights)

-- ---- names

-- each caller that has other rights there than all others, and all others, as `*`
abbrev pub rights_text : List ℕ → NameRights → List ℕ
rights_text scope rights = flat_map (row_text scope) rights.named.items ++ caller_lines (scope ++ codes " *") rights.others

-- a name by itself
abbrev pub name_scope : List (List ℕ) → List ℕ
name_scope name = codes "name " ++ name_text name

abbrev pub scope_text : NameGroup → List ℕ
scope_text (Exactly name) = name_scope name
scope_text (Below name) = codes "below " ++ name_text name

abbrev pub group_text : GroupRights → List ℕ
group_text row = rights_text (scope_text row.group) row.rights

-- ---- the report

-- of a name, or of all groups of names in which something is granted
abbrev pub IsRightsText : Option (List (List ℕ)) → List Rule → List ℕ → Type 0
IsRightsText (Some name) rules text = (rights : NameRights) × AreRightsAt rules name rights × (text ≡ rights_text (name_scope name) rights)
IsRightsText None rules text = (rows : List GroupRights) × AreGroupRights rules rows × (text ≡ flat_map group_text rows)
