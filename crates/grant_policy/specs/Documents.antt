-- Which documents are policies, and which rules each has.
use Rattle.std.specs.Prelude.{◌≡◌, ◌≢◌, ◌⊎◌, ℕ, ◌≤◌, List, [], ◌∷◌, length, map, Option, Some, None, codes, bytes_eq, if◌then◌else◌}
use Rattle.std.specs.List.{AllByRecursion, Contains, IsDistinct}
use Rattle.std.specs.Str.{is_utf8}
use Rattle.toml.specs.Data.{Data, string, array, table, Items, no_items, item, Members, no_members, member, get_member}
use Rattle.toml.specs.Parse.{parse_document}
use Rattle.dns_names.specs.Labels.{IsName}
use Rattle.dns_names.specs.Spelling.{SpellsAbsolute}
use Rattle.dns_data.specs.Types.{IsCalled}
use Rattle.grant_policy.specs.declared.callers.Callers.{Callers}
use Rattle.grant_policy.specs.declared.callers.Callers.TheVariants.{Every, One}
use Rattle.grant_policy.specs.declared.policy_fault.RuleKey.{RuleKey}
use Rattle.grant_policy.specs.declared.policy_fault.RuleKey.TheVariants as key
use Rattle.grant_policy.specs.declared.rule.Rule.{Rule}
use Rattle.grant_policy.specs.Identifiers.{IsIdentifier}
use Rattle.grant_policy.specs.Words.{effect_text, scope_text, action_text}

-- the TOML document of a text, where it is one
abbrev pub document_of : List ℕ → Option Members
document_of text = if is_utf8 text then parse_document text else None

-- ---- keys

abbrev pub key_text : RuleKey → List ℕ
key_text key.Id = codes "id"
key_text key.Effect = codes "effect"
key_text key.Caller = codes "caller"
key_text key.Scope = codes "scope"
key_text key.At = codes "at"
key_text key.Types = codes "types"
key_text key.Actions = codes "actions"

abbrev pub rule_keys : List (List ℕ)
rule_keys = map key_text (key.Id ∷ key.Effect ∷ key.Caller ∷ key.Scope ∷ key.At ∷ key.Types ∷ key.Actions ∷ [])

-- a table has no other keys than these
abbrev pub HasOnly : List (List ℕ) → Members → Type 0
HasOnly known no_members = Unit {0}
HasOnly known (member k d ms) = Contains known k × HasOnly known ms

-- ---- values

-- `*`, or an identifier
abbrev pub SpellsCallers : Callers → List ℕ → Type 0
SpellsCallers Every text = text ≡ codes "*"
SpellsCallers (One identifier) text = (text ≡ identifier) × IsIdentifier identifier

-- texts, one after the other, each of which spells what stands at its place
abbrev pub SpellsItems : {X : Type 0} → (X → List ℕ → Type 0) → List X → Items → Type 0
SpellsItems Spells [] items = items ≡ no_items
SpellsItems Spells (x ∷ xs) items =
    (text : List ℕ) × (rest : Items) × (items ≡ item (string text) rest) × Spells x text × SpellsItems Spells xs rest

-- `*`, or an array of one text or more
abbrev pub SpellsSelection : {X : Type 0} → (X → List ℕ → Type 0) → Option (List X) → Data → Type 0
SpellsSelection Spells None d = d ≡ string (codes "*")
SpellsSelection Spells (Some xs) d = (items : Items) × (d ≡ array items) × (xs ≢ []) × SpellsItems Spells xs items

-- a table with exactly the seven keys, whose values say what the rule is
pub record SpellsRule (rule : Rule) (ms : Members) : Type 0 where
  pub keys : HasOnly rule_keys ms
  pub id : get_member (codes "id") ms ≡ Some (string rule.id)
  pub identifier : IsIdentifier rule.id
  pub effect : get_member (codes "effect") ms ≡ Some (string (effect_text rule.effect))
  pub caller : (text : List ℕ) × (get_member (codes "caller") ms ≡ Some (string text)) × SpellsCallers rule.callers text
  pub scope : get_member (codes "scope") ms ≡ Some (string (scope_text rule.scope))
  pub at : (text : List ℕ) × (get_member (codes "at") ms ≡ Some (string text)) × IsName rule.at × SpellsAbsolute rule.at text
  pub types : (d : Data) × (get_member (codes "types") ms ≡ Some d) × SpellsSelection IsCalled rule.types d
  pub actions : (d : Data) × (get_member (codes "actions") ms ≡ Some d) × SpellsSelection (λ a text. action_text a ≡ text) rule.actions d

-- tables, one after the other, each of which spells the rule at its place
abbrev pub SpellsRules : List Rule → Items → Type 0
SpellsRules [] items = items ≡ no_items
SpellsRules (rule ∷ rules) items =
    (ms : Members) × (rest : Items) × (items ≡ item (table ms) rest) × SpellsRule rule ms × SpellsRules rules rest

-- the rules of a policy: at most 1,024, no two of one id, and none called as the closing default
pub record AreRules (rules : List Rule) : Type 0 where
  pub few : length rules ≤ 1024
  pub distinct : IsDistinct bytes_eq (map (λ rule. rule.id) rules)
  pub free : AllByRecursion (λ rule. rule.id ≢ codes "closing") rules

-- a document whose only key is `rule`, an array of the tables of the rules; without it there is no rule
pub record IsPolicy (top : Members) (rules : List Rule) : Type 0 where
  pub keys : HasOnly (codes "rule" ∷ []) top
  pub tables : ((get_member (codes "rule") top ≡ None) × (rules ≡ [])) ⊎ ((items : Items) × (get_member (codes "rule") top ≡ Some (array items)) × SpellsRules rules items)
  pub are : AreRules rules
