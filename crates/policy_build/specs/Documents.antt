-- Which documents are files of groups, and what each says.
use Rattle.std.specs.Prelude.{◌≡◌, ◌≢◌, ◌⊎◌, ◌∷◌, ◌++◌, ◌+◌, ℕ, List, [], map, Option, Some, None, codes}
use Rattle.std.specs.List.{Contains}
use Rattle.toml.specs.Data.{Data, string, array, table, Items, no_items, item, Members, get_member, as_array}
use Rattle.dns_names.specs.Labels.{IsName}
use Rattle.dns_names.specs.Spelling.{SpellsAbsolute}
use Rattle.dns_data.specs.Types.{IsCalled}
use Rattle.grant_policy.specs.declared.action.Action.{Action}
use Rattle.grant_policy.specs.declared.effect.Effect.{Effect}
use Rattle.grant_policy.specs.Documents.{HasOnly, SpellsCallers}
use Rattle.grant_policy.specs.Identifiers.{IsIdentifier}
use Rattle.grant_policy.specs.Words.{effect_text, scope_text, action_text}
use Rattle.policy_build.specs.declared.group_rule.GroupRule.{GroupRule}
use Rattle.policy_build.specs.declared.member.Member.{Member}
use Rattle.policy_build.specs.declared.member.Member.TheVariants.{One, Group}
use Rattle.policy_build.specs.declared.names.Names.{Names}
use Rattle.policy_build.specs.declared.place.FileKey.{FileKey}
use Rattle.policy_build.specs.declared.place.FileKey.TheVariants as key
use Rattle.policy_build.specs.declared.place.Place.{Place}
use Rattle.policy_build.specs.declared.statement.Statement.{Statement}
use Rattle.policy_build.specs.declared.statement.Statement.TheVariants as statement
use Rattle.policy_build.specs.Places.{key_text, document_place, at_key, nth_of}
use Rattle.policy_build.specs.Groups.{GroupOf}
use Rattle.policy_build.specs.Sources.{SourceOf}
use Rattle.policy_build.specs.Templates.{TemplateOf, TemplateUseOf}

-- ---- words

abbrev pub SpellsIdentifier : List ℕ → List ℕ → Type 0
SpellsIdentifier id text = (text ≡ id) × IsIdentifier id

abbrev pub SpellsEffect : Effect → List ℕ → Type 0
SpellsEffect effect text = effect_text effect ≡ text

abbrev pub SpellsAction : Action → List ℕ → Type 0
SpellsAction action text = action_text action ≡ text

-- a scope, a space, and an absolute name without one
abbrev pub SpellsNames : Names → List ℕ → Type 0
SpellsNames names text =
    (at : List ℕ) × (text ≡ scope_text names.scope ++ 32 ∷ at) × (¬ Contains at 32) × IsName names.at × SpellsAbsolute names.at at

-- the name of a group after an `@`, or what stands for itself
abbrev pub SpellsMember : {X : Type 0} → (X → List ℕ → Type 0) → Member X → List ℕ → Type 0
SpellsMember Spells (One x) text = Spells x text
SpellsMember Spells (Group id) text = (text ≡ 64 ∷ id) × IsIdentifier id

-- ---- values

-- a text that spells a word
abbrev pub IsWord : {X : Type 0} → (X → List ℕ → Type 0) → Place → X → Data → Type 0
IsWord Spells place x d = (text : List ℕ) × (d ≡ string text) × Spells x text

-- a table
abbrev pub IsTable : {X : Type 0} → (Place → X → Members → Type 0) → Place → X → Data → Type 0
IsTable Is place x d = (ms : Members) × (d ≡ table ms) × Is place x ms

module _ {X : Type 0} (Is : Place → X → Data → Type 0) (place : Place) where
  -- items, one after the other, from the one of this number on
  abbrev pub AreItems : ℕ → List X → Items → Type 0
  AreItems number [] items = items ≡ no_items
  AreItems number (x ∷ xs) items =
      (d : Data) × (rest : Items) × (items ≡ item d rest) × Is (nth_of place number) x d × AreItems (number + 1) xs rest

  -- an array of one item or more, or an item that stands for an array of it
  abbrev pub IsList : List X → Data → Type 0
  IsList xs d =
      ((items : Items) × (d ≡ array items) × (xs ≢ []) × AreItems 1 xs items)
      ⊎ ((x : X) × (xs ≡ x ∷ []) × (as_array d ≡ None) × Is (nth_of place 1) x d)

  -- a word in place of a list, or a list
  abbrev pub IsListUnless : List ℕ → Option (List X) → Data → Type 0
  IsListUnless word None d = d ≡ string word
  IsListUnless word (Some xs) d = (d ≢ string word) × IsList xs d

-- ---- tables

-- a table with no other keys than these
abbrev pub HasKeys : List FileKey → Members → Type 0
HasKeys known ms = HasOnly (map key_text known) ms

-- the value at a key
abbrev pub IsAt : {X : Type 0} → (Place → X → Data → Type 0) → Place → FileKey → X → Members → Type 0
IsAt Is place k x ms = (d : Data) × (get_member (key_text k) ms ≡ Some d) × Is (at_key place k) x d

-- the items at a key that may be left out
abbrev pub AreAt : {X : Type 0} → (Place → X → Data → Type 0) → Place → FileKey → List X → Members → Type 0
AreAt Is place k xs ms = ((get_member (key_text k) ms ≡ None) × (xs ≡ [])) ⊎ IsAt (IsList Is) place k xs ms

-- an id, and a list of members
pub record IsGroup {X : Type 0} (Spells : X → List ℕ → Type 0) (place : Place) (group : GroupOf X) (ms : Members) : Type 0 where
  pub keys : HasKeys (key.Id ∷ key.Members ∷ []) ms
  pub here : group.place ≡ place
  pub id : IsAt (IsWord SpellsIdentifier) place key.Id group.id ms
  pub members : IsAt (IsList (IsWord (SpellsMember Spells))) place key.Members group.members ms

-- the six keys of a rule; in a template `$callers` and `$names` stand for the members that its uses give
pub record IsRule (place : Place) (rule : GroupRule) (ms : Members) : Type 0 where
  pub keys : HasKeys (key.Id ∷ key.Effect ∷ key.Callers ∷ key.Names ∷ key.Types ∷ key.Actions ∷ []) ms
  pub here : rule.place ≡ place
  pub id : IsAt (IsWord SpellsIdentifier) place key.Id rule.id ms
  pub effect : IsAt (IsWord SpellsEffect) place key.Effect rule.effect ms
  pub callers : IsAt (λ p. IsListUnless (IsWord (SpellsMember SpellsCallers)) p (codes "$callers")) place key.Callers rule.callers ms
  pub names : IsAt (λ p. IsListUnless (IsWord (SpellsMember SpellsNames)) p (codes "$names")) place key.Names rule.names ms
  pub types : IsAt (λ p. IsListUnless (IsWord IsCalled) p (codes "*")) place key.Types rule.types ms
  pub actions : IsAt (λ p. IsListUnless (IsWord SpellsAction) p (codes "*")) place key.Actions rule.actions ms

-- an id, and a list of rules
pub record IsTemplate (place : Place) (template : TemplateOf) (ms : Members) : Type 0 where
  pub keys : HasKeys (key.Id ∷ key.Rule ∷ []) ms
  pub here : template.place ≡ place
  pub id : IsAt (IsWord SpellsIdentifier) place key.Id template.id ms
  pub rules : IsAt (IsList (IsTable IsRule)) place key.Rule template.rules ms

-- an id, the id of a template, and lists of members
pub record IsUse (place : Place) (usage : TemplateUseOf) (ms : Members) : Type 0 where
  pub keys : HasKeys (key.Id ∷ key.Template ∷ key.Callers ∷ key.Names ∷ []) ms
  pub here : usage.place ≡ place
  pub id : IsAt (IsWord SpellsIdentifier) place key.Id usage.id ms
  pub template : IsAt (IsWord SpellsIdentifier) place key.Template usage.template ms
  pub callers : IsAt (IsList (IsWord (SpellsMember SpellsCallers))) place key.Callers usage.callers ms
  pub names : IsAt (IsList (IsWord (SpellsMember SpellsNames))) place key.Names usage.names ms

-- the use of a template, or a rule without `$callers` and `$names`
abbrev pub IsStatement : Place → Statement → Members → Type 0
IsStatement place (statement.Use usage) ms = IsUse place usage ms
IsStatement place (statement.Rule rule) ms = IsRule place rule ms × (rule.callers ≢ None) × (rule.names ≢ None)

-- ---- documents

-- at most four keys: groups of callers, groups of names, templates, and in order the rules and uses
pub record IsSource (top : Members) (source : SourceOf) : Type 0 where
  pub keys : HasKeys (key.Callers ∷ key.Names ∷ key.Template ∷ key.Rule ∷ []) top
  pub callers : AreAt (IsTable (IsGroup SpellsCallers)) document_place key.Callers source.callers top
  pub names : AreAt (IsTable (IsGroup SpellsNames)) document_place key.Names source.names top
  pub templates : AreAt (IsTable IsTemplate) document_place key.Template source.templates top
  pub statements : AreAt (IsTable IsStatement) document_place key.Rule source.statements top
