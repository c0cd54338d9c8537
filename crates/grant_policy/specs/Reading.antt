-- What the document of a policy says, with the refusal that comes first: a key at the top that is not known; no array of
-- tables; too many rules; and then rule by rule: a key that is not known, a key that is missing, a value that is not allowed,
-- where an id may also be reserved or repeated, and a name may be refused.
use Rattle.std.specs.Prelude.{◌≡◌, ℕ, ◌+◌, List, [], ◌∷◌, ◌++◌, length, Bool, true, ◌&&◌, nat_lt, nat_le, if◌then◌else◌, Option, Some, None, option_map, Result, Ok, Err, codes, bytes_eq}
use Rattle.std.specs.List.{list_any, list_all, find}
use Rattle.std.specs.Option.{ok_or}
use Rattle.std.specs.Str.{str_eq_ignore_ascii_case}
use Rattle.toml.specs.View.{view}
use Rattle.grant_policy.specs.declared.document.Values.{Values}
use Rattle.toml.specs.Data.{Data, string, array, table, Items, no_items, item, Members, no_members, member, get_member, as_str}
use Rattle.dns_names.specs.declared.name_fault.NameFault.{NameFault}
use Rattle.dns_names.specs.Labels.{IsName}
use Rattle.dns_names.specs.Spelling.{SpellsAbsolute}
use Rattle.dns_names.specs.Reading.{absolute_name}
use Rattle.dns_data.specs.declared.record_type.RecordType.{RecordType}
use Rattle.dns_data.specs.Types.{type_text, kept_types}
use Rattle.grant_policy.specs.declared.callers.Callers.{Callers}
use Rattle.grant_policy.specs.declared.callers.Callers.TheVariants.{Every, One}
use Rattle.grant_policy.specs.declared.policy_fault.PolicyFault.{PolicyFault}
use Rattle.grant_policy.specs.declared.policy_fault.PolicyFault.TheVariants.{NotToml, UnknownKey, MissingKey, BadValue, IdRepeated, IdReserved, TooManyRules}
use Rattle.grant_policy.specs.declared.policy_fault.PolicyPlace.{PolicyPlace}
use Rattle.grant_policy.specs.declared.policy_fault.PolicyPlace.TheVariants as place
use Rattle.grant_policy.specs.declared.policy_fault.RuleKey.{RuleKey}
use Rattle.grant_policy.specs.declared.policy_fault.RuleKey.TheVariants as key
use Rattle.grant_policy.specs.declared.rule.Rule.{Rule}
use Rattle.grant_policy.specs.Identifiers.{is_identifier_octet}
use Rattle.grant_policy.specs.Words.{effect_of, scope_of, action_of}
use Rattle.grant_policy.specs.Documents.{key_text, rule_keys}
use Rattle.grant_policy.specs.Faults.{of_name, ◌>>=◌}

-- ---- ids

-- whether an id is one of some
abbrev pub is_among : List ℕ → List (List ℕ) → Bool
is_among id ids = list_any (λ other. bytes_eq id other) ids

-- an id that may be given to the rule of this number, after rules of other ids
abbrev pub free_id : ℕ → List (List ℕ) → List ℕ → Result (List ℕ) PolicyFault
free_id number ids id =
    if bytes_eq id (codes "closing") then Err (IdReserved number) else (if is_among id ids then Err (IdRepeated number) else Ok id)

-- rows of ids that have the same ones, in whatever order
abbrev pub SameIds : List (List ℕ) → List (List ℕ) → Type 0
SameIds ids others = (id : List ℕ) → is_among id ids ≡ is_among id others

-- rules, in order, after rules of these ids
abbrev pub free_rules : List (List ℕ) → List Rule → Result (List Rule) PolicyFault
free_rules ids [] = Ok []
free_rules ids (rule ∷ rules) = do
  first ← free_id (length ids + 1) ids rule.id
  others ← free_rules (ids ++ rule.id ∷ []) rules
  Ok (rule ∷ others)

-- ---- values

-- the value of a key
abbrev pub needed : ℕ → Members → RuleKey → Result Data PolicyFault
needed number ms k = ok_or (get_member (key_text k) ms) (MissingKey (place.Key number k))

-- a text
abbrev pub text_in : PolicyPlace → Data → Result (List ℕ) PolicyFault
text_in at d = ok_or (as_str d) (BadValue at)

-- a text that is a word
abbrev pub word_in : {X : Type 0} → (List ℕ → Option X) → PolicyPlace → Data → Result X PolicyFault
word_in word at d = text_in at d >>= λ text. ok_or (word text) (BadValue at)

abbrev pub is_identifier : List ℕ → Bool
is_identifier text = list_all is_identifier_octet text && (nat_lt 0 (length text) && nat_le (length text) 64)

abbrev pub identifier_of : List ℕ → Option (List ℕ)
identifier_of text = if is_identifier text then Some text else None

abbrev pub callers_of : List ℕ → Option Callers
callers_of text = if bytes_eq text (codes "*") then Some Every else option_map One (identifier_of text)

-- a type by its name, in either letter case
abbrev pub type_of : List ℕ → Option RecordType
type_of text = find (λ t. str_eq_ignore_ascii_case (type_text t) text) kept_types

-- an absolute name
abbrev pub named : ℕ → Result (List (List ℕ)) NameFault → Result (List (List ℕ)) PolicyFault
named number (Ok name) = Ok name
named number (Err fault) = Err (of_name number fault)

abbrev pub name_in : ℕ → Data → Result (List (List ℕ)) PolicyFault
name_in number d = text_in (place.Key number key.At) d >>= λ text. named number (absolute_name text)

-- a value that spells the name
abbrev pub IsNamed : List (List ℕ) → Data → Type 0
IsNamed name d = (text : List ℕ) × (d ≡ string text) × IsName name × SpellsAbsolute name text

-- a table with such a value, and tables, one after the other
abbrev pub IsNamedIn : List (List ℕ) → Members → Type 0
IsNamedIn name ms = (d : Data) × (get_member (codes "at") ms ≡ Some d) × IsNamed name d

abbrev pub AreNamedIn : List Rule → List Members → Type 0
AreNamedIn [] mss = Unit {0}
AreNamedIn (rule ∷ rules) [] = Unit {0}
AreNamedIn (rule ∷ rules) (ms ∷ mss) = IsNamedIn rule.at ms × AreNamedIn rules mss

-- words, one or more
abbrev pub words_of : {X : Type 0} → (List ℕ → Option X) → PolicyPlace → Items → Result (List X) PolicyFault
words_of word at no_items = Ok []
words_of word at (item d ds) = do
  first ← word_in word at d
  others ← words_of word at ds
  Ok (first ∷ others)

-- `*`, or an array of one word or more
abbrev pub selection_in : {X : Type 0} → (List ℕ → Option X) → PolicyPlace → Data → Result (Option (List X)) PolicyFault
selection_in word at (string text) = if bytes_eq text (codes "*") then Ok None else Err (BadValue at)
selection_in word at (array no_items) = Err (BadValue at)
selection_in word at (array (item d ds)) = words_of word at (item d ds) >>= λ words. Ok (Some words)
selection_in word at _ = Err (BadValue at)

-- ---- rules

abbrev pub has_only : List (List ℕ) → Members → Bool
has_only known no_members = true
has_only known (member k d ms) = list_any (λ word. bytes_eq word k) known && has_only known ms

abbrev pub known_keys : List (List ℕ) → PolicyPlace → Members → Result (Unit {0}) PolicyFault
known_keys known at ms = if has_only known ms then Ok tt else Err (UnknownKey at)

-- the seven values of a rule
pub record RuleData : Type 0 where
  pub id : Data
  pub effect : Data
  pub caller : Data
  pub scope : Data
  pub at : Data
  pub types : Data
  pub actions : Data

abbrev pub rule_data : ℕ → Members → Result RuleData PolicyFault
rule_data number ms = do
  id ← needed number ms key.Id
  effect ← needed number ms key.Effect
  caller ← needed number ms key.Caller
  scope ← needed number ms key.Scope
  at ← needed number ms key.At
  types ← needed number ms key.Types
  actions ← needed number ms key.Actions
  Ok (record { id = id; effect = effect; caller = caller; scope = scope; at = at; types = types; actions = actions })

-- the seven values of a rule, as they are read
abbrev pub data_of : Values → RuleData
data_of values = record {
  id = view values.id.now;
  effect = view values.effect.now;
  caller = view values.caller.now;
  scope = view values.scope.now;
  at = view values.at.now;
  types = view values.types.now;
  actions = view values.actions.now;
}

-- the rule that values make, after rules of these ids
abbrev pub rule_in : ℕ → List (List ℕ) → RuleData → Result Rule PolicyFault
rule_in number ids d = do
  text ← word_in identifier_of (place.Key number key.Id) d.id
  id ← free_id number ids text
  effect ← word_in effect_of (place.Key number key.Effect) d.effect
  callers ← word_in callers_of (place.Key number key.Caller) d.caller
  scope ← word_in scope_of (place.Key number key.Scope) d.scope
  at ← name_in number d.at
  types ← selection_in type_of (place.Key number key.Types) d.types
  actions ← selection_in action_of (place.Key number key.Actions) d.actions
  Ok (record { id = id; effect = effect; callers = callers; scope = scope; at = at; types = types; actions = actions })

-- the rule of a table
abbrev pub rule_of : List (List ℕ) → Members → Result Rule PolicyFault
rule_of ids ms = do
  known ← known_keys rule_keys (place.Rule (length ids + 1)) ms
  d ← rule_data (length ids + 1) ms
  rule_in (length ids + 1) ids d

-- the rules of tables, in order, after rules of these ids
abbrev pub rules_of : List (List ℕ) → List Members → Result (List Rule) PolicyFault
rules_of ids [] = Ok []
rules_of ids (ms ∷ mss) = do
  first ← rule_of ids ms
  others ← rules_of (ids ++ first.id ∷ []) mss
  Ok (first ∷ others)

-- ---- documents

-- the tables of an array that has nothing else
abbrev pub tables_of : Items → Option (List Members)
tables_of no_items = Some []
tables_of (item (table ms) ds) = option_map (λ mss. ms ∷ mss) (tables_of ds)
tables_of (item _ ds) = None

-- the tables of the rules
abbrev pub rule_tables : Option Data → Result (List Members) PolicyFault
rule_tables None = Ok []
rule_tables (Some (array ds)) = ok_or (tables_of ds) (BadValue place.Rules)
rule_tables (Some _) = Err (BadValue place.Rules)

abbrev pub few : {X : Type 0} → List X → Result (List X) PolicyFault
few xs = if nat_lt 1024 (length xs) then Err TooManyRules else Ok xs

-- the rules of a list that may be those of a policy
abbrev pub built : List Rule → Result (List Rule) PolicyFault
built rules = do
  all ← few rules
  free_rules [] all

-- the rules of a document
abbrev pub policy_of : Option Members → Result (List Rule) PolicyFault
policy_of None = Err NotToml
policy_of (Some top) = do
  known ← known_keys (codes "rule" ∷ []) place.Document top
  all ← rule_tables (get_member (codes "rule") top)
  mss ← few all
  rules_of [] mss
