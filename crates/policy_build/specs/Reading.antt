-- What a file of groups is read as, with the refusal that comes first: key by key, table by table, and the arrays `callers`, `names`,
-- `template` and `rule` in this order.
use Rattle.std.specs.Prelude.{ℕ, ◌+◌, List, [], ◌∷◌, ◌++◌, length, take, drop, position, Bool, true, false, ◌&&◌, ◌==◌, if◌then◌else◌, Option, Some, None, is_some, Result, Ok, Err, codes, bytes_eq}
use Rattle.std.specs.List.{list_any}
use Rattle.std.specs.Option.{ok_or}
use Rattle.toml.specs.Data.{Data, string, array, Items, no_items, item, Members, no_members, member, get_member, as_str, as_table}
use Rattle.dns_names.specs.declared.name_fault.NameFault.{NameFault}
use Rattle.dns_names.specs.Reading.{absolute_name}
use Rattle.dns_data.specs.declared.record_type.RecordType.{RecordType}
use Rattle.grant_policy.specs.declared.action.Action.{Action}
use Rattle.grant_policy.specs.declared.callers.Callers.{Callers}
use Rattle.grant_policy.specs.declared.callers.Callers.TheVariants.{Every, One as OneCaller}
use Rattle.grant_policy.specs.declared.effect.Effect.{Effect}
use Rattle.grant_policy.specs.Reading.{is_identifier, type_of}
use Rattle.grant_policy.specs.Words.{effect_of, scope_of, action_of}
use Rattle.policy_build.specs.declared.build_fault.BuildFault.{BuildFault}
use Rattle.policy_build.specs.declared.build_fault.BuildFault.TheVariants.{NotToml, UnknownKey, MissingKey, BadValue, Empty}
use Rattle.policy_build.specs.declared.member.Member.{Member}
use Rattle.policy_build.specs.declared.member.Member.TheVariants.{One, Group}
use Rattle.policy_build.specs.declared.names.Names.{Names}
use Rattle.policy_build.specs.declared.place.FileKey.{FileKey}
use Rattle.policy_build.specs.declared.place.FileKey.TheVariants as key
use Rattle.policy_build.specs.declared.place.Place.{Place}
use Rattle.policy_build.specs.declared.group_rule.GroupRule.{GroupRule}
use Rattle.policy_build.specs.declared.statement.Statement.{Statement}
use Rattle.policy_build.specs.declared.statement.Statement.TheVariants as statement
use Rattle.policy_build.specs.Faults.{name_fault, ◌>>=◌}
use Rattle.policy_build.specs.Places.{key_text, document_place, at_key, nth_of}
use Rattle.policy_build.specs.Groups.{GroupOf}
use Rattle.policy_build.specs.Sources.{SourceOf}
use Rattle.policy_build.specs.Templates.{TemplateOf, TemplateUseOf}

-- ---- values

abbrev pub text_in : Place → Data → Result (List ℕ) BuildFault
text_in place d = ok_or (as_str d) (BadValue place)

abbrev pub table_in : Place → Data → Result Members BuildFault
table_in place d = ok_or (as_table d) (BadValue place)

-- a text that is a word
abbrev pub word_of : {X : Type 0} → (Place → List ℕ → Result X BuildFault) → Place → Data → Result X BuildFault
word_of word place d = text_in place d >>= word place

module _ {X : Type 0} (read : Place → Data → Result X BuildFault) (place : Place) where
  -- the items so far, and those of an array
  abbrev pub items_from : List X → Items → Result (List X) BuildFault
  items_from before no_items = Ok before
  items_from before (item d ds) = read (nth_of place (length before + 1)) d >>= λ x. items_from (before ++ x ∷ []) ds

  -- the only item
  abbrev pub one_of : Data → Result (List X) BuildFault
  one_of d = read (nth_of place 1) d >>= λ x. Ok (x ∷ [])

  -- an array of one item or more, or an item that stands for an array of it
  abbrev pub list_of : Data → Result (List X) BuildFault
  list_of (array no_items) = Err (Empty place)
  list_of (array (item d ds)) = items_from [] (item d ds)
  list_of d = one_of d

-- whether it is this text
abbrev pub is_text : List ℕ → Data → Bool
is_text word (string text) = bytes_eq text word
is_text word _ = false

-- a word in place of a list
abbrev pub list_unless : {X : Type 0} → List ℕ → (Place → Data → Result X BuildFault) → Place → Data → Result (Option (List X)) BuildFault
list_unless word read place d = if is_text word d then Ok None else (list_of read place d >>= λ items. Ok (Some items))

-- ---- words

abbrev pub identifier_in : Place → List ℕ → Result (List ℕ) BuildFault
identifier_in place text = if is_identifier text then Ok text else Err (BadValue place)

abbrev pub effect_in : Place → List ℕ → Result Effect BuildFault
effect_in place text = ok_or (effect_of text) (BadValue place)

abbrev pub type_in : Place → List ℕ → Result RecordType BuildFault
type_in place text = ok_or (type_of text) (BadValue place)

abbrev pub action_in : Place → List ℕ → Result Action BuildFault
action_in place text = ok_or (action_of text) (BadValue place)

-- `*`, or an identifier
abbrev pub callers_in : Place → List ℕ → Result Callers BuildFault
callers_in place text = if bytes_eq text (codes "*") then Ok Every else (identifier_in place text >>= λ identifier. Ok (OneCaller identifier))

-- an absolute name
abbrev pub named : Place → Result (List (List ℕ)) NameFault → Result (List (List ℕ)) BuildFault
named place (Ok name) = Ok name
named place (Err fault) = Err (name_fault place fault)

abbrev pub name_in : Place → List ℕ → Result (List (List ℕ)) BuildFault
name_in place text = named place (absolute_name text)

-- what is before and after the only space
abbrev pub cut_after : List ℕ → List ℕ → Option (List ℕ × List ℕ)
cut_after word rest = if list_any (λ octet. octet == 32) rest then None else Some (word, rest)

abbrev pub cut_at : Option ℕ → List ℕ → Option (List ℕ × List ℕ)
cut_at None text = None
cut_at (Some space) text = cut_after (take space text) (drop (space + 1) text)

abbrev pub cut : List ℕ → Option (List ℕ × List ℕ)
cut text = cut_at (position (λ octet. octet == 32) text) text

-- a scope, a space and an absolute name
abbrev pub scoped : Place → Option (List ℕ × List ℕ) → Result Names BuildFault
scoped place None = Err (BadValue place)
scoped place (Some (word, text)) = do
  scope ← ok_or (scope_of word) (BadValue place)
  at ← name_in place text
  Ok (record { scope = scope; at = at })

abbrev pub names_in : Place → List ℕ → Result Names BuildFault
names_in place text = scoped place (cut text)

-- the name of a group after an `@`, or what stands for itself
abbrev pub begins_group : List ℕ → Bool
begins_group [] = false
begins_group (octet ∷ octets) = octet == 64

abbrev pub member_in : {X : Type 0} → (Place → List ℕ → Result X BuildFault) → Place → List ℕ → Result (Member X) BuildFault
member_in word place text =
    if begins_group text
    then (identifier_in place (drop 1 text) >>= λ id. Ok (Group id))
    else (word place text >>= λ x. Ok (One x))

-- ---- tables

abbrev pub at_member : {X : Type 0} → (Data → Result X BuildFault) → Result X BuildFault → Option Data → Result X BuildFault
at_member read missing (Some d) = read d
at_member read missing None = missing

-- the value at a key
abbrev pub key_of : {X : Type 0} → (Place → Data → Result X BuildFault) → Place → FileKey → Members → Result X BuildFault
key_of read place k ms = at_member (read (at_key place k)) (Err (MissingKey (at_key place k))) (get_member (key_text k) ms)

-- the items at a key that may be left out
abbrev pub optional_of : {X : Type 0} → (Place → Data → Result X BuildFault) → Place → FileKey → Members → Result (List X) BuildFault
optional_of read place k ms = at_member (list_of read (at_key place k)) (Ok []) (get_member (key_text k) ms)

abbrev pub has_only : List FileKey → Members → Bool
has_only known no_members = true
has_only known (member k d ms) = list_any (λ one. bytes_eq (key_text one) k) known && has_only known ms

abbrev pub known_keys : List FileKey → Place → Members → Result (Unit {0}) BuildFault
known_keys known place ms = if has_only known ms then Ok tt else Err (UnknownKey place)

-- members, and lists of them
abbrev pub one_member : {X : Type 0} → (Place → List ℕ → Result X BuildFault) → Place → Data → Result (Member X) BuildFault
one_member word = word_of (member_in word)

abbrev pub group_in : {X : Type 0} → (Place → List ℕ → Result X BuildFault) → Place → Members → Result (GroupOf X) BuildFault
group_in word place ms = do
  known ← known_keys (key.Id ∷ key.Members ∷ []) place ms
  id ← key_of (word_of identifier_in) place key.Id ms
  members ← key_of (list_of (one_member word)) place key.Members ms
  Ok (record { place = place; id = id; members = members })

abbrev pub rule_in : Place → Members → Result GroupRule BuildFault
rule_in place ms = do
  known ← known_keys (key.Id ∷ key.Effect ∷ key.Callers ∷ key.Names ∷ key.Types ∷ key.Actions ∷ []) place ms
  id ← key_of (word_of identifier_in) place key.Id ms
  effect ← key_of (word_of effect_in) place key.Effect ms
  callers ← key_of (list_unless (codes "$callers") (one_member callers_in)) place key.Callers ms
  names ← key_of (list_unless (codes "$names") (one_member names_in)) place key.Names ms
  types ← key_of (list_unless (codes "*") (word_of type_in)) place key.Types ms
  actions ← key_of (list_unless (codes "*") (word_of action_in)) place key.Actions ms
  Ok (record { place = place; id = id; effect = effect; callers = callers; names = names; types = types; actions = actions })

-- the value of a table
abbrev pub of_table : {X : Type 0} → (Place → Members → Result X BuildFault) → Place → Data → Result X BuildFault
of_table read place d = table_in place d >>= read place

abbrev pub template_in : Place → Members → Result TemplateOf BuildFault
template_in place ms = do
  known ← known_keys (key.Id ∷ key.Rule ∷ []) place ms
  id ← key_of (word_of identifier_in) place key.Id ms
  rules ← key_of (list_of (of_table rule_in)) place key.Rule ms
  Ok (record { place = place; id = id; rules = rules })

abbrev pub use_in : Place → Members → Result TemplateUseOf BuildFault
use_in place ms = do
  known ← known_keys (key.Id ∷ key.Template ∷ key.Callers ∷ key.Names ∷ []) place ms
  id ← key_of (word_of identifier_in) place key.Id ms
  template ← key_of (word_of identifier_in) place key.Template ms
  callers ← key_of (list_of (one_member callers_in)) place key.Callers ms
  names ← key_of (list_of (one_member names_in)) place key.Names ms
  Ok (record { place = place; id = id; template = template; callers = callers; names = names })

-- a list that is no parameter
abbrev pub has_list : {X : Type 0} → Place → FileKey → Option X → Result X BuildFault
has_list place k o = ok_or o (BadValue (at_key place k))

-- a rule outside of templates has no parameters
abbrev pub plain_rule : GroupRule → Result GroupRule BuildFault
plain_rule rule = do
  callers ← has_list rule.place key.Callers rule.callers
  names ← has_list rule.place key.Names rule.names
  Ok rule

-- a use, or a rule for groups, as a statement
abbrev pub use_statement_in : Place → Members → Result Statement BuildFault
use_statement_in place ms = use_in place ms >>= λ usage. Ok (statement.Use usage)

abbrev pub rule_statement_in : Place → Members → Result Statement BuildFault
rule_statement_in place ms = do
  rule ← rule_in place ms
  plain ← plain_rule rule
  Ok (statement.Rule plain)

-- a rule for groups, or where the table has a template its use
abbrev pub statement_in : Place → Members → Result Statement BuildFault
statement_in place ms = if is_some (get_member (codes "template") ms) then use_statement_in place ms else rule_statement_in place ms

-- ---- documents

abbrev pub source_in : Members → Result SourceOf BuildFault
source_in top = do
  known ← known_keys (key.Callers ∷ key.Names ∷ key.Template ∷ key.Rule ∷ []) document_place top
  callers ← optional_of (of_table (group_in callers_in)) document_place key.Callers top
  names ← optional_of (of_table (group_in names_in)) document_place key.Names top
  templates ← optional_of (of_table template_in) document_place key.Template top
  statements ← optional_of (of_table statement_in) document_place key.Rule top
  Ok (record { callers = callers; names = names; templates = templates; statements = statements })

-- what a file says
abbrev pub source_of : Option Members → Result SourceOf BuildFault
source_of None = Err NotToml
source_of (Some top) = source_in top
