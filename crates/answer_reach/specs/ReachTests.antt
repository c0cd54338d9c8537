-- The same as definitions that compute.
use Rattle.std.specs.Prelude.{◌≡◌, ℕ, List, map, [], ◌∷◌, ◌++◌, length, Bool, ◌&&◌, ◌||◌, ◌==◌, not, nat_lt, true, false, if◌then◌else◌, Option, Some, None, is_some, bytes_eq}
use Rattle.std.specs.List.{list_any, filter, flat_map}
use Rattle.std.specs.List.Sorted.{IsSorted}
use Rattle.dns_names.specs.Labels.{is_within, wire_len}
use Rattle.dns_names.specs.Order.{same_name, canonical_cmp}
use Rattle.dns_data.specs.declared.record.Record.{Record}
use Rattle.dns_data.specs.declared.record_type.RecordType.{RecordType}
use Rattle.dns_data.specs.declared.record_type.RecordType.TheVariants as types
use Rattle.dns_data.specs.declared.rdata.Data.{Data}
use Rattle.dns_data.specs.declared.rdata.Data.TheVariants as variants
use Rattle.dns_data.specs.Rdata.{type_of}
use Rattle.dns_data.specs.Types.{kept_types}
use Rattle.grant_policy.specs.declared.action.Action.{Action}
use Rattle.grant_policy.specs.declared.action.Action.TheVariants as action
use Rattle.grant_policy.specs.declared.rule.Rule.{Rule}
use Rattle.grant_policy.specs.declared.scope.Scope.{Scope}
use Rattle.grant_policy.specs.declared.scope.Scope.TheVariants as scopes
use Rattle.grant_policy.specs.Isolated.{question}
use Rattle.grant_policy.specs.Rules.{Question, is_of, has, same_type, same_action}
use Rattle.grant_policy.specs.Decisions.{Verdict, denied, decided, is_granted}
use Rattle.zone_core.specs.Delegations.{is_below, AreNamesOf, cut_owners}
use Rattle.zone_core.specs.Zones.{first_of}
use Rattle.zone_answers.specs.declared.query_type.QueryType.{QueryType}
use Rattle.zone_answers.specs.declared.query_type.QueryType.TheVariants.{Kept, Any}
use Rattle.zone_answers.specs.Answers.{Name, asterisk, asked_at, asks_alias, AnswerOf}
use Rattle.zone_answers.specs.AnswerTests.{is_there, is_ds, answer_to}
use Rattle.zone_answers.specs.AnswerChanges.{query_types}
use Rattle.zone_answers.specs.ChangeTests.{up_to}
use Rattle.answer_reach.specs.declared.reach_map.ReachMap.{ReachMap}
use Rattle.answer_reach.specs.declared.whole_zone.WholeZone.{WholeZone}
use Rattle.answer_reach.specs.declared.reached.ReachedNames.{ReachedNames}
use Rattle.answer_reach.specs.declared.reached.ReachedNames.TheVariants.{At, Others}
use Rattle.answer_reach.specs.declared.reached.ReachedAnswers.{ReachedAnswers}
use Rattle.answer_reach.specs.Rights.{may_grant}
use Rattle.answer_reach.specs.Turns.{may}
use Rattle.answer_reach.specs.Reach.{is_type, matters, remains, may_come, may_change}

-- ---- names below one, at or below which no rule is

-- whether a rule of this scope speaks of them
abbrev pub covers_under : Scope → Name → Name → Bool
covers_under scopes.Name at above = false
covers_under scopes.Subtree at above = is_within above at
covers_under scopes.Below at above = is_within above at

abbrev pub matches_under : Question → Rule → Bool
matches_under asked rule =
    is_of rule.callers asked.caller
    && (covers_under rule.scope rule.at asked.name && (has same_type rule.types asked.record_type && has same_action rule.actions asked.action))

-- what is decided of them; the name of the question is the one above
abbrev pub decision_under : Question → List Rule → Verdict
decision_under asked [] = denied None
decision_under asked (rule ∷ rules) = if matches_under asked rule then decided rule else decision_under asked rules

-- the action that a change of their records asks for
abbrev pub action_under : Action → RecordType → Action
action_under change types.Ns = action.Delegate
action_under change types.Ds = action.Delegate
action_under change record_type = change

abbrev pub may_under : List Rule → List ℕ → Action → Name → RecordType → Bool
may_under rules caller change above record_type = is_granted (decision_under (question caller above record_type (action_under change record_type)) rules)

-- ---- names that are looked up

abbrev pub has_name : List Name → Name → Bool
has_name names name = list_any (same_name name) names

-- whether a name is at or below one of some names
abbrev pub within_any : List Name → Name → Bool
within_any names [] = has_name names []
within_any names (label ∷ labels) = has_name names (label ∷ labels) || within_any names labels

abbrev pub below_any : List Name → Name → Bool
below_any names [] = false
below_any names (label ∷ labels) = within_any names labels

-- whether one of some cuts is at or above a name; for a DS, above it
abbrev pub is_cut_off : List Name → Name → QueryType → Bool
is_cut_off names name asked = if is_ds asked then below_any names name else within_any names name

-- lists that are searched
pub record AreSorted (m : ReachMap) : Type 0 where
  pub arising : IsSorted canonical_cmp m.arising.items
  pub staying : IsSorted canonical_cmp m.staying.items
  pub under : IsSorted canonical_cmp m.under.items
  pub cuts : IsSorted canonical_cmp m.cuts.items
  pub openers : IsSorted canonical_cmp m.openers.items

-- the wildcard below a name would be too long (RFC 1035 section 2.3.4)
abbrev pub is_long : Name → Bool
is_long above = nat_lt 255 (wire_len (asterisk ∷ above))

-- ---- names that are known

-- the target of an alias, and the names above it
abbrev pub target_names : Name → Data → List Name
target_names origin (variants.Cname target) = up_to origin target
target_names origin rdata = []

abbrev pub named_by : Name → Record → List Name
named_by origin r = up_to origin r.owner ++ target_names origin r.rdata

abbrev pub named_by_rule : Name → Rule → List Name
named_by_rule origin rule = up_to origin rule.at

abbrev pub named : Name → List Rule → List Record → List Name
named origin rules rs = flat_map (named_by origin) rs ++ flat_map (named_by_rule origin) rules

-- ---- aliases

abbrev pub target_list : Data → List Name
target_list (variants.Cname target) = target ∷ []
target_list rdata = []

abbrev pub targets : List Record → List Name
targets answer = flat_map (λ r. target_list r.rdata) answer

-- the names that are asked for in turn, as an answer has them
abbrev pub asked_in_turn : Name → QueryType → AnswerOf → List Name
asked_in_turn name asked a = name ∷ (if asks_alias asked then [] else targets a.answer)

abbrev pub target_in : Data → Option Name
target_in (variants.Cname target) = Some target
target_in rdata = None

-- the alias of the wildcard that answers for the names below one of which none nearer exists
abbrev pub alias_by : List Record → Name → Option Record
alias_by rs above = if is_long above then None else first_of (asked_at rs (asterisk ∷ above) (Kept types.Cname))

abbrev pub alias_under : List Record → Name → Option Record
alias_under rs [] = if is_there rs [] then alias_by rs [] else None
alias_under rs (label ∷ labels) = if is_there rs (label ∷ labels) then alias_by rs (label ∷ labels) else alias_under rs labels

-- whether an alias is at a name, or answers for those below it of which none nearer exists
abbrev pub has_alias : List Record → Name → Bool
has_alias rs name = not (length (asked_at rs name (Kept types.Cname)) == 0) || is_some (alias_under rs name)

-- whether an alias is at a wildcard (RFC 4592 section 2.1.1)
abbrev pub is_wildcard : Name → Bool
is_wildcard [] = false
is_wildcard (label ∷ labels) = bytes_eq label asterisk

abbrev pub is_wildcard_alias : Record → Bool
is_wildcard_alias r = is_wildcard r.owner && is_type (type_of r.rdata) types.Cname

-- ---- rows

-- a row as contracts see it
pub record RowOf : Type 0 where
  pub names : ReachedNames
  pub types : List QueryType

abbrev pub row_of : ReachedAnswers → RowOf
row_of row = record { names = row.names; types = row.types.items }

-- a row, unless it has no types
abbrev pub if_types : ReachedNames → List QueryType → List RowOf
if_types group [] = []
if_types group (asked ∷ more) = record { names = group; types = asked ∷ more } ∷ []

module _ (rules : List Rule) (caller : List ℕ) (origin : Name) (rs : List Record) where
  -- ---- what may come and go

  -- whether records of some type may come
  abbrev pub comes_at : Name → Bool
  comes_at name = list_any (may_come rules caller origin rs name) kept_types

  abbrev pub comes_under : Name → Bool
  comes_under above = list_any (λ t. not (is_type t types.Soa) && may_under rules caller action.Add above t) kept_types

  -- whether some change is granted
  abbrev pub updates_at : Name → Bool
  updates_at name = list_any (λ t. may rules caller origin action.Add name t || may rules caller origin action.Delete name t) kept_types

  abbrev pub updates_under : Name → Bool
  updates_under above = list_any (λ t. may_under rules caller action.Add above t || may_under rules caller action.Delete above t) kept_types

  abbrev pub updates : Name → Bool
  updates name = updates_at name || updates_under name

  -- ---- cuts

  abbrev pub is_cut : Name → Bool
  is_cut name = is_below name origin && not (length (asked_at rs name (Kept types.Ns)) == 0)

  abbrev pub stays_cut : Name → Bool
  stays_cut name = is_cut name && not (may_change rules caller origin rs name types.Ns)

  abbrev pub server_may_change : Data → Bool
  server_may_change (variants.Ns server) = may_change rules caller origin rs server types.A || may_change rules caller origin rs server types.Aaaa
  server_may_change rdata = false

  abbrev pub cut_may_change : Name → Bool
  cut_may_change name =
      is_below name origin && (may_change rules caller origin rs name types.Ns || list_any (λ r. server_may_change r.rdata) (asked_at rs name (Kept types.Ns)))

  -- whether the zone may be cut at a name, now or later: one of the names of its cuts, or one where a rule can grant changes
  abbrev pub may_be_cut : List Name → Name → Bool
  may_be_cut cuts name = has_name cuts name || may_grant rules caller name

  -- the known names where it may
  pub record IsPlaces (names places : List Name) : Type 0 where
    pub cuts : List Name
    pub owners : AreNamesOf cuts (cut_owners origin rs)
    pub are : places ≡ filter (may_be_cut cuts) names

  -- ---- the names of a map

  -- a name and those above it, where something may come
  abbrev pub arising_from : Name → List Name
  arising_from name = if comes_at name || comes_under name then up_to origin name else []

  abbrev pub staying_from : Record → List Name
  staying_from r = if remains rules caller origin r then up_to origin r.owner else []

  abbrev pub opens : List Name → Name → Bool
  opens cuts name = cut_may_change name && not (below_any cuts name)

  -- what is looked up, of all names that are known
  pub record IsMap (names : List Name) (m : ReachMap) : Type 0 where
    pub arising : AreNamesOf m.arising.items (flat_map arising_from names)
    pub staying : AreNamesOf m.staying.items (flat_map staying_from rs)
    pub under : m.under.items ≡ filter comes_under names
    pub cuts : m.cuts.items ≡ filter stays_cut names
    pub openers : m.openers.items ≡ filter (opens m.cuts.items) names
    pub soa : m.soa ≡ may_come rules caller origin rs origin types.Soa
    pub serial : m.serial ≡ list_any updates names

  -- names that exist whatever the caller does are within the origin, with those above them
  pub record StaysUp (m : ReachMap) : Type 0 where
    pub inside : (name : Name) → has_name m.staying.items name ≡ true → is_within name origin ≡ true
    pub up : (label : List ℕ) (labels : Name) → has_name m.staying.items (label ∷ labels) ≡ true → is_within labels origin ≡ true → has_name m.staying.items labels ≡ true

  module _ (m : ReachMap) where
    -- ---- what may change

    abbrev pub may_exist : Name → Bool
    may_exist name = is_there rs name || has_name m.arising.items name

    abbrev pub child_may_exist : Name → Name → Bool
    child_may_exist above child = is_there rs child || (has_name m.arising.items child || has_name m.under.items above)

    abbrev pub records_may_change : Name → QueryType → Bool
    records_may_change name asked =
        list_any (λ t. matters asked t && may_change rules caller origin rs name t) kept_types || (m.serial && (same_name name origin && matters asked types.Soa))

    abbrev pub own_may_change : Name → QueryType → Bool
    own_may_change name asked = may_exist name && (not (has_name m.staying.items name) || records_may_change name asked)

    -- whether the wildcard below a name may answer for a name below it, which itself may exist or not
    abbrev pub wildcard_may_change : Name → Bool → QueryType → Bool
    wildcard_may_change above nearer asked =
        if is_long above then true
        else child_may_exist above (asterisk ∷ above)
        && (not (has_name m.staying.items (asterisk ∷ above)) || (nearer || records_may_change (asterisk ∷ above) asked))

    -- whether one of those below the names above a name may
    abbrev pub wildcards_may_change : Name → QueryType → Bool
    wildcards_may_change [] asked = false
    wildcards_may_change (label ∷ labels) asked =
        (not (has_name m.staying.items (label ∷ labels)) && wildcard_may_change labels (may_exist (label ∷ labels)) asked) || wildcards_may_change labels asked

    -- whether what is found can change
    abbrev pub may_change_at : Name → QueryType → Bool
    may_change_at name asked =
        m.soa || (is_cut_off m.openers.items name asked || (not (is_cut_off m.cuts.items name asked) && (own_may_change name asked || wildcards_may_change name asked)))

    abbrev pub sources_under : Name → QueryType → Bool
    sources_under above asked = has_name m.under.items above || (wildcards_may_change above asked || wildcard_may_change above false asked)

    abbrev pub may_change_under : Name → QueryType → Bool
    may_change_under above asked = m.soa || (within_any m.openers.items above || (not (within_any m.cuts.items above) && sources_under above asked))

    -- whether a wildcard below a name above this one may answer for it, for some question
    abbrev pub wildcards_above : Name → Bool
    wildcards_above [] = false
    wildcards_above (label ∷ labels) = wildcards_may_change labels Any

    -- whether what is found for a name, or for those below it that are not known, can change for some question. It cannot where the
    -- name exists whatever the caller does, as then do those above it within the origin, its records stay, and no wildcard below it may
    -- answer
    abbrev pub may_change_near : Name → Bool
    may_change_near name =
        m.soa || (within_any m.openers.items name || (has_name m.under.items name || (not (has_name m.staying.items name)
        || (records_may_change name Any || (wildcard_may_change name false Any || wildcards_above origin)))))

    -- ---- aliases

    abbrev pub may_change_inside : QueryType → Name → Bool
    may_change_inside asked name = is_within name origin && may_change_at name asked

    abbrev pub reaches : Name → QueryType → Bool
    reaches name asked = list_any (may_change_inside asked) (asked_in_turn name asked (answer_to origin rs name asked))

    abbrev pub reaches_target : QueryType → Option Name → Bool
    reaches_target asked None = false
    reaches_target asked (Some target) = reaches target asked

    abbrev pub reaches_by : QueryType → Option Record → Bool
    reaches_by asked None = false
    reaches_by asked (Some r) = reaches_target asked (target_in r.rdata)

    abbrev pub reaches_under : Name → QueryType → Bool
    reaches_under above asked =
        may_change_under above asked || (not (within_any m.cuts.items above) && (not (asks_alias asked) && reaches_by asked (alias_under rs above)))

    -- ---- rows

    abbrev pub reaches_in : ReachedNames → QueryType → Bool
    reaches_in (At own) asked = reaches own asked
    reaches_in (Others above) asked = reaches_under above asked

    abbrev pub types_in : ReachedNames → List QueryType
    types_in group = filter (reaches_in group) query_types

    abbrev pub row_for : ReachedNames → List RowOf
    row_for group = if_types group (types_in group)

    -- what is the same for all names of the zone
    pub record IsWhole (whole : WholeZone) : Type 0 where
      pub above : whole.above ≡ wildcards_above origin
      pub aliases : whole.aliases ≡ list_any is_wildcard_alias rs
      pub glue : whole.glue.items ≡ filter (λ name. not (may_grant rules caller name)) m.openers.items
      pub sorted : IsSorted canonical_cmp whole.glue.items

    -- whether a name may have rows
    abbrev pub may_have_rows : Name → Bool
    may_have_rows name = may_change_near name || has_alias rs name

    abbrev pub rows_at : Name → List RowOf
    rows_at name = row_for (At name) ++ row_for (Others name)

    abbrev pub rows_for : List Name → List RowOf
    rows_for names = flat_map rows_at names

-- The rows of a zone and a policy: of all names that are known.
pub record AreRowsOf (rules : List Rule) (caller : List ℕ) (origin : Name) (rs : List Record) (rows : List ReachedAnswers) : Type 0 where
  pub names : List Name
  pub known : AreNamesOf names (named origin rules rs)
  pub lists : ReachMap
  pub are : IsMap rules caller origin rs names lists
  pub each : map row_of rows ≡ rows_for rules caller origin rs lists names
