-- The same as definitions that compute.
use Rattle.std.specs.Prelude.{◌+◌, List, [], ◌∷◌, ◌++◌, length, Bool, ◌&&◌, ◌||◌, ◌==◌, not, true, false, if◌then◌else◌, Option, Some, None}
use Rattle.std.specs.List.{filter, flat_map}
use Rattle.std.specs.Cmp.Lexicographic.{pointwise}
use Rattle.dns_names.specs.Labels.{is_within}
use Rattle.dns_names.specs.Order.{same_name}
use Rattle.dns_data.specs.declared.record.Record.{Record}
use Rattle.dns_data.specs.declared.record_type.RecordType.TheVariants as types
use Rattle.dns_data.specs.declared.rdata.Data.{Data}
use Rattle.dns_data.specs.declared.rdata.Data.TheVariants as variants
use Rattle.dns_data.specs.declared.soa.SoaFields.{SoaFields}
use Rattle.dns_data.specs.contracts.rdata.DataPartialEq.TheImpl as of_data
use Rattle.zone_core.specs.Rcodes.{rcode_number}
use Rattle.zone_core.specs.Zones.{soa_in}
use Rattle.zone_answers.specs.declared.query_type.QueryType.{QueryType}
use Rattle.zone_answers.specs.declared.query_type.QueryType.TheVariants.{Kept, Any}
use Rattle.zone_answers.specs.declared.changes.QuestionGroup.{QuestionGroup}
use Rattle.zone_answers.specs.declared.changes.QuestionGroup.TheVariants.{At, Others}
use Rattle.zone_answers.specs.declared.changes.ChangedAnswers.{ChangedAnswers}
use Rattle.zone_answers.specs.Answers.{Name, asterisk, asked_at, negative_soa, Found, Delegated, AnswerOf}
use Rattle.zone_answers.specs.AnswerTests.{is_there, wildcard_over, if_there, cut_over, found_from, alias_in, by_alias, follow, answer_to}
use Rattle.zone_answers.specs.AnswerChanges.{query_types}

-- ---- names below one that exist in neither zone

-- the wildcard below the closest encloser of the names below a name of which none nearer exists
abbrev pub wildcard_under : List Record → Name → Option Name
wildcard_under rs encloser = if is_there rs encloser then Some (asterisk ∷ encloser) else wildcard_over rs encloser

abbrev pub found_below_cut : List Record → Name → QueryType → Option Name → Found
found_below_cut rs encloser asked None = found_from rs asked (if_there rs (wildcard_under rs encloser))
found_below_cut rs encloser asked (Some cut) = Delegated cut

-- what is found for these names
abbrev pub found_under : Name → List Record → Name → QueryType → Found
found_under origin rs encloser asked = found_below_cut rs encloser asked (cut_over origin rs encloser)

-- what comes of it, with the root in the place of the name
abbrev pub answer_under : Name → List Record → Name → QueryType → AnswerOf
answer_under origin rs encloser asked =
    by_alias origin rs [] [] (follow origin rs asked (1 + length rs)) (found_under origin rs encloser asked) (alias_in (found_under origin rs encloser asked))

-- the answer for the names of a group
abbrev pub answer_for : Name → List Record → QuestionGroup → QueryType → AnswerOf
answer_for origin rs (At own) asked = answer_to origin rs own asked
answer_for origin rs (Others encloser) asked = answer_under origin rs encloser asked

-- ---- answers that are the same

-- whether the fields of two SOA agree but for the serial
abbrev pub same_fields : SoaFields → SoaFields → Bool
same_fields a b =
    same_name a.mname b.mname && same_name a.rname b.rname && (a.refresh.0 == b.refresh.0) && (a.retry.0 == b.retry.0) && (a.expire.0 == b.expire.0)
    && (a.minimum.0 == b.minimum.0)

abbrev pub by_fields : Data → Data → Option SoaFields → Option SoaFields → Bool
by_fields a b (Some s) (Some t) = same_fields s t
by_fields a b (Some s) None = false
by_fields a b None t = of_data.ghosts.eq a b

abbrev pub same_data : Data → Data → Bool
same_data a b = by_fields a b (soa_in a) (soa_in b)

abbrev pub same_but_serial : Record → Record → Bool
same_but_serial a b = same_name a.owner b.owner && (a.ttl == b.ttl) && same_data a.rdata b.rdata

abbrev pub same_whole : Record → Record → Bool
same_whole a b = same_name a.owner b.owner && (a.ttl == b.ttl) && of_data.ghosts.eq a.rdata b.rdata

abbrev pub same_answers : AnswerOf → AnswerOf → Bool
same_answers a b =
    (rcode_number a.code == rcode_number b.code) && (if a.authoritative then b.authoritative else not b.authoritative) && pointwise same_whole a.answer b.answer
    && pointwise same_but_serial a.authority b.authority && pointwise same_whole a.additional b.additional

-- ---- names at which nothing has changed

-- whether the same records are at a name, and no alias
abbrev pub same_at : List Record → List Record → Name → Bool
same_at old new name = (length (asked_at old name (Kept types.Cname)) == 0) && pointwise same_whole (asked_at old name Any) (asked_at new name Any)

-- whether neither zone has a source, or the same records are at both
abbrev pub same_sources : List Record → List Record → Option Name → Option Name → Bool
same_sources old new None None = true
same_sources old new None (Some other) = false
same_sources old new (Some source) None = false
same_sources old new (Some source) (Some other) = same_at old new source

-- whether a name exists, unless it is at or below a cut
abbrev pub unless_cut : List Record → Name → Option Name → Bool
unless_cut rs name None = is_there rs name
unless_cut rs name (Some cut) = false

abbrev pub is_own : Name → List Record → Name → Bool
is_own origin rs name = unless_cut rs name (cut_over origin rs name)

-- whether the SOA of negative answers is the same but for the serial
abbrev pub same_soa : Name → List Record → List Record → Bool
same_soa origin old new = pointwise same_but_serial (negative_soa origin old) (negative_soa origin new)

-- whether nothing has changed at a name, nor for the names below it that do not exist
abbrev pub is_unchanged : Name → List Record → List Record → Name → Bool
is_unchanged origin old new name =
    is_own origin old name && is_own origin new name && same_at old new name
    && same_sources old new (if_there old (Some (asterisk ∷ name))) (if_there new (Some (asterisk ∷ name))) && same_soa origin old new

-- ---- names that are known

-- a name and those above it, as far as they are within an origin
abbrev pub up_to : Name → Name → List Name
up_to origin [] = if is_within [] origin then [] ∷ [] else []
up_to origin (label ∷ labels) = if is_within (label ∷ labels) origin then (label ∷ labels) ∷ up_to origin labels else []

-- the target of an alias, if it is within an origin
abbrev pub target_in : Name → Data → List Name
target_in origin (variants.Cname target) = if is_within target origin then target ∷ [] else []
target_in origin rdata = []

-- the names within an origin that are known by a record
abbrev pub known_by : Name → Record → List Name
known_by origin r = up_to origin r.owner ++ target_in origin r.rdata

-- ---- rows

-- a row as contracts see it
pub record RowOf : Type 0 where
  pub group : QuestionGroup
  pub types : List QueryType

abbrev pub row_of : ChangedAnswers → RowOf
row_of row = record { group = row.group; types = row.types.items }

module _ (origin : Name) (old new : List Record) where
  -- whether the two zones answer otherwise for the names of a group
  abbrev pub differs : QuestionGroup → QueryType → Bool
  differs group asked = not (same_answers (answer_for origin old group asked) (answer_for origin new group asked))

  abbrev pub types_in : QuestionGroup → List QueryType
  types_in group = filter (differs group) query_types

  -- a row, unless it has no types
  abbrev pub if_types : QuestionGroup → List QueryType → List RowOf
  if_types group [] = []
  if_types group (asked ∷ more) = record { group = group; types = asked ∷ more } ∷ []

  abbrev pub row_for : QuestionGroup → List RowOf
  row_for group = if_types group (types_in group)

  -- the groups at and below a known name, below which none is where it is but a target of an alias
  abbrev pub groups_at : Name → List QuestionGroup
  groups_at name = At name ∷ (if is_there old name || is_there new name then Others name ∷ [] else [])

  abbrev pub rows_at : Name → List RowOf
  rows_at name = flat_map row_for (groups_at name)

  abbrev pub rows_for : List Name → List RowOf
  rows_for names = flat_map rows_at names
