-- Which questions two zones of one origin answer otherwise, over all names, of which infinitely many are below a wildcard.
use Rattle.std.specs.Prelude.{◌≡◌, ◌≢◌, ◌⊎◌, ℕ, List, [], ◌∷◌, ◌++◌, map, Bool, if◌then◌else◌}
use Rattle.std.specs.List.{Contains, filter}
use Rattle.std.specs.Ordering.{nat_cmp, on, then_cmp}
use Rattle.std.specs.declared.cmp.Ordering.{Ordering}
use Rattle.dns_names.specs.Labels.{IsWithin}
use Rattle.dns_names.specs.Order.{canonical_cmp, same_name}
use Rattle.dns_data.specs.declared.record.Record.{Record}
use Rattle.dns_data.specs.Types.{kept_types}
use Rattle.dns_data.specs.declared.rdata.Data.{Data}
use Rattle.dns_data.specs.declared.rdata.Data.TheVariants as variants
use Rattle.zone_core.specs.Views.{AreOfZone}
use Rattle.zone_answers.specs.declared.query_type.QueryType.{QueryType}
use Rattle.zone_answers.specs.declared.query_type.QueryType.TheVariants.{Kept, Any, Other}
use Rattle.zone_answers.specs.declared.changes.QuestionGroup.{QuestionGroup}
use Rattle.zone_answers.specs.declared.changes.QuestionGroup.TheVariants.{At, Others}
use Rattle.zone_answers.specs.declared.changes.ChangedAnswers.{ChangedAnswers}
use Rattle.zone_answers.specs.Answers.{Name, Exists, AnswerOf, IsAnswer}

-- ---- answers that differ

-- data, of an SOA with no serial (RFC 1035 section 3.3.13)
abbrev pub data_but_serial : Data → Data
data_but_serial (variants.Soa soa) = variants.Soa (record soa { serial = record { 0 = 0 } })
data_but_serial rdata = rdata

abbrev pub but_serial : Record → Record
but_serial r = record r { rdata = data_but_serial r.rdata }

-- two answers are the same but for the serial of an SOA in the authority section, which each change of a zone advances, and
-- by which no negative answer is cached (RFC 2308 section 5)
pub record AreSame (a b : AnswerOf) : Type 0 where
  pub code : a.code ≡ b.code
  pub authoritative : a.authoritative ≡ b.authoritative
  pub answer : a.answer ≡ b.answer
  pub authority : map but_serial a.authority ≡ map but_serial b.authority
  pub additional : a.additional ≡ b.additional

-- two zones of an origin answer a question otherwise
abbrev pub Differs : Name → List Record → List Record → Name → QueryType → Type 0
Differs origin old new name asked =
    (a : AnswerOf) × (b : AnswerOf) × IsAnswer origin old name asked a × IsAnswer origin new name asked b × ¬ AreSame a b

-- ---- groups of names, among the records of both zones

-- a name exists, or an alias leads to it (RFC 1034 section 3.6.2)
abbrev pub IsKnown : List Record → Name → Type 0
IsKnown rs name = Exists rs name ⊎ ((r : Record) × Contains rs r × (r.rdata ≡ variants.Cname name))

-- the closest encloser of a name, which exists, while with one label more it does not (RFC 4592 section 3.3.1)
abbrev pub IsEncloserOf : List Record → Name → Name → Type 0
IsEncloserOf rs name encloser =
    (front : Name) × (label : List ℕ) × (name ≡ front ++ label ∷ encloser) × Exists rs encloser × ¬ Exists rs (label ∷ encloser)

-- the names of a group: one; or all below a name that are not known, and have no closer encloser
abbrev pub IsIn : List Record → QuestionGroup → Name → Type 0
IsIn rs (At own) name = name ≡ own
IsIn rs (Others encloser) name = ¬ IsKnown rs name × IsEncloserOf rs name encloser

-- a row has a question: its name is in the group of the row, and its type is one of those of the row
abbrev pub IsListed : List Record → List ChangedAnswers → Name → QueryType → Type 0
IsListed rs rows name asked = (row : ChangedAnswers) × Contains rows row × IsIn rs row.group name × Contains row.types.items asked

-- the group of a known name within the origin, or of those below one that exists
abbrev pub IsGroup : Name → List Record → QuestionGroup → Type 0
IsGroup origin rs (At own) = IsWithin own origin × IsKnown rs own
IsGroup origin rs (Others encloser) = IsWithin encloser origin × Exists rs encloser

-- the types of questions: those that zones keep, by number, then all, and then those that no zone has
abbrev pub query_types : List QueryType
query_types = map Kept kept_types ++ Any ∷ Other ∷ []

-- types of questions in their order, each once, and at least one
pub record AreTypes (some : List QueryType) : Type 0 where
  pub any : some ≢ []
  pub order : (chosen : QueryType → Bool) × (some ≡ filter chosen query_types)

-- ---- the order of rows

-- the name that a group is at or below
abbrev pub name_in : QuestionGroup → Name
name_in (At own) = own
name_in (Others encloser) = encloser

-- the one name before those below it
abbrev pub place_in : QuestionGroup → ℕ
place_in (At own) = 0
place_in (Others encloser) = 1

-- groups by their names in canonical order (RFC 4034 section 6.1)
abbrev pub group_cmp : QuestionGroup → QuestionGroup → Ordering
group_cmp = then_cmp (on name_in canonical_cmp) (on place_in nat_cmp)

-- ---- names of one group

-- an answer with a name in the place of another
abbrev pub in_place_of : Name → Name → Name → Name
in_place_of old new name = if same_name name old then new else name

abbrev pub asked_for : Name → Name → AnswerOf → AnswerOf
asked_for old new a = record a { answer = map (λ (r : Record). record r { owner = in_place_of old new r.owner }) a.answer }

-- The names below one that a group has are answered alike, each by its own name, from any zone whose records the group counts.
abbrev pub NamesOfGroupsAreAnsweredAlike : Type 0
NamesOfGroupsAreAnsweredAlike =
    (origin : Name) (rs counted : List Record) (encloser first second : Name) (asked : QueryType) (a : AnswerOf) → AreOfZone origin rs
    → ((r : Record) → Contains rs r → Contains counted r)
    → IsWithin first origin → IsIn counted (Others encloser) first → IsWithin second origin → IsIn counted (Others encloser) second
    → IsAnswer origin rs first asked a → IsAnswer origin rs second asked (asked_for first second a)
