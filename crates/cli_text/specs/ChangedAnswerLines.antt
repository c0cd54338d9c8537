-- What `diff --answers` prints: a line for each group of names for which a server answers questions otherwise from the other zone.
use Rattle.std.specs.Prelude.{◌≡◌, ◌↔◌, ℕ, List, [], ◌∷◌, ◌++◌, ◌==◌, map, length, codes, if◌then◌else◌}
use Rattle.std.specs.List.{Contains, flat_map}
use Rattle.std.specs.List.Sorted.{IsStrictlySortedBy}
use Rattle.dns_names.specs.Spelling.{name_text}
use Rattle.dns_data.specs.Types.{type_text}
use Rattle.zone_core.specs.Sets.{listing}
use Rattle.zone_core.specs.Zones.{ZoneOf}
use Rattle.zone_answers.specs.declared.query_type.QueryType.{QueryType}
use Rattle.zone_answers.specs.declared.query_type.QueryType.TheVariants.{Kept, Any, Other}
use Rattle.zone_answers.specs.declared.changes.QuestionGroup.{QuestionGroup}
use Rattle.zone_answers.specs.declared.changes.QuestionGroup.TheVariants.{At, Others}
use Rattle.zone_answers.specs.declared.changes.ChangedAnswers.{ChangedAnswers}
use Rattle.zone_answers.specs.Answers.{Name}
use Rattle.zone_answers.specs.AnswerChanges.{Differs, IsListed, IsGroup, AreTypes, group_cmp}

-- ---- lines

-- a type of questions: one that zones keep by its text (RFC 1035 section 3.2.2), all, and one that no zone has
abbrev pub query_type_text : QueryType → List ℕ
query_type_text (Kept t) = type_text t
query_type_text Any = codes "ANY"
query_type_text Other = codes "other"

-- with a blank before it
abbrev pub type_word : QueryType → List ℕ
type_word asked = 32 ∷ query_type_text asked

-- types in order, or `*` for all twelve
abbrev pub types_text : List QueryType → List ℕ
types_text types = if length types == 12 then codes " *" else flat_map type_word types

-- a word that says which names, the name that they are at or below, and the types
abbrev pub questions_line : List ℕ → Name → List QueryType → List ℕ
questions_line word name types = word ++ 32 ∷ (name_text name ++ (types_text types ++ 10 ∷ []))

-- of a name, or of the names below one that are answered alike
abbrev pub group_line : QuestionGroup → List QueryType → List ℕ
group_line (At name) types = questions_line (codes "at") name types
group_line (Others encloser) types = questions_line (codes "below") encloser types

abbrev pub changed_line : ChangedAnswers → List ℕ
changed_line row = group_line row.group row.types.items

-- ---- which lines

-- the rows of two zones of an origin: a question is answered otherwise exactly if a row has it; groups are in order, each in one row; each
-- is of a known name, or of the names below one that exists; and each row has types, in order
pub record AreChanged (old new : ZoneOf) (rows : List ChangedAnswers) : Type 0 where
  pub exact : (name : Name) (asked : QueryType)
      → Differs old.origin (listing old.records) (listing new.records) name asked ↔ IsListed (listing old.records ++ listing new.records) rows name asked
  pub order : IsStrictlySortedBy group_cmp (map (λ row. row.group) rows)
  pub groups : (row : ChangedAnswers) → Contains rows row → IsGroup old.origin (listing old.records ++ listing new.records) row.group
  pub types : (row : ChangedAnswers) → Contains rows row → AreTypes row.types.items

-- the lines of such rows
abbrev pub AreAnswerLines : ZoneOf → ZoneOf → List ℕ → Type 0
AreAnswerLines old new text = (rows : List ChangedAnswers) × AreChanged old new rows × (text ≡ flat_map changed_line rows)
