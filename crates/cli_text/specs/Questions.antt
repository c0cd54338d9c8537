-- The questions that words and lines ask about a zone.
use Rattle.std.specs.Prelude.{ℕ, ◌*◌, ◌+◌, ◌-◌, ◌||◌, ◌==◌, List, [], ◌∷◌, Bool, min, take, drop, fold, find, nat_lt, bytes_eq, codes, if◌then◌else◌, Option, Some, None, option_and_then, Result, Ok, Err}
use Rattle.dns_names.specs.declared.name_fault.NameFault.{NameFault}
use Rattle.dns_names.specs.Reading.{absolute_name}
use Rattle.dns_data.specs.declared.record_type.RecordType.{RecordType}
use Rattle.dns_data.specs.declared.record_type.RecordType.TheVariants as types
use Rattle.dns_data.specs.Items.{ItemText}
use Rattle.dns_data.specs.Numbers.{is_number}
use Rattle.dns_data.specs.Types.{kept_types, type_named, type_number}
use Rattle.dns_master.specs.Tokens.{tokens_of}
use Rattle.zone_answers.specs.declared.query_type.QueryType.{QueryType}
use Rattle.zone_answers.specs.declared.query_type.QueryType.TheVariants.{Kept, Any, Other}
use Rattle.update_lines.specs.Reading.{EntryLine}
use Rattle.update_lines.specs.Views.{gathered}
use Rattle.cli_core.specs.declared.word_fault.WordFault.{WordFault}
use Rattle.cli_core.specs.declared.word_fault.WordFault.TheVariants as word
use Rattle.cli_core.specs.declared.job.TextForm.{TextForm}
use Rattle.cli_core.specs.declared.refusal.Refusal.{Refusal}
use Rattle.cli_core.specs.declared.refusal.Refusal.TheVariants.{Line, TypeNotKept}
use Rattle.cli_core.specs.LineFaults.{◌>>=◌, or_refused, of_names, of_masters}

-- ---- types

-- the number of digits, as far as 16 bits have room for it
abbrev pub digit_step : ℕ → ℕ → ℕ
digit_step n d = min (n * 10 + (d - 48)) 65536

abbrev pub number_read : List ℕ → ℕ
number_read digits = fold digit_step 0 digits

-- the kept type of a number (RFC 1035 section 3.2.2)
abbrev pub numbered_type : ℕ → Option RecordType
numbered_type n = find (λ t. type_number t == n) kept_types

abbrev pub kept_or : ℕ → Option RecordType → QueryType
kept_or n (Some t) = Kept t
kept_or n None = if n == 255 then Any else Other

-- the type of a number of 16 bits (RFC 3597 section 5); 255 is that of `ANY` (RFC 1035 section 3.2.3)
abbrev pub type_by_number : ℕ → Option QueryType
type_by_number n = if nat_lt 65535 n then None else Some (kept_or n (numbered_type n))

-- what is after `TYPE`
abbrev pub behind_type : List ℕ → Option (List ℕ)
behind_type word = if bytes_eq (take 4 word) (codes "TYPE") || bytes_eq (take 4 word) (codes "type") then Some (drop 4 word) else None

abbrev pub is_any : List ℕ → Bool
is_any word = bytes_eq word (codes "ANY") || bytes_eq word (codes "any")

abbrev pub digits_type : List ℕ → Option QueryType
digits_type digits = if is_number digits then type_by_number (number_read digits) else None

-- the type of a word that is no name of a kept type
abbrev pub other_type : List ℕ → Option QueryType
other_type word = if is_any word then Some Any else option_and_then digits_type (behind_type word)

abbrev pub named_or : List ℕ → Option RecordType → Option QueryType
named_or word (Some t) = Some (Kept t)
named_or word None = other_type word

-- the type that a word asks for
abbrev pub query_type_of : List ℕ → Option QueryType
query_type_of word = named_or word (type_named word)

-- ---- questions

-- a question: a name, a type as it is written, and what that asks for
pub record QuestionOf : Type 0 where
  pub name : List (List ℕ)
  pub word : List ℕ
  pub asked : QueryType

abbrev pub question : List (List ℕ) → List ℕ → QueryType → QuestionOf
question name word asked = record { name = name; word = word; asked = asked }

-- the type of a question without one
abbrev pub address : List ℕ
address = codes "A"

-- ---- of the words of a command line

-- the word of a type, where one is given
abbrev pub type_word : Option (List ℕ) → List ℕ
type_word None = address
type_word (Some word) = word

-- a zone's origin, as what answers are printed, and questions
pub record InquiryOf : Type 0 where
  pub origin : List (List ℕ)
  pub form : TextForm
  pub questions : List QuestionOf

-- the question of the words of an origin, a name and a type
abbrev pub inquiry_of : TextForm → List ℕ → List ℕ → Option (List ℕ) → Result InquiryOf Refusal
inquiry_of form origin name asked =
    of_names (absolute_name origin) >>= λ zone. of_names (absolute_name name) >>= λ owner.
    or_refused (query_type_of (type_word asked)) TypeNotKept >>= λ t. Ok (record { origin = zone; form = form; questions = question owner (type_word asked) t ∷ [] })

-- ---- of lines

-- the octets of an item that is not quoted, or a fault of its line
abbrev pub unquoted : ℕ → WordFault → ItemText → Result (List ℕ) Refusal
unquoted line fault item = if item.quoted then Err (Line line fault) else Ok item.raw

abbrev pub name_on : ℕ → Result (List (List ℕ)) NameFault → Result (List (List ℕ)) Refusal
name_on line (Ok name) = Ok name
name_on line (Err fault) = Err (Line line (word.Name fault))

-- a question of a name and the items of its type
abbrev pub typed_question : ℕ → List (List ℕ) → List ItemText → Result QuestionOf Refusal
typed_question line name [] = Ok (question name address (Kept types.A))
typed_question line name (kind ∷ []) =
    unquoted line word.Type kind >>= λ raw. or_refused (query_type_of raw) (Line line word.Type) >>= λ t. Ok (question name raw t)
typed_question line name items = Err (Line line word.Question)

-- the question of the items of a line: a name, and a type or none
abbrev pub question_of : ℕ → List ItemText → Result QuestionOf Refusal
question_of line [] = Err (Line line word.Question)
question_of line (owner ∷ kinds) = unquoted line word.Question owner >>= λ raw. name_on line (absolute_name raw) >>= λ name. typed_question line name kinds

-- the questions of lines, or the refusal of the first that is not one
abbrev pub questions_in : List EntryLine → Result (List QuestionOf) Refusal
questions_in [] = Ok []
questions_in (e ∷ es) = question_of e.line e.items >>= λ q. questions_in es >>= λ qs. Ok (q ∷ qs)

-- the questions of a text: an entry of a master file (RFC 1035 section 5.1) for each
abbrev pub questions_of : List ℕ → Result (List QuestionOf) Refusal
questions_of text = of_masters (tokens_of text) >>= λ ts. questions_in (gathered ts)

abbrev pub inquiry_in : TextForm → List (List ℕ) → List ℕ → Result InquiryOf Refusal
inquiry_in form origin text = questions_of text >>= λ qs. Ok (record { origin = origin; form = form; questions = qs })
