-- The zones of a list with their files: a line `ORIGIN FILE` for each, of words with blanks between them. A line without words, and one
-- whose first word begins with `#` or `;`, has none.
use Rattle.std.specs.Prelude.{ℕ, ◌+◌, ◌==◌, List, [], ◌∷◌, ◌++◌, length, not, if◌then◌else◌, Option, Some, None, Result, Ok, Err}
use Rattle.std.specs.List.{filter}
use Rattle.std.specs.Option.{option_to_list}
use Rattle.std.specs.Str.{is_utf8}
use Rattle.dns_names.specs.Reading.{absolute_name}
use Rattle.policy_tools.specs.ExpectationLines.{lines_of}
use Rattle.policy_tools.specs.ExpectationReading.{parts_of, is_comment}
use Rattle.cli_core.specs.declared.word_fault.WordFault.TheVariants as word
use Rattle.cli_core.specs.declared.refusal.Refusal.{Refusal}
use Rattle.cli_core.specs.declared.refusal.Refusal.TheVariants.{Line}
use Rattle.cli_core.specs.LineFaults.{◌>>=◌, limited}
use Rattle.cli_text.specs.Questions.{name_on}
use Rattle.cli_store.specs.declared.zone_files.ZoneFile.{ZoneFile}

-- a zone of a list: its origin, as it is written and as a name, and the path of its file
pub record ZoneFileOf : Type 0 where
  pub word : List ℕ
  pub origin : List (List ℕ)
  pub path : List ℕ

abbrev pub zone_file_view : ZoneFile → ZoneFileOf
zone_file_view z = record { word = z.word.now; origin = z.origin; path = z.path.now }

-- the words of a line: the parts between its blanks that are not empty
abbrev pub words_on : List ℕ → List (List ℕ)
words_on line = filter (λ part. not (length part == 0)) (parts_of line)

-- a word that is a text in UTF-8 (RFC 3629)
abbrev pub text_on : ℕ → List ℕ → Result (List ℕ) Refusal
text_on line w = if is_utf8 w then Ok w else Err (Line line word.ZoneFile)

-- the zone of a word that is its origin and a word that is the path of its file
abbrev pub zone_file : ℕ → List ℕ → List ℕ → Result ZoneFileOf Refusal
zone_file line origin path =
    text_on line origin >>= λ w. text_on line path >>= λ p. name_on line (absolute_name w) >>= λ name. Ok (record { word = w; origin = name; path = p })

-- the zone of the words of the line of this number
abbrev pub zone_of_words : ℕ → List (List ℕ) → Result ZoneFileOf Refusal
zone_of_words line (origin ∷ path ∷ []) = zone_file line origin path
zone_of_words line words = Err (Line line word.ZoneFile)

-- the zone on a line of these words, if it has one
abbrev pub zone_on : ℕ → List (List ℕ) → Result (Option ZoneFileOf) Refusal
zone_on line [] = Ok None
zone_on line (first ∷ words) = if is_comment first then Ok None else (zone_of_words line (first ∷ words) >>= λ zone. Ok (Some zone))

-- the zones of lines, from this number on, or the refusal of the first line that is no such line
abbrev pub zones_from : ℕ → List (List ℕ) → Result (List ZoneFileOf) Refusal
zones_from number [] = Ok []
zones_from number (line ∷ lines) =
    zone_on number (words_on line) >>= λ zone. zones_from (number + 1) lines >>= λ zones. Ok (option_to_list zone ++ zones)

-- the zones of a text, in the order of its lines
abbrev pub zone_files_of : List ℕ → Result (List ZoneFileOf) Refusal
zone_files_of text = zones_from 1 (lines_of text)

-- the same of an input
abbrev pub zone_files_read : List ℕ → Result (List ZoneFileOf) Refusal
zone_files_read input = limited input >>= zone_files_of
