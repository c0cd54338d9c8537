-- The zones of a list: one a line, by the origin that is the first word of the line.
use Rattle.std.specs.Prelude.{◌≡◌, ℕ, ◌+◌, ◌==◌, List, [], ◌∷◌, ◌++◌, length, map, Bool, false, ◌||◌, not, bytes_eq, codes, if◌then◌else◌, Option, Some, None, Result, Ok}
use Rattle.std.specs.List.{All, AllByRecursion, find, flat_map}
use Rattle.std.specs.Option.{option_to_list}
use Rattle.dns_names.specs.Labels.{IsName}
use Rattle.dns_names.specs.Reading.{absolute_name}
use Rattle.dns_names.specs.Spelling.{name_text}
use Rattle.policy_tools.specs.ExpectationLines.{lines_of}
use Rattle.policy_tools.specs.ExpectationReading.{parts_of, is_comment}
use Rattle.cli_core.specs.declared.refusal.Refusal.{Refusal}
use Rattle.cli_core.specs.LineFaults.{◌>>=◌}
use Rattle.cli_text.specs.Questions.{name_on}

-- the first word of a line: the first part between its blanks that is not empty
abbrev pub first_word : List ℕ → Option (List ℕ)
first_word line = find (λ part. not (length part == 0)) (parts_of line)

-- the word of the line that `zones` prints of receipts of no zone
abbrev pub elsewhere : List ℕ
elsewhere = codes "elsewhere"

-- a word that is no origin: it begins a comment, or is `elsewhere`
abbrev pub is_passed_over : List ℕ → Bool
is_passed_over word = is_comment word || bytes_eq word elsewhere

-- the origin of the line of this number whose first word is this, if it has one
abbrev pub origin_on : ℕ → Option (List ℕ) → Result (Option (List (List ℕ))) Refusal
origin_on line None = Ok None
origin_on line (Some word) = if is_passed_over word then Ok None else (name_on line (absolute_name word) >>= λ origin. Ok (Some origin))

-- the origins of lines, from this number on, or the refusal of the first word that is no absolute name
abbrev pub origins_from : ℕ → List (List ℕ) → Result (List (List (List ℕ))) Refusal
origins_from number [] = Ok []
origins_from number (line ∷ lines) =
    origin_on number (first_word line) >>= λ origin. origins_from (number + 1) lines >>= λ origins. Ok (option_to_list origin ++ origins)

-- the origins of a text, in the order of its lines
abbrev pub origins_of : List ℕ → Result (List (List (List ℕ))) Refusal
origins_of text = origins_from 1 (lines_of text)

-- ---- what `zones` prints

-- a zone, and what is told of it
pub record ListedZone : Type 0 where
  pub origin : List (List ℕ)
  pub figures : List ℕ

-- the line of a zone
abbrev pub listed_line : ListedZone → List ℕ
listed_line z = name_text z.origin ++ 32 ∷ (z.figures ++ 10 ∷ [])

-- the line of receipts of no zone, if there are some
abbrev pub listed_end : Option (List ℕ) → List ℕ
listed_end None = []
listed_end (Some figures) = elsewhere ++ 32 ∷ (figures ++ 10 ∷ [])

abbrev pub IsOneLine : List ℕ → Type 0
IsOneLine text = All (λ o. (o == 10) ≡ false) text

abbrev pub EndIsOneLine : Option (List ℕ) → Type 0
EndIsOneLine None = Unit {0}
EndIsOneLine (Some figures) = IsOneLine figures

-- a zone whose origin is not printed with a `#` at its beginning, which begins a comment
pub record IsListed (z : ListedZone) : Type 0 where
  pub valid : IsName z.origin
  pub plain : is_comment (name_text z.origin) ≡ false
  pub line : IsOneLine z.figures

-- what `zones` prints of zones is read as their origins
abbrev pub ListsAreRead : Type 0
ListsAreRead =
    (zones : List ListedZone) (end : Option (List ℕ)) → AllByRecursion IsListed zones → EndIsOneLine end
    → origins_of (flat_map listed_line zones ++ listed_end end) ≡ Ok (map (λ z. z.origin) zones)
