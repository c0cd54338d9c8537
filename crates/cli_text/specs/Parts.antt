-- The two parts of an input of `apply`: a master file and items, and between them the first line that is `--`.
use Rattle.std.specs.Prelude.{◌≡◌, ◌⊎◌, ℕ, List, [], ◌∷◌, ◌++◌, Bool, ◌||◌, ◌==◌, codes, if◌then◌else◌, Option, Some, None}
use Rattle.std.specs.List.{concat}
use Rattle.std.specs.Option.{option_map}
use Rattle.std.specs.Str.{bytes_eq}

-- what stands before the divider, the divider with its line end, and what stands after it
pub record Parts : Type 0 where
  pub file : List ℕ
  pub divider : List ℕ
  pub items : List ℕ

-- ---- in words of lists

-- a text of lines: none, or one that ends in a line end
abbrev pub EndsLine : List ℕ → Type 0
EndsLine text = (text ≡ []) ⊎ ((front : List ℕ) × (text ≡ front ++ 10 ∷ []))

-- a line `--`, of which a carriage return after it does not count
abbrev pub IsMark : List ℕ → Type 0
IsMark mark = (mark ≡ codes "--") ⊎ (mark ≡ codes "--" ++ 13 ∷ [])

-- a line `--` with its end; before nothing it may have none
abbrev pub IsDivider : List ℕ → List ℕ → Type 0
IsDivider line behind = (mark : List ℕ) × IsMark mark × ((line ≡ mark ++ 10 ∷ []) ⊎ ((line ≡ mark) × (behind ≡ [])))

-- the parts of a text that has a divider: its first line that is one stands between them
pub record IsDivided (text : List ℕ) (parts : Parts) : Type 0 where
  pub whole : text ≡ parts.file ++ (parts.divider ++ parts.items)
  pub lines : EndsLine parts.file
  pub divider : IsDivider parts.divider parts.items
  pub first : (front line behind : List ℕ) → parts.file ≡ front ++ (line ++ behind) → EndsLine front → IsDivider line behind → ⊥

-- ---- as they are found

-- an octet before the first of lines
abbrev pub onto : ℕ → List (List ℕ) → List (List ℕ)
onto o [] = (o ∷ []) ∷ []
onto o (line ∷ lines) = (o ∷ line) ∷ lines

-- the lines of a text, each with the line feed that ends it, which only the last may lack
abbrev pub lines_of : List ℕ → List (List ℕ)
lines_of [] = []
lines_of (o ∷ rest) = if o == 10 then (o ∷ []) ∷ lines_of rest else onto o (lines_of rest)

-- whether a line is `--`, without its end or with one
abbrev pub is_divider : List ℕ → Bool
is_divider line =
    bytes_eq line (codes "--" ++ 10 ∷ []) || bytes_eq line (codes "--" ++ 13 ∷ 10 ∷ [])
    || bytes_eq line (codes "--") || bytes_eq line (codes "--" ++ 13 ∷ [])

-- parts with a line before them
abbrev pub with_line : List ℕ → Parts → Parts
with_line line parts = record parts { file = line ++ parts.file }

-- what stands before the first of lines that is a divider, that line, and what stands after it
abbrev pub parts_of : List (List ℕ) → Option Parts
parts_of [] = None
parts_of (line ∷ lines) =
    if is_divider line then Some (record { file = []; divider = line; items = concat lines }) else option_map (with_line line) (parts_of lines)

-- the parts of a text, where it has a divider
abbrev pub divided : List ℕ → Option Parts
divided text = parts_of (lines_of text)
