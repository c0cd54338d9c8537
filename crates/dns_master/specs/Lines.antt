-- Lines of a text, which a line feed ends each (RFC 1035 section 5.1).
use Rattle.std.specs.Prelude.{◌≡◌, ℕ, suc, ◌≤◌, List, [], ◌∷◌, length, take, ◌==◌, if◌then◌else◌}
use Rattle.dns_master.specs.declared.line.Mark.{Mark}

-- how many line ends a text has
abbrev pub line_ends : List ℕ → ℕ
line_ends [] = 0
line_ends (o ∷ rest) = if o == 10 then suc (line_ends rest) else line_ends rest

-- the line on which a place stands, the first being 1
abbrev pub line_at : List ℕ → ℕ → ℕ
line_at text start = suc (line_ends (take start text))

-- a place of a text and its line
pub record Marks (text : List ℕ) (mark : Mark) : Type 0 where
  pub within : mark.at ≤ length text
  pub line : mark.line ≡ line_at text mark.at
