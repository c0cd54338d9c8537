-- What holds of the table, and of the rows of a number.
use Rattle.std.specs.Prelude.{◌≡◌, ℕ, Bool, true, ◌&&◌, not, List, [], ◌∷◌, map, Some, bytes_eq, nat_lt}
use Rattle.std.specs.List.{join_with_byte, list_all, list_any}
use Rattle.refusals.specs.Tables.{RowOf, rows}
use Rattle.refusals.specs.Numbers.{explained}

abbrev pub numbers : List RowOf → List (List ℕ)
numbers found = map (λ row. row.number) found

-- the rows of a number are those of its parts: joined by dots they give it back
abbrev pub RowsAreOfTheirNumber : Type 0
RowsAreOfTheirNumber = (number : List ℕ) (found : List RowOf) → explained number ≡ Some found → join_with_byte 46 (numbers found) ≡ number

-- no text is there twice
abbrev pub are_apart : List (List ℕ) → Bool
are_apart [] = true
are_apart (text ∷ texts) = not (list_any (bytes_eq text) texts) && are_apart texts

-- each number has one row
abbrev pub NumbersAreApart : Type 0
NumbersAreApart = are_apart (numbers rows) ≡ true

-- a printable octet of ASCII, and one that JSON needs no escape for (RFC 8259 section 7)
abbrev pub is_plain : ℕ → Bool
is_plain c = nat_lt 31 c && nat_lt c 127 && not (nat_lt 33 c && nat_lt c 35) && not (nat_lt 91 c && nat_lt c 93)

abbrev pub row_is_plain : RowOf → Bool
row_is_plain row = list_all is_plain row.number && list_all is_plain row.name && list_all is_plain row.meaning
    && list_all is_plain row.advice && list_all is_plain row.source

-- no text of the table that is printed as JSON needs an escape
abbrev pub TextsArePlain : Type 0
TextsArePlain = list_all row_is_plain rows ≡ true
