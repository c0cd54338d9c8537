-- The fields of a head (RFC 9110 section 5), and numbers in their values.
use Rattle.std.specs.Prelude.{ℕ, List, [], ◌∷◌, map, Bool, true, false, nat_le, if◌then◌else◌, Option, Some, None, bytes_eq}
use Rattle.std.specs.Char.{to_ascii_lowercase}
use Rattle.std.specs.Str.Parse.{digits_value}
use Rattle.dns_data.specs.Numbers.{is_number}
use Rattle.httparse.specs.Grammar.{RequestHead}
use Rattle.httparse.specs.Spans.{name_and_value}

-- two texts are the same but for the case of their letters
abbrev pub is_same_text : List ℕ → List ℕ → Bool
is_same_text a b = bytes_eq (map to_ascii_lowercase a) (map to_ascii_lowercase b)

-- the fields of a head: their names, and their values without the white space around them
abbrev pub fields_of : RequestHead → List (List ℕ × List ℕ)
fields_of h = map name_and_value h.fields

-- the values of the fields of a name, in their order; the name is read in either letter case (RFC 9110 section 5.1)
abbrev pub values_of : List ℕ → List (List ℕ × List ℕ) → List (List ℕ)
values_of name [] = []
values_of name (f ∷ fields) = if is_same_text f.0 name then f.1 ∷ values_of name fields else values_of name fields

-- whether there is any
abbrev pub is_any : List (List ℕ) → Bool
is_any [] = false
is_any (v ∷ vs) = true

-- the value, where there is exactly one
abbrev pub only : List (List ℕ) → Option (List ℕ)
only [] = None
only (v ∷ []) = Some v
only (v ∷ w ∷ vs) = None

-- ---- numbers

-- the number of digits, where it is at most so large
abbrev pub number_up_to : ℕ → List ℕ → Option ℕ
number_up_to most digits = if nat_le (digits_value 10 digits) most then Some (digits_value 10 digits) else None

-- the number that a text is, where it is at most so large
abbrev pub number_of : ℕ → List ℕ → Option ℕ
number_of most text = if is_number text then number_up_to most text else None
