-- JSON texts (RFC 8259), without white space.
use Rattle.std.specs.Prelude.{ℕ, List, [], ◌∷◌, ◌++◌, Bool, not, ◌&&◌, ◌||◌, ◌==◌, if◌then◌else◌}
use Rattle.std.specs.List.{flat_map, join_with_byte}

-- an octet that is not escaped
abbrev pub is_plain_octet : ℕ → Bool
is_plain_octet o = not (o == 34) && not (o == 92)

-- an octet of a string: a quote and a backslash have a backslash before them (RFC 8259 section 7)
abbrev pub escaped_octet : ℕ → List ℕ
escaped_octet o = if o == 34 || o == 92 then 92 ∷ o ∷ [] else o ∷ []

-- the octets of a string
abbrev pub escaped : List ℕ → List ℕ
escaped text = flat_map escaped_octet text

-- a string (RFC 8259 section 7)
abbrev pub quoted : List ℕ → List ℕ
quoted text = 34 ∷ escaped text ++ 34 ∷ []

-- texts with a comma between each two
abbrev pub listed : List (List ℕ) → List ℕ
listed texts = join_with_byte 44 texts

-- an array of texts of values (RFC 8259 section 5)
abbrev pub array : List (List ℕ) → List ℕ
array values = 91 ∷ listed values ++ 93 ∷ []

-- a member of an object: its key, and the text of its value (RFC 8259 section 4)
abbrev pub member : List ℕ → List ℕ → List ℕ
member key value = quoted key ++ 58 ∷ value

-- an object of members (RFC 8259 section 4)
abbrev pub object : List (List ℕ) → List ℕ
object members = 123 ∷ listed members ++ 125 ∷ []
