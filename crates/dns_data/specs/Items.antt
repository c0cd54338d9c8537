-- Items of a master file (RFC 1035 section 5.1).
use Rattle.std.specs.Prelude.{◌≡◌, ℕ, List, [], ◌∷◌, ◌++◌, Bool, true, false, not, ◌&&◌, bytes_eq, if◌then◌else◌}
use Rattle.dns_data.specs.declared.item.Item.{Item}

-- the octets of an item, with escapes unread and without the quotes, and whether it stood in quotes
pub record ItemText : Type 0 where
  pub raw : List ℕ
  pub quoted : Bool

abbrev pub item_of : Item → ItemText
item_of item = record { raw = item.raw.now; quoted = item.quoted }

abbrev pub plain : List ℕ → ItemText
plain raw = record { raw = raw; quoted = false }

abbrev pub in_quotes : List ℕ → ItemText
in_quotes raw = record { raw = raw; quoted = true }

-- ---- the generic form of record data (RFC 3597 section 5)

-- `\#`, not quoted, which comes first in it
abbrev pub generic_mark : ItemText
generic_mark = plain (92 ∷ 35 ∷ [])

abbrev pub IsGeneric : List ItemText → Type 0
IsGeneric items = (rest : List ItemText) × (items ≡ generic_mark ∷ rest)

abbrev pub is_generic : List ItemText → Bool
is_generic [] = false
is_generic (item ∷ items) = not item.quoted && bytes_eq item.raw generic_mark.raw

-- ---- texts of items

-- an item as it stands in a file
abbrev pub item_text : ItemText → List ℕ
item_text item = if item.quoted then 34 ∷ item.raw ++ 34 ∷ [] else item.raw

-- items with one space between them
abbrev pub items_text : List ItemText → List ℕ
items_text [] = []
items_text (item ∷ []) = item_text item
items_text (item ∷ next ∷ items) = item_text item ++ 32 ∷ items_text (next ∷ items)
