-- Lines of items, some of which stand directly after the one before (RFC 9460 section 2.1).
use Rattle.std.specs.Prelude.{ℕ, List, [], ◌∷◌, ◌++◌, map, Bool, true, false, not, ◌&&◌}
use Rattle.dns_data.specs.Items.{ItemText, item_text}
use Rattle.dns_master.specs.OtherTypes.{ends_with_equals}

-- an item, and whether it stands directly after the one before
pub record Flagged : Type 0 where
  pub joined : Bool
  pub item : ItemText

-- the first item of a line, and the others
pub record Line : Type 0 where
  pub first : ItemText
  pub others : List Flagged

-- an item with a space before it
abbrev pub apart : ItemText → Flagged
apart item = record { joined = false; item = item }

abbrev pub item_in : Flagged → ItemText
item_in f = f.item

abbrev pub line_items : Line → List ItemText
line_items line = line.first ∷ map item_in line.others

-- a space before a text, unless it stands directly after the one before
abbrev pub gap : Bool → List ℕ → List ℕ
gap true text = text
gap false text = 32 ∷ text

-- items after the first, and a line end
abbrev pub flagged_text : List Flagged → List ℕ
flagged_text [] = 10 ∷ []
flagged_text (f ∷ fs) = gap f.joined (item_text f.item ++ flagged_text fs)

abbrev pub joined_line : Line → List ℕ
joined_line line = item_text line.first ++ flagged_text line.others

-- whether an item is a key of data that have keys, whose value is to come: it ends with `=`
abbrev pub is_key : Bool → ItemText → Bool
is_key keys item = keys && not item.quoted && ends_with_equals item.raw

-- items after a key or not: a value in quotes stands directly after its key
abbrev pub flagged : Bool → Bool → List ItemText → List Flagged
flagged keys after [] = []
flagged keys after (item ∷ items) = (record { joined = item.quoted && after; item = item }) ∷ flagged keys (is_key keys item) items
