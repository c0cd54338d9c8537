-- How a name stands in memory, and what is kept of a text while it is cut into labels.
use Rattle.std.specs.Prelude.{◌≡◌, ◌≤◌, ◌⊎◌, ℕ, ◌+◌, ◌-◌, List, [], ◌∷◌, ◌++◌, length, take, drop, map, reverse, min, false, ◌==◌, if◌then◌else◌, Option, Some, None, Result, Ok, Err}
use Rattle.std.specs.List.{concat, flat_map, list_any}
use Rattle.dns_names.specs.declared.name_fault.NameFault.{NameFault}
use Rattle.dns_names.specs.declared.pieces.PieceRows.{PieceRows}
use Rattle.dns_names.specs.Faults.{Refuses}
use Rattle.dns_names.specs.Labels.{IsName, wire_len}
use Rattle.dns_names.specs.Keys.{key_of}
use Rattle.dns_names.specs.Reading.{Pieces, is_empty, is_long}

-- ---- names

-- a label's octets, and then 0
abbrev pub row_label : List ℕ → List ℕ
row_label label = label ++ 0 ∷ []

-- a name's labels from the right to the left: the key, but for its escapes
abbrev pub row_of : List (List ℕ) → List ℕ
row_of name = flat_map row_label (reverse name)

-- the labels that a row has, when it is cut from its end into pieces of these lengths and one octet more
abbrev pub labels_in : List ℕ → List ℕ → List (List ℕ)
labels_in [] row = []
labels_in (len ∷ lengths) row = take len (drop (length row - (len + 1)) row) ∷ labels_in lengths (take (length row - (len + 1)) row)

-- of a name whose row is its key: how many labels there are, their lengths, and the key
abbrev pub plain_rows : List (List ℕ) → List ℕ
plain_rows name = length name ∷ (map length name ++ key_of name)

-- of any other, after a 255: how many labels there are, how long the row is, the labels' lengths, the row, and the key
abbrev pub escaped_rows : List (List ℕ) → List ℕ
escaped_rows name = length name ∷ length (row_of name) ∷ (map length name ++ (row_of name ++ key_of name))

-- the name that stands after a 255
abbrev pub escaped_in : List ℕ → List (List ℕ)
escaped_in [] = []
escaped_in (count ∷ []) = []
escaped_in (count ∷ total ∷ rows) = labels_in (take count rows) (take total (drop count rows))

-- the name that stands in memory
abbrev pub name_in : List ℕ → List (List ℕ)
name_in [] = []
name_in (count ∷ rows) = if count == 255 then escaped_in rows else labels_in (take count rows) (drop count rows)

-- memory that holds a name after a 255
abbrev pub AreEscaped : List ℕ → Type 0
AreEscaped rows = rows ≡ escaped_rows (escaped_in rows)

-- a name without an octet 0 or 1, whose key has no escapes
abbrev pub IsPlain : List (List ℕ) → Type 0
IsPlain name = row_of name ≡ key_of name

-- memory that holds a name, as each of that name does
pub record AreRows (memory : List ℕ) : Type 0 where
  pub name : IsName (name_in memory)
  pub whole : (memory ≡ 255 ∷ escaped_rows (name_in memory)) ⊎ ((memory ≡ plain_rows (name_in memory)) × IsPlain (name_in memory))

-- the lengths of a name's labels, its row, and its key
pub record AreRowsOf (name : List (List ℕ)) (lengths row key : List ℕ) : Type 0 where
  pub lengths_are : lengths ≡ map length name
  pub row_is : row ≡ row_of name
  pub key_is : key ≡ key_of name

-- what stands after the first octet 0 of a key, which ends the key of a label
abbrev pub behind_label : List ℕ → Option (List ℕ)
behind_label [] = None
behind_label (octet ∷ rest) = if octet == 0 then Some rest else behind_label rest

-- ---- texts

-- the length of a label, as far as an octet holds it
abbrev pub kept_len : List ℕ → ℕ
kept_len label = min (length label) 255

-- What is kept of pieces: their octets and lengths as far as a name has room for them, how many there are of each, and
-- whether a label is empty or too long.
pub record AreKept (rows : PieceRows) (given : Pieces) : Type 0 where
  pub octets : take (min rows.total 254) rows.octets ≡ take 254 (concat given.ended ++ given.last)
  pub octets_room : length rows.octets ≡ 254
  pub lengths : take (min rows.ended 127) rows.lengths ≡ take 127 (map kept_len given.ended)
  pub lengths_room : length rows.lengths ≡ 127
  pub total : rows.total ≡ length (concat given.ended ++ given.last)
  pub ended : rows.ended ≡ length given.ended
  pub last : rows.last ≡ length given.last
  pub has_empty : rows.has_empty ≡ list_any is_empty given.ended
  pub has_long : rows.has_long ≡ list_any is_long given.ended

-- rows keep the pieces that a definition reads, or the refusal is the definition's
abbrev pub Keeps : PieceRows → Result (Unit {0}) NameFault → Result Pieces NameFault → Type 0
Keeps rows (Ok done) read = (given : Pieces) × (read ≡ Ok given) × AreKept rows given
Keeps rows (Err fault) read = Refuses fault read

-- one octet more after the last dot
abbrev pub with_octet : Pieces → ℕ → Pieces
with_octet given octet = record { ended = given.ended; last = given.last ++ octet ∷ [] }

-- one dot more
abbrev pub with_dot : Pieces → Pieces
with_dot given = record { ended = given.ended ++ given.last ∷ []; last = [] }

-- no label that a dot ends is empty or too long, and nothing stands after the last dot
pub record AreEnded (given : Pieces) : Type 0 where
  pub some : list_any is_empty given.ended ≡ false
  pub short : list_any is_long given.ended ≡ false
  pub none : given.last ≡ []

-- and with the labels of another name they make one, where they fit
abbrev pub ArePlaced : PieceRows → List (List ℕ) → Type 0
ArePlaced rows tail =
    (given : Pieces) × AreKept rows given × AreEnded given × (wire_len (given.ended ++ tail) ≤ 255 → IsName (given.ended ++ tail))
