-- How a name is spelled in a master file (RFC 1035 section 5.1), and which of its spellings is printed.
use Rattle.std.specs.Prelude.{◌≡◌, ◌≢◌, ℕ, ◌+◌, ◌-◌, ◌/◌, ◌%◌, ◌<◌, ◌⊎◌, List, [], ◌∷◌, ◌++◌, length, take, Bool, false, ◌||◌, ◌&&◌, ◌==◌, nat_le, not, if◌then◌else◌}
use Rattle.std.specs.List.{flat_map}
use Rattle.std.specs.Char.{to_ascii_lowercase, is_ascii_digit}
use Rattle.dns_names.specs.Labels.{is_within}

-- the three decimal digits of a number below 1000
abbrev pub three_digits : ℕ → List ℕ
three_digits n = (48 + n / 100) ∷ (48 + n / 10 % 10) ∷ (48 + n % 10) ∷ []

-- An octet is spelled by itself (but not `.` or `\`), by `\X` with X no digit, or by `\DDD`, its number.
abbrev pub SpellsOctet : ℕ → List ℕ → Type 0
SpellsOctet octet text =
    ((octet ≢ 46) × (octet ≢ 92) × (text ≡ octet ∷ []))
    ⊎ (((is_ascii_digit octet ≡ false) × (text ≡ 92 ∷ octet ∷ []))
    ⊎ ((octet < 256) × (text ≡ 92 ∷ three_digits octet)))

-- Letters are folded after the escapes are read (RFC 4343 section 3).
abbrev pub SpellsFolded : ℕ → List ℕ → Type 0
SpellsFolded octet text = (raw : ℕ) × (raw < 256) × (to_ascii_lowercase raw ≡ octet) × SpellsOctet raw text

-- a label by its octets in turn
abbrev pub SpellsLabel : List ℕ → List ℕ → Type 0
SpellsLabel [] text = text ≡ []
SpellsLabel (octet ∷ octets) text =
    (front rest : List ℕ) × (text ≡ front ++ rest) × SpellsFolded octet front × SpellsLabel octets rest

-- labels, each with a dot after it
abbrev pub SpellsLabels : List (List ℕ) → List ℕ → Type 0
SpellsLabels [] text = text ≡ []
SpellsLabels (label ∷ labels) text =
    (front rest : List ℕ) × (text ≡ front ++ 46 ∷ rest) × SpellsLabel label front × SpellsLabels labels rest

-- a name by its labels, each with a dot after it, and the root by a dot
abbrev pub SpellsAbsolute : List (List ℕ) → List ℕ → Type 0
SpellsAbsolute [] text = text ≡ 46 ∷ []
SpellsAbsolute (label ∷ labels) text = SpellsLabels (label ∷ labels) text

-- Relative to an origin: an absolute spelling; `@` alone, for the origin; or labels without the last dot, which stand
-- before the origin's.
abbrev pub SpellsRelative : List (List ℕ) → List (List ℕ) → List ℕ → Type 0
SpellsRelative origin name text =
    SpellsAbsolute name text
    ⊎ (((text ≡ 64 ∷ []) × (name ≡ origin))
    ⊎ ((labels : List (List ℕ)) × (text ≢ 64 ∷ []) × (labels ≢ []) × (name ≡ labels ++ origin)
    × SpellsLabels labels (text ++ 46 ∷ [])))

-- `.` `\` `"` `(` `)` `;` `@` `$`, which mean something in a master file
abbrev pub is_special : ℕ → Bool
is_special o = o == 46 || o == 92 || o == 34 || o == 40 || o == 41 || o == 59 || o == 64 || o == 36

-- an octet that is printed as it stands
abbrev pub is_plain : ℕ → Bool
is_plain o = nat_le 33 o && nat_le o 126 && not (is_special o)

-- the one spelling of an octet that is printed
abbrev pub octet_text : ℕ → List ℕ
octet_text o = if is_special o then 92 ∷ o ∷ [] else (if nat_le 33 o && nat_le o 126 then o ∷ [] else 92 ∷ three_digits o)

-- the octets of a label, each in its one spelling
abbrev pub label_octets : List ℕ → List ℕ
label_octets label = flat_map octet_text label

abbrev pub label_text : List ℕ → List ℕ
label_text label = label_octets label ++ 46 ∷ []

-- the one spelling of a name that is printed
abbrev pub name_text : List (List ℕ) → List ℕ
name_text [] = 46 ∷ []
name_text (label ∷ labels) = flat_map label_text (label ∷ labels)

-- ---- relative to an origin

abbrev pub dotted_label : List ℕ → List ℕ
dotted_label label = 46 ∷ label_octets label

-- labels with a dot between them, and `@` for no labels
abbrev pub dotted_text : List (List ℕ) → List ℕ
dotted_text [] = 64 ∷ []
dotted_text (label ∷ labels) = label_octets label ++ flat_map dotted_label labels

-- the labels of a name before the last ones, which are as many as an origin's
abbrev pub labels_before : List (List ℕ) → List (List ℕ) → List (List ℕ)
labels_before origin name = take (length name - length origin) name

-- A name as it is printed relative to an origin: by the labels before the origin's, and whole where it is not within.
abbrev pub relative_text : List (List ℕ) → List (List ℕ) → List ℕ
relative_text origin name = if is_within name origin then dotted_text (labels_before origin name) else name_text name
