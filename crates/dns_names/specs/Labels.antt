-- A domain name is a list of labels, leftmost first, and a label is a list of octets (RFC 1034 section 3.1).
use Rattle.std.specs.Prelude.{◌≡◌, ◌≢◌, ℕ, ◌+◌, ◌<◌, ◌≤◌, List, [], ◌∷◌, ◌++◌, length, sum, take, drop, Bool, Option, Some, None, nat_eq}
use Rattle.std.specs.List.{AllByRecursion, ends_with}
use Rattle.std.specs.Char.{to_ascii_lowercase}
use lib.Pointwise.{pointwise}

-- an octet as a name holds it: with its letters A to Z folded to a to z (RFC 1035 section 2.3.3, RFC 4343 section 3)
pub record IsFolded (octet : ℕ) : Type 0 where
  pub below : octet < 256
  pub folded : to_ascii_lowercase octet ≡ octet

-- 1 to 63 octets (RFC 1035 section 2.3.4)
pub record IsLabel (label : List ℕ) : Type 0 where
  pub octets : AllByRecursion IsFolded label
  pub not_empty : 0 < length label
  pub short : length label ≤ 63

-- how many octets a name takes in a message: one before each label, and one for the root (RFC 1035 section 3.1)
abbrev pub wire_len : List (List ℕ) → ℕ
wire_len [] = 1
wire_len (label ∷ labels) = 1 + length label + wire_len labels

-- at most 255 octets (RFC 1035 section 2.3.4)
pub record IsName (name : List (List ℕ)) : Type 0 where
  pub labels : AllByRecursion IsLabel name
  pub short : wire_len name ≤ 255

-- a name is within another when it is some labels followed by the other's (RFC 1034 section 3.1, subdomain)
abbrev pub IsWithin : List (List ℕ) → List (List ℕ) → Type 0
IsWithin name top = (front : List (List ℕ)) × (name ≡ front ++ top)

-- within, and not the same name
abbrev pub IsBelow : List (List ℕ) → List (List ℕ) → Type 0
IsBelow name top = IsWithin name top × (name ≢ top)

-- whether a name ends with the labels of another
abbrev pub is_within : List (List ℕ) → List (List ℕ) → Bool
is_within name top = ends_with (pointwise nat_eq) name top

-- the name without its first label
abbrev pub parent_of : List (List ℕ) → Option (List (List ℕ))
parent_of [] = None
parent_of (label ∷ labels) = Some labels

-- the labels that a row of octets has, when it is cut into pieces of these lengths
abbrev pub labels_of : List ℕ → List ℕ → List (List ℕ)
labels_of [] octets = []
labels_of (length ∷ lengths) octets = take length octets ∷ labels_of lengths (drop length octets)

-- the lengths cut the whole row, and the labels make a name
pub record AreRows (lengths octets : List ℕ) : Type 0 where
  pub whole : sum lengths ≡ length octets
  pub name : IsName (labels_of lengths octets)
