-- The key of a name: a row of octets in whose order names are in canonical order, and which begins the keys of all names
-- within it.
use Rattle.std.specs.Prelude.{◌≡◌, ℕ, ◌-◌, List, [], ◌∷◌, ◌++◌, length, drop, reverse, ◌==◌, nat_le, if◌then◌else◌, Option, Some, None, IsTrue, IfSome, ◌↔◌}
use Rattle.std.specs.List.{flat_map}
use Rattle.std.specs.Ordering.{nat_cmp, is_le, is_lt}
use Rattle.std.specs.Cmp.Lexicographic.{slice_cmp}
use Rattle.dns_names.specs.Labels.{IsWithin}
use Rattle.dns_names.specs.Order.{canonical_cmp}

-- an octet by itself, but 0 as 1 1 and 1 as 1 2, so that 0 is free to end a label, and comes before all that goes on
abbrev pub key_octet : ℕ → List ℕ
key_octet o = if o == 0 then 1 ∷ 1 ∷ [] else (if o == 1 then 1 ∷ 2 ∷ [] else o ∷ [])

-- a label's octets, before what ends it
abbrev pub label_front : List ℕ → List ℕ
label_front label = flat_map key_octet label

-- a label's octets, and then 0
abbrev pub label_key : List ℕ → List ℕ
label_key label = label_front label ++ 0 ∷ []

-- the labels from the right to the left, as the canonical order compares them
abbrev pub key_of : List (List ℕ) → List ℕ
key_of name = flat_map label_key (reverse name)

-- the first key after those of the names within a name: the name's own with its last octet 0 made 1; none after the root's
abbrev pub key_end : List (List ℕ) → Option (List ℕ)
key_end [] = None
key_end (label ∷ labels) = Some (key_of labels ++ (label_front label ++ 1 ∷ []))

-- a key stands at the first or after it, and before the end
abbrev pub IsInRange : List ℕ → Option (List ℕ) → List ℕ → Type 0
IsInRange first end key =
    IsTrue (is_le (slice_cmp nat_cmp first key)) × IfSome end (λ behind. IsTrue (is_lt (slice_cmp nat_cmp key behind)))

-- a key begins with another
abbrev pub BeginsWith : List ℕ → List ℕ → Type 0
BeginsWith key front = (rest : List ℕ) × (key ≡ front ++ rest)

-- the key of a name's last labels, so many of them
abbrev pub ancestor_key : List (List ℕ) → ℕ → Option (List ℕ)
ancestor_key name n = if nat_le n (length name) then Some (key_of (drop (length name - n) name)) else None

-- ---- what keys say of names

-- the order of keys is the canonical order
abbrev pub OrdersNames : List (List ℕ) → Type 0
OrdersNames name = (other : List (List ℕ)) → slice_cmp nat_cmp (key_of name) (key_of other) ≡ canonical_cmp name other

-- a key is the key of one name only
abbrev pub IsKeyOfOne : List (List ℕ) → Type 0
IsKeyOfOne name = (other : List (List ℕ)) → key_of other ≡ key_of name → other ≡ name

-- a name is within another exactly where its key lies in the other's range
abbrev pub RangesOver : List (List ℕ) → Type 0
RangesOver top = (name : List (List ℕ)) → IsWithin name top ↔ IsInRange (key_of top) (key_end top) (key_of name)

-- and exactly where the other's key begins it
abbrev pub BeginsAll : List (List ℕ) → Type 0
BeginsAll top = (name : List (List ℕ)) → IsWithin name top ↔ BeginsWith (key_of name) (key_of top)

-- the key of an ancestor begins that of the name
abbrev pub BeginsAtAncestor : List (List ℕ) → ℕ → Type 0
BeginsAtAncestor name n = IfSome (ancestor_key name n) (BeginsWith (key_of name))
