-- Prefixes of the keys of names, after the octets that all keys share.
use Rattle.std.specs.Prelude.{◌≡◌, ℕ, zero, suc, List, [], ◌∷◌, ◌++◌, length, drop}
use Rattle.std.specs.Int.{from_be_bytes, w64}
use Rattle.std.specs.List.{AllByRecursion}
use Rattle.std.specs.declared.cmp.Ordering.{Ordering}
use Rattle.std.specs.Ordering.{nat_cmp, ordering_then}
use Rattle.dns_names.specs.Keys.{key_of}
use Rattle.dns_data.specs.declared.record.Record.{Record}
use Rattle.zone_core.specs.declared.sorting.KeyPrefix.{KeyPrefix}

-- so many octets of a row, with zeros for those that it lacks
abbrev pub front : ℕ → List ℕ → List ℕ
front zero octets = []
front (suc n) [] = 0 ∷ front n []
front (suc n) (o ∷ octets) = o ∷ front n octets

-- the first eight octets as the number that they are written as
unfoldable pub written : List ℕ → ℕ
written octets = from_be_bytes w64 (front 8 octets)

-- the first eight octets of a name's key after the shared ones, and the eight after them
abbrev pub prefix_behind : ℕ → List (List ℕ) → KeyPrefix
prefix_behind shared name = record { high = written (drop shared (key_of name)); low = written (drop 8 (drop shared (key_of name))) }

-- the prefix of no record
abbrev pub no_prefix : KeyPrefix
no_prefix = record { high = 0; low = 0 }

-- the order of prefixes: by the first number, and then by the second
abbrev pub prefix_order : KeyPrefix → KeyPrefix → Ordering
prefix_order h k = ordering_then (nat_cmp h.high k.high) (nat_cmp h.low k.low)

-- the keys of all owners begin with the same octets, which are so many
abbrev pub ShareOctets : ℕ → List Record → Type 0
ShareOctets shared rs = (begin : List ℕ) × (length begin ≡ shared) × AllByRecursion (λ r. (behind : List ℕ) × (key_of r.owner ≡ begin ++ behind)) rs
