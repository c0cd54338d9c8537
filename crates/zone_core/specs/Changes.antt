-- Changes of a set of records: some go out of it, and others come.
use Rattle.std.specs.Prelude.{◌≡◌, ◌↔◌, ◌==◌, ◌&&◌, List, ◌++◌, length, Bool, true, None}
use Rattle.std.specs.List.{AllByRecursion, list_any}
use Rattle.std.specs.FinMap.{get, entries, from_entries}
use Rattle.dns_data.specs.declared.record.Record.{Record}
use Rattle.zone_core.specs.declared.change.Change.{Change}
use Rattle.zone_core.specs.Sets.{Records, key_of, same_key, keyed, listing, cut, minus, is_same, InOrder, IsIn}
use Rattle.zone_core.specs.Zones.{AreKept}

-- a change: the records that go and those that come, with their TTLs, each side in record order
pub record ChangeOf : Type 0 where
  pub removed : List Record
  pub added : List Record

-- what the program sees of a change
abbrev pub change_in : Change → ChangeOf
change_in c = record { removed = c.removed.items; added = c.added.items }

-- the change from one set to another: what only the one has, or has with another TTL, goes, and what the other has so comes
abbrev pub change_between : Records → Records → ChangeOf
change_between before after = record { removed = listing (minus before after); added = listing (minus after before) }

-- whether a change has no record
abbrev pub is_empty : ChangeOf → Bool
is_empty c = (length c.removed == 0) && (length c.added == 0)

-- the set without these records
abbrev pub without : Records → List Record → Records
without set rs = cut set (λ k. list_any (λ r. same_key (key_of r) k) rs)

-- the set without some records, and with others
abbrev pub changed : Records → List Record → List Record → Records
changed set removed added = from_entries (keyed added ++ entries (without set removed))

-- a change fits a set: the records that go are in it, and in the place of those that come nothing is left
pub record FitsIn (set : Records) (removed added : List Record) : Type 0 where
  pub removed_order : InOrder removed
  pub added_order : InOrder added
  pub there : AllByRecursion (λ r. IsIn r set) removed
  pub free : AllByRecursion (λ r. get (without set removed) (key_of r) ≡ None) added

-- what two sets differ in, made to the one, gives the other
abbrev pub ChangesMake : Type 0
ChangesMake =
    (a b : Records) → AreKept a → AreKept b
    → FitsIn a (listing (minus a b)) (listing (minus b a)) × (changed a (listing (minus a b)) (listing (minus b a)) ≡ b)

-- sets have the same records with the same TTLs exactly where they are one
abbrev pub SameSetsAreOne : Type 0
SameSetsAreOne = (a b : Records) → AreKept a → AreKept b → (is_same a b ≡ true) ↔ (a ≡ b)
