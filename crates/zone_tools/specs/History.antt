-- A zone before some of its changes, and which of them brought each of its records.
use Rattle.std.specs.Prelude.{◌≡◌, ◌↔◌, ℕ, ◌+◌, List, [], ◌∷◌, ◌++◌, length, Bool, true, false, ◌||◌, ◌⊎◌, if◌then◌else◌, Option, Some, None, option_map}
use Rattle.std.specs.List.{AllByRecursion, list_any}
use Rattle.std.specs.Option.{option_or}
use Rattle.std.specs.FinMap.{get}
use Rattle.dns_data.specs.declared.record.Record.{Record}
use Rattle.zone_core.specs.Sets.{Records, Key, key_of, same_key, set_of, IsIn}
use Rattle.zone_core.specs.Zones.{AreKept}
use Rattle.zone_core.specs.Changes.{ChangeOf, FitsIn, changed}

-- ---- the records before changes

-- a set before a change, from the set after it: without what came, and with what went
abbrev pub undone : ChangeOf → Records → Records
undone c set = changed set c.added c.removed

-- a set before some changes, the oldest first, from the set after them
abbrev pub before : List ChangeOf → Records → Records
before [] set = set
before (c ∷ cs) set = undone c (before cs set)

-- the changes, made in turn, lead from one set to another: each fits the set in which it is made
abbrev pub Leads : Records → List ChangeOf → Records → Type 0
Leads a [] b = AreKept a × (a ≡ b)
Leads a (c ∷ cs) b = AreKept a × FitsIn a c.removed c.added × Leads (changed a c.removed c.added) cs b

-- ---- which records those are

-- whether one of some records has a key
abbrev pub has_key : List Record → Key → Bool
has_key rs k = list_any (λ r. same_key (key_of r) k) rs

-- whether a change touches a key: a record that has it goes or comes
abbrev pub touches : ChangeOf → Key → Bool
touches c k = has_key c.removed k || has_key c.added k

-- none of some changes touches a key
abbrev pub AreApart : List ChangeOf → Key → Type 0
AreApart cs k = AllByRecursion (λ c. touches c k ≡ false) cs

-- the first of some changes that touches a record removes it, with its TTL
pub record IsRemovedFirst (cs : List ChangeOf) (r : Record) : Type 0 where
  pub earlier : List ChangeOf
  pub change : ChangeOf
  pub later : List ChangeOf
  pub are : cs ≡ earlier ++ change ∷ later
  pub apart : AreApart earlier (key_of r)
  pub removed : IsIn r (set_of change.removed)

-- A record was there before some changes: the first of them that touches it removed it, with its TTL; or none touches it, and it is
-- there after them.
abbrev pub WasThere : List ChangeOf → Records → Record → Type 0
WasThere cs set r = IsRemovedFirst cs r ⊎ (AreApart cs (key_of r) × IsIn r set)

-- ---- which change brought a record

-- the number, from 1, of the last of some changes that has a record of this key among those that come; None where none has
abbrev pub bringer : List ChangeOf → Key → Option ℕ
bringer [] k = None
bringer (c ∷ cs) k = option_or (option_map (λ n. n + 1) (bringer cs k)) (if has_key c.added k then Some 1 else None)

-- the change of this number brings a key, and none after it does
pub record IsBringer (cs : List ChangeOf) (k : Key) (n : ℕ) : Type 0 where
  pub earlier : List ChangeOf
  pub change : ChangeOf
  pub later : List ChangeOf
  pub are : cs ≡ earlier ++ change ∷ later
  pub number : n ≡ length earlier + 1
  pub brings : has_key change.added k ≡ true
  pub last : AllByRecursion (λ c. has_key c.added k ≡ false) later

-- ---- how they are found

-- what is found under a key in some rows; or else, unless it was touched, in a set
abbrev pub found_in : List Record → (Key → Bool) → Records → Key → Option Record
found_in rows touched set k = option_or (get (set_of rows) k) (if touched k then None else get set k)

-- ---- the laws

-- changes that lead from one set to another are undone: from the other they give back the one
abbrev pub ChangesAreUndone : Type 0
ChangesAreUndone = (a b : Records) (cs : List ChangeOf) → Leads a cs b → before cs b ≡ a

-- the set before some changes has the records that were there
abbrev pub RecordsWereThere : Type 0
RecordsWereThere = (cs : List ChangeOf) (set : Records) (r : Record) → WasThere cs set r ↔ IsIn r (before cs set)

-- the number of the bringer is that of the last change that brings the key
abbrev pub BringersAreLast : Type 0
BringersAreLast = (cs : List ChangeOf) (k : Key) (n : ℕ) → (bringer cs k ≡ Some n) ↔ IsBringer cs k n
