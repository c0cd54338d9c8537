-- What rows that are a state say of it.
use Rattle.std.specs.Prelude.{◌≡◌, ◌↔◌, ℕ, ℤ, pos, zero, suc, List, [], length, true, IsPermutation, Option, Some, None, bytes_eq}
use Rattle.std.specs.List.{list_any}
use Rattle.dns_names.specs.Keys.{key_of}
use Rattle.dns_names.specs.Labels.{IsName}
use Rattle.dns_names.specs.Spelling.{name_text}
use Rattle.office_model.specs.States.{Held, State, AreZones, AreReceipts}
use Rattle.store_sql.specs.Rows.{RowsOf}
use Rattle.store_sql.specs.Holds.{SameRows}
use Rattle.store_sql.specs.Lookups.{records_at, changes_of, IsLast}
use Rattle.store_rows.specs.Contents.{AreOfState}

-- a zone is held of an origin exactly where its row is there
abbrev pub ZonesAreListed : Type 0
ZonesAreListed =
    (version : ℤ) (rows : RowsOf) (s : State) (origin : List (List ℕ)) → AreOfState version rows s → IsName origin
    → (list_any (bytes_eq (name_text origin)) rows.zones ≡ true) ↔ ((held : Held) × (s.zones origin ≡ Some held))

-- no zone is held of an origin exactly where no record stands at it: each zone has an SOA there (RFC 1035 section 5.2)
abbrev pub ZonesStandAtOrigins : Type 0
ZonesStandAtOrigins =
    (version : ℤ) (rows : RowsOf) (s : State) (origin : List (List ℕ)) → AreOfState version rows s → IsName origin
    → (records_at (name_text origin) (key_of origin) rows.records ≡ []) ↔ (s.zones origin ≡ None)

-- the number of the last of so many changes, which are numbered from 1
abbrev pub last_of : ℕ → Option ℤ
last_of zero = None
last_of (suc n) = Some (pos (suc n))

-- the last number of a zone's changes is how many they are
abbrev pub LastNumbersCount : Type 0
LastNumbersCount =
    (version : ℤ) (rows : RowsOf) (s : State) (origin : List (List ℕ)) (held : Held) (last : Option ℤ) → AreOfState version rows s → s.zones origin ≡ Some held
    → IsLast (changes_of (name_text origin) rows.changes) last → last ≡ last_of (length held.changes)

-- what is held is zones, and receipts of updates
abbrev pub StatesAreSound : Type 0
StatesAreSound = (version : ℤ) (rows : RowsOf) (s : State) → AreOfState version rows s → AreZones s × AreReceipts s

-- the same rows in another order are the same state
abbrev pub OrderDoesNotCount : Type 0
OrderDoesNotCount = (version : ℤ) (rows others : RowsOf) (s : State) → AreOfState version rows s → SameRows rows others → AreOfState version others s

-- the rows of changes tell the changes of each zone
abbrev pub HistoriesAreOne : Type 0
HistoriesAreOne =
    (version : ℤ) (rows others : RowsOf) (s t : State) (origin : List (List ℕ)) (held other : Held) → AreOfState version rows s → AreOfState version others t → IsPermutation rows.changes others.changes
    → s.zones origin ≡ Some held → t.zones origin ≡ Some other → held.changes ≡ other.changes
