-- What a table is asked to add, and what it tells of its calls.
use Rattle.std.specs.Prelude.{◌≡◌, ℕ, ◌+◌, ◌≤◌, List, [], ◌∷◌, ◌++◌, length, take, Bool, false, not, Option, Some, None, option_map, Result, Ok, Err, OnOk}
use Rattle.std.specs.List.{AllByRecursion, filter, list_all}
use Rattle.dns_data.specs.declared.record.Record.{Record}
use Rattle.dns_data.specs.Rdata.{type_of}
use Rattle.grant_policy.specs.Grants.{GrantsOf, includes}
use Rattle.zone_core.specs.Changes.{ChangeOf, FitsIn, change_in, changed, is_empty}
use Rattle.zone_core.specs.Zones.{IsZone}
use Rattle.office_model.specs.declared.passed.Passed.{Passed}
use Rattle.office_model.specs.declared.table_fault.TableFault.{TableFault}
use Rattle.office_model.specs.declared.table_fault.TableFault.TheVariants.{Store, NoMemory}
use Rattle.office_model.specs.declared.receipt.Receipt.{Receipt}
use Rattle.office_model.specs.declared.receipt.Addition.{Addition}
use Rattle.office_model.specs.States.{Held, State, zone_held, hold, keep}

-- ---- additions

-- a receipt of a caller under an identifier, and the change of its zone, where there is one
pub record AdditionOf : Type 0 where
  pub caller : List ℕ
  pub id : List ℕ
  pub receipt : Receipt
  pub change : Option ChangeOf

-- what the program sees of an addition
abbrev pub addition_in : Addition → AdditionOf
addition_in a = record { caller = a.caller; id = a.id; receipt = a.receipt; change = option_map change_in a.change }

-- what is held with a change made
abbrev pub held_with : ChangeOf → Held → Held
held_with c held = record { records = changed held.records c.removed c.added; changes = held.changes ++ c ∷ [] }

-- the state with a change of a zone made
abbrev pub with_change_of : State → List (List ℕ) → Option ChangeOf → State
with_change_of s origin None = s
with_change_of s origin (Some c) = hold s origin (option_map (held_with c) (s.zones origin))

-- the state with an addition made, all of it
abbrev pub committed : AdditionOf → State → State
committed a s = keep (with_change_of s a.receipt.origin a.change) a.caller a.id a.receipt

-- ---- which additions can be made

-- a change fits what is held of an origin: it is one, it fits the records, and with it they are a zone
pub record FitsHeld (origin : List (List ℕ)) (held : Held) (c : ChangeOf) : Type 0 where
  pub something : is_empty c ≡ false
  pub records : FitsIn held.records c.removed c.added
  pub zone : IsZone (zone_held origin (held_with c held))

-- a change fits a state: its zone is there
abbrev pub FitsChange : State → List (List ℕ) → Option ChangeOf → Type 0
FitsChange s origin None = Unit {0}
FitsChange s origin (Some c) = (held : Held) × (s.zones origin ≡ Some held) × FitsHeld origin held c

-- an addition fits a state: the identifier is new to the caller, and the change fits
pub record Fits (s : State) (a : AdditionOf) : Type 0 where
  pub fresh : s.receipts a.caller a.id ≡ None
  pub change : FitsChange s a.receipt.origin a.change

-- ---- what grants include, and what they leave out of changes

-- the records that grants include
abbrev pub included : GrantsOf → List Record → List Record
included grants rs = filter (λ r. includes grants r.owner (type_of r.rdata)) rs

-- grants include no record of a change
abbrev pub IsHidden : GrantsOf → ChangeOf → Type 0
IsHidden grants c = AllByRecursion (λ r. includes grants r.owner (type_of r.rdata) ≡ false) (c.removed ++ c.added)

-- there are so many changes, and of the first ones, so many, grants include no record
pub record AreHidden (grants : GrantsOf) (cs : List ChangeOf) (count : ℕ) : Type 0 where
  pub there : count ≤ length cs
  pub hidden : AllByRecursion (IsHidden grants) (take count cs)

-- whether grants include no record of a change
abbrev pub hides : GrantsOf → ChangeOf → Bool
hides grants c = list_all (λ r. not (includes grants r.owner (type_of r.rdata))) (c.removed ++ c.added)

-- those of some changes of which grants include a record
abbrev pub shown : GrantsOf → List ChangeOf → List ChangeOf
shown grants cs = filter (λ c. not (hides grants c)) cs

-- So many of some changes were passed over, the first ones; and so many of these, at most a number, have a record that grants include.
pub record ArePassed (grants : GrantsOf) (cs : List ChangeOf) (most : ℕ) (passed : Passed) : Type 0 where
  pub there : passed.read ≤ length cs
  pub seen : passed.seen ≡ length (shown grants (take passed.read cs))
  pub few : passed.seen ≤ most

-- ---- the count of failures

-- a call that answers `Store` raises the count by one
abbrev pub CountsFault : ℕ → ℕ → TableFault → Type 0
CountsFault before after Store = after ≡ before + 1
CountsFault before after NoMemory = after ≡ before

-- and no other call does
abbrev pub Counts : {X : Type 0} → ℕ → ℕ → Result X TableFault → Type 0
Counts before after (Ok x) = after ≡ before
Counts before after (Err fault) = CountsFault before after fault

-- ---- crashes

-- what a table keeps: the state that it holds, and the other one that a crash may leave in its place, where that is known
pub record Kept : Type 0 where
  pub state : State
  pub other : Option State

-- A crash leaves this state or the other one, where that is known.
abbrev pub LeavesOr : (State → State → Type 0) → State → Option State → Type 0
LeavesOr leaves s None = Unit {0}
LeavesOr leaves s (Some t) = leaves s t

-- What a table holds, and what a crash leaves of it, is so.
abbrev pub Keeps : (State → Type 0) → (State → State → Type 0) → Kept → Type 0
Keeps holds leaves k = holds k.state × LeavesOr leaves k.state k.other

-- Where a call answers, a crash leaves what the table holds, and nothing else.
abbrev pub Settles : {A X : Type 0} → (A → State → Type 0) → (A → Type 0) → (A → State → State → Type 0) → A → Result X TableFault → Type 0
Settles holds is_honest leaves new result = is_honest new → OnOk result ((s : State) → holds new s → leaves new s s)

-- ---- reads

-- What a call that only reads leaves: what the table held it holds, and where it answers, nothing else; a crash leaves what it left;
-- a store that has kept its word had kept it before; and the call is counted where it fails.
abbrev pub ReadsOnly : {A X : Type 0} → (A → State → Type 0) → (A → Type 0) → (A → State → State → Type 0) → (A → ℕ) → A → A → Result X TableFault → Type 0
ReadsOnly holds is_honest leaves failures old new result =
    ((s : State) → holds old s → holds new s)
    × (is_honest new → OnOk result ((s : State) → holds new s → holds old s))
    × ((s t : State) → leaves old s t → leaves new s t)
    × (is_honest new → is_honest old)
    × Counts (failures old) (failures new) result
