-- Why requests were answered SERVFAIL, and the line that tells so.
use Rattle.std.specs.Prelude.{ℕ, ◌-◌, ◌^◌, ◌==◌, if◌then◌else◌, min, List, [], ◌∷◌, ◌++◌, codes, decimal, length, Option, Some, None}
use Rattle.std.specs.List.{last_or}
use Rattle.sqlite.specs.declared.error.Error.TheVariants.{SqliteFailure}
use Rattle.sqlite.specs.declared.error.ErrorCode.{ErrorCode}
use Rattle.sqlite.specs.declared.error.ErrorCode.TheVariants.{DatabaseBusy, CannotOpen, DiskFull as Full, SystemIoFailure, DatabaseCorrupt, NotADatabase as NoDatabase, Closed}
use Rattle.office_model.specs.declared.table_fault.TableFault.{TableFault}
use Rattle.office_model.specs.declared.table_fault.TableFault.TheVariants as faults
use Rattle.store_faults.specs.declared.store_fault.StoreFault.{StoreFault}
use Rattle.store_faults.specs.declared.store_fault.StoreFault.TheVariants.{Store, BadRow}
use Rattle.wire_tcp.specs.declared.cause.Cause.{Cause}
use Rattle.wire_tcp.specs.declared.cause.Cause.TheVariants.{NoMemory, Locked, NotOpened, DiskFull, InputOutput, Corrupt, NotADatabase, Shut, StoreFailed}

-- in words, which follow "because"
abbrev pub cause_words : Cause → List ℕ
cause_words NoMemory = codes "memory ran out"
cause_words Locked = codes "the store is locked by another program"
cause_words NotOpened = codes "the file of the store cannot be opened"
cause_words DiskFull = codes "the disk is full"
cause_words InputOutput = codes "of an input/output error"
cause_words Corrupt = codes "the store is corrupt"
cause_words NotADatabase = codes "the file of the store is not a database"
cause_words Shut = codes "an earlier failure shut the store"
cause_words StoreFailed = codes "the store failed"

-- of an error of the store
abbrev pub of_code : ErrorCode → Cause
of_code DatabaseBusy = Locked
of_code CannotOpen = NotOpened
of_code Full = DiskFull
of_code SystemIoFailure = InputOutput
of_code DatabaseCorrupt = Corrupt
of_code NoDatabase = NotADatabase
of_code Closed = Shut
of_code code = StoreFailed

-- of a fault of the table in SQLite, as far as it is known
abbrev pub of_store : Option StoreFault → Cause
of_store (Some (Store (SqliteFailure code))) = of_code code
of_store (Some BadRow) = Corrupt
of_store fault = StoreFailed

-- of what failed, the store or memory
abbrev pub cause_of : TableFault → Option StoreFault → Cause
cause_of faults.NoMemory store = NoMemory
cause_of faults.Store store = of_store store

-- ---- the line

-- so many requests of a connection were answered SERVFAIL
abbrev pub were_answered : ℕ → List ℕ
were_answered count = if count == 1 then codes " request of a connection was answered SERVFAIL" else codes " requests of a connection were answered SERVFAIL"

-- the line of so many, of which the last has this cause
abbrev pub trace_line : ℕ → Cause → List ℕ
trace_line count cause = codes "zoneoffice: " ++ (decimal count ++ (were_answered count ++ (codes "; the last because " ++ (cause_words cause ++ 10 ∷ []))))

-- nothing, where there is no last one
abbrev pub trace_by : Option TableFault → ℕ → Option StoreFault → List ℕ
trace_by None count store = []
trace_by (Some fault) count store = trace_line count (cause_of fault store)

-- what tells of requests that failed so, as far as 64 bits count them, and of what is known of the store after the last
abbrev pub trace_of : List TableFault → Option StoreFault → List ℕ
trace_of faults store = trace_by (last_or None faults) (min (length faults) (2 ^ 64 - 1)) store
