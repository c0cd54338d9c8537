-- The faults of the tables.
use Rattle.sqlite.specs.declared.error.Error.{Error}
use Rattle.sqlite.specs.declared.error.Error.TheVariants.{SqliteFailure}
use Rattle.sqlite.specs.declared.error.ErrorCode.TheVariants.{OutOfMemory}
use Rattle.store_sql.specs.declared.rows_fault.RowsFault.{RowsFault}
use Rattle.store_sql.specs.declared.rows_fault.RowsFault.TheVariants.{Store, NoMemory}

-- an error of the store is told as it is, but when out of memory
abbrev pub fault_of : Error → RowsFault
fault_of (SqliteFailure OutOfMemory) = NoMemory
fault_of e = Store e
