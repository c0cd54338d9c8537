-- What a store tells of rows that are not read.
use Rattle.std.specs.Prelude.{Result, Ok, Err}
use Rattle.sqlite.specs.declared.error.Error.TheVariants.{SqliteFailure}
use Rattle.sqlite.specs.declared.error.ErrorCode.TheVariants.{DatabaseCorrupt}
use Rattle.store_faults.specs.declared.store_fault.StoreFault.{StoreFault}
use Rattle.store_faults.specs.declared.store_fault.StoreFault.TheVariants.{Store, BadRow, NoMemory}
use Rattle.store_rows.specs.declared.row_fault.RowFault.{RowFault}
use Rattle.store_rows.specs.declared.row_fault.RowFault.TheVariants as rows

-- of rows that somebody else may have written one that is not read is found
abbrev pub of_checked : RowFault → StoreFault
of_checked rows.BadRow = BadRow
of_checked rows.NoMemory = NoMemory

-- what a check of rows that somebody else may have written gives
abbrev pub of_check : {A : Type 0} → Result A RowFault → Result A StoreFault
of_check (Ok x) = Ok x
of_check (Err fault) = Err (of_checked fault)

-- a row that is not read is a failure of the store as well
abbrev pub of_row : RowFault → StoreFault
of_row rows.BadRow = Store (SqliteFailure DatabaseCorrupt)
of_row rows.NoMemory = NoMemory
