-- The refusals of tables, by their published numbers, and what failed in a step.
use Rattle.std.specs.Prelude.{ℕ}
use Rattle.office_model.specs.declared.table_fault.TableFault.{TableFault}
use Rattle.office_model.specs.declared.table_fault.TableFault.TheVariants.{Store, NoMemory}
use Rattle.office_model.specs.declared.table_fault.StepFault.{StepFault}
use Rattle.office_model.specs.declared.table_fault.StepFault.TheVariants.{BeforeCommit, Commit}

abbrev pub table_fault_number : TableFault → ℕ
table_fault_number Store = 75
table_fault_number NoMemory = 99

-- what failed in a step
abbrev pub cause : StepFault → TableFault
cause (BeforeCommit fault) = fault
cause (Commit fault) = fault
