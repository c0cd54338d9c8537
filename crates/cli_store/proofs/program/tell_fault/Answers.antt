use Rattle.std.proofs.Common.{refl}
use Rattle.std.specs.Process.{exit_status}
use Rattle.cli_store.proofs.program.tell_fault.Goals as goal

pub returns-in-Help : goal.returns-in-Help
returns-in-Help g c = rw c.in-Help.is (rw c.as_str.ensures.value at c.told.ensures)

pub returns-in-NoMemory : goal.returns-in-NoMemory
returns-in-NoMemory g c = rw c.in-NoMemory.is ((exit_status c.told-in-NoMemory.result, c.told-in-NoMemory.ensures), refl)
