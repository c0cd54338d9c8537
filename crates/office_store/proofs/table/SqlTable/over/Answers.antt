use Rattle.std.proofs.Common.{rules}
use Rattle.office_store.proofs.table.SqlTable.over.Goals as goal

pub invariant_of-result : goal.invariant_of-result
invariant_of-result g c = record { counts = search rules; fits = c.requires.fits; fit = tt; remembers = c.requires.remembers; remember = tt }
