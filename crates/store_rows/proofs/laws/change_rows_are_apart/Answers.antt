use Rattle.store_rows.proofs.ChangeRowLaws as law
use Rattle.store_rows.proofs.laws.change_rows_are_apart.Goals as goal

pub returns : goal.returns
returns c = law.change_rows_are_apart
