use Rattle.store_rows.proofs.RecordRowLaws as law
use Rattle.store_rows.proofs.laws.record_rows_are_apart.Goals as goal

pub returns : goal.returns
returns c = record { rows = law.record_rows_are_apart; keys = law.keys_are_of_records }
