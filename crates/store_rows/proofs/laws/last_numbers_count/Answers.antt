use Rattle.store_rows.proofs.StateLaws.{last_numbers_count}
use Rattle.store_rows.proofs.laws.last_numbers_count.Goals as goal

pub returns : goal.returns
returns c = last_numbers_count
