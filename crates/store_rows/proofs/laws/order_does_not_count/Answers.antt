use Rattle.store_rows.proofs.StateLaws.{order_does_not_count}
use Rattle.store_rows.proofs.laws.order_does_not_count.Goals as goal

pub returns : goal.returns
returns c = order_does_not_count
