use Rattle.zone_core.proofs.SharedOctetLemmas.{none_shared}
use Rattle.zone_core.proofs.rows.in_order.Goals as goal

pub in_order_behind-requires : goal.in_order_behind-requires
in_order_behind-requires c = none_shared c.args.records.items
