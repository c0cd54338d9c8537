use Rattle.std.proofs.Common.{ap}
use Rattle.dns_master.specs.PartViews.{first_raw}
use Rattle.dns_master.proofs.FieldLemmas.{items_from}
use Rattle.dns_master.proofs.parting.raw_at.Goals as goal

pub returns : goal.returns
returns c = ap first_raw (items_from c.args.items.now c.args.number _ c.requires)
