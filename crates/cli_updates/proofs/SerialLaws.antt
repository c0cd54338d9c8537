-- Serials that are advanced.
use Rattle.zone_tools.proofs.FurtherLemmas.{less_further}
use Rattle.cli_updates.specs.SplitPromises.{AdvancesKeepOrder}

pub advances_keep_order : AdvancesKeepOrder
advances_keep_order s t n ls lt less = less_further s t n ls lt less
