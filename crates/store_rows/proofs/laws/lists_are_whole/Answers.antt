use Rattle.store_rows.proofs.ListedLemmas.{origins_are_of_zones, receipts_are_those}
use Rattle.store_rows.proofs.laws.lists_are_whole.Goals as goal

pub returns : goal.returns
returns c = record { origins = origins_are_of_zones; receipts = receipts_are_those }
