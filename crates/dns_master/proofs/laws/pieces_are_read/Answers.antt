use Rattle.dns_master.proofs.FoundLaws.{pieces_found}
use Rattle.dns_master.proofs.laws.pieces_are_read.Goals as goal

pub returns : goal.returns
returns c = pieces_found
