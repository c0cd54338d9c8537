use Rattle.dns_master.proofs.DepthLaws.{from_counts}
use Rattle.dns_master.proofs.laws.depths_are_counted.Goals as goal

pub returns : goal.returns
returns c = from_counts
