use Rattle.cli_text.proofs.ReadAgainLemmas.{zones_read}
use Rattle.cli_text.proofs.laws.zones_are_read_again.Goals as goal

pub returns : goal.returns
returns c = zones_read
