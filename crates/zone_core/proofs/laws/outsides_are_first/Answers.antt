use Rattle.zone_core.proofs.OutsideLemmas.{outsides_are_first}
use Rattle.zone_core.proofs.laws.outsides_are_first.Goals as goal

pub returns : goal.returns
returns c = outsides_are_first
