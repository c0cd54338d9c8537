use Rattle.cli_updates.proofs.SplitEffectLaws.{splits_do_the_same}
use Rattle.cli_updates.proofs.laws.splits_make_the_update.Goals as goal

pub returns : goal.returns
returns c = splits_do_the_same
