use Rattle.refusals.proofs.TableLemmas.{plain}
use Rattle.refusals.proofs.laws.texts_are_plain.Goals as goal

pub returns : goal.returns
returns c = plain
