use Rattle.std.proofs.Common.{◌∙◌}
use Rattle.answer_reach.proofs.GrowLemmas.{searched}
use Rattle.answer_reach.proofs.names.has_name.Goals as goal

pub returns : goal.returns
returns c = c.is_ok.ensures.value ∙ searched c.args.names.now c.args.name.now c.binary_search.result c.requires c.binary_search.ensures.bound c.binary_search.ensures.position
