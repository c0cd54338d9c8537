use Rattle.std.proofs.lemmas.Result.{IfOk-weaker}
use Rattle.answer_reach.proofs.GrowLemmas.{sorted_names_of}
use Rattle.answer_reach.proofs.example.with_acted.Goals as goal

pub returns : goal.returns
returns c = IfOk-weaker c.ordered.result _ _ (λ names are. sorted_names_of names.items _ are) c.ordered.ensures
