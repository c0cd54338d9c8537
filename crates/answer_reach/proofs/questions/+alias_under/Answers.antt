use Rattle.std.proofs.Common.{sym, ◌∙◌}
use Rattle.std.proofs.lemmas.Result.{IfOk-weaker}
use Rattle.zone_core.specs.Sets.{listing}
use Rattle.answer_reach.proofs.GrowLemmas.{alias_there}
use Rattle.answer_reach.proofs.questions.+alias_under.Goals as goal

pub returns-then-is_there : goal.returns-then-is_there
returns-then-is_there t c =
    IfOk-weaker c.alias_by.result _ _ (λ found e. e ∙ alias_there (listing c.args.zone.now.records) c.args.above.now (sym c.is_there.ensures ∙ c.if-is_there.true)) c.alias_by.ensures
