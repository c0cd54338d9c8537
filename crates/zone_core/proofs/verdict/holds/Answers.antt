use Rattle.std.proofs.Common.{◌∙◌}
use Rattle.zone_core.specs.Prerequisites.{verdict}
use Rattle.zone_core.proofs.MetLemmas.{met_answer}
use Rattle.zone_core.proofs.verdict.holds.Goals as goal

pub returns-clause-exact : goal.returns-clause-exact
returns-clause-exact c = c.verdict.ensures ∙ λ i. verdict (c.records.ensures.set i) (c.prerequisites.ensures.value i)

pub returns-clause-met : goal.returns-clause-met
returns-clause-met c =
    met_answer c.args.zone.now.records c.records.result.now c.records.ensures.order c.records.ensures.set c.records.ensures.zone.kept
    c.args.update.now.prerequisites c.prerequisites.ensures.update.prerequisites c.verdict.result (returns-clause-exact c)
