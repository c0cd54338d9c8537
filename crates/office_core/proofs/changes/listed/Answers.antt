use Rattle.std.proofs.Common.{◌∙◌}
use Rattle.office_core.proofs.SubtreeLemmas.{listed_by, on_ok}
use Rattle.office_core.proofs.changes.listed.Goals as goal

pub returns-clause-value : goal.returns-clause-value
returns-clause-value c = on_ok c.included.result (λ rs is. is ∙ listed_by c.args.grants.now c.args.records.items c.requires) c.included.ensures.value
