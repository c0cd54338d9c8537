use Rattle.std.proofs.Common.{inr, ◌∙◌, refl}
use Rattle.grant_policy.proofs.ReadLemmas.{document_text, document_none}
use Rattle.policy_build.proofs.tables.document.Goals as goal

pub returns-in_default : goal.returns-in_default
returns-in_default c = inr (refl, document_none c.args.text.now c.in_default.ensures.cases.0)

pub returns-in-Ok-table_from_str : goal.returns-in-Ok-table_from_str
returns-in-Ok-table_from_str c =
    document_text c.args.text.now c.in-Ok.ensures.cases.1 ∙ (rw c.in-Ok.ensures.cases.0 at c.in-Ok-table_from_str.ensures.ok)
