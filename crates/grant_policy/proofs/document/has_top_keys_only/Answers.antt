use Rattle.std.proofs.Common.{codes, ◌∙◌}
use Rattle.grant_policy.proofs.ReadLemmas.{only_rule}
use Rattle.grant_policy.proofs.document.has_top_keys_only.Goals as goal

pub returns : goal.returns
returns c = c.are_top_keys.ensures ∙ only_rule (codes "rule") c.args.table.now.entries
