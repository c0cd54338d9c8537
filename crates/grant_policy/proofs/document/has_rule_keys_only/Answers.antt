use Rattle.std.proofs.Common.{◌∙◌}
use Rattle.grant_policy.specs.Documents.{rule_keys}
use Rattle.grant_policy.proofs.ReadLemmas.{only_tells}
use Rattle.grant_policy.proofs.document.has_rule_keys_only.Goals as goal

pub returns : goal.returns
returns c = c.are_rule_keys.ensures ∙ only_tells rule_keys c.args.table.now.entries
