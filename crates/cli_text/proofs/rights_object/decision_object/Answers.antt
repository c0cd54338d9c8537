use Rattle.std.proofs.Common.{◌∙◌}
use Rattle.grant_policy.specs.Decisions.{verdict_of}
use Rattle.cli_text.proofs.RightsObjectLemmas.{object_made}
use Rattle.cli_text.proofs.rights_object.decision_object.Goals as goal

pub returns : goal.returns
returns c =
    object_made (verdict_of c.args.decision) c.in_ok-text.text.items c.push_quoted.new.out.items c.extend_from_slice.new.self.items
    (c.in_ok-text.ensures.items ∙ (c.as_bytes.ensures.value ∙ c.rule_key.ensures)) (rw c.rule.ensures at c.in_ok-push_quoted.ensures.ok) c.in_ok-extend_from_slice.ensures.items
