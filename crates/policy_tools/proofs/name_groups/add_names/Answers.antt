use Rattle.std.proofs.Common.{◌∙◌}
use Rattle.std.proofs.lemmas.List.Elements.{All-push}
use Rattle.dns_names.specs.Labels.{IsName}
use Rattle.policy_tools.proofs.NameGroupLemmas.{names_more}
use Rattle.policy_tools.proofs.name_groups.add_names.Goals as goal

pub loop-rule-preserved : goal.loop-rule-preserved
loop-rule-preserved c =
    let rule = c.rule-item.result in
    record {
      added = c.in_ok-add_copy.ensures.added ∙ names_more c.args.rules.now c.loop-rule.rule-index rule c.args.names.now.items c.loop-rule.names.items c.loop-rule-test.true c.rule-item.is c.loop-rule.invariant.added;
      valid = λ all. rw c.in_ok-add_copy.ensures.added (All-push IsName c.loop-rule.names.items rule.at (c.loop-rule.invariant.valid all) c.in_ok-add_copy.ensures.name);
    }
