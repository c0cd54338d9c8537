use Rattle.std.proofs.Common.{length, ◌<◌, subst, sym}
use Rattle.toml.specs.View.{table_view}
use Rattle.grant_policy.specs.Documents.{SpellsRule}
use Rattle.policy_build.specs.Selections.{SelectsSome}
use Rattle.policy_build.proofs.PrintingLemmas.{shallow_more, spelled_more}
use Rattle.policy_build.proofs.printing.rule_tables.Goals as goal

pub loop-rule-preserved : goal.loop-rule-preserved
loop-rule-preserved g c =
    let rules = c.args.rules.now in
    let i = c.loop-rule.rule-index in
    let x = c.rule-item.result in
    let m = c.in_ok-rule_table.field-0 in
    let tables = c.loop-rule.tables.items in
    let lt : i < length rules = c.loop-rule-test.true in
    let at = c.rule-item.is in
    let here = c.parts.ensures.rule in
    rw c.in_ok-push.ensures.items (record {
      spells = λ all.
          let selects = subst g.T.Printed.selects (sym at) (all i x lt) in
          let some = subst SelectsSome (sym here) (c.parts.ensures.some selects) in
          let spelled = subst (λ rule. SpellsRule rule (table_view m)) here (c.in_ok-rule_table.ensures.spells some) in
          spelled_more tables m g.T.Printed.rule rules i x lt at (c.loop-rule.invariant.spells all) spelled;
      shallow = shallow_more tables m c.loop-rule.invariant.shallow c.in_ok-rule_table.ensures.shallow;
    })
