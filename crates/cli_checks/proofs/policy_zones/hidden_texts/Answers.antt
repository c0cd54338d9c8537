use Rattle.std.proofs.Common.{◌∙◌, ◌++◌, ap}
use Rattle.cli_checks.specs.PolicyZones.{IsHiddenText}
use Rattle.cli_checks.proofs.ReportLemmas.{texts_more}
use Rattle.cli_checks.proofs.policy_zones.hidden_texts.Goals as goal

pub loop-origin-preserved : goal.loop-origin-preserved
loop-origin-preserved c =
    let l = c.loop-origin in
    texts_more (IsHiddenText c.args.policy.now c.args.reader.now) c.args.origins.now l.origin-index _ c.origin-item.result l.text.items c.in_ok-here.here.items _ c.loop-origin-test.true c.origin-item.is l.invariant c.in_ok-here.ensures
    (c.in_ok-extend_from_slice.ensures.items ∙ ap (λ v. l.text.items ++ v) c.deref.ensures.value)
