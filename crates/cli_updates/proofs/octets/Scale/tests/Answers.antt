use Rattle.std.proofs.Common.{◌∙◌, ap₂}
use Rattle.cli_updates.specs.Octets.{sum_up}
use Rattle.cli_updates.proofs.PieceLemmas.{octets_more}
use Rattle.cli_updates.proofs.octets.Scale.tests.Goals as goal

pub loop-test-preserved : goal.loop-test-preserved
loop-test-preserved c =
    let id = c.args.self.now.id.now in
    let l = c.loop-test in
    c.saturating_add-octets.ensures ∙ (ap₂ sum_up l.invariant c.in_ok-test.ensures ∙ octets_more id c.args.tests.now l.test-index c.test-item.result c.loop-test-test.true c.test-item.is)
