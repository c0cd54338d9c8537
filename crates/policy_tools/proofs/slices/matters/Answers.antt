use Rattle.std.proofs.lemmas.Bool.{both_ways, false≢true}
use Rattle.policy_tools.specs.Slices.{Touches}
use Rattle.policy_tools.proofs.SliceLemmas.{none_more, none_all}
use Rattle.policy_tools.proofs.slices.matters.Goals as goal

pub loop-origin-preserved : goal.loop-origin-preserved
loop-origin-preserved c =
    none_more (Touches c.args.rule.now) c.args.origins.now c.loop-origin.origin-index c.origin-item.result c.loop-origin-test.true c.origin-item.is
    (λ t. both_ways c.in_ok-touches.field-0 c.if-branch.false (c.in_ok-touches.ensures.1 t))
    c.loop-origin.invariant

pub returns : goal.returns
returns c = (λ e. absurd (false≢true e), λ m. absurd (none_all (Touches c.args.rule.now) c.args.origins.now c.loop-origin.origin-index c.loop-origin-test.false c.loop-origin.invariant m.0 m.1 m.2))
