use Rattle.std.proofs.Common.{sym, ◌∙◌}
use Rattle.grant_policy.proofs.ReachLemmas.{passed_up}
use Rattle.grant_policy.proofs.reaching.common_ancestor.Goals as goal

pub loop-alloc-preserved : goal.loop-alloc-preserved
loop-alloc-preserved c =
    passed_up c.args.name c.args.other.now c.loop-alloc.top c.in-Some.parent c.is_within.result (sym c.in_ok-parent.ensures ∙ c.in-Some.is) c.is_within.ensures.value c.loop-alloc-test.true c.loop-alloc.invariant
