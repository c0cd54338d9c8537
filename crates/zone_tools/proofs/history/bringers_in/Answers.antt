use Rattle.zone_tools.proofs.HistoryLemmas.{bringer_next}
use Rattle.std.proofs.Common.{ap, cond, Some, ◌∙◌, ◌+◌}
use Rattle.zone_tools.specs.History.{has_key}
use Rattle.zone_tools.proofs.history.bringers_in.Goals as goal

pub loop-i-preserved : goal.loop-i-preserved
loop-i-preserved c = λ k.
    let i = c.loop-i.i in
    let change = c.index-changes-i.result in
    let number = rw c.deref.ensures.value at c.in_ok-number_all.ensures in
    number k ∙ ap (cond (has_key change.added.items k) (Some (i + 1))) (c.loop-i.invariant k) ∙ bringer_next c.args.changes.now i change k c.loop-i-test.true c.index-changes-i.is
