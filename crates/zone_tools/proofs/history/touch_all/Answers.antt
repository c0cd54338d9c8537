use Rattle.std.proofs.Common.{◌||◌, ap, ◌∙◌}
use Rattle.std.specs.BTreeSet.{contains}
use Rattle.zone_core.specs.Sets.{key_cmp, key_of, same_key}
use Rattle.zone_tools.proofs.HistoryLemmas.{touched_more}
use Rattle.zone_tools.proofs.history.touch_all.Goals as goal

pub loop-record-preserved : goal.loop-record-preserved
loop-record-preserved c = λ k.
    let l = c.loop-record in
    let r = c.record-item.result in
    c.in_ok-touch.ensures.touched k ∙ ap (λ b. b || same_key (key_of r) k) (l.invariant k)
    ∙ touched_more (contains key_cmp c.args.touched.now k) c.args.records.now l.record-index r k c.loop-record-test.true c.record-item.is
