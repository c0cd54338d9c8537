use Rattle.std.proofs.Common.{cond, Some, ap, ◌∙◌}
use Rattle.std.specs.BTreeMap.{get}
use Rattle.zone_core.specs.Sets.{key_cmp, key_of, same_key}
use Rattle.zone_tools.proofs.HistoryLemmas.{number_more}
use Rattle.zone_tools.proofs.history.number_all.Goals as goal

pub loop-record-preserved : goal.loop-record-preserved
loop-record-preserved c = λ k.
    let l = c.loop-record in
    let r = c.record-item.result in
    let at = c.in_ok-insert.ensures.updates.0 k in
    let here = rw c.of.ensures at at in
    here ∙ ap (cond (same_key (key_of r) k) (Some c.args.number)) (l.invariant k)
    ∙ number_more c.args.records.now l.record-index r k c.args.number (get key_cmp c.args.bringers.now k) c.loop-record-test.true c.record-item.is
