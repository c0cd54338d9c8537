use Rattle.std.proofs.Common.{take, ap, sym, ◌∙◌}
use Rattle.std.specs.BTreeSet.{contains}
use Rattle.zone_core.specs.Sets.{key_cmp, set_of}
use Rattle.zone_tools.specs.History.{found_in}
use Rattle.zone_tools.proofs.HistoryLemmas.{found_first, next_taken, untouched_more}
use Rattle.zone_tools.proofs.history.push_untouched.Goals as goal

pub loop-record-init : goal.loop-record-init
loop-record-init c = found_first c.args.rows.now.items (contains key_cmp c.args.touched.now)

pub loop-record-preserved : goal.loop-record-preserved
loop-record-preserved c = λ k.
    let l = c.loop-record in
    let r = c.record-item.result in
    let first = c.args.rows.now.items in
    let touched = contains key_cmp c.args.touched.now in
    untouched_more first l.rows.items (take l.record-index c.args.records.now) c.push_if_untouched.new.rows.items touched r l.invariant c.in_ok-push_if_untouched.ensures k
    ∙ ap (λ rs. found_in first touched (set_of rs) k) (sym (next_taken c.args.records.now l.record-index r c.loop-record-test.true c.record-item.is))
