use Rattle.std.proofs.Common.{map}
use Rattle.std.specs.BTreeSet.{contains}
use Rattle.zone_core.specs.Sets.{key_cmp, set_of}
use Rattle.zone_core.specs.Changes.{change_in}
use Rattle.zone_tools.specs.History.{before}
use Rattle.zone_tools.proofs.HistoryLemmas.{found_at_first, rows_are, rows_there}
use Rattle.zone_tools.proofs.history.records_before.Goals as goal

pub loop-change-init : goal.loop-change-init
loop-change-init c = found_at_first c.new-rows.result.items c.new-touched.result c.new-rows.ensures.items c.new-touched.ensures.empty (before (map change_in c.args.changes.now) (set_of c.args.records.now))

pub returns : goal.returns
returns c =
    let l = c.loop-change in
    let cs = map change_in c.args.changes.now in
    let set = set_of c.args.records.now in
    let are = rows_are c.in_order.result l.rows.items c.push_untouched.new.rows.items c.args.records.now (contains key_cmp l.touched) c.args.changes.now l.change-index c.loop-change-test.false l.invariant c.in_ok-push_untouched.ensures c.in_order.ensures.order c.in_order.ensures.set in
    record { there = rows_there c.in_order.result cs set are; exact = are }
