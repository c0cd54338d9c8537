use Rattle.std.specs.BTreeSet.{contains}
use Rattle.std.proofs.lemmas.Result.{on_ok_weaker}
use Rattle.zone_core.specs.Sets.{key_cmp}
use Rattle.zone_core.specs.Changes.{change_in}
use Rattle.zone_tools.proofs.HistoryLemmas.{undone_more}
use Rattle.zone_tools.proofs.history.undo.Goals as goal

pub returns : goal.returns
returns c =
    let rows = c.args.rows.now.items in
    let touched = contains key_cmp c.args.touched.now in
    let keys = rw c.deref.ensures.value at c.in_ok-push_new.ensures.touched in
    let found = rw c.deref.ensures.value at c.in_ok-push_new.ensures.rows in
    let all = rw c.deref-2.ensures.value at c.touch_all.ensures in
    on_ok_weaker c.touch_all.result
    (undone_more rows c.push_new.new.rows.items touched (contains key_cmp c.push_new.new.touched) (contains key_cmp c.touch_all.new.touched) (change_in c.args.change.now) keys found)
    all
