use Rattle.std.proofs.Common.{◌||◌, take, ap, sym, ◌∙◌}
use Rattle.std.specs.BTreeSet.{contains}
use Rattle.zone_core.specs.Sets.{key_cmp, key_of, same_key, set_of}
use Rattle.zone_tools.specs.History.{found_in}
use Rattle.zone_tools.proofs.HistoryLemmas.{touched_none, found_first, touched_more, next_taken, new_more}
use Rattle.zone_tools.proofs.history.push_new.Goals as goal

pub loop-record-init : goal.loop-record-init
loop-record-init c = record {
  touched = λ k. touched_none (contains key_cmp c.args.touched.now k);
  rows = found_first c.args.rows.now.items (contains key_cmp c.args.touched.now);
}

pub loop-record-preserved : goal.loop-record-preserved
loop-record-preserved c =
    let l = c.loop-record in
    let r = c.record-item.result in
    let first = c.args.rows.now.items in
    let touched = contains key_cmp c.args.touched.now in
    let next = next_taken c.args.records.now l.record-index r c.loop-record-test.true c.record-item.is in
    record {
      touched = λ k.
          c.in_ok-push_if_new.ensures.touched k ∙ ap (λ b. b || same_key (key_of r) k) (l.invariant.touched k)
          ∙ touched_more (touched k) c.args.records.now l.record-index r k c.loop-record-test.true c.record-item.is;
      rows = λ k.
          new_more first l.rows.items (take l.record-index c.args.records.now) c.push_if_new.new.rows.items touched (contains key_cmp l.touched) r l.invariant.touched l.invariant.rows
          c.in_ok-push_if_new.ensures.rows k
          ∙ ap (λ rs. found_in first touched (set_of rs) k) (sym next);
    }
