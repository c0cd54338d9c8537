use Rattle.std.proofs.lemmas.Result.{err_from_is_err_and}
use Rattle.update_lines.proofs.GatherLemmas.{lists_more, lists_refused, entry_within}
use Rattle.update_lines.proofs.lines.read_lists.Goals as goal

pub loop-at-preserved : goal.loop-at-preserved
loop-at-preserved c =
    let l = c.loop-at in
    record {
      within = entry_within _ _ c.args.tokens.now c.split_at.result.1.now l.at c.entry_len-len.result _ c.loop-at-test.true c.split_at.ensures.back c.entry_len-len.ensures l.invariant.read;
      read = lists_more _ _ c.args.tokens.now c.split_at.result.1.now l.at c.entry_len-len.result _ c.loop-at-test.true c.split_at.ensures.back c.entry_len-len.ensures l.invariant.read c.in_ok-read_entry.field-0 _ c.in_ok-read_entry.ensures c.in_ok-push.ensures;
    }

pub returns-in_err-read_entry : goal.returns-in_err-read_entry
returns-in_err-read_entry c =
    let l = c.loop-at in
    let p = err_from_is_err_and c.from_residual.result c.from_residual.ensures.1 in
    rw (p.1, p.2) (lists_refused _ _ c.args.tokens.now c.split_at.result.1.now l.at c.entry_len-len.result _ c.loop-at-test.true c.split_at.ensures.back c.entry_len-len.ensures l.invariant.read c.in_err-read_entry.field-0.0 c.in_err-read_entry.ensures)
