use Rattle.std.proofs.Common.{◌++◌, ap, ◌∙◌}
use Rattle.zone_core.proofs.RangeLemmas.{rest_is}
use Rattle.zone_core.proofs.MergeLemmas.{cut_at}
use Rattle.zone_core.proofs.merge.push_before.Goals as goal

pub returns-clause-rows : goal.returns-clause-rows
returns-clause-rows c =
    let n = c.count_before-count.result in
    c.in_ok-push_copies.ensures ∙ ap (λ xs. c.args.rows.now.items ++ xs) (cut_at c.args.row.now c.args.come.now n c.count_before-count.ensures).0

pub returns-clause-left : goal.returns-clause-left
returns-clause-left c =
    let n = c.count_before-count.result in
    rest_is c.args.come.now n ∙ (cut_at c.args.row.now c.args.come.now n c.count_before-count.ensures).1
