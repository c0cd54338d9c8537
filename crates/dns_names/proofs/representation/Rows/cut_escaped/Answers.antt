use Rattle.std.proofs.Common.{[], ◌∙◌}
use Rattle.dns_names.specs.Rows.{escaped_in}
use Rattle.dns_names.proofs.RowLemmas.{escaped_rest, escaped_count, escaped_total, lengths_fit, more_cut, row_fits, escaped_cut, rows_of_labels, rows_hold}
use Rattle.dns_names.proofs.representation.Rows.cut_escaped.Goals as goal

pub split_at-requires : goal.split_at-requires
split_at-requires c = lengths_fit (escaped_in c.args.memory.now) _ _ [] [] c.from.result (escaped_rest c.args.memory.now c.requires) (c.from.ensures ∙ escaped_count c.args.memory.now c.requires)

pub split_at-requires-2 : goal.split_at-requires-2
split_at-requires-2 c =
    let memory = c.args.memory.now in
    let name = escaped_in memory in
    let back = more_cut name _ _ [] c.split_at.result.1.now c.from.result (escaped_rest memory c.requires) (c.from.ensures ∙ escaped_count memory c.requires) c.split_at.ensures.back in
    row_fits name c.split_at.result.1.now [] [] c.from-2.result back (c.from-2.ensures ∙ escaped_total memory c.requires)

pub invariant_of-result : goal.invariant_of-result
invariant_of-result c =
    rows_of_labels (escaped_in c.args.memory.now) _ _ _ (escaped_cut c.args.memory.now c.requires _ _ _ _ _ _ c.from.ensures c.from-2.ensures c.split_at.ensures.front c.split_at.ensures.back c.split_at-2.ensures.front c.split_at-2.ensures.back)

pub returns : goal.returns
returns c =
    rows_hold (escaped_in c.args.memory.now) _ _ _ (escaped_cut c.args.memory.now c.requires _ _ _ _ _ _ c.from.ensures c.from-2.ensures c.split_at.ensures.front c.split_at.ensures.back c.split_at-2.ensures.front c.split_at-2.ensures.back)
