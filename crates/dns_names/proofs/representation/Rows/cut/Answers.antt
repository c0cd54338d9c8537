use Rattle.std.proofs.Common.{[], sym, ◌∙◌}
use Rattle.dns_names.specs.Rows.{name_in}
use Rattle.dns_names.proofs.RowLemmas.{behind_mark, name_behind, plain_whole, plain_rest, plain_count, lengths_fit, plain_cut, rows_of_labels, rows_hold}
use Rattle.dns_names.proofs.representation.Rows.cut.Goals as goal

pub cut_escaped-requires : goal.cut_escaped-requires
cut_escaped-requires c = behind_mark c.args.memory.now c.requires c.if-count.true

pub returns-then-count : goal.returns-then-count
returns-then-count c = c.cut_escaped.ensures ∙ sym (name_behind c.args.memory.now c.if-count.true)

pub split_at-requires : goal.split_at-requires
split_at-requires c =
    let memory = c.args.memory.now in
    let plain = plain_whole memory c.requires c.if-count.false in
    lengths_fit (name_in memory) _ _ [] [] c.from.result (plain_rest memory plain.0) (c.from.ensures ∙ plain_count memory plain.0)

pub invariant_of-result : goal.invariant_of-result
invariant_of-result c =
    rows_of_labels (name_in c.args.memory.now) _ _ _ (plain_cut c.args.memory.now (plain_whole c.args.memory.now c.requires c.if-count.false) _ _ _ c.from.ensures c.split_at.ensures.front c.split_at.ensures.back)

pub returns : goal.returns
returns c =
    rows_hold (name_in c.args.memory.now) _ _ _ (plain_cut c.args.memory.now (plain_whole c.args.memory.now c.requires c.if-count.false) _ _ _ c.from.ensures c.split_at.ensures.front c.split_at.ensures.back)
