use Rattle.std.proofs.Common.{take, is_none, arith}
use Rattle.std.specs.BTreeMap.{get}
use Rattle.dns_names.specs.Order.{canonical_cmp, same_name}
use Rattle.cli_store.specs.ZoneList.{receipts_of}
use Rattle.cli_store.proofs.ZoneListLemmas.{few, fits}
use Rattle.cli_store.proofs.zone_list.count.Goals as goal

pub count_one-requires : goal.count_one-requires
count_one-requires c =
    let origin = c.kept-item.result.receipt.origin in
    let i = c.loop-kept.kept-index in
    fits (get canonical_cmp c.loop-kept.counts origin) (get canonical_cmp c.args.counts.now origin) (receipts_of (take i c.args.all.now) origin) i (c.loop-kept.invariant.counts origin)
    (few (λ k. same_name k.receipt.origin origin) c.args.all.now i) (omega arith)

pub overflow_add-others : goal.overflow_add-others
overflow_add-others c =
    let most = few (λ k. is_none (get canonical_cmp c.args.counts.now k.receipt.origin)) c.args.all.now c.loop-kept.kept-index in
    omega (arith, most, c.loop-kept.invariant.others)
