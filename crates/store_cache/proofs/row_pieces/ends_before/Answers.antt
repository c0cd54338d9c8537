use Rattle.std.proofs.Common.{ap, ◌∙◌}
use Rattle.std.specs.Ordering.{is_lt}
use Rattle.zone_core.specs.Sets.{record_order}
use Rattle.store_cache.proofs.PieceLemmas.{last_is}
use Rattle.store_cache.proofs.row_pieces.ends_before.Goals as goal

pub returns-in-len1-up : goal.returns-in-len1-up
returns-in-len1-up c =
    c.is_lt.ensures ∙ ap is_lt c.record_order.ensures.order
    ∙ last_is (λ r. is_lt (record_order r c.args.rr.now)) c.args.piece.now c.last-item.result c.in-len1-up.len_at_least c.last-item.is
