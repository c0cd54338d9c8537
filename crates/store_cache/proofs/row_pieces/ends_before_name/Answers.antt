use Rattle.std.proofs.Common.{◌∙◌}
use Rattle.std.specs.Ordering.{is_lt}
use Rattle.dns_names.specs.Order.{canonical_cmp}
use Rattle.store_cache.proofs.PieceLemmas.{last_is}
use Rattle.store_cache.proofs.row_pieces.ends_before_name.Goals as goal

pub returns-in-len1-up : goal.returns-in-len1-up
returns-in-len1-up c =
    c.lt.ensures ∙ last_is (λ r. is_lt (canonical_cmp r.owner c.args.name.now)) c.args.piece.now c.last-item.result c.in-len1-up.len_at_least c.last-item.is
