use Rattle.std.proofs.Common.{rules, ◌≡◌, ◌<◌, ◌++◌, length, reverse, sym, ap, subst, ◌∙◌}
use Rattle.std.specs.List.{AllByRecursion}
use Rattle.std.proofs.lemmas.List.{take-append-drop}
use Rattle.store_cache.specs.RowPieces.{flat}
use Rattle.store_cache.proofs.PieceLemmas.{one_cut_off, some_cut_off}
use Rattle.store_cache.proofs.row_pieces.RowPieces.of_rows.Goals as goal

pub loop-rows-preserved : goal.loop-rows-preserved
loop-rows-preserved c =
    let whole : c.split_off.new.self.items ++ c.in_ok-split_off.field-0.items ≡ c.loop-rows.rows.items =
    (λ i. c.in_ok-split_off.ensures.items i ++ c.in_ok-split_off.ensures.tail i) ∙ take-append-drop _ c.loop-rows.rows.items in (
      ap (λ vs. c.split_off.new.self.items ++ flat (reverse vs)) c.in_ok-push.ensures.items
          ∙ one_cut_off c.loop-rows.pieces.items c.loop-rows.rows.items c.split_off.new.self.items c.args.rows.items c.in_ok-split_off.field-0 whole c.loop-rows.invariant.0,
      subst (λ vs. AllByRecursion (λ v. 0 < length v.items) (reverse vs)) (sym c.in_ok-push.ensures.items)
          (some_cut_off (λ v. 0 < length v.items) c.loop-rows.pieces.items c.in_ok-split_off.field-0 (search rules) c.loop-rows.invariant.1),
    )
