use Rattle.std.proofs.Common.{◌≡◌, sym, subst, ◌∙◌}
use Rattle.zone_core.specs.Sets.{set_of, InOrder, AreRows}
use Rattle.zone_core.specs.Changes.{changed}
use Rattle.store_cache.specs.RowPieces.{flat, put_back, removed}
use Rattle.store_cache.proofs.PieceLemmas.{changed_rows}
use Rattle.store_cache.proofs.row_pieces.RowPieces.changed.Goals as goal

pub returns : goal.returns
returns c =
    let gone = c.args.change.now.removed.items in
    let come = c.args.change.now.added.items in
    let rows : flat c.in_ok-pieces.pieces.items ≡ put_back come (removed gone c.args.self) =
    c.in_ok-pieces.ensures.rows ∙ (λ i. put_back (c.deref-2.ensures.value i) ((c.remove_all.ensures.rows ∙ (λ j. removed (c.deref.ensures.value j) (c.self.view_is j))) i)) in
    subst (λ rs. AreRows rs (changed (set_of c.args.self) gone come)) (sym rows) (changed_rows c.args.self gone come (subst InOrder c.self.view_is c.self.invariant.order))
