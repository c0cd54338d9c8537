use Rattle.std.proofs.Common.{rules, ◌≡◌, ◌<◌, ◌+◌, ◌++◌, length, take, drop, suc, get_or, slice_set, sym, ap, subst, ◌∙◌, arith}
use Rattle.std.specs.List.{AllByRecursion, insert as insert_at}
use Rattle.std.proofs.lemmas.List.{append_assoc, take-append-drop}
use Rattle.zone_core.specs.Sets.{InOrder}
use Rattle.store_cache.specs.RowPieces.{flat}
use Rattle.store_cache.proofs.PieceLemmas.{AreCut, are_cut, inserted_flat, inserted_some}
use Rattle.store_cache.proofs.row_pieces.with_cut.Goals.{In_ok-insert}
use Rattle.store_cache.proofs.row_pieces.with_cut.Goals as goal

inside : (c : In_ok-insert) → c.args.place < length c.args.pieces.items
inside c = search rules

there : (c : In_ok-insert) → c.in-Some.piece.now ≡ get_or c.args.pieces.items c.args.place c.in-Some.piece.now
there c = search rules

split : (c : In_ok-insert) → AreCut c.args.pieces.items c.args.place c.in-Some.piece.now
split c = are_cut c.args.pieces.items c.args.place c.in-Some.piece.now c.requires (inside c) (there c)

halves : (c : In_ok-insert) → c.split_off.new.self.items ++ c.in_ok-behind.behind.items ≡ c.in-Some.piece.now.items
halves c = (λ i. c.in_ok-behind.ensures.items i ++ c.in_ok-behind.ensures.tail i) ∙ take-append-drop _ c.in-Some.piece.now.items

inserted : (c : In_ok-insert) → c.insert.new.self.items ≡ insert_at (slice_set c.args.pieces.items c.args.place c.split_off.new.self) (suc c.args.place) c.in_ok-behind.behind
inserted c = c.in_ok-insert.ensures.items ∙ ap (λ n. insert_at (slice_set c.args.pieces.items c.args.place c.split_off.new.self) n c.in_ok-behind.behind) next
  where
    next : c.args.place + 1 ≡ suc c.args.place
    next = omega arith

pub returns-clause-rows : goal.returns-clause-rows
returns-clause-rows c =
    let parts = split c in
    let back = flat (drop (suc c.args.place) c.args.pieces.items) in
    ap flat (inserted c) ∙ inserted_flat c.args.pieces.items c.args.place c.split_off.new.self c.in_ok-behind.behind (inside c)
    ∙ ap (λ l. flat (take c.args.place c.args.pieces.items) ++ l) (sym (append_assoc c.split_off.new.self.items c.in_ok-behind.behind.items back) ∙ ap (λ l. l ++ back) (halves c))
    ∙ sym parts.rows

pub returns-clause-pieces : goal.returns-clause-pieces
returns-clause-pieces c =
    record {
      order = subst InOrder (sym (returns-clause-rows c)) c.requires.order;
      some = subst (AllByRecursion (λ v. 0 < length v.items)) (sym (inserted c))
          (inserted_some (λ v. 0 < length v.items) c.args.pieces.items c.args.place c.split_off.new.self c.in_ok-behind.behind (inside c) c.requires.some (search rules) (search rules));
    }
