use Rattle.std.proofs.Common.{rules, ◌≡◌, ◌<◌, ◌≤◌, ◌++◌, [], length, take, drop, suc, get_or, sym, ap, subst, ◌∙◌}
use Rattle.std.specs.List.{AllByRecursion, filter}
use Rattle.std.specs.Ordering.{is_lt}
use Rattle.zone_core.specs.Sets.{record_order, InOrder}
use Rattle.zone_core.proofs.RowLemmas.{InOrder-filter}
use Rattle.store_cache.specs.RowPieces.{flat, IsPlace, is_other, last_passes}
use Rattle.store_cache.proofs.PieceLemmas.{AreCut, are_cut, all_joined, cut_out, flat_append, goes, none_goes, none_is, replaced_flat, some_set}
use Rattle.store_cache.proofs.row_pieces.remove.Goals.{In-Some, After-drop}
use Rattle.store_cache.proofs.row_pieces.remove.Goals as goal

pub returns-in_default-clause-rows : goal.returns-in_default-clause-rows
returns-in_default-clause-rows c =
    let r = c.args.rr.now in
    let out : length c.args.pieces.now.items ≤ c.place_of-place.result = search rules in
    none_goes r c.args.pieces.now.items c.place_of-place.result c.requires
    (subst (λ vs. IsPlace (λ v. last_passes (λ x. is_lt (record_order x r)) v.items) vs c.place_of-place.result) c.deref.ensures.value c.place_of-place.ensures) out

inside : (c : In-Some) → c.place_of-place.result < length c.args.pieces.now.items
inside c = search rules

there : (c : In-Some) → c.in-Some.piece.now ≡ get_or c.args.pieces.now.items c.place_of-place.result c.in-Some.piece.now
there c = search rules

split : (c : In-Some) → AreCut c.args.pieces.now.items c.place_of-place.result c.in-Some.piece.now
split c = are_cut c.args.pieces.now.items c.place_of-place.result c.in-Some.piece.now c.requires (inside c) (there c)

-- the rows without those that go
gone : (c : In-Some) → filter (is_other c.args.rr.now) (flat c.args.pieces.now.items)
    ≡ flat (take c.place_of-place.result c.args.pieces.now.items) ++ (filter (is_other c.args.rr.now) c.in-Some.piece.now.items ++ flat (drop (suc c.place_of-place.result) c.args.pieces.now.items))
gone c =
    let r = c.args.rr.now in
    goes r c.args.pieces.now.items c.place_of-place.result c.in-Some.piece.now c.requires
    (subst (λ vs. IsPlace (λ v. last_passes (λ x. is_lt (record_order x r)) v.items) vs c.place_of-place.result) c.deref.ensures.value c.place_of-place.ensures) (inside c) (there c)

pub remove_record-requires : goal.remove_record-requires
remove_record-requires c = let parts = split (goal.at.remove_record-requires c).In-Some in parts.order

pub returns-else-is_empty-clause-rows : goal.returns-else-is_empty-clause-rows
returns-else-is_empty-clause-rows c =
    let at = (goal.at.returns-else-is_empty-clause-rows c).In-Some in
    replaced_flat c.args.pieces.now.items c.place_of-place.result c.remove_record.new.rows (inside at)
    ∙ ap (λ l. flat (take c.place_of-place.result c.args.pieces.now.items) ++ (l ++ flat (drop (suc c.place_of-place.result) c.args.pieces.now.items))) c.remove_record.ensures
    ∙ sym (gone at)

pub returns-else-is_empty-clause-pieces : goal.returns-else-is_empty-clause-pieces
returns-else-is_empty-clause-pieces c =
    let at = (goal.at.returns-else-is_empty-clause-pieces c).In-Some in
    record {
      order = subst InOrder (sym (returns-else-is_empty-clause-rows c)) (InOrder-filter (is_other c.args.rr.now) (flat c.args.pieces.now.items) c.requires.order);
      some = some_set c.args.pieces.now.items c.place_of-place.result c.in-Some.piece.now c.remove_record.new.rows (split at) (inside at) (search rules);
    }

without : (c : After-drop) → c.remove.new.self.items ≡ take c.place_of-place.result c.args.pieces.now.items ++ drop (suc c.place_of-place.result) c.args.pieces.now.items
without c = cut_out c.args.pieces.now.items c.remove.new.self.items c.place_of-place.result c.remove_record.new.rows c.remove.ensures.by_index.2

nothing : (c : After-drop) → filter (is_other c.args.rr.now) c.in-Some.piece.now.items ≡ []
nothing c = sym c.remove_record.ensures ∙ none_is c.remove_record.new.rows.items (search rules)

pub returns-then-is_empty-clause-rows : goal.returns-then-is_empty-clause-rows
returns-then-is_empty-clause-rows c =
    let front = flat (take c.place_of-place.result c.args.pieces.now.items) in
    let back = flat (drop (suc c.place_of-place.result) c.args.pieces.now.items) in
    ap flat (without c) ∙ flat_append (take c.place_of-place.result c.args.pieces.now.items) (drop (suc c.place_of-place.result) c.args.pieces.now.items)
    ∙ ap (λ l. front ++ (l ++ back)) (sym (nothing c)) ∙ sym (gone (goal.at.returns-then-is_empty-clause-rows c).In-Some)

pub returns-then-is_empty-clause-pieces : goal.returns-then-is_empty-clause-pieces
returns-then-is_empty-clause-pieces c =
    let parts = split (goal.at.returns-then-is_empty-clause-pieces c).In-Some in
    record {
      order = subst InOrder (sym (returns-then-is_empty-clause-rows c)) (InOrder-filter (is_other c.args.rr.now) (flat c.args.pieces.now.items) c.requires.order);
      some = subst (AllByRecursion (λ v. 0 < length v.items)) (sym (without c)) (all_joined (λ v. 0 < length v.items) (take c.place_of-place.result c.args.pieces.now.items) (drop (suc c.place_of-place.result) c.args.pieces.now.items) parts.full_front parts.full_back);
    }
