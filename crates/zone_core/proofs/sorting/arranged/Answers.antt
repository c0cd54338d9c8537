use Rattle.std.proofs.Common.{◌<◌, length, sym, subst, ◌∙◌, arith}
use Rattle.std.proofs.lemmas.List.{get_or_default}
use Rattle.zone_core.specs.Views.{ArePositions, AreInverse}
use Rattle.zone_core.proofs.PositionLemmas.{places_len, on_no_way, on_the_way, at_the_end}
use Rattle.zone_core.proofs.sorting.arranged.Goals as goal

pub inverse-requires : goal.inverse-requires
inverse-requires c =
    let q = c.args.sources.items in
    let n = length c.args.records.items in
    subst (λ xs. ArePositions (length xs) xs) (sym c.deref.ensures.value) (subst (λ k. ArePositions k q) (sym (places_len n q c.requires)) c.requires)

pub loop-i-init : goal.loop-i-init
loop-i-init c =
    let p = c.in_ok-positions.positions.items in
    on_no_way c.args.records.items c.args.sources.items p c.requires (subst (λ xs. AreInverse xs p) c.deref.ensures.value c.in_ok-positions.ensures)

pub loop-i-preserved : goal.loop-i-preserved
loop-i-preserved c =
    let rs = c.args.records.items in
    let xs = c.loop-i.records.items in
    let q = c.loop-i.sources.items in
    let p = c.loop-i.positions.items in
    let i = c.loop-i.i in
    let way = c.loop-i.invariant in
    let s = c.index-source.result.now in
    let t = c.index-place.result.now in
    let below : i < length rs = omega (arith, c.loop-i-test.true, c.len-i-end.ensures, c.args.records.ok.0) in
    on_the_way rs c.args.sources.items xs c.swap.new.self.items q p i s t below way
    (c.index-source.ensures ∙ get_or_default q i s 0 (omega (arith, below, way.q_len)))
    (c.index-place.ensures ∙ get_or_default p i t 0 (omega (arith, below, way.p_len)))
    (omega (arith, c.swap.ensures.len, c.loop-i.records.ok.0, c.swap.new.self.ok.0)) c.swap.ensures.by_index

pub returns : goal.returns
returns c = at_the_end c.args.records.items c.args.sources.items c.loop-i.records.items c.loop-i.sources.items c.loop-i.positions.items c.loop-i.i c.requires (omega (arith, c.loop-i-test.false, c.len-i-end.ensures, c.args.records.ok.0)) c.loop-i.invariant
