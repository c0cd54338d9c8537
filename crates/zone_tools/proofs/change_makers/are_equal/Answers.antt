use Rattle.std.proofs.Common.{◌<◌, length, arith, sym, subst, ◌∙◌}
use Rattle.dns_data.specs.Rdata.{IsRecord}
use Rattle.zone_tools.proofs.MakerLemmas.{not_so, unequal, equal_more, same_read}
use Rattle.zone_tools.proofs.change_makers.are_equal.Goals as goal

pub returns-then-not-is_equal : goal.returns-then-not-is_equal
returns-then-not-is_equal c =
    let also : c.loop-i.i < length c.args.others.now = omega arith in
    not_so
    (unequal c.args.rows.now c.args.others.now c.loop-i.i c.index-rows-i-in-loop-i.result c.index-others-i-in-loop-i.result c.loop-i-test.true also c.index-rows-i-in-loop-i.is c.index-others-i-in-loop-i.is
    (sym c.is_equal.ensures ∙ c.if-not-is_equal.true))

pub loop-i-preserved : goal.loop-i-preserved
loop-i-preserved c =
    let rows = c.args.rows.now in
    let others = c.args.others.now in
    let i = c.loop-i.i in
    let below = c.loop-i-test.true in
    let also : c.loop-i.i < length c.args.others.now = omega arith in
    let x = c.index-rows-i-in-loop-i.result in
    let y = c.index-others-i-in-loop-i.result in
    let is : IsRecord x = subst IsRecord (same_read rows i c.index-rows-i.result x below c.index-rows-i.is c.index-rows-i-in-loop-i.is) c.record_type.ensures.record in
    let is_too : IsRecord y = subst IsRecord (same_read others i c.index-others-i.result y also c.index-others-i.is c.index-others-i-in-loop-i.is) c.record_type-in-loop-i.ensures.record in
    equal_more rows others i x y below also c.index-rows-i-in-loop-i.is c.index-others-i-in-loop-i.is is is_too (sym c.is_equal.ensures ∙ c.if-not-is_equal.false) c.loop-i.invariant
