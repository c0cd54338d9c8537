use Rattle.std.proofs.Common.{take, sym, ap, subst}
use Rattle.std.proofs.lemmas.List.{take_all}
use Rattle.zone_core.specs.Changes.{without}
use Rattle.zone_tools.specs.Past.{IsPast}
use Rattle.zone_tools.proofs.PastLemmas.{without_none, without_more}
use Rattle.zone_tools.proofs.past.take_all.Goals as goal

pub loop-record-init : goal.loop-record-init
loop-record-init c = λ set is. subst (IsPast c.args.past.now) (sym (without_none set)) is

pub loop-record-preserved : goal.loop-record-preserved
loop-record-preserved c = λ set is.
    let records = c.args.records.now in
    let i = c.loop-record.record-index in
    subst (IsPast c.take.new.past) (without_more set records i c.record-item.result c.loop-record-test.true c.record-item.is) (c.take.ensures (without set (take i records)) (c.loop-record.invariant set is))

pub returns : goal.returns
returns c = λ set is. subst (IsPast c.loop-record.past) (ap (without set) (take_all c.loop-record.record-index c.args.records.now c.loop-record-test.false)) (c.loop-record.invariant set is)
