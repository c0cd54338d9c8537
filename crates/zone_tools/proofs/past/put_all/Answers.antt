use Rattle.std.proofs.Common.{◌≡◌, ℕ, drop, arith, sym, subst}
use Rattle.zone_tools.specs.Past.{IsPast, with_all}
use Rattle.zone_tools.proofs.PastLemmas.{put_next, put_last}
use Rattle.zone_tools.proofs.past.put_all.Goals as goal

pub loop-at-init : goal.loop-at-init
loop-at-init c = λ set is. subst (IsPast c.args.past.now) (sym (put_last set c.args.records.now _ (omega arith))) is

pub loop-at-preserved : goal.loop-at-preserved
loop-at-preserved c = λ set is.
    let records = c.args.records.now in
    let at = c.loop-at.at in
    subst (IsPast c.put.new.past) (put_next set records at c.index-records-at.result c.loop-at-test.true (omega arith) c.index-records-at.is) (c.in_ok-put.ensures (with_all set (drop at records)) (c.loop-at.invariant set is))

pub returns : goal.returns
returns c = λ set is.
    let end : c.loop-at.at ≡ 0 = omega arith in
    subst (λ (n : ℕ). IsPast c.loop-at.past (with_all set (drop n c.args.records.now))) end (c.loop-at.invariant set is)
