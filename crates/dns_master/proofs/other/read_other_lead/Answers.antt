use Rattle.std.proofs.lemmas.Result.{err_from_is_err_and}
use Rattle.dns_master.proofs.OtherLemmas.{other_more, other_ends, other_refused}
use Rattle.dns_master.proofs.other.read_other_lead.Goals as goal

pub returns-in_err-next-clause-exact : goal.returns-in_err-next-clause-exact
returns-in_err-next-clause-exact c =
    let l = c.loop-i in
    let p = err_from_is_err_and c.from_residual.result c.from_residual.ensures.1 in
    rw (p.1, p.2) (other_refused c.args.items.now l.i _ l.read _ c.loop-i-test.true l.invariant c.in_err-next.field-0.0 c.in_err-next.ensures)

pub returns-in-Kind-clause-exact : goal.returns-in-Kind-clause-exact
returns-in-Kind-clause-exact c =
    let l = c.loop-i in
    other_ends c.args.items.now l.i _ l.read _ c.loop-i-test.true l.invariant c.in_ok-next.field-0 c.in-Kind.ttl c.in_ok-next.ensures c.in-Kind.is

pub loop-i-preserved : goal.loop-i-preserved
loop-i-preserved c =
    let l = c.loop-i in
    other_more c.args.items.now l.i _ l.read _ c.loop-i-test.true l.invariant c.in_ok-next.field-0 c.in-More.next c.in_ok-next.ensures c.in-More.is
