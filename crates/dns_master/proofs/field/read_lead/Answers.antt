use Rattle.std.proofs.lemmas.Result.{err_from_is_err_and}
use Rattle.dns_master.proofs.FieldLemmas.{lead_more, lead_ends, lead_refused}
use Rattle.dns_master.proofs.field.read_lead.Goals as goal

pub returns-in_err-next-clause-exact : goal.returns-in_err-next-clause-exact
returns-in_err-next-clause-exact c =
    let l = c.loop-i in
    let p = err_from_is_err_and c.from_residual.result c.from_residual.ensures.1 in
    rw (p.1, p.2) (lead_refused c.args.items.now l.i _ l.read _ c.loop-i-test.true l.invariant c.in_err-next.field-0.0 c.in_err-next.ensures)

pub returns-in-Type-clause-exact : goal.returns-in-Type-clause-exact
returns-in-Type-clause-exact c =
    let l = c.loop-i in
    rw (c.new.ensures.ttl, c.new.ensures.record_type, c.new.ensures.len) (lead_ends c.args.items.now l.i _ l.read _ c.loop-i-test.true l.invariant c.in_ok-next.field-0 c.in-Type.ttl c.in-Type.record_type c.in_ok-next.ensures c.in-Type.is)

pub loop-i-preserved : goal.loop-i-preserved
loop-i-preserved c =
    let l = c.loop-i in
    lead_more c.args.items.now l.i _ l.read _ c.loop-i-test.true l.invariant c.in_ok-next.field-0 c.in-More.next c.in_ok-next.ensures c.in-More.is
