use Rattle.std.proofs.Common.{arith}
use Rattle.office_core.proofs.RunLemmas.{run_next, left_next, counts_next}
use Rattle.office_core.proofs.runs.replies_to.Goals as goal

pub loop-call-preserved : goal.loop-call-preserved
loop-call-preserved g c = record {
  len = omega (arith, c.in_ok-push.ensures.len);
  room = omega (arith, c.push.ensures.capacity);
  honest = λ honest. c.loop-call.invariant.honest (c.step-reply.ensures.honest honest);
  counts = counts_next (g.T.ZoneTable.failures c.args.table.now) (g.T.ZoneTable.failures c.loop-call.table) (g.T.ZoneTable.failures c.step-reply.new.table) c.loop-call.replies.items c.push.new.self.items c.step-reply.result
      c.loop-call.invariant.counts c.in_ok-push.ensures.items c.step-reply.ensures.counts;
  crash = λ honest s other holds left.
      let before = c.step-reply.ensures.honest honest in
      let ran = c.loop-call.invariant.run before s holds in
      left_next c.args.policy.now (g.T.ZoneTable.leaves c.step-reply.new.table) s other c.args.calls.now c.loop-call.call-index c.loop-call.replies.items c.push.new.self.items c.call-item.result c.step-reply.result
      c.loop-call-test.true c.call-item.is c.in_ok-push.ensures.items ran.each_replied
      (c.step-reply.ensures.crash honest _ _ ran.held (c.loop-call.invariant.crash before s other holds left));
  run = λ honest s holds.
      run_next c.args.policy.now (g.T.ZoneTable.holds c.loop-call.table) (g.T.ZoneTable.holds c.step-reply.new.table) s c.args.calls.now c.loop-call.call-index c.loop-call.replies.items c.push.new.self.items c.call-item.result c.step-reply.result
      c.loop-call-test.true c.call-item.is c.in_ok-push.ensures.items (c.loop-call.invariant.run (c.step-reply.ensures.honest honest) s holds) (λ t held. c.step-reply.ensures.step honest t held);
}
