use Rattle.std.proofs.Common.{◌∙◌, sym, subst, Result}
use Rattle.office_model.specs.declared.request.Call.{Call}
use Rattle.office_core.specs.Bookmarks.{AreBookmarks}
use Rattle.office_wire.specs.declared.request_fault.RequestFault.{RequestFault}
use Rattle.office_wire.specs.Requests.{call_of, Refuses}
use Rattle.office_wire.specs.Serving.{standing}
use Rattle.office_wire.proofs.ResponseLemmas.{steps_answer, refusal_answers, asked_call}
use Rattle.office_wire.proofs.exchange.Service.respond.Goals as goal

pub returns-in-Ok-clause-answers : goal.returns-in-Ok-clause-answers
returns-in-Ok-clause-answers g c = λ honest s held h asked.
    steps_answer (g.T.ZoneTable.holds c.step_with_bookmarks-reply.new.table) (λ t. AreBookmarks c.args.self.now.policy.now t c.step_with_bookmarks-reply.new.bookmarks) (g.T.ZoneTable.leaves c.step_with_bookmarks-reply.new.table)
    c.args.self.now.policy.now s _ _ (call_of h c.args.received.now.body.now) c.in-Ok.call c.step_with_bookmarks-reply.result
    (sym (asked_call c.args.received.now.heading h c.args.received.now.body.now asked) ∙ c.in-Ok.ensures.exact) c.in-Ok.ensures.update (c.step_with_bookmarks-reply.ensures.step honest s.state held.0.0 held.1)
    (c.step_with_bookmarks-reply.ensures.crash honest s.state s.other held.0.0 held.0.1) c.step_with_bookmarks-reply.ensures.counts

pub returns-in-Err-clause-answers : goal.returns-in-Err-clause-answers
returns-in-Err-clause-answers g c = λ honest s held h asked. (
  s,
  held,
  rw c.refusing.ensures (refusal_answers c.args.self.now.policy.now (standing s _) (call_of h c.args.received.now.body.now) c.in-Err.fault
      (subst (λ (r : Result Call RequestFault). Refuses c.in-Err.fault r) (asked_call c.args.received.now.heading h c.args.received.now.body.now asked) c.in-Err.ensures.exact)),
)
