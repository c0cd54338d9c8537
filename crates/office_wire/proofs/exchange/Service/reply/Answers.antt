use Rattle.office_wire.specs.Serving.{mark}
use Rattle.office_wire.specs.Requests.{call_of}
use Rattle.office_wire.proofs.ResponseLemmas.{put_whole, put_servfail}
use Rattle.office_wire.proofs.exchange.Service.reply.Goals as goal

pub returns-then-put-clause-answered : goal.returns-then-put-clause-answered
returns-then-put-clause-answered g c = λ honest s held h asked.
    let a = c.respond-response.ensures.answers honest s held h asked in
    let before = mark s (g.T.ZoneTable.failures c.args.table.now) c.args.self.now.servfails in
    let now = mark a.0 (g.T.ZoneTable.failures c.respond-response.new.table) c.note.new.self in (
      a.0,
      a.1,
      put_whole c.args.self.now.policy.now before now (call_of h c.args.received.now.body.now) c.respond-response.result c.args.received.now.heading.method c.args.received.now.heading.closes _ c.put.result c.put.new.self a.2
          c.is_last-last.ensures c.put.ensures c.if-put.true (rw c.respond-response.ensures.noted at c.note.ensures),
    )

pub returns-clause-answered : goal.returns-clause-answered
returns-clause-answered g c = λ honest s held h asked.
    let a = c.respond-response.ensures.answers honest s held h asked in
    let before = mark s (g.T.ZoneTable.failures c.args.table.now) c.args.self.now.servfails in
    let now = mark a.0 (g.T.ZoneTable.failures c.respond-response.new.table) c.add.new.self in (
      a.0,
      a.1,
      put_servfail c.args.self.now.policy.now before now (call_of h c.args.received.now.body.now) c.respond-response.result c.args.received.now.heading.method c.args.received.now.heading.closes _ c.put.result c.put.new.self a.2
          c.is_last-last.ensures c.put.ensures c.if-put.false (rw c.respond-response.ensures.noted at c.add.ensures),
    )
