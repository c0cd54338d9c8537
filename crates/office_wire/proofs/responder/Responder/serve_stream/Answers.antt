use Rattle.std.proofs.Common.{[], refl, sym, ap, ◌∙◌, arith}
use Rattle.office_wire.specs.Serving.{standing}
use Rattle.office_wire.specs.declared.servfails.Servfails.{Servfails}
use Rattle.office_wire.specs.Servfails.{noted, servfails}
use Rattle.office_wire.proofs.OrderLemmas.{served_none}
use Rattle.office_wire.proofs.PromiseLemmas.{exchanges_run}
use Rattle.office_wire.proofs.ServfailLemmas.{noted_first}
use Rattle.office_wire.proofs.responder.Responder.serve_stream.Goals as goal

pub returns-clause-run : goal.returns-clause-run
returns-clause-run g c = λ honest s held.
    let r = c.serve-ended.ensures.run honest s held in
    let before = standing s (g.T.ZoneTable.failures c.args.table.now) in
    let now = standing r.1 (g.T.ZoneTable.failures c.serve-ended.new.table) in (
      r.0,
      r.1,
      (r.2.0, rw (sym c.serve-ended.ensures.policy) at r.2.1),
      r.3.0,
      exchanges_run c.args.self.now.service.policy.now before now r.0 (g.met.T.ZoneTable.zones c.args.table.now s.state held.0.0) (g.met.T.ZoneTable.receipts c.args.table.now s.state held.0.0) r.3.0,
      noted_first c.serve-ended.new.self.servfails (servfails r.0) (r.3.1 ∙ ap (λ (n : Servfails). noted n (servfails r.0)) c.none-service.ensures),
      r.4,
      r.5,
    )

pub returns-in_default-clause-run : goal.returns-in_default-clause-run
returns-in_default-clause-run g c = λ honest s held.
    let at = standing s (g.T.ZoneTable.failures c.args.table.now) in (
      [],
      s,
      held,
      refl,
      exchanges_run c.args.self.now.service.policy.now at at [] (g.met.T.ZoneTable.zones c.args.table.now s.state held.0.0) (g.met.T.ZoneTable.receipts c.args.table.now s.state held.0.0) refl,
      noted_first c.none-service.result [] c.none-service.ensures,
      record { done = (refl, refl, refl); in_turn = served_none _ },
      omega arith,
    )
