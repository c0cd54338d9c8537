use Rattle.std.proofs.KnownBytes.{Appends-nil}
use Rattle.std.proofs.Common.{◌≡◌, ◌<◌, ◌∙◌, [], ◌∷◌, ◌++◌, length, Err, refl, sym, arith}
use Rattle.std.proofs.lemmas.Result.{err_from_is_err_and}
use Rattle.wire_tcp.specs.Connections.{Visit, fault_of, ends}
use Rattle.wire_tcp.proofs.ConnectionLemmas.{visits_more, are_served, one_more, one_ended, ends_more, ends_length, traced_none, traced_once, traced_more, told_more, told_visit, told_in_part, told_last}
use Rattle.wire_tcp.proofs.serving.Connections.serve.Goals as goal

pub accepted-init : goal.accepted-init
accepted-init g c = record {
  honest = λ honest. honest;
  served = λ honest s held. ([], s, (held, c.new-responder.ensures.fits s.state), refl, refl, Appends-nil _, traced_none _ _);
  written = ([], refl, Appends-nil _);
  fine = refl;
  rules = c.new-responder.ensures.rules;
  taken = omega arith;
  same = λ cut. cut;
}

pub accepted-preserved : goal.accepted-preserved
accepted-preserved g c = record {
  honest = λ honest. c.accepted.invariant.honest (c.serve_peer-peer.ensures.honest honest);
  served = λ honest s held.
      let p = c.accepted.invariant.served (c.serve_peer-peer.ensures.honest honest) s held in
      let a = c.serve_peer-peer.ensures.run honest p.1 p.2 in
      let v : Visit = record { turns = a.0; ended = c.serve_peer-peer.result.1.ended; store = c.store_fault.result } in
      let traced = traced_once v c.serve_peer-peer.result.1.servfails _ _ _ _ _ a.4 c.tell_servfails.ensures in (
        p.0 ++ v ∷ [],
        a.1,
        a.2,
        visits_more _ _ _ p.0 v _ _ _ p.3 (record { came = c.in-Ok.peer; went = c.serve_peer-peer.result.0; between = c.accept.new.self; given = c.in-Ok.ensures.given; back = c.end.ensures.given_back; served = a.5; waited = c.serve_peer-peer.ensures.waited; tried = c.serve_peer-peer.ensures.tried; aged = a.6; run = rw c.accepted.invariant.rules at a.3; keeps = a.2.0; store = c.store_fault.ensures }),
        one_more p.0 v c.accepted.counter p.4,
        told_visit p.0 v _ _ _ p.5 c.in_ok-tell_ended.ensures.0,
        traced_more p.0 v _ _ _ _ _ _ p.6 traced,
      );
  written =
      let p = c.accepted.invariant.written in
      let end = fault_of c.serve_peer-peer.result.1.ended in
      (p.0 ++ end ∷ [], one_ended p.0 end c.accepted.counter p.1, told_more _ _ _ p.0 end p.2 c.in_ok-tell_ended.ensures.0);
  fine = c.in_ok-tell_ended.ensures.1 ∙ c.accepted.invariant.fine;
  rules = c.serve_peer-peer.ensures.rules ∙ c.accepted.invariant.rules;
  taken = let one = c.in-Ok.ensures.one in let stays = c.end.ensures.count in let before = c.accepted.invariant.taken in omega (arith, one, stays, before);
  same = λ cut. c.accepted.invariant.same (c.in-Ok.ensures.same (c.end.ensures.same cut));
}

pub returns-in_err-tell_ended-clause-served : goal.returns-in_err-tell_ended-clause-served
returns-in_err-tell_ended-clause-served g c = λ honest s held.
    let p = c.accepted.invariant.served (c.serve_peer-peer.ensures.honest honest) s held in
    let a = c.serve_peer-peer.ensures.run honest p.1 p.2 in
    let v : Visit = record { turns = a.0; ended = c.serve_peer-peer.result.1.ended; store = c.store_fault.result } in
    let traced = traced_once v c.serve_peer-peer.result.1.servfails _ _ _ _ _ a.4 c.tell_servfails.ensures in
    let visits = p.0 ++ v ∷ [] in
    let all = visits_more _ _ _ p.0 v _ _ _ p.3 (record { came = c.in-Ok.peer; went = c.serve_peer-peer.result.0; between = c.accept.new.self; given = c.in-Ok.ensures.given; back = c.end.ensures.given_back; served = a.5; waited = c.serve_peer-peer.ensures.waited; tried = c.serve_peer-peer.ensures.tried; aged = a.6; run = rw c.accepted.invariant.rules at a.3; keeps = a.2.0; store = c.store_fault.ensures }) in
    let more : c.accepted.counter < c.args.self.now.most = let in_range = c.accepted-test.true in omega arith in
    let e = err_from_is_err_and c.from_residual.result c.from_residual.ensures.1 in
    let lines = told_in_part _ _ _ (ends p.0) (g.H.Listener.cut c.args.listener.now) c.args.self.now.most c.accepted.counter (fault_of v.ended) _ _ _ (ends_length p.0 ∙ p.4) more p.5 c.accepted.invariant.fine c.in_err-tell_ended.ensures in
    (visits, a.1, a.2.0, are_served _ _ _ visits _ _ (g.met.T.ZoneTable.zones c.args.table.now s.state held.0) (g.met.T.ZoneTable.receipts c.args.table.now s.state held.0) all, rw (e.1, e.2, ends_more p.0 v) lines, traced_more p.0 v _ _ _ _ _ _ p.6 traced)

pub returns-in_err-tell_ended-clause-written : goal.returns-in_err-tell_ended-clause-written
returns-in_err-tell_ended-clause-written g c =
    let p = c.accepted.invariant.written in
    let end = fault_of c.serve_peer-peer.result.1.ended in
    let e = err_from_is_err_and c.from_residual.result c.from_residual.ensures.1 in
    let more : c.accepted.counter < c.args.self.now.most = let in_range = c.accepted-test.true in omega arith in
    let one = c.in-Ok.ensures.one in
    let stays = c.end.ensures.count in
    let before = c.accepted.invariant.taken in
    let count = one_ended p.0 end c.accepted.counter p.1 in (
      p.0 ++ end ∷ [],
      rw (e.1, e.2) (told_in_part _ _ _ p.0 (g.H.Listener.cut c.args.listener.now) c.args.self.now.most c.accepted.counter end _ _ _ p.1 more p.2 c.accepted.invariant.fine c.in_err-tell_ended.ensures),
      omega (arith, one, stays, before, count),
    )

pub returns-in_default-clause-written : goal.returns-in_default-clause-written
returns-in_default-clause-written g c =
    let p = c.accepted.invariant.written in
    let more : c.accepted.counter < c.args.self.now.most = let in_range = c.accepted-test.true in omega arith in
    let none = c.accepted.invariant.same c.in_default.ensures.failed in
    let stays = c.in_default.ensures.none in
    let before = c.accepted.invariant.taken in
    let count = p.1 in (
      p.0,
      told_last _ _ _ p.0 c.args.self.now.most c.accepted.counter (Err c.write_refusal.result) _ _ _ none p.1 more p.2 c.accepted.invariant.fine c.write_refusal.ensures,
      rw stays (omega (arith, before, count)),
    )

pub returns-in_default-clause-served : goal.returns-in_default-clause-served
returns-in_default-clause-served g c = λ honest s held.
    let p = c.accepted.invariant.served honest s held in
    let more : c.accepted.counter < c.args.self.now.most = let in_range = c.accepted-test.true in omega arith in
    let none = c.accepted.invariant.same c.in_default.ensures.failed in
    let visits = rw (sym c.in_default.ensures.none) at p.3 in (
      p.0,
      p.1,
      p.2.0,
      are_served _ _ _ p.0 _ _ (g.met.T.ZoneTable.zones c.args.table.now s.state held.0) (g.met.T.ZoneTable.receipts c.args.table.now s.state held.0) visits,
      told_last _ _ _ (ends p.0) c.args.self.now.most c.accepted.counter (Err c.write_refusal.result) _ _ _ none (ends_length p.0 ∙ p.4) more p.5 c.accepted.invariant.fine c.write_refusal.ensures,
      p.6,
    )

pub returns-clause-written : goal.returns-clause-written
returns-clause-written g c =
    let p = c.accepted.invariant.written in
    let all : length p.0 ≡ c.args.self.now.most = let past = c.accepted-test.false in let ended = c.accepted.auto.counter-end in let count = p.1 in omega arith in
    let before = c.accepted.invariant.taken in
    let count = p.1 in
    (p.0, (all, p.2, c.accepted.invariant.fine), omega (arith, before, count))

pub returns-clause-served : goal.returns-clause-served
returns-clause-served g c = λ honest s held.
    let p = c.accepted.invariant.served honest s held in
    let all : length (ends p.0) ≡ c.args.self.now.most = let past = c.accepted-test.false in let ended = c.accepted.auto.counter-end in let count = p.4 in let same = ends_length p.0 in omega arith in
    (p.0, p.1, p.2.0, are_served _ _ _ p.0 _ _ (g.met.T.ZoneTable.zones c.args.table.now s.state held.0) (g.met.T.ZoneTable.receipts c.args.table.now s.state held.0) p.3, (all, p.5, c.accepted.invariant.fine), p.6)
