use Rattle.std.proofs.Common.{◌≤◌, ◌∙◌, length, drop, arith, length-drop, subst, sym, List, ℕ, ap, refl}
use Rattle.std.proofs.lemmas.Result.{err_from_is_err_and}
use Rattle.office_wire.specs.Order.{moment}
use Rattle.office_wire.specs.Serving.{mark}
use Rattle.office_wire.proofs.JoinLemmas.{none_served, none_next, next_served, next_broken, last_broken, last_closed}
use Rattle.office_wire.proofs.exchange.Service.answer_all.Goals as goal

pub returns-then-is_awaiting-clause-served : goal.returns-then-is_awaiting-clause-served
returns-then-is_awaiting-clause-served g c = λ honest s held.
    let now = mark s (g.T.ZoneTable.failures c.args.table.now) c.args.self.now.servfails in
    let here = moment (g.S.Stream.flow c.args.stream.now) in
    (s, held, none_served c.args.self.now.policy.now now c.args.workspace.now.requests here (g.D.Deadline.asked c.args.deadline.now))

pub turns-init : goal.turns-init
turns-init g c = record {
  honest = λ honest. honest;
  served = λ honest s held.
      let now = mark s (g.T.ZoneTable.failures c.args.table.now) c.args.self.now.servfails in
      let here = moment (g.S.Stream.flow c.args.stream.now) in
      (s, held, none_served c.args.self.now.policy.now now c.args.workspace.now.requests here (g.D.Deadline.asked c.args.deadline.now));
  unread = refl;
  still = refl;
  same = refl;
  policy = refl;
  kept = g.met.S.Stream.same _;
  passed = refl;
}

pub returns-in-Waiting-clause-served : goal.returns-in-Waiting-clause-served
returns-in-Waiting-clause-served g c = λ honest s held.
    let p = c.turns.invariant.served (c.in-Waiting.ensures.honest honest) s held in
    let a = (rw c.turns.invariant.policy at c.in-Waiting.ensures.answered) honest p.0 p.1 in
    let here = moment (g.S.Stream.flow c.args.stream.now) in
    (a.0, a.1, none_next _ _ _ _ _ _ _ _ here _ _ p.2 c.in-Waiting.n c.turns.workspace.requests _ c.answer.new.workspace.out (c.await_octets.ensures ∙ c.in-Waiting.ensures.same) a.2)

pub returns-in_err-write_all-in-Next-clause-served : goal.returns-in_err-write_all-in-Next-clause-served
returns-in_err-write_all-in-Next-clause-served g c = λ honest s held.
    let p = c.turns.invariant.served (c.in-Next.ensures.honest honest) s held in
    let a = (rw c.turns.invariant.policy at c.in-Next.ensures.answered) honest p.0 p.1 in
    (a.0, a.1, rw (err_from_is_err_and c.from_residual.result c.from_residual.ensures.1).1 (next_broken _ _ _ _ _ _ _ _ _ _ _ p.2 c.in-Next.n _ _ _ refl c.as_slice.ensures a.2 c.in_err-write_all-in-Next.ensures.written))

pub consume-requires : goal.consume-requires
consume-requires g c = subst (λ (l : List ℕ). c.in-Next.n ≤ length l) (sym c.in-Next.ensures.same) c.in-Next.ensures.stands.1

pub turns-smaller : goal.turns-smaller
turns-smaller g c =
    let within = c.in-Next.ensures.stands.1 in
    let some = c.in-Next.ensures.stands.0 in
    let len = ap (λ (l : List ℕ). length l) (c.consume.ensures ∙ ap (λ (l : List ℕ). drop c.in-Next.n l) c.in-Next.ensures.same) ∙ length-drop c.in-Next.n c.turns.workspace.requests in
    omega arith

pub returns-in_err-write_all-in-Last-clause-served : goal.returns-in_err-write_all-in-Last-clause-served
returns-in_err-write_all-in-Last-clause-served g c = λ honest s held.
    let p = c.turns.invariant.served (c.in-Last.ensures.honest honest) s held in
    let a = (rw c.turns.invariant.policy at c.in-Last.ensures.answered) honest p.0 p.1 in
    (a.0, a.1, rw (err_from_is_err_and c.from_residual-in_err-write_all-in-Last.result c.from_residual-in_err-write_all-in-Last.ensures.1).1 (last_broken _ _ _ _ _ _ _ _ _ _ _ p.2 _ _ _ a.2.0 refl c.as_slice-in-Last.ensures a.2.1 a.2.2 c.in_err-write_all-in-Last.ensures.written))

pub returns-in-Last-clause-served : goal.returns-in-Last-clause-served
returns-in-Last-clause-served g c = λ honest s held.
    let p = c.turns.invariant.served (c.in-Last.ensures.honest honest) s held in
    let a = (rw c.turns.invariant.policy at c.in-Last.ensures.answered) honest p.0 p.1 in
    (a.0, a.1, last_closed _ _ _ _ _ _ _ _ _ _ _ p.2 _ _ _ a.2.0 refl c.as_slice-in-Last.ensures a.2.1 a.2.2 c.in_ok-write_all-in-Last.ensures.written)

pub returns-then-has_passed-clause-served : goal.returns-then-has_passed-clause-served
returns-then-has_passed-clause-served g c = λ honest s held.
    let p = c.turns.invariant.served (c.in-Next.ensures.honest honest) s held in
    let a = (rw c.turns.invariant.policy at c.in-Next.ensures.answered) honest p.0 p.1 in
    let left = c.consume.ensures ∙ ap (λ (l : List ℕ). drop c.in-Next.n l) c.in-Next.ensures.same in
    let q = next_served _ _ _ _ _ _ _ _ _ _ _ p.2 c.in-Next.n _ _ _ _ _ refl left c.as_slice.ensures a.2 c.in_ok-write_all-in-Next.ensures.written c.has_passed.ensures.asked in
    (a.0, a.1, (q, let once = c.has_passed.ensures.asked in let each = p.2.4 in omega (arith, once, each)))

pub turns-preserved : goal.turns-preserved
turns-preserved g c = record {
  honest = λ honest. c.turns.invariant.honest (c.in-Next.ensures.honest honest);
  served = λ honest s held.
      let p = c.turns.invariant.served (c.in-Next.ensures.honest honest) s held in
      let a = (rw c.turns.invariant.policy at c.in-Next.ensures.answered) honest p.0 p.1 in
      let left = c.consume.ensures ∙ ap (λ (l : List ℕ). drop c.in-Next.n l) c.in-Next.ensures.same in
      (a.0, a.1, next_served _ _ _ _ _ _ _ _ _ _ _ p.2 c.in-Next.n _ _ _ _ _ refl left c.as_slice.ensures a.2 c.in_ok-write_all-in-Next.ensures.written c.has_passed.ensures.asked);
  unread = c.in_ok-write_all-in-Next.ensures.unread ∙ c.turns.invariant.unread;
  still = c.in_ok-write_all-in-Next.ensures.still ∙ c.turns.invariant.still;
  same = c.in_ok-write_all-in-Next.ensures.failed ∙ c.turns.invariant.same;
  policy = c.in-Next.ensures.policy ∙ c.turns.invariant.policy;
  kept = g.met.S.Stream.joins _ _ _ c.turns.invariant.kept c.in_ok-write_all-in-Next.ensures.kept;
  passed = rw c.if-has_passed.false at c.has_passed.ensures.passed ∙ c.turns.invariant.passed;
}
