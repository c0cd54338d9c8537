use Rattle.std.proofs.Common.{ap, refl}
use Rattle.sqlite.specs.Values.{bound}
use Rattle.sqlite.specs.Held.{state}
use Rattle.store_sql.proofs.Queries.{inside_keeps, ran_inside}
use Rattle.store_sql.proofs.batch.run_counted.Goals as goal

pub returns-in_err-execute-clause-stays : goal.returns-in_err-execute-clause-stays
returns-in_err-execute-clause-stays g c =
    let old = state g.S.Store c.args.tx.now.conn.now in
    let new = state g.S.Store c.execute.new.self.conn.now in
    record {
      survives = c.execute.ensures.survives;
      kept = λ clean. inside_keeps old new c.args.sql.now (bound c.args.params.now) c.execute.result _ refl (λ none. ap (state g.S.Store) (c.execute.ensures.ended none).1) (c.execute.ensures.runs clean);
    }

pub returns-clause-stays : goal.returns-clause-stays
returns-clause-stays g c =
    let old = state g.S.Store c.args.tx.now.conn.now in
    let new = state g.S.Store c.execute.new.self.conn.now in
    record {
      survives = c.execute.ensures.survives;
      kept = λ clean. inside_keeps old new c.args.sql.now (bound c.args.params.now) c.execute.result _ refl (λ none. ap (state g.S.Store) (c.execute.ensures.ended none).1) (c.execute.ensures.runs clean);
    }

pub returns-clause-ran : goal.returns-clause-ran
returns-clause-ran g c clean =
    let old = state g.S.Store c.args.tx.now.conn.now in
    let new = state g.S.Store c.execute.new.self.conn.now in
    let it = ran_inside old new c.args.sql.now (bound c.args.params.now) c.execute.result c.in_ok-execute.field-0 _ _ c.in_ok-execute.was refl (λ none. (c.execute.ensures.ended none).0) (c.execute.ensures.runs clean) in
    it.0

pub returns-clause-going : goal.returns-clause-going
returns-clause-going g c clean =
    let old = state g.S.Store c.args.tx.now.conn.now in
    let new = state g.S.Store c.execute.new.self.conn.now in
    let it = ran_inside old new c.args.sql.now (bound c.args.params.now) c.execute.result c.in_ok-execute.field-0 _ _ c.in_ok-execute.was refl (λ none. (c.execute.ensures.ended none).0) (c.execute.ensures.runs clean) in
    (it.1.is_open, it.1.mode)
