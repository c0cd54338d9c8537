use Rattle.sqlite.specs.Held.{state}
use Rattle.store_sql.proofs.StatementLemmas.{replaces_record, bound_two}
use Rattle.store_sql.proofs.batch.update_record.Goals as goal

pub returns-clause-part : goal.returns-clause-part
returns-clause-part g c = record {
  stays = c.run_counted.ensures.stays;
  reads = λ clean rows h. replaces_record (state g.S.Store c.args.tx.now.conn.now) (state g.S.Store c.run_counted.new.tx.conn.now) c.args.gone.now c.args.new.now c.in_ok-count.count rows c.values-2.ensures.readable
      (rw (c.as_flattened.ensures.value, bound_two _ _ _ _ c.values.ensures.value c.values-2.ensures.value) at (c.in_ok-count.ensures.ran clean)) h;
}
