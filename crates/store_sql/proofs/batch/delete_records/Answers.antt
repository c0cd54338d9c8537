use Rattle.std.proofs.Common.{◌∙◌, refl, sym, arith, ap, List}
use Rattle.sqlite.specs.Held.{state}
use Rattle.store_sql.specs.Rows.{RowsOf, RecordRowOf}
use Rattle.store_sql.proofs.TransactionParts.{part_none, part_then, part_same, without_more, without_none}
use Rattle.store_sql.proofs.batch.delete_records.Goals as goal

pub loop-gone-preserved : goal.loop-gone-preserved
loop-gone-preserved g c =
    let x = c.gone-item.result in
    record {
      name = c.delete_record.ensures.same_reference ∙ c.loop-gone.invariant.name;
      part = part_same _ _ _ _ (λ rows. sym (without_more c.args.removed.now c.loop-gone.gone-index x rows (omega arith) c.gone-item.is)) (part_then _ _ _ _ _ c.loop-gone.invariant.part c.in_ok-delete_record.ensures.part);
      going = λ _ clean. c.in_ok-delete_record.ensures.going clean;
    }

pub loop-gone-init : goal.loop-gone-init
loop-gone-init g c = record {
  name = refl;
  part = part_same _ _ _ _ (λ rows. ap (λ (l : List RecordRowOf). let r : RowsOf = record rows { records = l } in r) (sym (without_none rows.records))) (part_none (state g.S.Store c.args.tx.now.conn.now));
  going = λ h _. h;
}
