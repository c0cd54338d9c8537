use Rattle.std.proofs.Common.{◌∙◌, sym, ap, arith}
use Rattle.std.proofs.lemmas.List.{take_all}
use Rattle.store_sql.specs.Statements.{with_each}
use Rattle.store_sql.proofs.TransactionParts.{part_then, part_same, each_more}
use Rattle.store_sql.proofs.batch.insert_all.Goals as goal

pub loop-one-preserved : goal.loop-one-preserved
loop-one-preserved g c =
    let with = g.T.Insert.with in
    let x = c.one-item.result in
    record {
      name = c.insert.ensures.same_reference ∙ c.loop-one.invariant.name;
      part = part_same _ _ _ _ (λ rows. sym (each_more with c.args.all.now c.loop-one.one-index x rows (omega arith) c.one-item.is)) (part_then _ _ _ _ _ c.loop-one.invariant.part c.in_ok-insert.ensures.part);
      going = λ _ clean. c.in_ok-insert.ensures.going clean;
    }

pub returns-clause-part : goal.returns-clause-part
returns-clause-part g c =
    part_same _ _ _ _ (λ rows. ap (λ l. with_each g.T.Insert.with l rows) (take_all c.loop-one.one-index c.args.all.now (omega arith))) c.loop-one.invariant.part
