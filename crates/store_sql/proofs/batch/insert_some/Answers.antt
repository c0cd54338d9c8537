use Rattle.std.proofs.Common.{OnOk, subst}
use Rattle.sqlite.specs.Held.{state}
use Rattle.store_sql.specs.Holds.{Part}
use Rattle.store_sql.specs.Statements.{with_each}
use Rattle.store_sql.proofs.TransactionParts.{the_two, the_three}
use Rattle.store_sql.proofs.batch.insert_some.Goals as goal

pub returns-in-len2-clause-part : goal.returns-in-len2-clause-part
returns-in-len2-clause-part g c =
    let old = state g.S.Store c.args.tx.now.conn.now in
    let new = state g.S.Store c.insert_two.new.tx.conn.now in
    subst (λ some. OnOk c.insert_two.result (Part old new (with_each g.T.Insert.with some))) (the_two c.args.some.now _ _ c.in-len2.len_at_least c.in-len2.len_below c.first-item.is c.second-item.is) c.insert_two.ensures.part

pub returns-in-len3-clause-part : goal.returns-in-len3-clause-part
returns-in-len3-clause-part g c =
    let old = state g.S.Store c.args.tx.now.conn.now in
    let new = state g.S.Store c.insert_three.new.tx.conn.now in
    subst (λ some. OnOk c.insert_three.result (Part old new (with_each g.T.Insert.with some)))
    (the_three c.args.some.now _ _ _ c.in-len3.len_at_least c.in-len3.len_below c.first-item-then-some-lt4.is c.second-item-then-some-lt4.is c.third-item.is) c.insert_three.ensures.part
