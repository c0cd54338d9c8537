use Rattle.std.proofs.Common.{arith}
use Rattle.std.specs.Int.{w64}
use Rattle.std.proofs.lemmas.Int.{to_z-of_z}
use Rattle.sqlite.specs.Held.{state}
use Rattle.sqlite.specs.State.{HasCleanDisk}
use Rattle.store_sql.proofs.Creations.{empty_reads}
use Rattle.store_sql.proofs.TransactionParts.{on_part, stays_then}
use Rattle.store_sql.proofs.creation.make_all.Goals as goal

pub returns-clause-stays : goal.returns-clause-stays
returns-clause-stays g c = stays_then _ _ _ c.make_schema.ensures.stays c.insert.ensures.stays

pub returns-clause-made : goal.returns-clause-made
returns-clause-made g c clean =
    let early : HasCleanDisk (state g.S.Store c.make_schema.new.tx.conn.now) = omega (arith, c.insert.ensures.stays.survives.clean) in
    on_part c.insert.result _ _ (λ part none. part.reads clean _ (empty_reads _ (c.in_ok-make_schema.ensures.made early none))) (rw (to_z-of_z w64 c.args.version c.ranges.version) at c.insert.ensures.part)
