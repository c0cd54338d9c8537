use Rattle.sqlite.specs.Held.{state}
use Rattle.sqlite.specs.State.{HasCleanDisk}
use Rattle.office_model.specs.Tables.{addition_in, committed}
use Rattle.office_store.proofs.TurnLemmas.{written}
use Rattle.office_store.proofs.batch.commit.Goals as goal

pub returns : goal.returns
returns g c =
    let old = state g.S.Store c.args.conn.now in
    let mid = state g.S.Store c.batch_of.new.conn in
    let new = state g.S.Store c.write_to.new.conn in
    written old mid new c.write_to.result c.in_ok-batch.batch (committed (addition_in c.args.addition.now)) c.batch_of.ensures.asked
    c.write_to.ensures.made c.write_to.ensures.failed c.write_to.ensures.kept c.write_to.ensures.crash c.write_to.ensures.honest
    (λ clean s h.
    let early : HasCleanDisk mid = c.write_to.ensures.honest clean in
    c.in_ok-batch.ensures.leads early s h (c.requires.fits (c.batch_of.ensures.asked.honest early) s h))
