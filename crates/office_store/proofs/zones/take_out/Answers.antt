use Rattle.sqlite.specs.Held.{state}
use Rattle.office_store.proofs.RemovalLemmas.{taken_out, stays_in}
use Rattle.office_store.proofs.zones.take_out.Goals as goal

pub returns-in_err-remove_zone-clause-turns : goal.returns-in_err-remove_zone-clause-turns
returns-in_err-remove_zone-clause-turns g c =
    let crash = rw c.requires.text at c.in_err-remove_zone.ensures.crash in
    stays_in (state g.S.Store c.args.conn.now) (state g.S.Store c.remove_zone.new.conn) c.args.origin.now c.reveal_name.ensures c.remove_zone.ensures.honest
    c.from_residual.result c.from_residual.ensures.0 c.in_err-remove_zone.ensures.failed crash

pub returns-clause-turns : goal.returns-clause-turns
returns-clause-turns g c =
    let made = rw c.requires.text at c.in_ok-remove_zone.ensures.made in
    let kept = rw c.requires.text at c.in_ok-remove_zone.ensures.kept in
    taken_out (state g.S.Store c.args.conn.now) (state g.S.Store c.remove_zone.new.conn) c.args.origin.now c.reveal_name.ensures c.remove_zone.ensures.honest
    tt made kept
