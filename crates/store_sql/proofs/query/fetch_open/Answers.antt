use Rattle.std.proofs.Common.{◌∙◌, not, sym, ap, arith}
use Rattle.sqlite.specs.Held.{state}
use Rattle.sqlite.specs.State.{HasCleanDisk}
use Rattle.store_sql.specs.Holds.{IsSettled}
use Rattle.store_sql.proofs.Commits.{keeps_then, only_asks, shows_still}
use Rattle.store_sql.proofs.TransactionParts.{stays_then}
use Rattle.store_sql.proofs.query.fetch_open.Goals as goal

pub returns-in_err-rows-clause-asks : goal.returns-in_err-rows-clause-asks
returns-in_err-rows-clause-asks g c =
    let old = state g.S.Store c.args.conn.now in
    let settled : IsSettled old = λ up. sym (c.is_autocommit-is_alone.ensures.settled (c.is_autocommit-is_alone.ensures.value ∙ ap not c.requires) up) in
    only_asks old (state g.S.Store c.fetch.new.conn) settled c.fetch.ensures.stays c.fetch.ensures.back c.fetch.ensures.ended (λ db up may. g.met.S.Store.settled c.fetch.new.conn.store db up may)

pub returns-in_err-check_open-clause-asks : goal.returns-in_err-check_open-clause-asks
returns-in_err-check_open-clause-asks g c =
    let old = state g.S.Store c.args.conn.now in
    let mid = state g.S.Store c.fetch.new.conn in
    let new = state g.S.Store c.check_open.new.conn in
    let settled : IsSettled old = λ up. sym (c.is_autocommit-is_alone.ensures.settled (c.is_autocommit-is_alone.ensures.value ∙ ap not c.requires) up) in
    only_asks old new settled (stays_then old mid new c.fetch.ensures.stays c.check_open.ensures.stays) (keeps_then old mid new c.fetch.ensures.back c.check_open.ensures.back) c.check_open.ensures.ended
    (λ db up may. g.met.S.Store.settled c.check_open.new.conn.store db up may)

pub returns-clause-asks : goal.returns-clause-asks
returns-clause-asks g c =
    let old = state g.S.Store c.args.conn.now in
    let mid = state g.S.Store c.fetch.new.conn in
    let new = state g.S.Store c.check_open.new.conn in
    let settled : IsSettled old = λ up. sym (c.is_autocommit-is_alone.ensures.settled (c.is_autocommit-is_alone.ensures.value ∙ ap not c.requires) up) in
    only_asks old new settled (stays_then old mid new c.fetch.ensures.stays c.check_open.ensures.stays) (keeps_then old mid new c.fetch.ensures.back c.check_open.ensures.back) c.check_open.ensures.ended
    (λ db up may. g.met.S.Store.settled c.check_open.new.conn.store db up may)

pub returns-clause-same : goal.returns-clause-same
returns-clause-same g c clean =
    let old = state g.S.Store c.args.conn.now in
    let mid = state g.S.Store c.fetch.new.conn in
    let new = state g.S.Store c.check_open.new.conn in
    let settled : IsSettled old = λ up. sym (c.is_autocommit-is_alone.ensures.settled (c.is_autocommit-is_alone.ensures.value ∙ ap not c.requires) up) in
    shows_still old new settled (keeps_then old mid new c.fetch.ensures.back c.check_open.ensures.back) c.check_open.ensures.ended (c.in_ok-check_open.ensures.same clean).0.is_open

pub returns-clause-shown : goal.returns-clause-shown
returns-clause-shown g c clean =
    let early : HasCleanDisk (state g.S.Store c.fetch.new.conn) = omega (arith, c.check_open.ensures.stays.survives.clean) in
    c.in_ok-rows.ensures.shown early
