use Rattle.std.proofs.Common.{◌≡◌, [], sym, subst, rules, arith}
use Rattle.sqlite.specs.Effect.{Database}
use Rattle.sqlite.specs.Held.{state}
use Rattle.sqlite.specs.Listing.{understood}
use Rattle.sqlite.specs.State.{HasCleanDisk}
use Rattle.sqlite.proofs.Callers.{IsPlain, begun_plain}
use Rattle.store_sql.proofs.Commits.{if_ok_then}
use Rattle.store_sql.proofs.PlainQueries.{commits_nothing, plain_left, shown_from, writes_on}
use Rattle.store_sql.proofs.scans.scan.Goals as goal

pub returns-in_err-rows-clause-writes : goal.returns-in_err-rows-clause-writes
returns-in_err-rows-clause-writes g c =
    let old = state g.S.Store c.args.conn.now in
    let new = state g.S.Store c.query.follows.lender-at-none in
    let held = c.query.follows.holds-at-none in
    let refused = rw c.in_err-rows.was at held in record {
      survives = commits_nothing c.args.sql.now [] old new c.requires.plain refused.survives;
      ended = refused.mode c.requires.idle;
      left = λ clean. plain_left old new c.args.sql.now [] _ c.requires.plain (refused.err clean);
    }

pub returns-clause-writes : goal.returns-clause-writes
returns-clause-writes g c =
    let start = c.args.conn.now in
    let begun = c.in_ok-rows.rows.conn.now in
    let read = c.take_each.ensures.writes in
    let same : c.take_each.new.rows.conn.now ≡ c.conn-2-1.given.0 = search rules in
    rw (← same) (writes_on (state g.S.Store start) (state g.S.Store begun) (state g.S.Store c.take_each.new.rows.conn.now)
    (commits_nothing c.args.sql.now [] (state g.S.Store start) (state g.S.Store begun) c.requires.plain c.in_ok-rows.ensures.survives)
    (λ clean. (begun_plain g.S.Store c.args.sql.now [] start begun c.requires.plain (c.in_ok-rows.ensures.begun clean)).1)
    read.survives read.ended read.left)

pub returns-clause-taken : goal.returns-clause-taken
returns-clause-taken g c =
    let start = c.args.conn.now in
    let begun = c.in_ok-rows.rows.conn.now in
    let new = state g.S.Store c.take_each.new.rows.conn.now in
    let same : c.take_each.new.rows.conn.now ≡ c.conn-2-1.given.0 = search rules in
    rw (← same) (if_ok_then c.take_each.result _ _ c.take_each.ensures.taken (λ rowids it. (
      it.0,
      it.1,
      λ (clean : HasCleanDisk new).
          let early : HasCleanDisk (state g.S.Store begun) = omega (arith, c.take_each.ensures.writes.survives.clean) in
          let given = begun_plain g.S.Store c.args.sql.now [] start begun c.requires.plain (c.in_ok-rows.ensures.begun early) in
          let plain = subst (λ (d : Database). IsPlain (understood d.schema c.args.sql.now)) (sym given.1.0.now_is) c.requires.plain in
          shown_from c.args.sql.now [] (state g.S.Store start) (state g.S.Store begun) new it.0 c.requires.plain given.1 (it.2 clean c.args.sql.now plain given.0),
    )))
