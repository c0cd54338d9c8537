use Rattle.std.proofs.Common.{◌∷◌, map, subst, rules, IsPermutation, arith}
use Rattle.std.proofs.lemmas.List.{take_all}
use Rattle.sqlite.specs.Held.{state}
use Rattle.sqlite.specs.State.{HasCleanDisk}
use Rattle.dns_names.specs.Keys.{key_of}
use Rattle.store_sql.specs.Lookups.{records_at}
use Rattle.store_sql.proofs.Commits.{asks_then, shows_then}
use Rattle.store_rows.specs.PartRows.{AreRowsAt}
use Rattle.office_store.proofs.RowLemmas.{rows_first, rows_next, none_stand, some_stand}
use Rattle.office_store.proofs.queries.rows_at.Goals as goal

pub loop-name-init : goal.loop-name-init
loop-name-init g c =
    record {
      asks = c.records_at.ensures.asks;
      same = λ clean. c.in_ok-rows.ensures.same clean;
      stands = λ clean all h. some_stand (records_at c.args.text.now (key_of c.args.origin.now) all.records) c.in_ok-rows.rows.items
          (subst (λ k. IsPermutation (records_at c.args.text.now k all.records) c.in_ok-rows.rows.items) c.key.ensures.key (c.in_ok-rows.ensures.answer clean all h)) (search (rules, c.is_empty.ensures, c.if-is_empty.false));
      found = λ clean all h. rows_first c.args.text.now (key_of c.args.origin.now) all.records c.in_ok-rows.rows.items
          (subst (λ k. IsPermutation (records_at c.args.text.now k all.records) c.in_ok-rows.rows.items) c.key.ensures.key (c.in_ok-rows.ensures.answer clean all h));
    }

pub loop-name-preserved : goal.loop-name-preserved
loop-name-preserved g c =
    let before = state g.S.Store c.loop-name.conn in
    let after = state g.S.Store c.records_at-in-loop-name.new.conn in
    let asks = c.records_at-in-loop-name.ensures.asks in
    let name = c.name-item.result in
    record {
      asks = asks_then (state g.S.Store c.args.conn.now) before after c.loop-name.invariant.asks asks;
      same = λ clean. shows_then (state g.S.Store c.args.conn.now) before after (c.loop-name.invariant.same (asks.honest clean)) (c.in_ok-more.ensures.same clean);
      stands = λ clean all h. c.loop-name.invariant.stands (asks.honest clean) all h;
      found = λ clean all h.
          let early : HasCleanDisk before = asks.honest clean in
          let more = subst (λ k. IsPermutation (records_at c.args.text.now k all.records) c.in_ok-more.more.items) c.key-in-loop-name.ensures.key (c.in_ok-more.ensures.answer clean all (c.loop-name.invariant.asks.same all h)) in
          rows_next c.args.text.now c.args.origin.now name c.args.names.now c.loop-name.name-index all.records c.loop-name.rows.items c.in_ok-more.more.items _ (omega arith) c.name-item.is (c.loop-name.invariant.found early all h) more c.in_ok-append.ensures.items;
    }

pub returns-in_err-more-clause-asks : goal.returns-in_err-more-clause-asks
returns-in_err-more-clause-asks g c = asks_then (state g.S.Store c.args.conn.now) (state g.S.Store c.loop-name.conn) (state g.S.Store c.records_at-in-loop-name.new.conn) c.loop-name.invariant.asks c.records_at-in-loop-name.ensures.asks

pub returns-in_err-append-clause-asks : goal.returns-in_err-append-clause-asks
returns-in_err-append-clause-asks g c = asks_then (state g.S.Store c.args.conn.now) (state g.S.Store c.loop-name.conn) (state g.S.Store c.records_at-in-loop-name.new.conn) c.loop-name.invariant.asks c.records_at-in-loop-name.ensures.asks

pub returns-clause-found : goal.returns-clause-found
returns-clause-found g c =
    λ clean all h. (
      c.loop-name.invariant.stands clean all h,
      subst (λ ns. AreRowsAt c.args.text.now (map key_of (c.args.origin.now ∷ ns)) all.records c.loop-name.rows.items)
          (take_all c.loop-name.name-index c.args.names.now (omega arith)) (c.loop-name.invariant.found clean all h),
    )

pub returns-then-is_empty-clause-found : goal.returns-then-is_empty-clause-found
returns-then-is_empty-clause-found g c =
    λ clean all h. none_stand (records_at c.args.text.now (key_of c.args.origin.now) all.records) c.in_ok-rows.rows.items
    (subst (λ k. IsPermutation (records_at c.args.text.now k all.records) c.in_ok-rows.rows.items) c.key.ensures.key (c.in_ok-rows.ensures.answer clean all h)) (search (rules, c.is_empty.ensures, c.if-is_empty.true))
