use Rattle.std.proofs.Common.{◌∙◌, Err, map, map-id, sym, ap, subst, IsPermutation}
use Rattle.sqlite.specs.Effect.{Database}
use Rattle.sqlite.specs.Held.{state}
use Rattle.sqlite.specs.State.{HasCleanDisk}
use Rattle.store_sql.specs.Rows.{RowsOf}
use Rattle.store_sql.specs.Stores.{Stores}
use Rattle.store_sql.specs.Tables.{stored_version}
use Rattle.store_sql.specs.Holds.{HasZones, HasRecords, HasReceipts, HasChanges, Holds}
use Rattle.store_sql.proofs.Commits.{asks_then, held_now, shows_then}
use Rattle.store_sql.proofs.WholeTables.{each_itself, reads_all}
use Rattle.store_sql.proofs.scans.all_rows.Goals as goal

pub returns-clause-answer : goal.returns-clause-answer
returns-clause-answer g c clean rows holds =
    let clean_4 : HasCleanDisk (state g.S.Store c.all_receipts.new.conn) = c.all_changes.ensures.asks.honest clean in
    let clean_3 : HasCleanDisk (state g.S.Store c.all_records.new.conn) = c.all_receipts.ensures.asks.honest clean_4 in
    let clean_2 : HasCleanDisk (state g.S.Store c.all_zones.new.conn) = c.all_records.ensures.asks.honest clean_3 in
    let clean_1 : HasCleanDisk (state g.S.Store c.versions.new.conn) = c.all_zones.ensures.asks.honest clean_2 in
    let h1 : Holds (state g.S.Store c.versions.new.conn) rows = c.versions.ensures.asks.same rows holds in
    let h2 : Holds (state g.S.Store c.all_zones.new.conn) rows = c.all_zones.ensures.asks.same rows h1 in
    let h3 : Holds (state g.S.Store c.all_records.new.conn) rows = c.all_records.ensures.asks.same rows h2 in
    let h4 : Holds (state g.S.Store c.all_receipts.new.conn) rows = c.all_receipts.ensures.asks.same rows h3 in
    record {
      versions = c.in_ok-versions.ensures.answer clean_1 rows holds;
      zones = subst (IsPermutation rows.zones) (map-id _) (c.in_ok-zones.ensures.answer clean_2 rows h1);
      records = subst (IsPermutation rows.records) (map-id _) (c.in_ok-records.ensures.answer clean_3 rows h2);
      receipts = subst (IsPermutation rows.receipts) (map-id _) (c.in_ok-receipts.ensures.answer clean_4 rows h3);
      changes = subst (IsPermutation rows.changes) (map-id _) (c.in_ok-changes.ensures.answer clean rows h4);
    }

pub returns-clause-found : goal.returns-clause-found
returns-clause-found g c clean =
    let new = state g.S.Store c.all_changes.new.conn in
    let clean_4 : HasCleanDisk (state g.S.Store c.all_receipts.new.conn) = c.all_changes.ensures.asks.honest clean in
    let clean_3 : HasCleanDisk (state g.S.Store c.all_records.new.conn) = c.all_receipts.ensures.asks.honest clean_4 in
    let clean_2 : HasCleanDisk (state g.S.Store c.all_zones.new.conn) = c.all_records.ensures.asks.honest clean_3 in
    let clean_1 : HasCleanDisk (state g.S.Store c.versions.new.conn) = c.all_zones.ensures.asks.honest clean_2 in
    let to_4 = (c.in_ok-changes.ensures.same clean).now_is in
    let to_3 = to_4 ∙ (c.in_ok-receipts.ensures.same clean_4).now_is in
    let to_2 = to_3 ∙ (c.in_ok-records.ensures.same clean_3).now_is in
    let to_1 = to_2 ∙ (c.in_ok-zones.ensures.same clean_2).now_is in
    let all : RowsOf = record {
      versions = c.in_ok-versions.versions.items;
      zones = c.in_ok-zones.zones.items;
      records = c.in_ok-records.records.items;
      receipts = c.in_ok-receipts.receipts.items;
      changes = c.in_ok-changes.changes.items;
    } in
    held_now (state g.S.Store c.all_receipts.new.conn) new all c.all_changes.ensures.asks (c.in_ok-changes.ensures.same clean).is_open
    (reads_all new.now all
    (subst (λ (d : Database). Stores (d.trees 0) (map stored_version c.in_ok-versions.versions.items)) (sym to_1) (c.in_ok-versions.ensures.found clean_1).1)
    (subst (λ (d : Database). HasZones d c.in_ok-zones.zones.items) (sym to_2) (subst (HasZones (state g.S.Store c.all_zones.new.conn).now) (map-id _) (c.in_ok-zones.ensures.found clean_2)))
    (subst (λ (d : Database). HasRecords d c.in_ok-records.records.items) (sym to_3) (subst (HasRecords (state g.S.Store c.all_records.new.conn).now) (map-id _) (c.in_ok-records.ensures.found clean_3)))
    (subst (λ (d : Database). HasReceipts d c.in_ok-receipts.receipts.items) (sym to_4) (subst (HasReceipts (state g.S.Store c.all_receipts.new.conn).now) (map-id _) (c.in_ok-receipts.ensures.found clean_4)))
    (subst (HasChanges new.now) (map-id _) (c.in_ok-changes.ensures.found clean)))

pub returns-clause-only : goal.returns-clause-only
returns-clause-only g c clean rows holds =
    let clean_4 : HasCleanDisk (state g.S.Store c.all_receipts.new.conn) = c.all_changes.ensures.asks.honest clean in
    let clean_3 : HasCleanDisk (state g.S.Store c.all_records.new.conn) = c.all_receipts.ensures.asks.honest clean_4 in
    let clean_2 : HasCleanDisk (state g.S.Store c.all_zones.new.conn) = c.all_records.ensures.asks.honest clean_3 in
    let clean_1 : HasCleanDisk (state g.S.Store c.versions.new.conn) = c.all_zones.ensures.asks.honest clean_2 in
    let h4 : Holds (state g.S.Store c.all_receipts.new.conn) rows = c.in_ok-changes.ensures.only clean rows holds in
    let h3 : Holds (state g.S.Store c.all_records.new.conn) rows = c.in_ok-receipts.ensures.only clean_4 rows h4 in
    let h2 : Holds (state g.S.Store c.all_zones.new.conn) rows = c.in_ok-records.ensures.only clean_3 rows h3 in
    let h1 : Holds (state g.S.Store c.versions.new.conn) rows = c.in_ok-zones.ensures.only clean_2 rows h2 in
    c.in_ok-versions.ensures.only clean_1 rows h1

pub returns-in_err-zones-clause-bad : goal.returns-in_err-zones-clause-bad
returns-in_err-zones-clause-bad g c clean is rows holds =
    let told = rw is at c.from_residual-in_err-zones.ensures.1 in
    c.in_err-zones.ensures.bad clean (ap Err (sym told)) rows (c.versions.ensures.asks.same rows holds) (each_itself rows.zones)

pub returns-in_err-records-clause-bad : goal.returns-in_err-records-clause-bad
returns-in_err-records-clause-bad g c clean is rows holds =
    let told = rw is at c.from_residual-in_err-records.ensures.1 in
    c.in_err-records.ensures.bad clean (ap Err (sym told)) rows (c.all_zones.ensures.asks.same rows (c.versions.ensures.asks.same rows holds)) (each_itself rows.records)

pub returns-in_err-receipts-clause-bad : goal.returns-in_err-receipts-clause-bad
returns-in_err-receipts-clause-bad g c clean is rows holds =
    let told = rw is at c.from_residual-in_err-receipts.ensures.1 in
    c.in_err-receipts.ensures.bad clean (ap Err (sym told)) rows (c.all_records.ensures.asks.same rows (c.all_zones.ensures.asks.same rows (c.versions.ensures.asks.same rows holds))) (each_itself rows.receipts)

pub returns-in_err-changes-clause-bad : goal.returns-in_err-changes-clause-bad
returns-in_err-changes-clause-bad g c clean is rows holds =
    let told = rw is at c.from_residual-in_err-changes.ensures.1 in
    c.in_err-changes.ensures.bad clean (ap Err (sym told)) rows (c.all_receipts.ensures.asks.same rows (c.all_records.ensures.asks.same rows (c.all_zones.ensures.asks.same rows (c.versions.ensures.asks.same rows holds)))) (each_itself rows.changes)

pub returns-in_err-zones-clause-asks : goal.returns-in_err-zones-clause-asks
returns-in_err-zones-clause-asks g c = asks_then _ _ _ c.versions.ensures.asks c.all_zones.ensures.asks

pub returns-in_err-records-clause-asks : goal.returns-in_err-records-clause-asks
returns-in_err-records-clause-asks g c = asks_then _ _ _ (asks_then _ _ _ c.versions.ensures.asks c.all_zones.ensures.asks) c.all_records.ensures.asks

pub returns-in_err-receipts-clause-asks : goal.returns-in_err-receipts-clause-asks
returns-in_err-receipts-clause-asks g c = asks_then _ _ _ (asks_then _ _ _ (asks_then _ _ _ c.versions.ensures.asks c.all_zones.ensures.asks) c.all_records.ensures.asks) c.all_receipts.ensures.asks

pub returns-in_err-changes-clause-asks : goal.returns-in_err-changes-clause-asks
returns-in_err-changes-clause-asks g c = asks_then _ _ _ (asks_then _ _ _ (asks_then _ _ _ (asks_then _ _ _ c.versions.ensures.asks c.all_zones.ensures.asks) c.all_records.ensures.asks) c.all_receipts.ensures.asks) c.all_changes.ensures.asks

pub returns-clause-asks : goal.returns-clause-asks
returns-clause-asks g c = asks_then _ _ _ (asks_then _ _ _ (asks_then _ _ _ (asks_then _ _ _ c.versions.ensures.asks c.all_zones.ensures.asks) c.all_records.ensures.asks) c.all_receipts.ensures.asks) c.all_changes.ensures.asks

pub returns-clause-same : goal.returns-clause-same
returns-clause-same g c clean =
    let clean_4 : HasCleanDisk (state g.S.Store c.all_receipts.new.conn) = c.all_changes.ensures.asks.honest clean in
    let clean_3 : HasCleanDisk (state g.S.Store c.all_records.new.conn) = c.all_receipts.ensures.asks.honest clean_4 in
    let clean_2 : HasCleanDisk (state g.S.Store c.all_zones.new.conn) = c.all_records.ensures.asks.honest clean_3 in
    let clean_1 : HasCleanDisk (state g.S.Store c.versions.new.conn) = c.all_zones.ensures.asks.honest clean_2 in
    let two = shows_then _ _ _ (c.in_ok-versions.ensures.same clean_1) (c.in_ok-zones.ensures.same clean_2) in
    let four = shows_then _ _ _ (shows_then _ _ _ two (c.in_ok-records.ensures.same clean_3)) (c.in_ok-receipts.ensures.same clean_4) in
    shows_then _ _ _ four (c.in_ok-changes.ensures.same clean)
