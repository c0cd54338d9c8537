-- The checks of the tables, one after the other.
use Rattle.std.proofs.Common.{◌≡◌, ℕ, ℤ, List, pos, false, Option, None, Some, IfSome, Result, Ok, Err, IfOk, IfErr, IsPermutation, inl, refl, sym, subst}
use Rattle.std.proofs.lemmas.List.Sorted.{IsPermutation-refl, IsPermutation-trans, IsPermutation-sym}
use Rattle.sqlite.specs.Effect.{Database}
use Rattle.sqlite.specs.State.{State as Shown, HasCleanDisk, Shows}
use Rattle.office_model.specs.States.{State}
use Rattle.store_sql.specs.declared.rows_fault.RowsFault.{RowsFault}
use Rattle.store_sql.specs.declared.rows_fault.RowsFault.TheVariants as tables
use Rattle.store_sql.specs.Rows.{RecordRowOf, ReceiptRowOf, ChangeRowOf, RowsOf}
use Rattle.store_sql.specs.Tables.{stored_zone}
use Rattle.store_sql.specs.Holds.{Holds, OnlyAsks, Reads}
use Rattle.store_sql.proofs.Commits.{asks_then, shows_then, held_now}
use Rattle.store_sql.proofs.Selections.{one_stored_zone}
use Rattle.store_sql.proofs.WholeTables.{reads_all, stored_same}
use Rattle.store_rows.specs.declared.row_fault.RowFault.{RowFault}
use Rattle.store_rows.specs.declared.row_fault.RowFault.TheVariants as rows
use Rattle.store_faults.specs.declared.store_fault.StoreFault.{StoreFault}
use Rattle.store_faults.specs.StoreFaults.{of_found, IsFailure}
use Rattle.store_rows.specs.RowRefusals.{of_check}
use Rattle.zone_core.specs.Zones.{ZoneOf}
use Rattle.store_rows.specs.Contents.{AreOfState}
use Rattle.store_rows.specs.ReadZones.{IsReadAmong, IsReadIn}
use Rattle.store_rows.specs.Checks.{AreOriginRows, AreRecordsOf, AreChangesOf, AreReceiptRows, AreStateRows, Checks}
use Rattle.store_rows.proofs.ListLemmas.{one_moved}
use Rattle.store_rows.proofs.ReadZoneLemmas.{read_in, read_is}
use Rattle.store_rows.proofs.StateChecks.{state_of_rows, rows_of_state}
use Rattle.store_rows.proofs.TableLaws.{from_tables, records_by_table, changes_by_table, origins_by_table}
use Rattle.office_store.specs.Holds.{HoldsState, LeavesStates}
use Rattle.office_store.specs.Cache.{IsZoneIn}
use Rattle.office_store.specs.Opening.{IsCheck, IsNow, HasOrigins, VersionIn, OriginsIn, RecordsFound, ChangesFound, ReceiptsIn, StateFound}
use Rattle.office_store.specs.Queries.{AsksOnly}
use Rattle.office_store.specs.declared.opening.Checked.{Checked}
use Rattle.store_cache.specs.declared.history.ZoneHistory.{ZoneHistory}
use Rattle.store_cache.specs.History.{Remembers}
use Rattle.office_store.proofs.QueryLemmas.{asked_once, only_shown}

abbrev Labels : Type 0
Labels = List (List ℕ)

-- ---- one table

module _ {X R : Type 0} (old new : Shown) (asks : OnlyAsks old new) (P : List R → X → Type 0) (has : Database → List R → Type 0) (of : RowsOf → List R) (Q : List R → Type 0) where
  abbrev Told : Result X StoreFault → Type 0
  Told r = IsCheck old new r (λ x db. (xs : List R) × P xs x × has db xs) (λ all. Q (of all))

  -- rows that were read are checked
  pub checked : (xs : List R) → (HasCleanDisk new → Shows old new old.now old.now false) → (HasCleanDisk new → has new.now xs) → (HasCleanDisk new → (all : RowsOf) → Holds old all → IsPermutation (of all) xs)
      → ((ys zs : List R) → IsPermutation ys zs → Q ys → Q zs) → (r : Result X RowFault) → IfOk r (P xs) → (r ≡ Err rows.BadRow → ¬ (Q xs)) → Told (of_check r)
  checked xs same found answer moves (Ok x) p none = record { asks = asks; same = same; found = λ clean. (xs, p, found clean); good = λ clean. tt; named = tt }
  checked xs same found answer moves (Err rows.BadRow) p none = record {
    asks = asks;
    same = λ clean. tt;
    found = λ clean. tt;
    good = λ clean all holds q. absurd (none refl (moves (of all) xs (answer clean all holds) q));
    named = tt;
  }
  checked xs same found answer moves (Err rows.NoMemory) p none = record { asks = asks; same = λ clean. tt; found = λ clean. tt; good = λ clean all holds q. tt; named = tt }

  -- rows that were not read are not
  pub unread : (fault : RowsFault) → (HasCleanDisk new → fault ≡ tables.BadRow → (all : RowsOf) → Holds old all → Q (of all) → ⊥) → Told (Err (of_found fault))
  unread (tables.Store cause) bad = record { asks = asks; same = λ clean. tt; found = λ clean. tt; good = λ clean all holds q. tt; named = tt }
  unread tables.BadRow bad = record { asks = asks; same = λ clean. tt; found = λ clean. tt; good = λ clean all holds q. absurd (bad clean refl all holds q); named = tt }
  unread tables.NoMemory bad = record { asks = asks; same = λ clean. tt; found = λ clean. tt; good = λ clean all holds q. tt; named = tt }

-- ---- one after the other

-- a first check, of rows that are wanted
pub first_check : {X : Type 0} (old new : Shown) (r : Result X StoreFault) (P : X → Database → Type 0) (Q W : RowsOf → Type 0) → ((all : RowsOf) → W all → Q all) → IsCheck old new r P Q → IsCheck old new r P W
first_check old new (Ok x) P Q W part c = record { asks = c.asks; same = c.same; found = c.found; good = λ clean. tt; named = tt }
first_check old new (Err e) P Q W part c = record { asks = c.asks; same = λ clean. tt; found = λ clean. tt; good = λ clean all holds w. c.good clean all holds (part all w); named = c.named }

-- and the next one, where what the checks before found tells what it wants
module _ {X Y : Type 0} (old mid new : Shown) (x : X) (P : X → Database → Type 0) (W : RowsOf → Type 0) (one : IsCheck old mid (Ok x) P W) (P2 : Y → Database → Type 0) (Q : RowsOf → Type 0)
    (part : (db : Database) (all : RowsOf) → P x db → Reads db all → W all → Q all) where
  pub next_check : (r : Result Y StoreFault) → IsCheck mid new r P2 Q → IsCheck old new r (λ y db. P x db × P2 y db) W
  next_check (Ok y) two = record {
    asks = asks_then old mid new one.asks two.asks;
    same = λ clean. shows_then old mid new (one.same (two.asks.honest clean)) (two.same clean);
    found = λ clean. (subst (P x) (sym (two.same clean).now_is) (one.found (two.asks.honest clean)), two.found clean);
    good = λ clean. tt;
    named = tt;
  }
  next_check (Err e) two = record {
    asks = asks_then old mid new one.asks two.asks;
    same = λ clean. tt;
    found = λ clean. tt;
    good = λ clean all holds w.
        let early = two.asks.honest clean in
        let now = one.asks.same all holds in
        two.good clean all now (part mid.now all (one.found early) (now (one.same early).is_open).0 w);
    named = two.named;
  }

-- what a check finds, in other words
pub found_more : {X : Type 0} (old new : Shown) (r : Result X StoreFault) (P P2 : X → Database → Type 0) (W : RowsOf → Type 0) → ((x : X) (db : Database) → P x db → P2 x db) → IsCheck old new r P W → IsCheck old new r P2 W
found_more old new (Ok x) P P2 W more c = record { asks = c.asks; same = c.same; found = λ clean. more x new.now (c.found clean); good = λ clean. tt; named = tt }
found_more old new (Err e) P P2 W more c = record { asks = c.asks; same = λ clean. tt; found = λ clean. tt; good = c.good; named = c.named }

-- ---- what the tables say together

-- the rows that are shown are of the origins that were found
pub same_origins : (db : Database) (all : RowsOf) (origins : List (List (List ℕ))) → OriginsIn origins db → Reads db all → AreOriginRows origins all.zones
same_origins db all origins found reads =
    let moved = stored_same stored_zone one_stored_zone (db.trees 1) all.zones found.0 reads.tables.zones found.2.1 in
    record { are = found.1.are; same = IsPermutation-trans _ _ _ found.1.same (IsPermutation-sym _ _ moved) }

pub wanted_origins : (all : RowsOf) → AreStateRows (pos 2) all → (origins : List (List (List ℕ))) × AreOriginRows origins all.zones
wanted_origins all are = origins_by_table all.zones all.records all.changes are.zones

pub wanted_records : (db : Database) (all : RowsOf) (origins : List (List (List ℕ))) → OriginsIn origins db → Reads db all → AreStateRows (pos 2) all → AreRecordsOf origins all.records
wanted_records db all origins found reads are = records_by_table all.zones all.records all.changes are.zones origins (same_origins db all origins found reads)

pub wanted_changes : (db : Database) (all : RowsOf) (origins : List (List (List ℕ))) → OriginsIn origins db → Reads db all → AreStateRows (pos 2) all → AreChangesOf origins all.changes
wanted_changes db all origins found reads are = changes_by_table all.zones all.records all.changes are.zones origins (same_origins db all origins found reads)

-- a zone that was read of the records was read in the tables
found_in : (origins : List (List (List ℕ))) (all : RowsOf) (found : Option ZoneOf) → AreOriginRows origins all.zones → IfSome found (λ zone. IsReadAmong origins all.records zone) → IfSome found (λ zone. IsReadIn all zone)
found_in origins all None are read = tt
found_in origins all (Some zone) are read = read_in origins all zone are read

-- what the checks read
abbrev pub both_found : Option ZoneOf → Option ZoneHistory → Checked
both_found largest history = record { largest = largest; history = history }

pub state_found : (db : Database) (origins : List (List (List ℕ))) (largest : Option ZoneOf) (history : Option ZoneHistory) → VersionIn db → OriginsIn origins db → RecordsFound origins largest db → ChangesFound origins history db → ReceiptsIn db
    → StateFound (both_found largest history) db
state_found db origins largest history versions zones records changes receipts =
    let all : RowsOf = record { versions = versions.0; zones = zones.0; records = records.0; receipts = receipts.0; changes = changes.0 } in (
      all,
      (
        record {
          versions = versions.1;
          zones = from_tables zones.0 records.0 changes.0 origins zones.1 records.1.0 changes.1.0;
          receipts = receipts.1;
        },
        found_in origins all largest zones.1 records.1.1,
        changes.1.1,
      ),
      reads_all db all versions.2 zones.2 records.2 receipts.2 changes.2,
    )

-- ---- rows in another order

pub version_moved : (xs ys : List ℤ) → IsPermutation xs ys → IsNow xs → IsNow ys
version_moved xs ys same is = one_moved (pos 2) ys (subst (λ l. IsPermutation l ys) is same)

pub origins_moved : (xs ys : List (List ℕ)) → IsPermutation xs ys → HasOrigins xs → HasOrigins ys
origins_moved xs ys same of = (of.0, record { are = of.1.are; same = IsPermutation-trans _ _ _ of.1.same same })

pub records_moved : (origins : List Labels) (xs ys : List RecordRowOf) → IsPermutation xs ys → AreRecordsOf origins xs → AreRecordsOf origins ys
records_moved origins xs ys same of = record { zones = of.zones; origins_are = of.origins_are; each = of.each; same = IsPermutation-trans _ _ _ of.same same }

pub changes_moved : (origins : List Labels) (xs ys : List ChangeRowOf) → IsPermutation xs ys → AreChangesOf origins xs → AreChangesOf origins ys
changes_moved origins xs ys same of = record { zones = of.zones; origins_are = of.origins_are; each = of.each; same = IsPermutation-trans _ _ _ of.same same }

pub receipts_moved : (xs ys : List ReceiptRowOf) → IsPermutation xs ys → AreReceiptRows xs → AreReceiptRows ys
receipts_moved xs ys same of = record { receipts = of.receipts; apart = of.apart; each = of.each; same = IsPermutation-trans _ _ _ of.same same }

-- ---- what a check of one table tells

pub passed : {X : Type 0} (P : Type 0) (r : Result X RowFault) → Checks P r → IfOk r (λ _. P)
passed P (Ok x) h = h
passed P (Err e) h = tt

pub both_passed : {X : Type 0} (P : Type 0) (Q : X → Type 0) (r : Result X RowFault) → Checks P r → IfOk r Q → IfOk r (λ x. P × Q x)
both_passed P Q (Ok x) h q = (h, q)
both_passed P Q (Err e) h q = tt

pub was_bad : {X : Type 0} (P : Type 0) (r : Result X RowFault) → Checks P r → r ≡ Err rows.BadRow → ¬ P
was_bad P (Ok x) h is = absurd cc
was_bad P (Err rows.BadRow) h is = h
was_bad P (Err rows.NoMemory) h is = absurd cc

pub if_checked : {X : Type 0} (r : Result X RowFault) (P Q : X → Type 0) → ((x : X) → P x → Q x) → IfOk r P → IfOk (of_check r) Q
if_checked (Ok x) P Q more h = more x h
if_checked (Err e) P Q more h = tt

-- ---- the checks in turn

abbrev Wanted : RowsOf → Type 0
Wanted = AreStateRows (pos 2)

abbrev Named : {V : Type 0} → (V → List Labels) → V → Database → Type 0
Named items v db = VersionIn db × OriginsIn (items v) db

abbrev WithRecords : List Labels → Option ZoneOf → Database → Type 0
WithRecords origins found db = (VersionIn db × OriginsIn origins db) × RecordsFound origins found db

abbrev WithChanges : List Labels → Option ZoneOf → Option ZoneHistory → Database → Type 0
WithChanges origins found history db = WithRecords origins found db × ChangesFound origins history db

pub zones_next : {V : Type 0} (old mid new : Shown) (r : Result V StoreFault) (items : V → List Labels) (u : Unit {0}) → IsCheck old mid (Ok u) (λ _ db. VersionIn db) (λ all. IsNow all.versions)
    → IsCheck mid new r (λ v db. OriginsIn (items v) db) (λ all. HasOrigins all.zones) → IsCheck old new r (Named items) Wanted
zones_next old mid new r items u meta zones =
    next_check old mid new u (λ _ db. VersionIn db) Wanted (first_check old mid (Ok u) (λ _ db. VersionIn db) (λ all. IsNow all.versions) Wanted (λ all are. are.versions) meta)
    (λ v db. OriginsIn (items v) db) (λ all. HasOrigins all.zones) (λ db all p reads are. wanted_origins all are) r zones

pub records_next : {V : Type 0} (old mid new : Shown) (r : Result (Option ZoneOf) StoreFault) (v : V) (items : V → List Labels) (origins : List Labels) → origins ≡ items v → IsCheck old mid (Ok v) (Named items) Wanted
    → IsCheck mid new r (RecordsFound origins) (λ all. AreRecordsOf origins all.records) → IsCheck old new r (WithRecords (items v)) Wanted
records_next old mid new r v items origins is zones records =
    next_check old mid new v (Named items) Wanted zones (RecordsFound (items v)) (λ all. AreRecordsOf (items v) all.records) (λ db all p reads are. wanted_records db all (items v) p.1 reads are) r
    (subst (λ l. IsCheck mid new r (RecordsFound l) (λ all. AreRecordsOf l all.records)) is records)

module _ (names : List Labels) (found : Option ZoneOf) (old mid new : Shown) where
  pub changes_next : (r : Result (Option ZoneHistory) StoreFault) (origins : List Labels) → origins ≡ names → IsCheck old mid (Ok found) (WithRecords names) Wanted
      → IsCheck mid new r (ChangesFound origins) (λ all. AreChangesOf origins all.changes) → IsCheck old new r (WithChanges names found) Wanted
  changes_next r origins is records changes =
      next_check old mid new found (WithRecords names) Wanted records (ChangesFound names) (λ all. AreChangesOf names all.changes) (λ db all p reads are. wanted_changes db all names p.0.1 reads are) r
      (subst (λ l. IsCheck mid new r (ChangesFound l) (λ all. AreChangesOf l all.changes)) is changes)

  pub receipts_next : (r : Result (Unit {0}) StoreFault) (history : Option ZoneHistory) → IsCheck old mid (Ok history) (WithChanges names found) Wanted → IsCheck mid new r (λ _ db. ReceiptsIn db) (λ all. AreReceiptRows all.receipts)
      → IsCheck old new r (λ _ db. StateFound (both_found found history) db) Wanted
  receipts_next r history changes receipts =
      found_more old new r (λ _ db. WithChanges names found history db × ReceiptsIn db) (λ _ db. StateFound (both_found found history) db) Wanted
      (λ _ db p. state_found db names found history p.0.0.0.0 p.0.0.0.1 p.0.0.1 p.0.1 p.1)
      (next_check old mid new history (WithChanges names found) Wanted changes (λ _ db. ReceiptsIn db) (λ all. AreReceiptRows all.receipts) (λ db all p reads are. are.receipts) r receipts)

-- what was found on the way is handed on
pub handed_on : (old new : Shown) (found : Checked) (u : Unit {0}) → IsCheck old new (Ok u) (λ _ db. StateFound found db) Wanted → IsCheck old new (Ok found) StateFound Wanted
handed_on old new found u c = record { asks = c.asks; same = c.same; found = c.found; good = λ clean. tt; named = tt }

-- what one check refuses is refused
pub refused_so : {X Y : Type 0} (old new : Shown) (first : Result X StoreFault) (r : Result Y StoreFault) (e : StoreFault) (P : X → Database → Type 0) (P2 : Y → Database → Type 0) (W : RowsOf → Type 0)
    → first ≡ Err e → r ≡ Err e → IsCheck old new first P W → IsCheck old new r P2 W
refused_so old new first r e P P2 W was is c =
    let none = subst (λ q. IsCheck old new q P W) was c in
    subst (λ q. IsCheck old new q P2 W) (sym is) (record { asks = none.asks; same = λ clean. tt; found = λ clean. tt; good = none.good; named = none.named })

-- ---- the state that was found

module _ (old new : Shown) where
  abbrev WasChecked : Result Checked StoreFault → Type 0
  WasChecked r = IsCheck old new r StateFound (AreStateRows (pos 2))

  -- the zone that was read is one of the state
  zone_found : (all : RowsOf) (s : State) (found : Option ZoneOf) → AreOfState (pos 2) all s → IfSome found (λ zone. IsReadIn all zone) → IsZoneIn s found
  zone_found all s None are read = tt
  zone_found all s (Some zone) are read = read_is (pos 2) all s zone are read

  pub holds_state : (r : Result Checked StoreFault) → WasChecked r → HasCleanDisk new → IfOk r (λ found. (s : State) × HoldsState new s × LeavesStates new s s × IsZoneIn s found.largest × Remembers s found.history)
  holds_state (Ok found) c clean =
      let it = c.found clean in
      let s = state_of_rows (pos 2) it.0 it.1.0 in
      let held = held_now old new it.0 c.asks (c.same clean).is_open it.2 in
      (s.0, record { rows = it.0; are = s.1; held = held.0 }, (λ sure db may. inl (it.0, s.1, held.1 sure db may)), zone_found it.0 s.0 found.largest s.1 it.1.1, it.1.2 (pos 2) it.0 s.0 s.1 (IsPermutation-refl it.0.changes))
  holds_state (Err e) c clean = tt

  pub refuses_none : (r : Result Checked StoreFault) → WasChecked r → HasCleanDisk new → IfErr r (λ e. (s : State) → HoldsState old s → IsFailure e)
  refuses_none (Ok x) c clean = tt
  refuses_none (Err e) c clean = λ s h. c.good clean h.rows h.held (rows_of_state (pos 2) h.rows s h.are)

  pub asks_only : (r : Result Checked StoreFault) → WasChecked r → AsksOnly old new r
  asks_only (Ok x) c = (asked_once old new c.asks, λ clean. only_shown old new c.asks (c.same clean))
  asks_only (Err e) c = (asked_once old new c.asks, λ clean. tt)
