-- What the checks of the tables say, one after the other.
use Rattle.std.specs.Prelude.{◌≡◌, ℕ, ℤ, List, [], ◌∷◌, map, pos, false, Option, IfSome, Result, IfOk, IfErr, OnOk, IsPermutation}
use Rattle.sqlite.specs.Effect.{Database}
use Rattle.sqlite.specs.State.{State as Shown, HasCleanDisk, Shows}
use Rattle.store_sql.specs.Rows.{RecordRowOf, ReceiptRowOf, ChangeRowOf, RowsOf}
use Rattle.store_sql.specs.Tables.{stored_version}
use Rattle.store_sql.specs.Stores.{Stores}
use Rattle.store_sql.specs.Holds.{HasZones, HasRecords, HasReceipts, HasChanges, Holds, OnlyAsks, Reads}
use Rattle.zone_core.specs.Zones.{ZoneOf}
use Rattle.office_model.specs.States.{State}
use Rattle.store_rows.specs.Contents.{AreOfState}
use Rattle.store_rows.specs.ReadZones.{IsReadAmong, IsReadIn}
use Rattle.store_rows.specs.Checks.{AreOriginRows, AreRecordsOf, AreChangesOf, AreReceiptRows, AreStateRows}
use Rattle.store_faults.specs.declared.store_fault.StoreFault.{StoreFault}
use Rattle.store_faults.specs.StoreFaults.{IsFailure, IsOfRows}
use Rattle.store_cache.specs.declared.history.ZoneHistory.{ZoneHistory}
use Rattle.store_cache.specs.History.{Remembers}
use Rattle.office_store.specs.declared.opening.Checked.{Checked}

-- A check only asks, and what is shown stays as it is. It passes only where this is so of the database; rows of which that is so are
-- refused only by a failure.
pub record IsCheck {X : Type 0} (old new : Shown) (result : Result X StoreFault) (P : X → Database → Type 0) (Q : RowsOf → Type 0) : Type 0 where
  pub asks : OnlyAsks old new
  pub same : HasCleanDisk new → OnOk result (Shows old new old.now old.now false)
  pub found : HasCleanDisk new → IfOk result (λ x. P x new.now)
  pub good : HasCleanDisk new → IfErr result (λ e. (rows : RowsOf) → Holds old rows → Q rows → IsFailure e)
  pub named : IfErr result IsOfRows

-- the one row of `meta` says version 2
abbrev pub IsNow : List ℤ → Type 0
IsNow versions = versions ≡ pos 2 ∷ []

abbrev pub VersionIn : Database → Type 0
VersionIn db = (rows : List ℤ) × IsNow rows × Stores (db.trees 0) (map stored_version rows)

-- rows of `zones` are the texts of some origins
abbrev pub HasOrigins : List (List ℕ) → Type 0
HasOrigins rows = (origins : List (List (List ℕ))) × AreOriginRows origins rows

-- the rows of a table are those of zones of these origins
abbrev pub OriginsIn : List (List (List ℕ)) → Database → Type 0
OriginsIn origins db = (rows : List (List ℕ)) × AreOriginRows origins rows × HasZones db rows

-- of which a zone was read, if one was found
abbrev pub RecordsFound : List (List (List ℕ)) → Option ZoneOf → Database → Type 0
RecordsFound origins found db = (rows : List RecordRowOf) × (AreRecordsOf origins rows × IfSome found (λ zone. IsReadAmong origins rows zone)) × HasRecords db rows

-- in each state that has these rows of changes, in some order, this is remembered of a zone
abbrev pub AreRemembered : List ChangeRowOf → Option ZoneHistory → Type 0
AreRemembered rows history = (version : ℤ) (all : RowsOf) (s : State) → AreOfState version all s → IsPermutation rows all.changes → Remembers s history

-- and of which something is remembered
abbrev pub ChangesFound : List (List (List ℕ)) → Option ZoneHistory → Database → Type 0
ChangesFound origins history db = (rows : List ChangeRowOf) × (AreChangesOf origins rows × AreRemembered rows history) × HasChanges db rows

-- the rows of `receipts` are those of receipts
abbrev pub ReceiptsIn : Database → Type 0
ReceiptsIn db = (rows : List ReceiptRowOf) × AreReceiptRows rows × HasReceipts db rows

-- the rows of all tables are those of a state, of which a zone was read, if one was found, and something is remembered
abbrev pub StateFound : Checked → Database → Type 0
StateFound found db = (rows : RowsOf) × (AreStateRows (pos 2) rows × IfSome found.largest (λ zone. IsReadIn rows zone) × AreRemembered rows.changes found.history) × Reads db rows
