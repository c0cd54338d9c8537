-- When a connection holds rows, and what a call leaves of them.
use Rattle.std.specs.Prelude.{◌≡◌, ◌⊎◌, true, false, ℕ, ℤ, List, [], ◌∷◌, map, IsTrue, IsPermutation}
use Rattle.sqlite_trees.specs.Tree.{Trees}
use Rattle.sqlite.specs.Effect.{Database, IsDatabase}
use Rattle.sqlite.specs.State.{State, HasCleanDisk, Survives, KeepsCommit, IsUnchanged, IsRolledBack}
use Rattle.store_sql.specs.Rows.{RecordRowOf, ReceiptRowOf, ChangeRowOf, RowsOf}
use Rattle.store_sql.specs.declared.layout.Layout.{Layout}
use Rattle.store_sql.specs.declared.layout.Layout.TheVariants.{IndexAfterRecords}
use Rattle.store_sql.specs.Tables.{office_schema, layout_in, receipts_tree, changes_tree, stored_version, stored_zone, stored_record, stored_receipt, stored_change}
use Rattle.store_sql.specs.Stores.{Stores}

-- the trees of the tables have these rows, in a layout
pub record AreRowsIn (layout : Layout) (db : Trees) (rows : RowsOf) : Type 0 where
  pub versions : Stores (db 0) (map stored_version rows.versions)
  pub zones : Stores (db 1) (map stored_zone rows.zones)
  pub records : Stores (db 3) (map stored_record rows.records)
  pub receipts : Stores (db (receipts_tree layout)) (map stored_receipt rows.receipts)
  pub changes : Stores (db (changes_tree layout)) (map stored_change rows.changes)

-- the same in the layout that they list
abbrev pub AreRows : Trees → RowsOf → Type 0
AreRows db rows = AreRowsIn (layout_in db) db rows

-- the database has the tables in the layout that it lists, and nothing else
abbrev pub HasTables : Database → Type 0
HasTables db = db.schema ≡ office_schema (layout_in db.trees)

-- the database has the tables, and these rows in them
pub record Reads (db : Database) (rows : RowsOf) : Type 0 where
  pub schema : HasTables db
  pub tables : AreRows db.trees rows

-- the database has the tables, and in one of them these rows
abbrev pub HasZones : Database → List (List ℕ) → Type 0
HasZones db zones = HasTables db × Stores (db.trees 1) (map stored_zone zones)

abbrev pub HasRecords : Database → List RecordRowOf → Type 0
HasRecords db records = HasTables db × Stores (db.trees 3) (map stored_record records)

abbrev pub HasReceipts : Database → List ReceiptRowOf → Type 0
HasReceipts db receipts = HasTables db × Stores (db.trees (receipts_tree (layout_in db.trees))) (map stored_receipt receipts)

abbrev pub HasChanges : Database → List ChangeRowOf → Type 0
HasChanges db changes = HasTables db × Stores (db.trees (changes_tree (layout_in db.trees))) (map stored_change changes)

-- What the connection shows was committed. A connection that is shut shows nothing.
abbrev pub IsSettled : State → Type 0
IsSettled s = IsTrue s.is_open → s.committed ≡ s.now

-- While it is open, the connection shows these rows, and they were committed.
abbrev pub Holds : State → RowsOf → Type 0
Holds s rows = IsTrue s.is_open → Reads s.now rows × (s.committed ≡ s.now)

-- what an open after a crash at this moment may find
abbrev pub Leaves : State → (Trees → Type 0) → Type 0
Leaves s P = HasCleanDisk s → (db : Trees) → s.may_leave db → P db

-- What a call that only asks leaves: the rows as they were, and no further outcome of a crash.
pub record OnlyAsks (old new : State) : Type 0 where
  pub same : (rows : RowsOf) → Holds old rows → Holds new rows
  pub left : Leaves new old.may_leave
  pub honest : HasCleanDisk new → HasCleanDisk old
  pub ended : new.in_transaction ≡ false
  pub settled : IsSettled new
  -- an open after a crash finds what was committed
  pub kept : IsTrue new.is_open → Leaves new (λ db. db ≡ new.committed.trees)
  pub now : IsTrue new.is_open → IsTrue old.is_open × (new.now ≡ old.committed) × (new.committed ≡ old.committed)

-- the rows of two databases are the same in some order
pub record SameRows (a b : RowsOf) : Type 0 where
  pub versions : IsPermutation a.versions b.versions
  pub zones : IsPermutation a.zones b.zones
  pub records : IsPermutation a.records b.records
  pub receipts : IsPermutation a.receipts b.receipts
  pub changes : IsPermutation a.changes b.changes

-- the rows of tables that were just made
abbrev pub made_rows : ℤ → RowsOf
made_rows version = record { versions = version ∷ []; zones = []; records = []; receipts = []; changes = [] }

-- the transaction goes on
abbrev pub IsGoing : State → Type 0
IsGoing s = IsTrue s.is_open × (s.in_transaction ≡ true)

-- nothing was committed on the way
pub record Stays (old new : State) : Type 0 where
  pub survives : Survives old new (λ _. ⊥)
  pub kept : HasCleanDisk new → KeepsCommit old new

-- Nothing was written: all is as it was, or a failure went back to what was committed.
pub record WritesNothing (old new : State) : Type 0 where
  pub survives : Survives old new (λ _. ⊥)
  pub ended : new.in_transaction ≡ false
  pub left : HasCleanDisk new → IsUnchanged old new ⊎ IsRolledBack old new

-- a part of a transaction, which commits nothing, and turns all rows into others
pub record Part (old new : State) (f : RowsOf → RowsOf) : Type 0 where
  pub stays : Stays old new
  pub reads : HasCleanDisk new → (rows : RowsOf) → Reads old.now rows → Reads new.now (f rows)

-- It was open if it is, nothing was committed, and what was shown is shown, if it was what was committed.
abbrev pub Keeps : State → State → Type 0
Keeps old new = IsTrue new.is_open → IsTrue old.is_open × (new.committed ≡ old.committed) × (old.committed ≡ old.now → new.now ≡ old.now)

-- the tables were made, and have no rows
pub record AreEmpty (db : Database) : Type 0 where
  pub schema : db.schema ≡ office_schema IndexAfterRecords
  pub sound : IsDatabase db
  pub meta : db.trees 0 ≡ []
  pub zones : db.trees 1 ≡ []
  pub records : db.trees 3 ≡ []
  pub receipts : db.trees 6 ≡ []
  pub changes : db.trees 8 ≡ []
