-- What the migration of a store from version 1 to version 2 leaves.
use Rattle.std.specs.Prelude.{◌≡◌, ℕ, pos}
use Rattle.sqlite_trees.specs.Tree.{Trees}
use Rattle.sqlite.specs.State.{State as Shown}
use Rattle.store_sql.specs.Rows.{RowsOf, BatchOf}
use Rattle.store_sql.specs.Holds.{AreRows, Holds, Leaves, SameRows}
use Rattle.store_rows.specs.Contents.{ContentOf, IsContent, rows_of}
use Rattle.office_store.specs.OldZones.{IsOldContent}
use Rattle.office_store.specs.MigratedContents.{Migrates, migrated_content, changed_count}

-- The connection shows the rows of a content of version 1, as far as it is open.
pub record HoldsOld (conn : Shown) (content : ContentOf) : Type 0 where
  pub is : IsOldContent content
  pub rows : RowsOf
  pub same : SameRows (rows_of (pos 1) content) rows
  pub held : Holds conn rows

-- And those of one of version 2.
pub record HoldsNew (conn : Shown) (content : ContentOf) : Type 0 where
  pub is : IsContent content
  pub rows : RowsOf
  pub same : SameRows (rows_of (pos 2) content) rows
  pub held : Holds conn rows

-- the trees of the tables have the rows of a content of version 2
abbrev pub IsNewIn : Trees → ContentOf → Type 0
IsNewIn db content = (rows : RowsOf) × SameRows (rows_of (pos 2) content) rows × AreRows db rows

-- they have those of the content migrated that these rows of version 1 are
abbrev pub IsMigratedIn : Trees → RowsOf → Type 0
IsMigratedIn db rows = (content : ContentOf) × IsOldContent content × SameRows (rows_of (pos 1) content) rows × IsContent (migrated_content content) × IsNewIn db (migrated_content content)

-- The connection shows rows of a content of version 1, and the trees have those of that content migrated.
pub record IsMigratedFrom (conn : Shown) (db : Trees) : Type 0 where
  pub rows : RowsOf
  pub held : Holds conn rows
  pub each : (others : RowsOf) → Holds conn others → IsMigratedIn db others

-- A content of version 1 was held and is held migrated, a crash leaves that, and so many zones of it were changed.
pub record IsMigrated (old new : Shown) (changed : ℕ) : Type 0 where
  pub content : ContentOf
  pub before : HoldsOld old content
  pub after : HoldsNew new (migrated_content content)
  pub left : Leaves new (λ db. IsNewIn db (migrated_content content))
  pub counted : changed ≡ changed_count content

-- All rows were read, which were shown before too, and this takes them to version 2.
pub record IsRead (old new : Shown) (batch : BatchOf) (changed : ℕ) : Type 0 where
  pub rows : RowsOf
  pub migrates : Migrates rows batch changed
  pub held : Holds new rows
  pub only : Holds old rows
  pub same : (others : RowsOf) → Holds old others → SameRows others rows
