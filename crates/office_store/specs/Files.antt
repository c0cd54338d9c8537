-- The state that the files of a path hold.
use Rattle.std.specs.Prelude.{◌≡◌, [], ◌∷◌, map, pos, IsTrue}
use Rattle.sqlite_trees.specs.Tree.{Trees}
use Rattle.sqlite.specs.Recovery.{Image}
use Rattle.sqlite.specs.Effect.{Database, IsDatabase}
use Rattle.sqlite.specs.Files.{HoldsDatabase}
use Rattle.sqlite.specs.Start.{FindsIn}
use Rattle.sqlite.specs.State.{State as Shown}
use Rattle.office_model.specs.States.{State}
use Rattle.store_sql.specs.Stores.{Stores}
use Rattle.store_sql.specs.Tables.{IsOffice, stored_version}
use Rattle.office_store.specs.Holds.{IsStateIn}

-- trees that list the tables of the office, and no others
abbrev pub ListTables : Trees → Type 0
ListTables trees = (db : Database) → IsDatabase db → db.trees ≡ trees → IsOffice db.schema

-- The files recover to a database of the office's tables, and `meta` says by one row that they are of version 2.
pub record HoldVersionIn (image : Image) : Type 0 where
  pub trees : Trees
  pub recovered : HoldsDatabase image trees
  pub tables : ListTables trees
  pub version : Stores (trees 0) (map stored_version (pos 2 ∷ []))

-- These trees are a database of the office's tables, of version 2.
pub record AreOfVersion (trees : Trees) : Type 0 where
  pub tables : (db : Database) × IsDatabase db × (db.trees ≡ trees) × IsOffice db.schema
  pub version : Stores (trees 0) (map stored_version (pos 2 ∷ []))

-- An open connection shows what the files held.
abbrev pub ShowsStill : Image → Shown → Type 0
ShowsStill image conn = IsTrue conn.is_open → FindsIn image conn × (conn.now ≡ conn.committed)

-- The files recover to a database of the office's tables, whose rows are this state.
pub record HoldStateIn (image : Image) (s : State) : Type 0 where
  pub trees : Trees
  pub recovered : HoldsDatabase image trees
  pub tables : ListTables trees
  pub rows : IsStateIn trees s
