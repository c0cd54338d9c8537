-- The state that a connection holds, and those that a crash leaves of it.
use Rattle.std.specs.Prelude.{◌≡◌, ◌⊎◌, ℤ, [], ◌∷◌, pos, map, IsTrue}
use Rattle.sqlite_trees.specs.Tree.{Trees}
use Rattle.sqlite.specs.State.{State as Shown}
use Rattle.office_model.specs.States.{State}
use Rattle.store_sql.specs.Rows.{RowsOf}
use Rattle.store_sql.specs.Tables.{no_schema, IsOffice, stored_version}
use Rattle.store_sql.specs.Stores.{Stores}
use Rattle.store_sql.specs.Holds.{AreRows, Holds, Leaves}
use Rattle.store_rows.specs.Contents.{AreOfState}

-- The connection shows rows that are this state, as far as it is open.
pub record HoldsState (conn : Shown) (s : State) : Type 0 where
  pub rows : RowsOf
  pub are : AreOfState (pos 2) rows s
  pub held : Holds conn rows

-- the trees of the tables are this state
abbrev pub IsStateIn : Trees → State → Type 0
IsStateIn db s = (rows : RowsOf) × AreOfState (pos 2) rows s × AreRows db rows

-- what an open after a crash may find is this state or that one
abbrev pub LeavesStates : Shown → State → State → Type 0
LeavesStates conn s t = Leaves conn (λ db. IsStateIn db s ⊎ IsStateIn db t)

-- ---- before there is a state

-- the tables are there, and say by one row that they are of a version
abbrev pub IsOfVersion : ℤ → Shown → Type 0
IsOfVersion version conn = IsOffice conn.now.schema × Stores (conn.now.trees 0) (map stored_version (version ∷ []))

-- of version 2
abbrev pub HasVersion : Shown → Type 0
HasVersion = IsOfVersion (pos 2)

-- While it is open, the connection shows no table, nor was one committed.
abbrev pub HasNone : Shown → Type 0
HasNone conn = IsTrue conn.is_open → (conn.now.schema ≡ no_schema) × (conn.committed ≡ conn.now)
