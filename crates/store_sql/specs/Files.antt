-- Files that hold no database, and what a connection to files shows.
use Rattle.std.specs.Prelude.{◌≡◌, ◌≤◌, ℕ}
use Rattle.sqlite_disk.specs.declared.Disk.{Ghosts}
use Rattle.sqlite_disk.specs.declared.Files.{Files}
use Rattle.sqlite_wal.specs.Recovery.{Image}
use Rattle.sqlite_wal.specs.Reads.{AreClean}
use Rattle.sqlite_pool.specs.Opening.{IsBlankFile}
use Rattle.sqlite_trees.specs.Tree.{Trees}
use Rattle.sqlite_store.specs.declared.store.FileStore.{FileStore}
use Rattle.sqlite_store.specs.FileStore.{faults, view}
use Rattle.sqlite.specs.Files.{HoldsDatabase, IsEmpty, faults_of, file_state, image_of}
use Rattle.sqlite.specs.Held.{Held}
use Rattle.sqlite.specs.State.{State}
use Rattle.sqlite.specs.Steps.{IsFresh}

-- The size of the pages of a new database, in octets.
abbrev pub new_size : ℕ
new_size = 1024

-- There is no database in files, or one with pages of this size was begun and not made.
abbrev pub IsBlank : Image → Type 0
IsBlank = IsBlankFile new_size

-- A connection shows the database that files held, and an empty one where they held none.
pub record Shows (image : Image) (shown : State) : Type 0 where
  pub held : (db : Trees) → HoldsDatabase image db → shown.committed.trees ≡ db
  pub empty : IsBlank image → IsEmpty shown.committed.trees

module _ {D : Type 0} {g : Ghosts D} where
  -- It shows what these files held, which kept their word.
  pub record ShowsThose (files : Files D) (conn : Held (FileStore D g)) : Type 0 where
    pub honest : AreClean g files.log files.db
    pub shows : Shows (image_of g files) (file_state conn)

  -- The database that was made in files is empty.
  pub record IsMadeIn (files : Files D) (store : FileStore D g) : Type 0 where
    pub honest : AreClean g files.log files.db
    pub fresh : IsFresh (view store)
    pub counts : faults_of g files ≤ faults store
    pub empty : IsEmpty (view store).trees
