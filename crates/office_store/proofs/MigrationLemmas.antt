-- Rows that are migrated, in whatever order they are shown.
use Rattle.std.proofs.Common.{ℕ, pos}
use Rattle.std.proofs.lemmas.List.Sorted.{IsPermutation-trans, IsPermutation-sym}
use Rattle.sqlite_trees.specs.Tree.{Trees}
use Rattle.sqlite.specs.State.{State as Shown}
use Rattle.store_sql.specs.Rows.{RowsOf, BatchOf, written}
use Rattle.store_sql.specs.Holds.{AreRows, Holds, Leaves, SameRows}
use Rattle.store_rows.specs.Contents.{rows_of}
use Rattle.office_store.specs.MigratedContents.{Migrates}
use Rattle.office_store.specs.Queries.{Asked}
use Rattle.office_store.specs.Migration.{IsMigratedIn, IsMigrated, IsRead}

pub rows_then : (a b c : RowsOf) → SameRows a b → SameRows b c → SameRows a c
rows_then a b c p q = record {
  versions = IsPermutation-trans a.versions b.versions c.versions p.versions q.versions;
  zones = IsPermutation-trans a.zones b.zones c.zones p.zones q.zones;
  records = IsPermutation-trans a.records b.records c.records p.records q.records;
  receipts = IsPermutation-trans a.receipts b.receipts c.receipts p.receipts q.receipts;
  changes = IsPermutation-trans a.changes b.changes c.changes p.changes q.changes;
}

rows_back : (a b : RowsOf) → SameRows a b → SameRows b a
rows_back a b p = record {
  versions = IsPermutation-sym a.versions b.versions p.versions;
  zones = IsPermutation-sym a.zones b.zones p.zones;
  records = IsPermutation-sym a.records b.records p.records;
  receipts = IsPermutation-sym a.receipts b.receipts p.receipts;
  changes = IsPermutation-sym a.changes b.changes p.changes;
}

-- what takes rows to version 2 leaves the content migrated that they are in another order
pub migrated_so : (rows others : RowsOf) (w : BatchOf) (n : ℕ) → Migrates rows w n → SameRows others rows → (db : Trees) → AreRows db (written w rows) → IsMigratedIn db others
migrated_so rows others w n m same db are = (m.content, m.is_old, rows_then (rows_of (pos 1) m.content) rows others m.same (rows_back others rows same), m.is_content, (written w rows, m.now, are))

-- what was read is written
pub is_migrated : (old mid new : Shown) (w : BatchOf) (n : ℕ) → IsRead old mid w n → ((rows : RowsOf) → Holds mid rows → Holds new (written w rows))
    → ((rows : RowsOf) → Holds mid rows → Leaves new (λ db. AreRows db (written w rows))) → IsMigrated old new n
is_migrated old mid new w n read made kept = record {
  content = read.migrates.content;
  before = record { is = read.migrates.is_old; rows = read.rows; same = read.migrates.same; held = read.only };
  after = record { is = read.migrates.is_content; rows = written w read.rows; same = read.migrates.now; held = made read.rows read.held };
  left = λ clean db may. (written w read.rows, read.migrates.now, kept read.rows read.held clean db may);
  counted = read.migrates.counted;
}

-- what was shown at first is what was read
pub read_behind : (old mid new : Shown) (w : BatchOf) (n : ℕ) → Asked old mid → ((rows : RowsOf) → Holds mid rows → Holds old rows) → IsRead mid new w n → IsRead old new w n
read_behind old mid new w n asked back read = record {
  rows = read.rows;
  migrates = read.migrates;
  held = read.held;
  only = back read.rows read.only;
  same = λ others h. read.same others (asked.rows others h);
}
