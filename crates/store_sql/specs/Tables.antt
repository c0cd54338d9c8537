-- The tables of the office, and what their rows have after the rowid.
use Rattle.std.specs.Prelude.{◌≡◌, ℕ, ◌+◌, ℤ, pos, true, false, cond, List, [], ◌∷◌, map, filter, None, codes}
use Rattle.std.specs.Ordering.{int_eq}
use Rattle.sqlite_value.specs.declared.keys.Collation.TheVariants.{Binary}
use Rattle.sqlite_value.specs.declared.value.Value.{Value}
use Rattle.sqlite_value.specs.declared.value.Value.TheVariants as value
use Rattle.sqlite_value.specs.declared.value.Value.TheVariants.{Null, Int}
use Rattle.sqlite_value.specs.Keys.{plain}
use Rattle.sqlite_value.specs.Order.{Row}
use Rattle.sqlite_trees.specs.Objects.{catalog_tree}
use Rattle.sqlite_trees.specs.Tree.{Trees, rowid}
use Rattle.sqlite_schema.specs.declared.schema.Column.{Column}
use Rattle.sqlite_schema.specs.declared.schema.Index.{Index}
use Rattle.sqlite_schema.specs.declared.schema.Table.{Table}
use Rattle.sqlite_schema.specs.declared.schema.Schema.{Schema}
use Rattle.sqlite_schema.specs.declared.schema.Kind.{Kind}
use Rattle.sqlite_schema.specs.declared.schema.Kind.TheVariants.{Integer, Text, Blob}
use Rattle.sqlite_catalog.specs.Change.{created, indexed}
use Rattle.sqlite_catalog.specs.Listing.{is_table_row}
use Rattle.store_sql.specs.declared.layout.Layout.{Layout}
use Rattle.store_sql.specs.declared.layout.Layout.TheVariants.{IndexAfterRecords, IndexLast}
use Rattle.store_sql.specs.Rows.{RecordRowOf, ReceiptRowOf, ChangeRowOf}

-- a column of a STRICT table, which is NOT NULL
abbrev pub strict : List ℕ → Kind → Column
strict name kind = record { name = name; kind = kind; is_strict = true; not_null = true; default = Null; collation = Binary }

-- the one key over these columns, if there are any
abbrev pub keys_over : List ℕ → List (List ℕ)
keys_over [] = []
keys_over (place ∷ places) = (place ∷ places) ∷ []

-- A table with a tree, its columns, and a primary key over the columns at these places; the rowid has place 0.
abbrev pub keyed : List ℕ → ℕ → List Column → List ℕ → Table
keyed name tree columns key = record {
  name = name;
  tree = tree;
  columns = columns;
  key = None;
  primary = key;
  uniques = keys_over key;
  orders = map (λ _. plain) (keys_over key);
  checks = [];
  references = [];
  computed = [];
  stamps = record { places = []; terms = []; formats = [] };
  is_counted = false;
}

-- a table with no rule but its types and its keys
pub record IsBare (t : Table) : Type 0 where
  pub key : t.key ≡ None
  pub checks : t.checks ≡ []
  pub references : t.references ≡ []
  pub computed : t.computed ≡ []
  pub places : t.stamps.places ≡ []
  pub terms : t.stamps.terms ≡ []
  pub formats : t.stamps.formats ≡ []
  pub counted : t.is_counted ≡ false

-- CREATE TABLE meta(version INTEGER NOT NULL) STRICT
abbrev pub meta_columns : List Column
meta_columns = strict (codes "version") Integer ∷ []

-- CREATE TABLE zones(origin TEXT NOT NULL PRIMARY KEY) STRICT
abbrev pub zones_columns : List Column
zones_columns = strict (codes "origin") Text ∷ []

-- CREATE TABLE records(origin TEXT, owner TEXT, type INTEGER, data TEXT, ttl INTEGER, owner_key BLOB, PRIMARY KEY(origin, owner, type,
-- data)), each NOT NULL
abbrev pub records_columns : List Column
records_columns =
    strict (codes "origin") Text ∷ strict (codes "owner") Text ∷ strict (codes "type") Integer ∷ strict (codes "data") Text ∷ strict (codes "ttl") Integer ∷ strict (codes "owner_key") Blob ∷ []

-- CREATE TABLE receipts(caller TEXT, id TEXT, origin TEXT, request TEXT, reply TEXT, PRIMARY KEY(caller, id)), each NOT NULL
abbrev pub receipts_columns : List Column
receipts_columns = strict (codes "caller") Text ∷ strict (codes "id") Text ∷ strict (codes "origin") Text ∷ strict (codes "request") Text ∷ strict (codes "reply") Text ∷ []

-- CREATE TABLE changes(origin TEXT, number INTEGER, side INTEGER, owner TEXT, type INTEGER, data TEXT, ttl INTEGER, PRIMARY KEY(origin,
-- number, side, owner, type, data)), each NOT NULL
abbrev pub changes_columns : List Column
changes_columns =
    strict (codes "origin") Text ∷ strict (codes "number") Integer ∷ strict (codes "side") Integer ∷ strict (codes "owner") Text ∷ strict (codes "type") Integer ∷ strict (codes "data") Text ∷ strict (codes "ttl") Integer ∷ []

abbrev pub meta : Table
meta = keyed (codes "meta") 0 meta_columns []

abbrev pub zones : Table
zones = keyed (codes "zones") 1 zones_columns (1 ∷ [])

abbrev pub records : Table
records = keyed (codes "records") 3 records_columns (1 ∷ 2 ∷ 3 ∷ 4 ∷ [])

-- the numbers of the trees that differ: they are numbered in the order of the rows of `sqlite_schema`
abbrev pub receipts_tree : Layout → ℕ
receipts_tree IndexAfterRecords = 6
receipts_tree IndexLast = 5

abbrev pub changes_tree : Layout → ℕ
changes_tree IndexAfterRecords = 8
changes_tree IndexLast = 7

abbrev pub records_by_key_tree : Layout → ℕ
records_by_key_tree IndexAfterRecords = 5
records_by_key_tree IndexLast = 9

-- the tables of which the tree differs
abbrev pub receipts : Layout → Table
receipts l = keyed (codes "receipts") (receipts_tree l) receipts_columns (1 ∷ 2 ∷ [])

abbrev pub changes : Layout → Table
changes l = keyed (codes "changes") (changes_tree l) changes_columns (1 ∷ 2 ∷ 3 ∷ 4 ∷ 5 ∷ 6 ∷ [])

-- CREATE INDEX records_by_key ON records(origin, owner_key)
abbrev pub records_by_key : Layout → Index
records_by_key l = record { name = codes "records_by_key"; tree = records_by_key_tree l; table = 3; columns = 1 ∷ 6 ∷ []; order = plain; is_unique = false }

-- the index that SQLite makes for the key of a table, whose tree is the next one
abbrev pub key_index : List ℕ → ℕ → List ℕ → Index
key_index name table key = record { name = name; tree = table + 1; table = table; columns = key; order = plain; is_unique = true }

abbrev pub zones_key : Index
zones_key = key_index (codes "sqlite_autoindex_zones_1") 1 (1 ∷ [])

abbrev pub records_key : Index
records_key = key_index (codes "sqlite_autoindex_records_1") 3 (1 ∷ 2 ∷ 3 ∷ 4 ∷ [])

abbrev pub receipts_key : Layout → Index
receipts_key l = key_index (codes "sqlite_autoindex_receipts_1") (receipts_tree l) (1 ∷ 2 ∷ [])

abbrev pub changes_key : Layout → Index
changes_key l = key_index (codes "sqlite_autoindex_changes_1") (changes_tree l) (1 ∷ 2 ∷ 3 ∷ 4 ∷ 5 ∷ 6 ∷ [])

-- the indexes after those of the keys of `zones` and `records`
abbrev pub later_indexes : Layout → List Index
later_indexes IndexAfterRecords = records_by_key IndexAfterRecords ∷ receipts_key IndexAfterRecords ∷ changes_key IndexAfterRecords ∷ []
later_indexes IndexLast = receipts_key IndexLast ∷ changes_key IndexLast ∷ records_by_key IndexLast ∷ []

-- the tables and the index in a layout
abbrev pub office_schema : Layout → Schema
office_schema l = record {
  tables = meta ∷ zones ∷ records ∷ receipts l ∷ changes l ∷ [];
  indexes = zones_key ∷ records_key ∷ later_indexes l;
  views = [];
}

-- the tables and the index in one of the two layouts, and nothing else
abbrev pub IsOffice : Schema → Type 0
IsOffice schema = (l : Layout) × (schema ≡ office_schema l)

-- the layout in which `sqlite_schema` lists the tables: the rowid of `receipts`, its fourth table, is the number of its tree and one
abbrev layout_by : Value → Layout
layout_by (Int n) = cond (int_eq n (pos 7)) IndexAfterRecords IndexLast
layout_by v = IndexLast

abbrev pub layout_of_tables : List Row → Layout
layout_of_tables (a ∷ b ∷ c ∷ receipts ∷ more) = layout_by (rowid receipts)
layout_of_tables fewer = IndexLast

unfoldable pub layout_of : List Row → Layout
layout_of objects = layout_of_tables (filter is_table_row objects)

-- the layout that trees list
abbrev pub layout_in : Trees → Layout
layout_in db = layout_of (db catalog_tree)

-- no table, index or view
abbrev pub no_schema : Schema
no_schema = record { tables = []; indexes = []; views = [] }

-- what the statements make, each of a schema: a table takes the next tree, and each key of it the one after
abbrev pub with_meta : Schema
with_meta = created no_schema (keyed (codes "meta") 0 meta_columns [])

abbrev pub with_zones : Schema
with_zones = created with_meta (keyed (codes "zones") 0 zones_columns (1 ∷ []))

abbrev pub with_records : Schema
with_records = created with_zones (keyed (codes "records") 0 records_columns (1 ∷ 2 ∷ 3 ∷ 4 ∷ []))

abbrev pub with_index : Schema → Schema
with_index schema = indexed schema records (record (records_by_key IndexAfterRecords) { tree = 0 })

abbrev pub with_receipts : Schema → Schema
with_receipts schema = created schema (keyed (codes "receipts") 0 receipts_columns (1 ∷ 2 ∷ []))

abbrev pub with_changes : Schema → Schema
with_changes schema = created schema (keyed (codes "changes") 0 changes_columns (1 ∷ 2 ∷ 3 ∷ 4 ∷ 5 ∷ 6 ∷ []))

-- what they make in the order of a layout, which is its schema
abbrev pub made_schema : Layout → Schema
made_schema IndexAfterRecords = with_changes (with_receipts (with_index with_records))
made_schema IndexLast = with_index (with_changes (with_receipts with_records))

-- ---- what a row has after its rowid

abbrev pub stored_version : ℤ → Row
stored_version version = value.Int version ∷ []

abbrev pub stored_zone : List ℕ → Row
stored_zone origin = value.Text origin ∷ []

abbrev pub stored_record : RecordRowOf → Row
stored_record r = value.Text r.origin ∷ value.Text r.owner ∷ value.Int r.record_type ∷ value.Text r.rdata ∷ value.Int r.ttl ∷ value.Blob r.owner_key ∷ []

abbrev pub stored_receipt : ReceiptRowOf → Row
stored_receipt r = value.Text r.caller ∷ value.Text r.id ∷ value.Text r.origin ∷ value.Text r.request ∷ value.Text r.reply ∷ []

abbrev pub stored_change : ChangeRowOf → Row
stored_change r = value.Text r.origin ∷ value.Int r.number ∷ value.Int r.side ∷ value.Text r.owner ∷ value.Int r.record_type ∷ value.Text r.rdata ∷ value.Int r.ttl ∷ []
