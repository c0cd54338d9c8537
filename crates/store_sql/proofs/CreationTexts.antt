-- What each text means that makes a table or an index.
use Rattle.std.proofs.Common.{◌≡◌, ℕ, List, [], ◌∷◌, codes, Ok, refl}
use Rattle.sqlite_schema.specs.declared.command.Command.TheVariants.{CreateTable, CreateIndex}
use Rattle.sqlite_resolve.specs.Compile.{table_defined_by, index_defined_by}
use Rattle.sqlite_tied.specs.Compute.{everything}
use Rattle.sqlite.specs.Listing.{understood}
use Rattle.sqlite.proofs.Callers.{IsPlain, command_of, statement_of}
use Rattle.store_sql.specs.declared.layout.Layout.{Layout}
use Rattle.store_sql.specs.declared.layout.Layout.TheVariants.{IndexAfterRecords, IndexLast}
use Rattle.store_sql.specs.Tables.{keyed, meta_columns, zones_columns, records_columns, receipts_columns, changes_columns, records, records_by_key, no_schema, with_meta, with_zones, with_records, with_index, with_receipts, made_schema, office_schema}

abbrev pub create_meta_text : List ℕ
create_meta_text = codes "CREATE TABLE meta(version INTEGER NOT NULL) STRICT"

pub create_meta_is : (command_of (understood no_schema create_meta_text) ≡ CreateTable) × (statement_of create_meta_text (understood no_schema create_meta_text) ≡ create_meta_text)
unfolding understood everything
create_meta_is = (refl, refl)

pub create_meta_plain : IsPlain (understood no_schema create_meta_text)
unfolding understood everything
create_meta_plain = (refl, refl)

pub create_meta_defines : table_defined_by create_meta_text ≡ Ok (keyed (codes "meta") 0 meta_columns [])
unfolding understood everything
create_meta_defines = refl

abbrev pub create_zones_text : List ℕ
create_zones_text = codes "CREATE TABLE zones(origin TEXT NOT NULL PRIMARY KEY) STRICT"

pub create_zones_is : (command_of (understood with_meta create_zones_text) ≡ CreateTable) × (statement_of create_zones_text (understood with_meta create_zones_text) ≡ create_zones_text)
unfolding understood everything
create_zones_is = (refl, refl)

pub create_zones_plain : IsPlain (understood with_meta create_zones_text)
unfolding understood everything
create_zones_plain = (refl, refl)

pub create_zones_defines : table_defined_by create_zones_text ≡ Ok (keyed (codes "zones") 0 zones_columns (1 ∷ []))
unfolding understood everything
create_zones_defines = refl

abbrev pub create_records_text : List ℕ
create_records_text = codes "CREATE TABLE records(origin TEXT NOT NULL, owner TEXT NOT NULL, type INTEGER NOT NULL, data TEXT NOT NULL, ttl INTEGER NOT NULL, owner_key BLOB NOT NULL, PRIMARY KEY(origin, owner, type, data)) STRICT"

pub create_records_is : (command_of (understood with_zones create_records_text) ≡ CreateTable) × (statement_of create_records_text (understood with_zones create_records_text) ≡ create_records_text)
unfolding understood everything
create_records_is = (refl, refl)

pub create_records_plain : IsPlain (understood with_zones create_records_text)
unfolding understood everything
create_records_plain = (refl, refl)

pub create_records_defines : table_defined_by create_records_text ≡ Ok (keyed (codes "records") 0 records_columns (1 ∷ 2 ∷ 3 ∷ 4 ∷ []))
unfolding understood everything
create_records_defines = refl

abbrev pub create_receipts_text : List ℕ
create_receipts_text = codes "CREATE TABLE receipts(caller TEXT NOT NULL, id TEXT NOT NULL, origin TEXT NOT NULL, request TEXT NOT NULL, reply TEXT NOT NULL, PRIMARY KEY(caller, id)) STRICT"

pub create_receipts_is : (command_of (understood (with_index with_records) create_receipts_text) ≡ CreateTable) × (statement_of create_receipts_text (understood (with_index with_records) create_receipts_text) ≡ create_receipts_text)
unfolding understood everything
create_receipts_is = (refl, refl)

pub create_receipts_plain : IsPlain (understood (with_index with_records) create_receipts_text)
unfolding understood everything
create_receipts_plain = (refl, refl)

pub create_receipts_defines : table_defined_by create_receipts_text ≡ Ok (keyed (codes "receipts") 0 receipts_columns (1 ∷ 2 ∷ []))
unfolding understood everything
create_receipts_defines = refl

abbrev pub create_changes_text : List ℕ
create_changes_text = codes "CREATE TABLE changes(origin TEXT NOT NULL, number INTEGER NOT NULL, side INTEGER NOT NULL, owner TEXT NOT NULL, type INTEGER NOT NULL, data TEXT NOT NULL, ttl INTEGER NOT NULL, PRIMARY KEY(origin, number, side, owner, type, data)) STRICT"

pub create_changes_is : (command_of (understood (with_receipts (with_index with_records)) create_changes_text) ≡ CreateTable) × (statement_of create_changes_text (understood (with_receipts (with_index with_records)) create_changes_text) ≡ create_changes_text)
unfolding understood everything
create_changes_is = (refl, refl)

pub create_changes_plain : IsPlain (understood (with_receipts (with_index with_records)) create_changes_text)
unfolding understood everything
create_changes_plain = (refl, refl)

pub create_changes_defines : table_defined_by create_changes_text ≡ Ok (keyed (codes "changes") 0 changes_columns (1 ∷ 2 ∷ 3 ∷ 4 ∷ 5 ∷ 6 ∷ []))
unfolding understood everything
create_changes_defines = refl

abbrev pub create_index_text : List ℕ
create_index_text = codes "CREATE INDEX records_by_key ON records(origin, owner_key)"

pub create_index_is : (command_of (understood with_records create_index_text) ≡ CreateIndex 2) × (statement_of create_index_text (understood with_records create_index_text) ≡ create_index_text)
unfolding understood everything
create_index_is = (refl, refl)

pub create_index_plain : IsPlain (understood with_records create_index_text)
unfolding understood everything
create_index_plain = (refl, refl)

pub create_index_defines : index_defined_by records create_index_text ≡ Ok (record (records_by_key IndexAfterRecords) { tree = 0 })
unfolding understood everything
create_index_defines = refl

-- the schema of a layout is what the statements make in its order
pub made_is : (l : Layout) → made_schema l ≡ office_schema l
unfolding everything
made_is IndexAfterRecords = refl
made_is IndexLast = refl
