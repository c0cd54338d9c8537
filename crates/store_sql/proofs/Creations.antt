-- What makes the tables.
use Rattle.std.proofs.Common.{◌≡◌, ℕ, false, List, [], ◌∷◌, slice_get, Some, None, Ok, refl, sym, ap, subst, ◌∙◌}
use Rattle.std.proofs.lemmas.List.Sorted.{IsPermutation-refl}
use Rattle.sqlite_value.specs.Order.{Row}
use Rattle.sqlite_trees.specs.Tree.{Trees}
use Rattle.sqlite_schema.specs.declared.schema.Table.{Table}
use Rattle.sqlite_schema.specs.declared.schema.Index.{Index}
use Rattle.sqlite_schema.specs.declared.schema.Schema.{Schema}
use Rattle.sqlite_schema.specs.declared.command.Command.TheVariants.{CreateTable, CreateIndex}
use Rattle.sqlite_catalog.specs.Change.{created, indexed, next_tree, KeepsRows}
use Rattle.sqlite_resolve.specs.Compile.{table_defined_by, index_defined_by}
use Rattle.sqlite.specs.Effect.{Database, IsDatabase}
use Rattle.sqlite.specs.Listing.{understood}
use Rattle.sqlite.specs.Does.{Tally, Does, lacks_sequence}
use Rattle.sqlite.specs.State.{State, mode_of, Writes, Executes}
use Rattle.sqlite.proofs.Callers.{IsPlain, command_of, statement_of, runs_as}
use Rattle.store_sql.specs.declared.layout.Layout.TheVariants.{IndexAfterRecords}
use Rattle.store_sql.specs.Tables.{keyed, meta_columns, zones_columns, records_columns, receipts_columns, changes_columns, records as the_records, records_by_key, no_schema, with_meta, with_zones, with_records, with_index, with_receipts}
use Rattle.store_sql.specs.Stores.{Stores}
use Rattle.store_sql.specs.Holds.{Reads, AreEmpty}
use Rattle.store_sql.proofs.CreationTexts as the
use Rattle.store_sql.proofs.Effects.{went, same_value}
use Rattle.store_sql.proofs.Layouts.{layout_is, reads_in}

-- what CREATE TABLE leaves: the schema with the table, no rows in it, and the rows of the others
pub record Creates (schema : Schema) (defined : Table) (db : Trees) (new : Database) : Type 0 where
  pub schema_is : new.schema ≡ created schema defined
  pub empty : new.trees (next_tree schema) ≡ []
  pub others : KeepsRows schema.tables db new.trees
  pub sound : IsDatabase new

module _ (schema : Schema) (defined : Table) (sql : List ℕ) (old new : State) (has : old.now.schema ≡ schema) where
  creates : (count : ℕ) → command_of (understood schema sql) ≡ CreateTable → statement_of sql (understood schema sql) ≡ sql → IsPlain (understood schema sql)
      → table_defined_by sql ≡ Ok defined → lacks_sequence (created schema defined) ≡ false → Executes sql [] old new (Ok count) → Creates schema defined old.now.trees new.now
  creates count is whole plain is_defined plain_keys ran =
      let w = subst (λ t. Writes old new None CreateTable t [] count) whole (runs_as sql [] old new schema has CreateTable is plain count ran) in
      let does = subst (λ s. Does old.step_limit (mode_of old) [] (record old.now { schema = s }) sql None CreateTable (Ok (w.tally, new.now))) has w.changed in
      let all = went does in
      let first = went all.1 in
      let made = first.1 in
      let both : Ok made.table ≡ Ok defined = sym made.defined ∙ is_defined in
      let same : made.table ≡ defined = cc in
      let after : first.0.schema ≡ created schema defined = made.is ∙ ap (created schema) same in
      let plain_after : lacks_sequence first.0.schema ≡ false = ap lacks_sequence after ∙ plain_keys in
      let now : new.now ≡ first.0 = ap (λ (p : Tally × Database). p.1) (same_value all.2) ∙ same_value (rw plain_after at first.2) in
      record {
        schema_is = ap (λ (d : Database). d.schema) now ∙ after;
        empty = ap (λ (d : Database). d.trees (next_tree schema)) now ∙ made.empty;
        others = rw now made.others;
        sound = w.sound;
      }

-- what CREATE INDEX leaves: the schema with the index, and all rows
pub record Indexes (schema : Schema) (table : Table) (defined : Index) (db : Trees) (new : Database) : Type 0 where
  pub schema_is : new.schema ≡ indexed schema table defined
  pub others : KeepsRows schema.tables db new.trees

module _ (schema : Schema) (table : Table) (at : ℕ) (place : slice_get schema.tables at ≡ Some table) (defined : Index) (sql : List ℕ) (old new : State) (has : old.now.schema ≡ schema) where
  indexes : (count : ℕ) → command_of (understood schema sql) ≡ CreateIndex at → statement_of sql (understood schema sql) ≡ sql → IsPlain (understood schema sql)
      → index_defined_by table sql ≡ Ok defined → Executes sql [] old new (Ok count) → Indexes schema table defined old.now.trees new.now
  indexes count is whole plain is_defined ran =
      let w = subst (λ t. Writes old new None (CreateIndex at) t [] count) whole (runs_as sql [] old new schema has (CreateIndex at) is plain count ran) in
      let does = subst (λ s. Does old.step_limit (mode_of old) [] (record old.now { schema = s }) sql None (CreateIndex at) (Ok (w.tally, new.now))) has w.changed in
      let all = went (rw place at does) in
      let made = all.1 in
      let both : Ok made.index ≡ Ok defined = sym made.defined ∙ is_defined in
      let same : made.index ≡ defined = cc in
      let now : new.now ≡ all.0 = ap (λ (p : Tally × Database). p.1) (same_value all.2) in
      record {
        schema_is = ap (λ (d : Database). d.schema) now ∙ made.is ∙ ap (indexed schema table) same;
        others = rw now made.rows;
      }

-- all of them in turn
pub creates_all : (s a b c d e f : State) (k l m n o p : ℕ) → s.now.schema ≡ no_schema → Executes the.create_meta_text [] s a (Ok k) → Executes the.create_zones_text [] a b (Ok l)
    → Executes the.create_records_text [] b c (Ok m) → Executes the.create_index_text [] c d (Ok n) → Executes the.create_receipts_text [] d e (Ok o) → Executes the.create_changes_text [] e f (Ok p) → AreEmpty f.now
creates_all s a b c d e f k l m n o p none one two three four five six =
    let meta = creates no_schema (keyed _ 0 meta_columns []) the.create_meta_text s a none k the.create_meta_is.0 the.create_meta_is.1 the.create_meta_plain the.create_meta_defines refl one in
    let zones = creates with_meta (keyed _ 0 zones_columns (1 ∷ [])) the.create_zones_text a b meta.schema_is l the.create_zones_is.0 the.create_zones_is.1 the.create_zones_plain the.create_zones_defines refl two in
    let records = creates with_zones (keyed _ 0 records_columns (1 ∷ 2 ∷ 3 ∷ 4 ∷ [])) the.create_records_text b c zones.schema_is m the.create_records_is.0 the.create_records_is.1 the.create_records_plain the.create_records_defines refl three in
    let index = indexes with_records the_records 2 refl (record (records_by_key IndexAfterRecords) { tree = 0 }) the.create_index_text c d records.schema_is n the.create_index_is.0 the.create_index_is.1 the.create_index_plain the.create_index_defines four in
    let receipts = creates (with_index with_records) (keyed _ 0 receipts_columns (1 ∷ 2 ∷ [])) the.create_receipts_text d e index.schema_is o the.create_receipts_is.0 the.create_receipts_is.1 the.create_receipts_plain the.create_receipts_defines refl five in
    let changes = creates (with_receipts (with_index with_records)) (keyed _ 0 changes_columns (1 ∷ 2 ∷ 3 ∷ 4 ∷ 5 ∷ 6 ∷ [])) the.create_changes_text e f receipts.schema_is p the.create_changes_is.0 the.create_changes_is.1 the.create_changes_plain the.create_changes_defines refl six in
    record {
      schema = changes.schema_is ∙ the.made_is IndexAfterRecords;
      sound = changes.sound;
      meta = changes.others.0 ∙ receipts.others.0 ∙ index.others.0 ∙ records.others.0 ∙ zones.others.0 ∙ meta.empty;
      zones = changes.others.1.0 ∙ receipts.others.1.0 ∙ index.others.1.0 ∙ records.others.1.0 ∙ zones.empty;
      records = changes.others.1.1.0 ∙ receipts.others.1.1.0 ∙ index.others.1.1.0 ∙ records.empty;
      receipts = changes.others.1.1.1.0 ∙ receipts.empty;
      changes = changes.empty;
    }

stores_none : (rows : List Row) → rows ≡ [] → Stores rows []
stores_none rows none = rw none (record { apart = tt; numbered = tt; same = IsPermutation-refl []; readable = tt })

pub empty_reads : (db : Database) → AreEmpty db → Reads db (record { versions = []; zones = []; records = []; receipts = []; changes = [] })
empty_reads db h =
    reads_in IndexAfterRecords db _ (layout_is db IndexAfterRecords h.sound h.schema) h.schema (record {
      versions = stores_none _ h.meta;
      zones = stores_none _ h.zones;
      records = stores_none _ h.records;
      receipts = stores_none _ h.receipts;
      changes = stores_none _ h.changes;
    })
