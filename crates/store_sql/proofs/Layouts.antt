-- The layout of a database is the one that it lists.
use Rattle.std.proofs.Common.{◌≡◌, List, [], ◌∷◌, sym, ap, subst, ◌∙◌}
use Rattle.std.specs.List.{AllZip}
use Rattle.sqlite_value.specs.Order.{Row}
use Rattle.sqlite_trees.specs.Objects.{catalog_tree}
use Rattle.sqlite_catalog.specs.Listing.{IsTableRow, Lists}
use Rattle.sqlite.specs.Effect.{Database, IsDatabase}
use Rattle.store_sql.specs.Rows.{RowsOf}
use Rattle.store_sql.specs.declared.layout.Layout.{Layout}
use Rattle.store_sql.specs.declared.layout.Layout.TheVariants.{IndexAfterRecords, IndexLast}
use Rattle.store_sql.specs.Tables.{IsOffice, office_schema, layout_of, layout_of_tables, layout_in}
use Rattle.store_sql.specs.Holds.{AreRows, AreRowsIn, HasTables, Reads}

fourth : (rows : List Row) (l : Layout) → AllZip IsTableRow rows (office_schema l).tables → layout_of_tables rows ≡ l
fourth (a ∷ b ∷ c ∷ d ∷ rows) IndexAfterRecords all = ap (λ v. layout_of_tables (a ∷ b ∷ c ∷ (v ∷ []) ∷ [])) all.1.1.1.0.described.id
fourth (a ∷ b ∷ c ∷ d ∷ rows) IndexLast all = ap (λ v. layout_of_tables (a ∷ b ∷ c ∷ (v ∷ []) ∷ [])) all.1.1.1.0.described.id
fourth [] l all = absurd all
fourth (a ∷ []) l all = absurd all.1
fourth (a ∷ b ∷ []) l all = absurd all.1.1
fourth (a ∷ b ∷ c ∷ []) l all = absurd all.1.1.1

listed_layout : (objects : List Row) (l : Layout) → Lists objects (office_schema l) → layout_of objects ≡ l
unfolding layout_of
listed_layout objects l lists = fourth _ l lists.listed.tables

pub layout_is : (db : Database) (l : Layout) → IsDatabase db → db.schema ≡ office_schema l → layout_in db.trees ≡ l
layout_is db l sound is = listed_layout (db.trees catalog_tree) l (subst (Lists (db.trees catalog_tree)) is sound.lists)

pub has_tables : (db : Database) → IsDatabase db → IsOffice db.schema → HasTables db
has_tables db sound office = office.1 ∙ ap office_schema (sym (layout_is db office.0 sound office.1))

-- a database that lists the tables shows the rows of their trees
pub reads_so : (db : Database) (rows : RowsOf) → IsDatabase db → IsOffice db.schema → AreRows db.trees rows → Reads db rows
reads_so db rows sound office are = record { schema = has_tables db sound office; tables = are }

-- it shows the rows that it has in its layout
pub reads_in : (l : Layout) (db : Database) (rows : RowsOf) → layout_in db.trees ≡ l → db.schema ≡ office_schema l → AreRowsIn l db.trees rows → Reads db rows
reads_in l db rows is schema are = record { schema = schema ∙ ap office_schema (sym is); tables = subst (λ k. AreRowsIn k db.trees rows) (sym is) are }
