-- What the statements do that take a zone out.
use Rattle.std.proofs.Common.{ℕ, not, List, [], ◌∷◌, map, codes, Ok, refl, ap, subst, bytes_eq, arith}
use Rattle.sqlite_value.specs.declared.value.Value.TheVariants.{Text}
use Rattle.sqlite_trees.specs.Objects.{catalog_tree}
use Rattle.sqlite.specs.State.{State, Executes}
use Rattle.store_sql.specs.Rows.{RowsOf}
use Rattle.store_sql.specs.Tables.{layout_of, layout_in, receipts_tree, changes_tree, zones_columns, records_columns, changes_columns, stored_zone, stored_record, stored_change}
use Rattle.store_sql.specs.Stores.{Stores}
use Rattle.store_sql.specs.Holds.{Reads}
use Rattle.store_sql.specs.Statements.{without_records_of, without_changes_of, without_zone}
use Rattle.store_sql.proofs.BatchTexts as the
use Rattle.store_sql.proofs.Texts.{by_first}
use Rattle.store_sql.proofs.Effects.{deletes}
use Rattle.store_sql.proofs.Layouts.{reads_in}
use Rattle.store_sql.proofs.Selections.{by_first_test, zone_hits, records_of_hits, changes_of_hits}
use Rattle.store_sql.proofs.StatementLemmas.{plainly, plainly_changes, receipts_between, changes_between, free_of_index_0, free_of_index_1, free_of_index_3, free_of_index_receipts, free_of_index_changes, free_of_index_catalog}
use Rattle.store_sql.proofs.Values.{hits, filter_stored}

pub deletes_records_of : (old new : State) (origin : List ℕ) (count : ℕ) (rows : RowsOf) → Executes the.delete_records_of_text (Text origin ∷ []) old new (Ok count) → Reads old.now rows → Reads new.now (without_records_of origin rows)
deletes_records_of old new origin count rows ran h =
    let l = layout_in old.now.trees in
    let r = receipts_between l in
    let c = changes_between l in
    let params = Text origin ∷ [] in
    let it = deletes l (codes "records") 3 records_columns (1 ∷ 2 ∷ 3 ∷ 4 ∷ []) 2 refl (plainly 3 refl) the.delete_records_of_text params old new h.schema (the.delete_records_of_plain l) count ran
    by_first (hits by_first params) (map stored_record rows.records) (the.delete_records_of_is l) (by_first_test params) h.tables.records in
    reads_in l new.now _ (ap layout_of (it.0.others catalog_tree (omega arith) (free_of_index_catalog l))) it.0.schema (record {
      versions = rw (it.0.others 0 (omega arith) (free_of_index_0 l)) h.tables.versions;
      zones = rw (it.0.others 1 (omega arith) (free_of_index_1 l)) h.tables.zones;
      records = subst (Stores (new.now.trees 3)) (filter_stored stored_record (λ x. not (hits by_first params x)) (λ r. not (bytes_eq r.origin origin)) (λ r. ap not (records_of_hits origin r)) rows.records) it.1;
      receipts = rw (it.0.others (receipts_tree l) (omega arith) (free_of_index_receipts l)) h.tables.receipts;
      changes = rw (it.0.others (changes_tree l) (omega arith) (free_of_index_changes l)) h.tables.changes;
    })

pub deletes_changes_of : (old new : State) (origin : List ℕ) (count : ℕ) (rows : RowsOf) → Executes the.delete_changes_of_text (Text origin ∷ []) old new (Ok count) → Reads old.now rows → Reads new.now (without_changes_of origin rows)
deletes_changes_of old new origin count rows ran h =
    let l = layout_in old.now.trees in
    let r = receipts_between l in
    let c = changes_between l in
    let params = Text origin ∷ [] in
    let it = deletes l (codes "changes") (changes_tree l) changes_columns (1 ∷ 2 ∷ 3 ∷ 4 ∷ 5 ∷ 6 ∷ []) 4 refl (plainly_changes l) the.delete_changes_of_text params old new h.schema (the.delete_changes_of_plain l) count ran
    by_first (hits by_first params) (map stored_change rows.changes) (the.delete_changes_of_is l) (by_first_test params) h.tables.changes in
    reads_in l new.now _ (ap layout_of (it.0.others catalog_tree (omega arith) (free_of_index_catalog l))) it.0.schema (record {
      versions = rw (it.0.others 0 (omega arith) (free_of_index_0 l)) h.tables.versions;
      zones = rw (it.0.others 1 (omega arith) (free_of_index_1 l)) h.tables.zones;
      records = rw (it.0.others 3 (omega arith) (free_of_index_3 l)) h.tables.records;
      receipts = rw (it.0.others (receipts_tree l) (omega arith) (free_of_index_receipts l)) h.tables.receipts;
      changes = subst (Stores (new.now.trees (changes_tree l))) (filter_stored stored_change (λ x. not (hits by_first params x)) (λ r. not (bytes_eq r.origin origin)) (λ r. ap not (changes_of_hits origin r)) rows.changes) it.1;
    })

pub deletes_zone : (old new : State) (origin : List ℕ) (count : ℕ) (rows : RowsOf) → Executes the.delete_zone_text (Text origin ∷ []) old new (Ok count) → Reads old.now rows → Reads new.now (without_zone origin rows)
deletes_zone old new origin count rows ran h =
    let l = layout_in old.now.trees in
    let r = receipts_between l in
    let c = changes_between l in
    let params = Text origin ∷ [] in
    let it = deletes l (codes "zones") 1 zones_columns (1 ∷ []) 1 refl (plainly 1 refl) the.delete_zone_text params old new h.schema (the.delete_zone_plain l) count ran
    by_first (hits by_first params) (map stored_zone rows.zones) (the.delete_zone_is l) (by_first_test params) h.tables.zones in
    reads_in l new.now _ (ap layout_of (it.0.others catalog_tree (omega arith) (free_of_index_catalog l))) it.0.schema (record {
      versions = rw (it.0.others 0 (omega arith) (free_of_index_0 l)) h.tables.versions;
      zones = subst (Stores (new.now.trees 1)) (filter_stored stored_zone (λ x. not (hits by_first params x)) (λ z. not (bytes_eq z origin)) (λ z. ap not (zone_hits origin z)) rows.zones) it.1;
      records = rw (it.0.others 3 (omega arith) (free_of_index_3 l)) h.tables.records;
      receipts = rw (it.0.others (receipts_tree l) (omega arith) (free_of_index_receipts l)) h.tables.receipts;
      changes = rw (it.0.others (changes_tree l) (omega arith) (free_of_index_changes l)) h.tables.changes;
    })
