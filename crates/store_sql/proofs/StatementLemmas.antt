-- What each statement of a batch does to all rows.
use Rattle.std.proofs.Common.{◌≡◌, ◌⊎◌, inl, inr, nat_lt, cond, ◌&&◌, Ordering, Less, Equal, Greater, ◌<◌, ℕ, ℤ, ◌^◌, ◌/◌, length, nat_le, true, false, not, List, [], ◌∷◌, ◌++◌, map, filter, drop, flat_map, codes, Ok, refl, sym, ap, subst, ◌∙◌, append-nil, arith}
use Rattle.std.specs.List.{AllByRecursion, list_all}
use Rattle.sqlite_value.specs.declared.value.Value.TheVariants.{Int, Null, Text}
use Rattle.sqlite_value.specs.Order.{Row}
use Rattle.sqlite_trees.specs.Objects.{catalog_tree}
use Rattle.sqlite_trees.specs.Tree.{Trees}
use Rattle.sqlite_sql.specs.Program.{overlay}
use Rattle.sqlite_sql.specs.Term.{Term, holds}
use Rattle.sqlite_rules.specs.Edit.{IsNoIndex}
use Rattle.sqlite_rules.specs.Cast.{cast_row}
use Rattle.sqlite_schema.specs.declared.command.Command.TheVariants.{Insert}
use Rattle.sqlite_schema.specs.declared.command.Source.TheVariants.{Values}
use Rattle.sqlite.specs.Listing.{understood}
use Rattle.sqlite.specs.Effect.{value_rows}
use Rattle.sqlite_value.specs.declared.value.ValueRef.{ValueRef}
use Rattle.sqlite_value.specs.Value.{owned}
use Rattle.sqlite.specs.Values.{bound, bound_value}
use Rattle.sqlite.specs.State.{State, Executes}
use Rattle.sqlite.proofs.Callers.{IsPlain, command_of}
use Rattle.store_sql.specs.Rows.{RecordRowOf, ReceiptRowOf, ChangeRowOf, RowsOf, same_key}
use Rattle.store_sql.specs.declared.layout.Layout.{Layout}
use Rattle.store_sql.specs.declared.layout.Layout.TheVariants.{IndexAfterRecords, IndexLast}
use Rattle.store_sql.specs.Tables.{layout_of, layout_in, receipts_tree, changes_tree, meta, zones, records, receipts, changes, meta_columns, zones_columns, records_columns, receipts_columns, changes_columns, zones_key, records_key, later_indexes, office_schema, stored_version, stored_zone, stored_record, stored_receipt, stored_change}
use Rattle.store_sql.specs.Stores.{IsReadableRow, Stores}
use Rattle.store_sql.specs.Holds.{Reads}
use Rattle.store_sql.specs.Statements.{with_version, with_zone, with_record, with_receipt, with_change, with_each, without_record, with_replaced}
use Rattle.store_sql.proofs.TransactionParts.{with_records, with_changes}
use Rattle.std.proofs.Common.{bytes_eq}
use Rattle.std.specs.Ordering.{int_eq}
use Rattle.std.proofs.lemmas.Cmp.{int_eq_equiv}
use Rattle.std.proofs.lemmas.List.{map-append}
use Rattle.std.specs.Ordering.{is_eq, is_ne}
use Rattle.std.proofs.lemmas.Bool.{and_from, not-true, cases_Bool}
use Rattle.std.proofs.lemmas.Bool.Decides.{Decides-int_eq}
use Rattle.std.proofs.lemmas.Slice.Eq.{bytes_eq-Decides}
use Rattle.sqlite_value.proofs.OrderLemmas.{value_cmp-Int}
use Rattle.sqlite_value.specs.Keys.{plain, first_key}
use Rattle.sqlite_value.specs.Order.{value_cmp}
use Rattle.sqlite_schema.specs.Rules.{agree, clashes, guards, differ, passes}
use Rattle.sqlite_sql.specs.Ops.{binary, is_true}
use Rattle.sqlite_sql.specs.declared.ops.BinaryOp.TheVariants.{Compare}
use Rattle.sqlite_sql.specs.declared.ops.CompareOp.TheVariants.{Eq}
use Rattle.sqlite_value.specs.declared.keys.Collation.TheVariants.{Binary}
use Rattle.sqlite_trees.specs.Tree.{rowid}
use Rattle.sqlite_schema.specs.declared.schema.Constraint.TheVariants.{Unique}
use Rattle.sqlite_rules.proofs.ListLemmas.{all_has, test_has, some_from}
use Rattle.store_sql.proofs.BatchTexts as the
use Rattle.store_sql.proofs.Texts.{by_key, replaced_6, terms_1, terms_5}
use Rattle.store_sql.proofs.Effects.{inserts, updates, deletes, IsLone}
use Rattle.store_sql.proofs.Layouts.{reads_in}
use Rattle.store_sql.proofs.Values.{bytes_eq_sym, same_text, same_number, equal_ints, told, and_true, cast_null, cast_int, hits, filter_stored, stores_last}

pub plainly : (tree : ℕ) → nat_le (2 ^ 31) tree ≡ false → (db : Trees) → overlay db [] tree ≡ db tree
plainly tree low db = rw low refl

-- the trees of `receipts` and `changes` are after those of the other tables
pub receipts_between : (l : Layout) → (4 < receipts_tree l) × (receipts_tree l < 7)
receipts_between IndexAfterRecords = (omega arith, omega arith)
receipts_between IndexLast = (omega arith, omega arith)

pub changes_between : (l : Layout) → (6 < changes_tree l) × (changes_tree l < 9)
changes_between IndexAfterRecords = (omega arith, omega arith)
changes_between IndexLast = (omega arith, omega arith)

pub plainly_receipts : (l : Layout) (db : Trees) → overlay db [] (receipts_tree l) ≡ db (receipts_tree l)
plainly_receipts IndexAfterRecords = plainly 6 refl
plainly_receipts IndexLast = plainly 5 refl

pub plainly_changes : (l : Layout) (db : Trees) → overlay db [] (changes_tree l) ≡ db (changes_tree l)
plainly_changes IndexAfterRecords = plainly 8 refl
plainly_changes IndexLast = plainly 7 refl

pub free_of_index_0 : (l : Layout) → IsNoIndex (office_schema l) 0
free_of_index_0 IndexAfterRecords = ((λ e. omega arith), ((λ e. omega arith), ((λ e. omega arith), ((λ e. omega arith), ((λ e. omega arith), tt)))))
free_of_index_0 IndexLast = ((λ e. omega arith), ((λ e. omega arith), ((λ e. omega arith), ((λ e. omega arith), ((λ e. omega arith), tt)))))

pub free_of_index_1 : (l : Layout) → IsNoIndex (office_schema l) 1
free_of_index_1 IndexAfterRecords = ((λ e. omega arith), ((λ e. omega arith), ((λ e. omega arith), ((λ e. omega arith), ((λ e. omega arith), tt)))))
free_of_index_1 IndexLast = ((λ e. omega arith), ((λ e. omega arith), ((λ e. omega arith), ((λ e. omega arith), ((λ e. omega arith), tt)))))

pub free_of_index_3 : (l : Layout) → IsNoIndex (office_schema l) 3
free_of_index_3 IndexAfterRecords = ((λ e. omega arith), ((λ e. omega arith), ((λ e. omega arith), ((λ e. omega arith), ((λ e. omega arith), tt)))))
free_of_index_3 IndexLast = ((λ e. omega arith), ((λ e. omega arith), ((λ e. omega arith), ((λ e. omega arith), ((λ e. omega arith), tt)))))

pub free_of_index_receipts : (l : Layout) → IsNoIndex (office_schema l) (receipts_tree l)
free_of_index_receipts IndexAfterRecords = ((λ e. omega arith), ((λ e. omega arith), ((λ e. omega arith), ((λ e. omega arith), ((λ e. omega arith), tt)))))
free_of_index_receipts IndexLast = ((λ e. omega arith), ((λ e. omega arith), ((λ e. omega arith), ((λ e. omega arith), ((λ e. omega arith), tt)))))

pub free_of_index_changes : (l : Layout) → IsNoIndex (office_schema l) (changes_tree l)
free_of_index_changes IndexAfterRecords = ((λ e. omega arith), ((λ e. omega arith), ((λ e. omega arith), ((λ e. omega arith), ((λ e. omega arith), tt)))))
free_of_index_changes IndexLast = ((λ e. omega arith), ((λ e. omega arith), ((λ e. omega arith), ((λ e. omega arith), ((λ e. omega arith), tt)))))

pub free_of_index_catalog : (l : Layout) → IsNoIndex (office_schema l) catalog_tree
free_of_index_catalog IndexAfterRecords = ((λ e. omega arith), ((λ e. omega arith), ((λ e. omega arith), ((λ e. omega arith), ((λ e. omega arith), tt)))))
free_of_index_catalog IndexLast = ((λ e. omega arith), ((λ e. omega arith), ((λ e. omega arith), ((λ e. omega arith), ((λ e. omega arith), tt)))))

cast_meta : (k : ℤ) → cast_row meta (Null ∷ stored_version k) ≡ Null ∷ stored_version k
cast_meta k = rw (cast_null, cast_int k) refl

pub inserts_meta : (old new : State) (k : ℤ) (count : ℕ) (rows : RowsOf) → IsReadableRow (stored_version k) → Executes the.insert_meta_text (stored_version k) old new (Ok count) → Reads old.now rows → Reads new.now (with_version k rows)
inserts_meta old new k count rows readable ran h =
    let l = layout_in old.now.trees in
    let r = receipts_between l in
    let c = changes_between l in
    let it = inserts l (codes "meta") 0 meta_columns ([]) 0 refl (plainly 0 refl) the.insert_meta_text (stored_version k) old new h.schema (the.insert_meta_plain l) count ran
    terms_1 2 stored_version rows.versions (k ∷ []) (readable, tt) (the.insert_meta_is l) refl cast_meta h.tables.versions in
    reads_in l new.now _ (ap layout_of (it.0.others catalog_tree (omega arith) (free_of_index_catalog l))) it.0.schema (record {
      versions = it.1;
      zones = rw (it.0.others 1 (omega arith) (free_of_index_1 l)) h.tables.zones;
      records = rw (it.0.others 3 (omega arith) (free_of_index_3 l)) h.tables.records;
      receipts = rw (it.0.others (receipts_tree l) (omega arith) (free_of_index_receipts l)) h.tables.receipts;
      changes = rw (it.0.others (changes_tree l) (omega arith) (free_of_index_changes l)) h.tables.changes;
    })

cast_zones : (k : List ℕ) → cast_row zones (Null ∷ stored_zone k) ≡ Null ∷ stored_zone k
cast_zones k = rw cast_null refl

pub inserts_zones : (old new : State) (k : List ℕ) (count : ℕ) (rows : RowsOf) → IsReadableRow (stored_zone k) → Executes the.insert_zones_text (stored_zone k) old new (Ok count) → Reads old.now rows → Reads new.now (with_zone k rows)
inserts_zones old new k count rows readable ran h =
    let l = layout_in old.now.trees in
    let r = receipts_between l in
    let c = changes_between l in
    let it = inserts l (codes "zones") 1 zones_columns (1 ∷ []) 1 refl (plainly 1 refl) the.insert_zones_text (stored_zone k) old new h.schema (the.insert_zones_plain l) count ran
    terms_1 2 stored_zone rows.zones (k ∷ []) (readable, tt) (the.insert_zones_is l) refl cast_zones h.tables.zones in
    reads_in l new.now _ (ap layout_of (it.0.others catalog_tree (omega arith) (free_of_index_catalog l))) it.0.schema (record {
      versions = rw (it.0.others 0 (omega arith) (free_of_index_0 l)) h.tables.versions;
      zones = it.1;
      records = rw (it.0.others 3 (omega arith) (free_of_index_3 l)) h.tables.records;
      receipts = rw (it.0.others (receipts_tree l) (omega arith) (free_of_index_receipts l)) h.tables.receipts;
      changes = rw (it.0.others (changes_tree l) (omega arith) (free_of_index_changes l)) h.tables.changes;
    })

-- the parameters of two rows, and of three
pub bound_two : (a b : List ValueRef) (x y : Row) → bound a ≡ x → bound b ≡ y → bound (flat_map (λ values. values) (a ∷ b ∷ [])) ≡ x ++ y
bound_two a b x y one two = map-append (λ v. bound_value (owned v)) a (b ++ []) ∙ rw (append-nil b, one, two) refl

pub bound_three : (a b c : List ValueRef) (x y z : Row) → bound a ≡ x → bound b ≡ y → bound c ≡ z → bound (flat_map (λ values. values) (a ∷ b ∷ c ∷ [])) ≡ x ++ (y ++ z)
bound_three a b c x y z one two three = map-append (λ v. bound_value (owned v)) a (b ++ (c ++ [])) ∙ rw (bound_two b c y z two three, one) refl

cast_records : (k : RecordRowOf) → cast_row records (Null ∷ stored_record k) ≡ Null ∷ stored_record k
cast_records k = rw (cast_null, cast_int k.record_type, cast_int k.ttl) refl

-- an INSERT of some rows into `records`, whose terms are columns of these rows
pub inserts_records : (sql : List ℕ) (params : Row) (terms : List Term) (old new : State) (all : List RecordRowOf) (count : ℕ) (rows : RowsOf) → ((l : Layout) → IsPlain (understood (office_schema l) sql))
    → ((l : Layout) → command_of (understood (office_schema l) sql) ≡ Insert 2 (Values terms 7)) → value_rows (params ++ []) 7 (length terms / 7) terms ≡ map (λ k. Null ∷ stored_record k) all
    → AllByRecursion (λ k. IsReadableRow (stored_record k)) all → Executes sql params old new (Ok count) → Reads old.now rows → Reads new.now (with_each with_record all rows)
inserts_records sql params terms old new all count rows plain is these readable ran h =
    let l = layout_in old.now.trees in
    let r = receipts_between l in
    let c = changes_between l in
    let it = inserts l (codes "records") 3 records_columns (1 ∷ 2 ∷ 3 ∷ 4 ∷ []) 2 refl (plainly 3 refl) sql params old new h.schema (plain l) count ran
    terms 7 stored_record rows.records all readable (is l) these cast_records h.tables.records in
    subst (Reads new.now) (sym (with_records all rows)) (
    reads_in l new.now _ (ap layout_of (it.0.others catalog_tree (omega arith) (free_of_index_catalog l))) it.0.schema (record {
      versions = rw (it.0.others 0 (omega arith) (free_of_index_0 l)) h.tables.versions;
      zones = rw (it.0.others 1 (omega arith) (free_of_index_1 l)) h.tables.zones;
      records = it.1;
      receipts = rw (it.0.others (receipts_tree l) (omega arith) (free_of_index_receipts l)) h.tables.receipts;
      changes = rw (it.0.others (changes_tree l) (omega arith) (free_of_index_changes l)) h.tables.changes;
    }))

cast_receipts : (l : Layout) (k : ReceiptRowOf) → cast_row (receipts l) (Null ∷ stored_receipt k) ≡ Null ∷ stored_receipt k
cast_receipts l k = rw cast_null refl

pub inserts_receipts : (old new : State) (k : ReceiptRowOf) (count : ℕ) (rows : RowsOf) → IsReadableRow (stored_receipt k) → Executes the.insert_receipts_text (stored_receipt k) old new (Ok count) → Reads old.now rows → Reads new.now (with_receipt k rows)
inserts_receipts old new k count rows readable ran h =
    let l = layout_in old.now.trees in
    let r = receipts_between l in
    let c = changes_between l in
    let it = inserts l (codes "receipts") (receipts_tree l) receipts_columns (1 ∷ 2 ∷ []) 3 refl (plainly_receipts l) the.insert_receipts_text (stored_receipt k) old new h.schema (the.insert_receipts_plain l) count ran
    terms_5 6 stored_receipt rows.receipts (k ∷ []) (readable, tt) (the.insert_receipts_is l) refl (cast_receipts l) h.tables.receipts in
    reads_in l new.now _ (ap layout_of (it.0.others catalog_tree (omega arith) (free_of_index_catalog l))) it.0.schema (record {
      versions = rw (it.0.others 0 (omega arith) (free_of_index_0 l)) h.tables.versions;
      zones = rw (it.0.others 1 (omega arith) (free_of_index_1 l)) h.tables.zones;
      records = rw (it.0.others 3 (omega arith) (free_of_index_3 l)) h.tables.records;
      receipts = it.1;
      changes = rw (it.0.others (changes_tree l) (omega arith) (free_of_index_changes l)) h.tables.changes;
    })

cast_changes : (l : Layout) (k : ChangeRowOf) → cast_row (changes l) (Null ∷ stored_change k) ≡ Null ∷ stored_change k
cast_changes l k = rw (cast_null, cast_int k.number, cast_int k.side, cast_int k.record_type, cast_int k.ttl) refl

-- the same of `changes`
pub inserts_changes : (sql : List ℕ) (params : Row) (terms : List Term) (old new : State) (all : List ChangeRowOf) (count : ℕ) (rows : RowsOf) → ((l : Layout) → IsPlain (understood (office_schema l) sql))
    → ((l : Layout) → command_of (understood (office_schema l) sql) ≡ Insert 4 (Values terms 8)) → value_rows (params ++ []) 8 (length terms / 8) terms ≡ map (λ k. Null ∷ stored_change k) all
    → AllByRecursion (λ k. IsReadableRow (stored_change k)) all → Executes sql params old new (Ok count) → Reads old.now rows → Reads new.now (with_each with_change all rows)
inserts_changes sql params terms old new all count rows plain is these readable ran h =
    let l = layout_in old.now.trees in
    let r = receipts_between l in
    let c = changes_between l in
    let it = inserts l (codes "changes") (changes_tree l) changes_columns (1 ∷ 2 ∷ 3 ∷ 4 ∷ 5 ∷ 6 ∷ []) 4 refl (plainly_changes l) sql params old new h.schema (plain l) count ran
    terms 8 stored_change rows.changes all readable (is l) these (cast_changes l) h.tables.changes in
    subst (Reads new.now) (sym (with_changes all rows)) (
    reads_in l new.now _ (ap layout_of (it.0.others catalog_tree (omega arith) (free_of_index_catalog l))) it.0.schema (record {
      versions = rw (it.0.others 0 (omega arith) (free_of_index_0 l)) h.tables.versions;
      zones = rw (it.0.others 1 (omega arith) (free_of_index_1 l)) h.tables.zones;
      records = rw (it.0.others 3 (omega arith) (free_of_index_3 l)) h.tables.records;
      receipts = rw (it.0.others (receipts_tree l) (omega arith) (free_of_index_receipts l)) h.tables.receipts;
      changes = it.1;
    }))

key_test : (params r : Row) → list_all (holds (params ∷ r ∷ [])) by_key ≡ hits by_key params (drop 1 r)
key_test params [] = refl
key_test params (v ∷ body) = refl

int_eq_sym : (a b : ℤ) → int_eq a b ≡ int_eq b a
int_eq_sym a b = int_eq_equiv.symm a b

-- the parameters of a deletion
abbrev pub key_of : RecordRowOf → Row
key_of k = Text k.origin ∷ Text k.owner ∷ Int k.record_type ∷ Text k.rdata ∷ []

key_hits : (k r : RecordRowOf) → hits by_key (key_of k) (stored_record r) ≡ same_key k r
key_hits k r = rw (same_text r.origin k.origin, same_text r.owner k.owner, same_number r.record_type k.record_type, same_text r.rdata k.rdata, and_true (bytes_eq r.rdata k.rdata)) (rw (bytes_eq_sym r.origin k.origin, bytes_eq_sym r.owner k.owner, int_eq_sym r.record_type k.record_type, bytes_eq_sym r.rdata k.rdata) refl)

pub deletes_record : (old new : State) (k : RecordRowOf) (count : ℕ) (rows : RowsOf) → Executes the.delete_record_text (key_of k) old new (Ok count) → Reads old.now rows → Reads new.now (without_record k rows)
deletes_record old new k count rows ran h =
    let l = layout_in old.now.trees in
    let r = receipts_between l in
    let c = changes_between l in
    let it = deletes l (codes "records") 3 records_columns (1 ∷ 2 ∷ 3 ∷ 4 ∷ []) 2 refl (plainly 3 refl) the.delete_record_text (key_of k) old new h.schema (the.delete_record_plain l) count ran
    by_key (hits by_key (key_of k)) (map stored_record rows.records) (the.delete_record_is l) (key_test (key_of k)) h.tables.records in
    reads_in l new.now _ (ap layout_of (it.0.others catalog_tree (omega arith) (free_of_index_catalog l))) it.0.schema (record {
      versions = rw (it.0.others 0 (omega arith) (free_of_index_0 l)) h.tables.versions;
      zones = rw (it.0.others 1 (omega arith) (free_of_index_1 l)) h.tables.zones;
      records = subst (Stores (new.now.trees 3)) (filter_stored stored_record (λ x. not (hits by_key (key_of k) x)) (λ r. not (same_key k r)) (λ r. ap not (key_hits k r)) rows.records) it.1;
      receipts = rw (it.0.others (receipts_tree l) (omega arith) (free_of_index_receipts l)) h.tables.receipts;
      changes = rw (it.0.others (changes_tree l) (omega arith) (free_of_index_changes l)) h.tables.changes;
    })

-- ---- a record in the place of another

same_id : (i j : ℤ) → is_eq (value_cmp (Int i) (Int j)) ≡ true → i ≡ j
same_id i j same = (Decides-int_eq i j).0 (sym (equal_ints i j) ∙ ap is_eq (sym (value_cmp-Int i j)) ∙ same)

pub differ_ids : (i j : ℤ) → is_eq (value_cmp (Int i) (Int j)) ≡ false → differ (Int i) (Int j) ≡ true
unfolding binary
differ_ids i j other = told (is_ne (value_cmp (Int i) (Int j))) ∙ ne_is (value_cmp (Int i) (Int j)) ∙ ap not other
  where
    ne_is : (o : Ordering) → is_ne o ≡ not (is_eq o)
    ne_is Less = refl
    ne_is Equal = refl
    ne_is Greater = refl

text_itself : (t : List ℕ) → is_true (binary (Compare Eq Binary) (Text t) (Text t)) ≡ true
text_itself t = same_text t t ∙ (bytes_eq-Decides t t).1 refl

number_itself : (n : ℤ) → is_true (binary (Compare Eq Binary) (Int n) (Int n)) ≡ true
number_itself n = same_number n n ∙ (Decides-int_eq n n).1 refl

abbrev record_key : List ℕ
record_key = 1 ∷ 2 ∷ 3 ∷ 4 ∷ []

agreed : (k : RecordRowOf) (i j : ℤ) → agree plain record_key (Int i ∷ stored_record k) record_key (Int j ∷ stored_record k) ≡ true
unfolding first_key
agreed k i j = rw (text_itself k.origin, text_itself k.owner, number_itself k.record_type, text_itself k.rdata) refl

-- the key of `records` is that of one row
lone_record : (l : Layout) (k : RecordRowOf) → IsLone l (codes "records") 3 records_columns (1 ∷ 2 ∷ 3 ∷ 4 ∷ []) 2 refl (plainly 3 refl) (stored_record k)
lone_record l k next fits i j a b = go (cases_Bool (is_eq (value_cmp (Int i) (Int j))))
  where
    new : ℤ → Row
    new id = Int id ∷ stored_record k

    go : (is_eq (value_cmp (Int i) (Int j)) ≡ true) ⊎ (is_eq (value_cmp (Int i) (Int j)) ≡ false) → i ≡ j
    go (inl same) = same_id i j same
    go (inr other) =
        let clash : clashes plain record_key (next 3) (new j) ≡ true =
        some_from (λ r. agree plain record_key r record_key (new j) && differ (rowid r) (Int j)) (next 3) (new i) a (and_from _ _ (agreed k i j) (differ_ids i j other)) in
        let rule = all_has (λ row. passes Unique (office_schema l) next records row ≡ true) (next 3) (new j) (fits.rules Unique (λ e. absurd (let x = e in cc))).1.1.0 b in
        let holds : not (clashes plain record_key (next 3) (new j)) ≡ true = test_has (λ i. not (guards i records && clashes i.order i.columns (next 3) (new j))) (zones_key ∷ records_key ∷ later_indexes l) records_key rule (inr (inl refl)) in
        absurd (let free = not-true _ holds in cc)

pub replaces_record : (old new : State) (gone k : RecordRowOf) (count : ℕ) (rows : RowsOf) → IsReadableRow (stored_record k) → Executes the.replace_record_text (stored_record gone ++ stored_record k) old new (Ok count)
    → Reads old.now rows → Reads new.now (with_replaced (nat_lt 0 count) gone k rows)
replaces_record old new gone k count rows readable ran h =
    let l = layout_in old.now.trees in
    let r = receipts_between l in
    let c = changes_between l in
    let params = stored_record gone ++ stored_record k in
    let it = updates l (codes "records") 3 records_columns (1 ∷ 2 ∷ 3 ∷ 4 ∷ []) 2 refl (plainly 3 refl) the.replace_record_text params old new h.schema (the.replace_record_plain l) count ran
    by_key replaced_6 (hits by_key params) (stored_record k) (map stored_record rows.records) (the.replace_record_is l) (key_test params) (λ r. refl) readable (λ id. rw (cast_int id, cast_int k.record_type, cast_int k.ttl) refl) (lone_record l k) h.tables.records in
    let others = filter_stored stored_record (λ x. not (hits by_key params x)) (λ r. not (same_key gone r)) (λ r. ap not (key_hits gone r)) rows.records in
    let reads = λ (records : List RecordRowOf) (are : Stores (new.now.trees 3) (map stored_record records)).
    reads_in l new.now (record rows { records = records }) (ap layout_of (it.0.others catalog_tree (omega arith) (free_of_index_catalog l))) it.0.schema (record {
      versions = rw (it.0.others 0 (omega arith) (free_of_index_0 l)) h.tables.versions;
      zones = rw (it.0.others 1 (omega arith) (free_of_index_1 l)) h.tables.zones;
      records = are;
      receipts = rw (it.0.others (receipts_tree l) (omega arith) (free_of_index_receipts l)) h.tables.receipts;
      changes = rw (it.0.others (changes_tree l) (omega arith) (free_of_index_changes l)) h.tables.changes;
    }) in
    elim (nat_lt 0 count) as (λ b. Stores (new.now.trees 3) (cond b (stored_record k ∷ filter (λ y. not (hits by_key params y)) (map stored_record rows.records)) (filter (λ y. not (hits by_key params y)) (map stored_record rows.records))) → Reads new.now (with_replaced b gone k rows)) [
      | true ↦ λ are. reads _ (stores_last stored_record (filter (λ r. not (same_key gone r)) rows.records) k (new.now.trees 3) (rw others at are))
      | false ↦ λ are. reads _ (rw others at are)
    ] it.1

none_left : (xs : List Row) → filter (λ x. false) xs ≡ []
none_left [] = refl
none_left (x ∷ xs) = none_left xs

pub deletes_meta : (old new : State) (count : ℕ) (rows : RowsOf) → Executes the.delete_meta_text [] old new (Ok count) → Reads old.now rows → Reads new.now (record rows { versions = [] })
deletes_meta old new count rows ran h =
    let l = layout_in old.now.trees in
    let r = receipts_between l in
    let c = changes_between l in
    let it = deletes l (codes "meta") 0 meta_columns [] 0 refl (plainly 0 refl) the.delete_meta_text [] old new h.schema (the.delete_meta_plain l) count ran
    [] (λ x. true) (map stored_version rows.versions) (the.delete_meta_is l) (λ r. refl) h.tables.versions in
    reads_in l new.now _ (ap layout_of (it.0.others catalog_tree (omega arith) (free_of_index_catalog l))) it.0.schema (record {
      versions = subst (Stores (new.now.trees 0)) (none_left (map stored_version rows.versions)) it.1;
      zones = rw (it.0.others 1 (omega arith) (free_of_index_1 l)) h.tables.zones;
      records = rw (it.0.others 3 (omega arith) (free_of_index_3 l)) h.tables.records;
      receipts = rw (it.0.others (receipts_tree l) (omega arith) (free_of_index_receipts l)) h.tables.receipts;
      changes = rw (it.0.others (changes_tree l) (omega arith) (free_of_index_changes l)) h.tables.changes;
    })
