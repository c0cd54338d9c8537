-- What each text of a query means.
use Rattle.std.proofs.Common.{◌≡◌, true, false, ℕ, pos, negsuc, List, [], ◌∷◌, ◌++◌, codes, None, refl}
use Rattle.sqlite_value.specs.declared.keys.Collation.TheVariants.{Binary}
use Rattle.sqlite_value.specs.declared.keys.Key.{Key}
use Rattle.sqlite_value.specs.declared.value.Value.TheVariants.{Null, Int}
use Rattle.sqlite_sql.specs.Term.{Term, lit, col, op2}
use Rattle.sqlite_sql.specs.Query.{Query, inner, end}
use Rattle.sqlite_sql.specs.declared.ops.BinaryOp.TheVariants.{Compare}
use Rattle.sqlite_sql.specs.declared.ops.CompareOp.TheVariants.{Eq, Ge, Lt}
use Rattle.sqlite_schema.specs.declared.command.Command.TheVariants.{Select}
use Rattle.sqlite_tied.specs.Compute.{everything}
use Rattle.sqlite.specs.Listing.{understood, reads_listing}
use Rattle.sqlite.proofs.Callers.{IsPlain, command_of}
use Rattle.store_sql.specs.declared.layout.Layout.{Layout}
use Rattle.store_sql.specs.declared.layout.Layout.TheVariants.{IndexAfterRecords, IndexLast}
use Rattle.store_sql.specs.Tables.{office_schema, receipts_tree, changes_tree}

abbrev pub is_param : ℕ → ℕ → Term
is_param column param = op2 (Compare Eq Binary) (col 1 column) (col 0 param)

-- a SELECT from one table
abbrev pub select_by : List (Term × Key) → Term → ℕ → List Term → List Term → Query
select_by order limit tree filter project = record {
  from = inner tree end;
  filter = filter;
  group = None;
  project = project;
  distinct = false;
  collations = [];
  order = order;
  limit = limit;
  offset = lit (Int (pos 0));
}

-- the same, of all rows that pass
abbrev pub select_from : ℕ → List Term → List Term → Query
select_from = select_by [] (lit (Int (negsuc 0)))

abbrev pub by_first : List Term
by_first = is_param 1 0 ∷ []

abbrev pub by_two : List Term
by_two = is_param 1 0 ∷ is_param 2 1 ∷ []

abbrev pub by_owner_key : List Term
by_owner_key = is_param 1 0 ∷ is_param 6 1 ∷ []

abbrev pub by_range : List Term
by_range = is_param 1 0 ∷ op2 (Compare Ge Binary) (col 1 6) (col 0 1) ∷ op2 (Compare Lt Binary) (col 1 6) (col 0 2) ∷ []

abbrev pub by_key : List Term
by_key = is_param 1 0 ∷ is_param 2 1 ∷ is_param 3 2 ∷ is_param 4 3 ∷ []

abbrev pub the_rowid : List Term
the_rowid = col 1 0 ∷ []

abbrev pub columns_1 : List Term
columns_1 = col 1 1 ∷ []

abbrev pub terms_1 : List Term
terms_1 = lit Null ∷ col 0 0 ∷ []

abbrev pub columns_5 : List Term
columns_5 = col 1 1 ∷ col 1 2 ∷ col 1 3 ∷ col 1 4 ∷ col 1 5 ∷ []

abbrev pub terms_5 : List Term
terms_5 = lit Null ∷ col 0 0 ∷ col 0 1 ∷ col 0 2 ∷ col 0 3 ∷ col 0 4 ∷ []

abbrev pub columns_6 : List Term
columns_6 = col 1 1 ∷ col 1 2 ∷ col 1 3 ∷ col 1 4 ∷ col 1 5 ∷ col 1 6 ∷ []

abbrev pub terms_6 : List Term
terms_6 = lit Null ∷ col 0 0 ∷ col 0 1 ∷ col 0 2 ∷ col 0 3 ∷ col 0 4 ∷ col 0 5 ∷ []

abbrev pub terms_6_two : List Term
terms_6_two = lit Null ∷ col 0 0 ∷ col 0 1 ∷ col 0 2 ∷ col 0 3 ∷ col 0 4 ∷ col 0 5 ∷ lit Null ∷ col 0 6 ∷ col 0 7 ∷ col 0 8 ∷ col 0 9 ∷ col 0 10 ∷ col 0 11 ∷ []

abbrev pub terms_6_three : List Term
terms_6_three = lit Null ∷ col 0 0 ∷ col 0 1 ∷ col 0 2 ∷ col 0 3 ∷ col 0 4 ∷ col 0 5 ∷ lit Null ∷ col 0 6 ∷ col 0 7 ∷ col 0 8 ∷ col 0 9 ∷ col 0 10 ∷ col 0 11 ∷ lit Null ∷ col 0 12 ∷ col 0 13 ∷ col 0 14 ∷ col 0 15 ∷ col 0 16 ∷ col 0 17 ∷ []

-- the rowid of a row, and the row that comes in its place, after the parameters of another
abbrev pub replaced_6 : List Term
replaced_6 = col 1 0 ∷ col 1 0 ∷ col 0 6 ∷ col 0 7 ∷ col 0 8 ∷ col 0 9 ∷ col 0 10 ∷ col 0 11 ∷ []

abbrev pub columns_7 : List Term
columns_7 = col 1 1 ∷ col 1 2 ∷ col 1 3 ∷ col 1 4 ∷ col 1 5 ∷ col 1 6 ∷ col 1 7 ∷ []

abbrev pub terms_7 : List Term
terms_7 = lit Null ∷ col 0 0 ∷ col 0 1 ∷ col 0 2 ∷ col 0 3 ∷ col 0 4 ∷ col 0 5 ∷ col 0 6 ∷ []

abbrev pub terms_7_two : List Term
terms_7_two = lit Null ∷ col 0 0 ∷ col 0 1 ∷ col 0 2 ∷ col 0 3 ∷ col 0 4 ∷ col 0 5 ∷ col 0 6 ∷ lit Null ∷ col 0 7 ∷ col 0 8 ∷ col 0 9 ∷ col 0 10 ∷ col 0 11 ∷ col 0 12 ∷ col 0 13 ∷ []

abbrev pub terms_7_three : List Term
terms_7_three = lit Null ∷ col 0 0 ∷ col 0 1 ∷ col 0 2 ∷ col 0 3 ∷ col 0 4 ∷ col 0 5 ∷ col 0 6 ∷ lit Null ∷ col 0 7 ∷ col 0 8 ∷ col 0 9 ∷ col 0 10 ∷ col 0 11 ∷ col 0 12 ∷ col 0 13 ∷ lit Null ∷ col 0 14 ∷ col 0 15 ∷ col 0 16 ∷ col 0 17 ∷ col 0 18 ∷ col 0 19 ∷ col 0 20 ∷ []

abbrev pub zone_text : List ℕ
zone_text = codes "SELECT origin FROM zones WHERE origin = ?1"

pub zone_is : (l : Layout) → (command_of (understood (office_schema l) zone_text) ≡ Select (record { lets = []; body = select_from 1 by_first columns_1 }) (codes "origin" ∷ [])) × (reads_listing (office_schema l) zone_text ≡ false)
unfolding understood everything
zone_is IndexAfterRecords = (refl, refl)
zone_is IndexLast = (refl, refl)

pub zone_plain : (l : Layout) → IsPlain (understood (office_schema l) zone_text)
unfolding understood everything
zone_plain IndexAfterRecords = (refl, refl)
zone_plain IndexLast = (refl, refl)

abbrev pub records_of_text : List ℕ
records_of_text = codes "SELECT origin, owner, type, data, ttl, owner_key FROM records WHERE origin = ?1"

pub records_of_is : (l : Layout) → (command_of (understood (office_schema l) records_of_text) ≡ Select (record { lets = []; body = select_from 3 by_first columns_6 }) (codes "origin" ∷ codes "owner" ∷ codes "type" ∷ codes "data" ∷ codes "ttl" ∷ codes "owner_key" ∷ [])) × (reads_listing (office_schema l) records_of_text ≡ false)
unfolding understood everything
records_of_is IndexAfterRecords = (refl, refl)
records_of_is IndexLast = (refl, refl)

pub records_of_plain : (l : Layout) → IsPlain (understood (office_schema l) records_of_text)
unfolding understood everything
records_of_plain IndexAfterRecords = (refl, refl)
records_of_plain IndexLast = (refl, refl)

abbrev pub records_at_text : List ℕ
records_at_text = codes "SELECT origin, owner, type, data, ttl, owner_key FROM records WHERE origin = ?1 AND owner_key = ?2"

pub records_at_is : (l : Layout) → (command_of (understood (office_schema l) records_at_text) ≡ Select (record { lets = []; body = select_from 3 by_owner_key columns_6 }) (codes "origin" ∷ codes "owner" ∷ codes "type" ∷ codes "data" ∷ codes "ttl" ∷ codes "owner_key" ∷ [])) × (reads_listing (office_schema l) records_at_text ≡ false)
unfolding understood everything
records_at_is IndexAfterRecords = (refl, refl)
records_at_is IndexLast = (refl, refl)

pub records_at_plain : (l : Layout) → IsPlain (understood (office_schema l) records_at_text)
unfolding understood everything
records_at_plain IndexAfterRecords = (refl, refl)
records_at_plain IndexLast = (refl, refl)

abbrev pub records_between_text : List ℕ
records_between_text = codes "SELECT origin, owner, type, data, ttl, owner_key FROM records WHERE origin = ?1 AND owner_key >= ?2 AND owner_key < ?3"

pub records_between_is : (l : Layout) → (command_of (understood (office_schema l) records_between_text) ≡ Select (record { lets = []; body = select_from 3 by_range columns_6 }) (codes "origin" ∷ codes "owner" ∷ codes "type" ∷ codes "data" ∷ codes "ttl" ∷ codes "owner_key" ∷ [])) × (reads_listing (office_schema l) records_between_text ≡ false)
unfolding understood everything
records_between_is IndexAfterRecords = (refl, refl)
records_between_is IndexLast = (refl, refl)

pub records_between_plain : (l : Layout) → IsPlain (understood (office_schema l) records_between_text)
unfolding understood everything
records_between_plain IndexAfterRecords = (refl, refl)
records_between_plain IndexLast = (refl, refl)

abbrev pub receipts_of_text : List ℕ
receipts_of_text = codes "SELECT caller, id, origin, request, reply FROM receipts WHERE caller = ?1 AND id = ?2"

pub receipts_of_is : (l : Layout) → (command_of (understood (office_schema l) receipts_of_text) ≡ Select (record { lets = []; body = select_from (receipts_tree l) by_two columns_5 }) (codes "caller" ∷ codes "id" ∷ codes "origin" ∷ codes "request" ∷ codes "reply" ∷ [])) × (reads_listing (office_schema l) receipts_of_text ≡ false)
unfolding understood everything
receipts_of_is IndexAfterRecords = (refl, refl)
receipts_of_is IndexLast = (refl, refl)

pub receipts_of_plain : (l : Layout) → IsPlain (understood (office_schema l) receipts_of_text)
unfolding understood everything
receipts_of_plain IndexAfterRecords = (refl, refl)
receipts_of_plain IndexLast = (refl, refl)

abbrev pub changes_of_text : List ℕ
changes_of_text = codes "SELECT origin, number, side, owner, type, data, ttl FROM changes WHERE origin = ?1"

pub changes_of_is : (l : Layout) → (command_of (understood (office_schema l) changes_of_text) ≡ Select (record { lets = []; body = select_from (changes_tree l) by_first columns_7 }) (codes "origin" ∷ codes "number" ∷ codes "side" ∷ codes "owner" ∷ codes "type" ∷ codes "data" ∷ codes "ttl" ∷ [])) × (reads_listing (office_schema l) changes_of_text ≡ false)
unfolding understood everything
changes_of_is IndexAfterRecords = (refl, refl)
changes_of_is IndexLast = (refl, refl)

pub changes_of_plain : (l : Layout) → IsPlain (understood (office_schema l) changes_of_text)
unfolding understood everything
changes_of_plain IndexAfterRecords = (refl, refl)
changes_of_plain IndexLast = (refl, refl)

abbrev pub last_query : Layout → Query
last_query l = select_by ((col 1 2, record { collation = Binary; descending = true }) ∷ []) (lit (Int (pos 1))) (changes_tree l) by_first (col 1 2 ∷ [])

abbrev pub last_text : List ℕ
last_text = codes "SELECT number FROM changes WHERE origin = ?1 ORDER BY number DESC LIMIT 1"

pub last_is : (l : Layout) → (command_of (understood (office_schema l) last_text) ≡ Select (record { lets = []; body = last_query l }) (codes "number" ∷ [])) × (reads_listing (office_schema l) last_text ≡ false)
unfolding understood everything
last_is IndexAfterRecords = (refl, refl)
last_is IndexLast = (refl, refl)

pub last_plain : (l : Layout) → IsPlain (understood (office_schema l) last_text)
unfolding understood everything
last_plain IndexAfterRecords = (refl, refl)
last_plain IndexLast = (refl, refl)

abbrev pub all_meta_text : List ℕ
all_meta_text = codes "SELECT rowid, version FROM meta"

pub all_meta_is : (l : Layout) → (command_of (understood (office_schema l) all_meta_text) ≡ Select (record { lets = []; body = select_from 0 [] (the_rowid ++ columns_1) }) (codes "rowid" ∷ codes "version" ∷ [])) × (reads_listing (office_schema l) all_meta_text ≡ false)
unfolding understood everything
all_meta_is IndexAfterRecords = (refl, refl)
all_meta_is IndexLast = (refl, refl)

pub all_meta_plain : (l : Layout) → IsPlain (understood (office_schema l) all_meta_text)
unfolding understood everything
all_meta_plain IndexAfterRecords = (refl, refl)
all_meta_plain IndexLast = (refl, refl)

abbrev pub all_zones_text : List ℕ
all_zones_text = codes "SELECT rowid, origin FROM zones"

pub all_zones_is : (l : Layout) → (command_of (understood (office_schema l) all_zones_text) ≡ Select (record { lets = []; body = select_from 1 [] (the_rowid ++ columns_1) }) (codes "rowid" ∷ codes "origin" ∷ [])) × (reads_listing (office_schema l) all_zones_text ≡ false)
unfolding understood everything
all_zones_is IndexAfterRecords = (refl, refl)
all_zones_is IndexLast = (refl, refl)

pub all_zones_plain : (l : Layout) → IsPlain (understood (office_schema l) all_zones_text)
unfolding understood everything
all_zones_plain IndexAfterRecords = (refl, refl)
all_zones_plain IndexLast = (refl, refl)

abbrev pub all_records_text : List ℕ
all_records_text = codes "SELECT rowid, origin, owner, type, data, ttl, owner_key FROM records"

pub all_records_is : (l : Layout) → (command_of (understood (office_schema l) all_records_text) ≡ Select (record { lets = []; body = select_from 3 [] (the_rowid ++ columns_6) }) (codes "rowid" ∷ codes "origin" ∷ codes "owner" ∷ codes "type" ∷ codes "data" ∷ codes "ttl" ∷ codes "owner_key" ∷ [])) × (reads_listing (office_schema l) all_records_text ≡ false)
unfolding understood everything
all_records_is IndexAfterRecords = (refl, refl)
all_records_is IndexLast = (refl, refl)

pub all_records_plain : (l : Layout) → IsPlain (understood (office_schema l) all_records_text)
unfolding understood everything
all_records_plain IndexAfterRecords = (refl, refl)
all_records_plain IndexLast = (refl, refl)

abbrev pub all_receipts_text : List ℕ
all_receipts_text = codes "SELECT rowid, caller, id, origin, request, reply FROM receipts"

pub all_receipts_is : (l : Layout) → (command_of (understood (office_schema l) all_receipts_text) ≡ Select (record { lets = []; body = select_from (receipts_tree l) [] (the_rowid ++ columns_5) }) (codes "rowid" ∷ codes "caller" ∷ codes "id" ∷ codes "origin" ∷ codes "request" ∷ codes "reply" ∷ [])) × (reads_listing (office_schema l) all_receipts_text ≡ false)
unfolding understood everything
all_receipts_is IndexAfterRecords = (refl, refl)
all_receipts_is IndexLast = (refl, refl)

pub all_receipts_plain : (l : Layout) → IsPlain (understood (office_schema l) all_receipts_text)
unfolding understood everything
all_receipts_plain IndexAfterRecords = (refl, refl)
all_receipts_plain IndexLast = (refl, refl)

abbrev pub all_changes_text : List ℕ
all_changes_text = codes "SELECT rowid, origin, number, side, owner, type, data, ttl FROM changes"

pub all_changes_is : (l : Layout) → (command_of (understood (office_schema l) all_changes_text) ≡ Select (record { lets = []; body = select_from (changes_tree l) [] (the_rowid ++ columns_7) }) (codes "rowid" ∷ codes "origin" ∷ codes "number" ∷ codes "side" ∷ codes "owner" ∷ codes "type" ∷ codes "data" ∷ codes "ttl" ∷ [])) × (reads_listing (office_schema l) all_changes_text ≡ false)
unfolding understood everything
all_changes_is IndexAfterRecords = (refl, refl)
all_changes_is IndexLast = (refl, refl)

pub all_changes_plain : (l : Layout) → IsPlain (understood (office_schema l) all_changes_text)
unfolding understood everything
all_changes_plain IndexAfterRecords = (refl, refl)
all_changes_plain IndexLast = (refl, refl)
