-- What each text means that writes or deletes rows.
use Rattle.std.proofs.Common.{◌≡◌, ℕ, List, [], codes, refl}
use Rattle.sqlite_schema.specs.declared.command.Command.TheVariants.{Insert, Update, Delete}
use Rattle.sqlite_schema.specs.declared.command.Source.TheVariants.{Values}
use Rattle.sqlite_tied.specs.Compute.{everything}
use Rattle.sqlite.specs.Listing.{understood}
use Rattle.sqlite.proofs.Callers.{IsPlain, command_of}
use Rattle.store_sql.specs.declared.layout.Layout.{Layout}
use Rattle.store_sql.specs.declared.layout.Layout.TheVariants.{IndexAfterRecords, IndexLast}
use Rattle.store_sql.specs.Tables.{office_schema, changes_tree}
use Rattle.store_sql.proofs.Texts.{select_from, by_first, by_key, the_rowid, terms_1, terms_5, terms_6, terms_6_two, terms_6_three, terms_7, terms_7_two, terms_7_three, replaced_6}

abbrev pub insert_meta_text : List ℕ
insert_meta_text = codes "INSERT INTO meta VALUES (?)"

pub insert_meta_is : (l : Layout) → command_of (understood (office_schema l) insert_meta_text) ≡ Insert 0 (Values terms_1 2)
unfolding understood everything
insert_meta_is IndexAfterRecords = refl
insert_meta_is IndexLast = refl

pub insert_meta_plain : (l : Layout) → IsPlain (understood (office_schema l) insert_meta_text)
unfolding understood everything
insert_meta_plain IndexAfterRecords = (refl, refl)
insert_meta_plain IndexLast = (refl, refl)

abbrev pub insert_zones_text : List ℕ
insert_zones_text = codes "INSERT INTO zones VALUES (?)"

pub insert_zones_is : (l : Layout) → command_of (understood (office_schema l) insert_zones_text) ≡ Insert 1 (Values terms_1 2)
unfolding understood everything
insert_zones_is IndexAfterRecords = refl
insert_zones_is IndexLast = refl

pub insert_zones_plain : (l : Layout) → IsPlain (understood (office_schema l) insert_zones_text)
unfolding understood everything
insert_zones_plain IndexAfterRecords = (refl, refl)
insert_zones_plain IndexLast = (refl, refl)

abbrev pub insert_records_text : List ℕ
insert_records_text = codes "INSERT INTO records VALUES (?, ?, ?, ?, ?, ?)"

pub insert_records_is : (l : Layout) → command_of (understood (office_schema l) insert_records_text) ≡ Insert 2 (Values terms_6 7)
unfolding understood everything
insert_records_is IndexAfterRecords = refl
insert_records_is IndexLast = refl

pub insert_records_plain : (l : Layout) → IsPlain (understood (office_schema l) insert_records_text)
unfolding understood everything
insert_records_plain IndexAfterRecords = (refl, refl)
insert_records_plain IndexLast = (refl, refl)

abbrev pub insert_two_records_text : List ℕ
insert_two_records_text = codes "INSERT INTO records VALUES (?, ?, ?, ?, ?, ?), (?, ?, ?, ?, ?, ?)"

pub insert_two_records_is : (l : Layout) → command_of (understood (office_schema l) insert_two_records_text) ≡ Insert 2 (Values terms_6_two 7)
unfolding understood everything
insert_two_records_is IndexAfterRecords = refl
insert_two_records_is IndexLast = refl

pub insert_two_records_plain : (l : Layout) → IsPlain (understood (office_schema l) insert_two_records_text)
unfolding understood everything
insert_two_records_plain IndexAfterRecords = (refl, refl)
insert_two_records_plain IndexLast = (refl, refl)

abbrev pub insert_three_records_text : List ℕ
insert_three_records_text = codes "INSERT INTO records VALUES (?, ?, ?, ?, ?, ?), (?, ?, ?, ?, ?, ?), (?, ?, ?, ?, ?, ?)"

pub insert_three_records_is : (l : Layout) → command_of (understood (office_schema l) insert_three_records_text) ≡ Insert 2 (Values terms_6_three 7)
unfolding understood everything
insert_three_records_is IndexAfterRecords = refl
insert_three_records_is IndexLast = refl

pub insert_three_records_plain : (l : Layout) → IsPlain (understood (office_schema l) insert_three_records_text)
unfolding understood everything
insert_three_records_plain IndexAfterRecords = (refl, refl)
insert_three_records_plain IndexLast = (refl, refl)

abbrev pub insert_receipts_text : List ℕ
insert_receipts_text = codes "INSERT INTO receipts VALUES (?, ?, ?, ?, ?)"

pub insert_receipts_is : (l : Layout) → command_of (understood (office_schema l) insert_receipts_text) ≡ Insert 3 (Values terms_5 6)
unfolding understood everything
insert_receipts_is IndexAfterRecords = refl
insert_receipts_is IndexLast = refl

pub insert_receipts_plain : (l : Layout) → IsPlain (understood (office_schema l) insert_receipts_text)
unfolding understood everything
insert_receipts_plain IndexAfterRecords = (refl, refl)
insert_receipts_plain IndexLast = (refl, refl)

abbrev pub insert_changes_text : List ℕ
insert_changes_text = codes "INSERT INTO changes VALUES (?, ?, ?, ?, ?, ?, ?)"

pub insert_changes_is : (l : Layout) → command_of (understood (office_schema l) insert_changes_text) ≡ Insert 4 (Values terms_7 8)
unfolding understood everything
insert_changes_is IndexAfterRecords = refl
insert_changes_is IndexLast = refl

pub insert_changes_plain : (l : Layout) → IsPlain (understood (office_schema l) insert_changes_text)
unfolding understood everything
insert_changes_plain IndexAfterRecords = (refl, refl)
insert_changes_plain IndexLast = (refl, refl)

abbrev pub insert_two_changes_text : List ℕ
insert_two_changes_text = codes "INSERT INTO changes VALUES (?, ?, ?, ?, ?, ?, ?), (?, ?, ?, ?, ?, ?, ?)"

pub insert_two_changes_is : (l : Layout) → command_of (understood (office_schema l) insert_two_changes_text) ≡ Insert 4 (Values terms_7_two 8)
unfolding understood everything
insert_two_changes_is IndexAfterRecords = refl
insert_two_changes_is IndexLast = refl

pub insert_two_changes_plain : (l : Layout) → IsPlain (understood (office_schema l) insert_two_changes_text)
unfolding understood everything
insert_two_changes_plain IndexAfterRecords = (refl, refl)
insert_two_changes_plain IndexLast = (refl, refl)

abbrev pub insert_three_changes_text : List ℕ
insert_three_changes_text = codes "INSERT INTO changes VALUES (?, ?, ?, ?, ?, ?, ?), (?, ?, ?, ?, ?, ?, ?), (?, ?, ?, ?, ?, ?, ?)"

pub insert_three_changes_is : (l : Layout) → command_of (understood (office_schema l) insert_three_changes_text) ≡ Insert 4 (Values terms_7_three 8)
unfolding understood everything
insert_three_changes_is IndexAfterRecords = refl
insert_three_changes_is IndexLast = refl

pub insert_three_changes_plain : (l : Layout) → IsPlain (understood (office_schema l) insert_three_changes_text)
unfolding understood everything
insert_three_changes_plain IndexAfterRecords = (refl, refl)
insert_three_changes_plain IndexLast = (refl, refl)

abbrev pub delete_record_text : List ℕ
delete_record_text = codes "DELETE FROM records WHERE origin = ?1 AND owner = ?2 AND type = ?3 AND data = ?4"

pub delete_record_is : (l : Layout) → command_of (understood (office_schema l) delete_record_text) ≡ Delete 2 (record { lets = []; body = select_from 3 by_key the_rowid })
unfolding understood everything
delete_record_is IndexAfterRecords = refl
delete_record_is IndexLast = refl

pub delete_record_plain : (l : Layout) → IsPlain (understood (office_schema l) delete_record_text)
unfolding understood everything
delete_record_plain IndexAfterRecords = (refl, refl)
delete_record_plain IndexLast = (refl, refl)

abbrev pub replace_record_text : List ℕ
replace_record_text = codes "UPDATE records SET origin = ?7, owner = ?8, type = ?9, data = ?10, ttl = ?11, owner_key = ?12 WHERE origin = ?1 AND owner = ?2 AND type = ?3 AND data = ?4"

pub replace_record_is : (l : Layout) → command_of (understood (office_schema l) replace_record_text) ≡ Update 2 (record { lets = []; body = select_from 3 by_key replaced_6 })
unfolding understood everything
replace_record_is IndexAfterRecords = refl
replace_record_is IndexLast = refl

pub replace_record_plain : (l : Layout) → IsPlain (understood (office_schema l) replace_record_text)
unfolding understood everything
replace_record_plain IndexAfterRecords = (refl, refl)
replace_record_plain IndexLast = (refl, refl)

abbrev pub delete_meta_text : List ℕ
delete_meta_text = codes "DELETE FROM meta"

pub delete_meta_is : (l : Layout) → command_of (understood (office_schema l) delete_meta_text) ≡ Delete 0 (record { lets = []; body = select_from 0 [] the_rowid })
unfolding understood everything
delete_meta_is IndexAfterRecords = refl
delete_meta_is IndexLast = refl

pub delete_meta_plain : (l : Layout) → IsPlain (understood (office_schema l) delete_meta_text)
unfolding understood everything
delete_meta_plain IndexAfterRecords = (refl, refl)
delete_meta_plain IndexLast = (refl, refl)

abbrev pub delete_records_of_text : List ℕ
delete_records_of_text = codes "DELETE FROM records WHERE origin = ?1"

pub delete_records_of_is : (l : Layout) → command_of (understood (office_schema l) delete_records_of_text) ≡ Delete 2 (record { lets = []; body = select_from 3 by_first the_rowid })
unfolding understood everything
delete_records_of_is IndexAfterRecords = refl
delete_records_of_is IndexLast = refl

pub delete_records_of_plain : (l : Layout) → IsPlain (understood (office_schema l) delete_records_of_text)
unfolding understood everything
delete_records_of_plain IndexAfterRecords = (refl, refl)
delete_records_of_plain IndexLast = (refl, refl)

abbrev pub delete_changes_of_text : List ℕ
delete_changes_of_text = codes "DELETE FROM changes WHERE origin = ?1"

pub delete_changes_of_is : (l : Layout) → command_of (understood (office_schema l) delete_changes_of_text) ≡ Delete 4 (record { lets = []; body = select_from (changes_tree l) by_first the_rowid })
unfolding understood everything
delete_changes_of_is IndexAfterRecords = refl
delete_changes_of_is IndexLast = refl

pub delete_changes_of_plain : (l : Layout) → IsPlain (understood (office_schema l) delete_changes_of_text)
unfolding understood everything
delete_changes_of_plain IndexAfterRecords = (refl, refl)
delete_changes_of_plain IndexLast = (refl, refl)

abbrev pub delete_zone_text : List ℕ
delete_zone_text = codes "DELETE FROM zones WHERE origin = ?1"

pub delete_zone_is : (l : Layout) → command_of (understood (office_schema l) delete_zone_text) ≡ Delete 1 (record { lets = []; body = select_from 1 by_first the_rowid })
unfolding understood everything
delete_zone_is IndexAfterRecords = refl
delete_zone_is IndexLast = refl

pub delete_zone_plain : (l : Layout) → IsPlain (understood (office_schema l) delete_zone_text)
unfolding understood everything
delete_zone_plain IndexAfterRecords = (refl, refl)
delete_zone_plain IndexLast = (refl, refl)
