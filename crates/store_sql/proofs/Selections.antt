-- What each question answers.
use Rattle.std.proofs.Common.{◌≡◌, ℕ, ℤ, Bool, true, false, not, ◌&&◌, List, [], ◌∷◌, map, filter, drop, cond, ◌||◌, ◌==◌, length, codes, slice_get, Some, refl, sym, ap, subst, ◌∙◌, IsPermutation, bytes_eq, arith}
use Rattle.std.specs.List.{AllByRecursion, list_all, list_any}
use Rattle.std.proofs.lemmas.Bool.Decides.{nat_tests}
use Rattle.std.proofs.lemmas.List.Sorted.{length_permutation}
use Rattle.sqlite_value.specs.declared.value.Value.TheVariants.{Null, Text, Blob}
use Rattle.sqlite_value.specs.Order.{Row}
use Rattle.sqlite_trees.specs.Tree.{Trees}
use Rattle.sqlite_trees.proofs.ListLemmas.{pull_back, all-map, all-filter, all_from_map, all-permutation}
use Rattle.sqlite_schema.specs.declared.schema.Column.{Column}
use Rattle.sqlite_schema.specs.declared.command.Command.TheVariants.{Select}
use Rattle.sqlite_sql.specs.Program.{overlay}
use Rattle.sqlite_sql.specs.Term.{Term, holds, eval_all}
use Rattle.sqlite.specs.Listing.{understood, reads_listing}
use Rattle.sqlite.specs.State.{State, Shown}
use Rattle.sqlite.proofs.Callers.{IsPlain, command_of}
use Rattle.store_sql.specs.Rows.{RecordRowOf, ReceiptRowOf, ChangeRowOf, RowsOf}
use Rattle.store_sql.specs.declared.layout.Layout.{Layout}
use Rattle.store_sql.specs.Tables.{layout_in, receipts_tree, changes_tree, keyed, zones_columns, records_columns, receipts_columns, changes_columns, office_schema, stored_version, stored_zone, stored_record, stored_receipt, stored_change}
use Rattle.store_sql.specs.Stores.{IsReadableRow, Stores}
use Rattle.store_sql.specs.Holds.{Reads}
use Rattle.store_sql.specs.Lookups.{records_of, records_at, records_between, receipts_of, changes_of, is_below}
use Rattle.store_sql.proofs.Texts as the
use Rattle.store_sql.proofs.Texts.{by_first, by_two, by_owner_key, by_range, columns_1, columns_5, columns_6, columns_7, select_from}
use Rattle.store_sql.proofs.Effects.{selects_of}
use Rattle.store_sql.proofs.StatementLemmas.{plainly, plainly_receipts, plainly_changes}
use Rattle.store_sql.proofs.Values.{bytes_eq_sym, same_text, same_key_octets, below, not_below, and_true, hits, filter_stored, map_stored}

-- what is shown of a row
abbrev pub shown_by : List Term → Row → Row
shown_by project body = eval_all project ([] ∷ (Null ∷ body) ∷ [])

-- the rows of a table that pass are shown, in some order
pub asked : (l : Layout) {X : Type 0} (stored : X → Row) (passes : X → Bool) (name : List ℕ) (tree : ℕ) (columns : List Column) (key : List ℕ) (at : ℕ) (place : slice_get (office_schema l).tables at ≡ Some (keyed name tree columns key))
    → ((db : Trees) → overlay db [] tree ≡ db tree) → (sql : List ℕ) (params : Row) (old new : State) → old.now.schema ≡ office_schema l → IsPlain (understood (office_schema l) sql)
    → (filters project : List Term) (names : List (List ℕ)) → command_of (understood (office_schema l) sql) ≡ Select (record { lets = []; body = select_from tree filters project }) names → reads_listing (office_schema l) sql ≡ false
    → ((r : Row) → list_all (holds (params ∷ r ∷ [])) filters ≡ hits filters params (drop 1 r)) → ((r : Row) → eval_all project (params ∷ r ∷ []) ≡ shown_by project (drop 1 r))
    → ((x : X) → hits filters params (stored x) ≡ passes x) → ((x : X) → shown_by project (stored x) ≡ stored x)
    → (xs : List X) (rows : List Row) → Shown sql params old new rows → Stores (old.now.trees tree) (map stored xs) → IsPermutation (map stored (filter passes xs)) rows
asked l stored passes name tree columns key at place plain_tree sql params old new has plain filters project names is unlisted test shows hit whole xs rows shown h =
    let it = selects_of l name tree columns key at place plain_tree sql params old new has plain filters project names (hits filters params) (shown_by project) (map stored xs) rows is unlisted test shows shown h in
    subst (λ l. IsPermutation l rows) (ap (map (shown_by project)) (filter_stored stored (hits filters params) passes hit xs) ∙ map_stored stored (shown_by project) whole (filter passes xs)) it

-- what was read is what is stored, where one row stores one thing
pub read_as : {X : Type 0} (stored : X → Row) → ((x y : X) → stored x ≡ stored y → x ≡ y) → (zs xs : List X) → IsPermutation (map stored zs) (map stored xs) → IsPermutation zs xs
read_as stored one zs xs p =
    let it = pull_back stored (map stored zs) (map stored xs) p zs refl in
    subst (IsPermutation zs) (sym (same it.0 xs it.2)) it.1
  where
    same : (ps qs : List _) → map stored qs ≡ map stored ps → qs ≡ ps
    same [] [] e = refl
    same [] (b ∷ qs) e = absurd cc
    same (a ∷ ps) [] e = absurd cc
    same (a ∷ ps) (b ∷ qs) e =
        let first : stored b ≡ stored a = cc in
        let more : map stored qs ≡ map stored ps = cc in
        let x = one b a first in
        let xs = same ps qs more in
        cc

pub by_first_test : (params r : Row) → list_all (holds (params ∷ r ∷ [])) by_first ≡ hits by_first params (drop 1 r)
by_first_test params [] = refl
by_first_test params (v ∷ body) = refl

by_two_test : (params r : Row) → list_all (holds (params ∷ r ∷ [])) by_two ≡ hits by_two params (drop 1 r)
by_two_test params [] = refl
by_two_test params (v ∷ body) = refl

by_owner_key_test : (params r : Row) → list_all (holds (params ∷ r ∷ [])) by_owner_key ≡ hits by_owner_key params (drop 1 r)
by_owner_key_test params [] = refl
by_owner_key_test params (v ∷ body) = refl

by_range_test : (params r : Row) → list_all (holds (params ∷ r ∷ [])) by_range ≡ hits by_range params (drop 1 r)
by_range_test params [] = refl
by_range_test params (v ∷ body) = refl

pub shown_1 : (params r : Row) → eval_all columns_1 (params ∷ r ∷ []) ≡ shown_by columns_1 (drop 1 r)
shown_1 params [] = refl
shown_1 params (v ∷ body) = refl

pub shown_5 : (params r : Row) → eval_all columns_5 (params ∷ r ∷ []) ≡ shown_by columns_5 (drop 1 r)
shown_5 params [] = refl
shown_5 params (v ∷ body) = refl

pub shown_6 : (params r : Row) → eval_all columns_6 (params ∷ r ∷ []) ≡ shown_by columns_6 (drop 1 r)
shown_6 params [] = refl
shown_6 params (v ∷ body) = refl

pub shown_7 : (params r : Row) → eval_all columns_7 (params ∷ r ∷ []) ≡ shown_by columns_7 (drop 1 r)
shown_7 params [] = refl
shown_7 params (v ∷ body) = refl

pub one_stored_version : (x y : ℤ) → stored_version x ≡ stored_version y → x ≡ y
one_stored_version x y e = cc

pub one_stored_zone : (x y : List ℕ) → stored_zone x ≡ stored_zone y → x ≡ y
one_stored_zone x y e = cc

pub one_stored_record : (x y : RecordRowOf) → stored_record x ≡ stored_record y → x ≡ y
one_stored_record x y e =
    let is_origin : x.origin ≡ y.origin = cc in
    let is_owner : x.owner ≡ y.owner = cc in
    let is_record_type : x.record_type ≡ y.record_type = cc in
    let is_rdata : x.rdata ≡ y.rdata = cc in
    let is_ttl : x.ttl ≡ y.ttl = cc in
    let is_owner_key : x.owner_key ≡ y.owner_key = cc in
    λ i. record { origin = is_origin i; owner = is_owner i; record_type = is_record_type i; rdata = is_rdata i; ttl = is_ttl i; owner_key = is_owner_key i }

pub one_stored_receipt : (x y : ReceiptRowOf) → stored_receipt x ≡ stored_receipt y → x ≡ y
one_stored_receipt x y e =
    let is_caller : x.caller ≡ y.caller = cc in
    let is_id : x.id ≡ y.id = cc in
    let is_origin : x.origin ≡ y.origin = cc in
    let is_request : x.request ≡ y.request = cc in
    let is_reply : x.reply ≡ y.reply = cc in
    λ i. record { caller = is_caller i; id = is_id i; origin = is_origin i; request = is_request i; reply = is_reply i }

pub one_stored_change : (x y : ChangeRowOf) → stored_change x ≡ stored_change y → x ≡ y
one_stored_change x y e =
    let is_origin : x.origin ≡ y.origin = cc in
    let is_number : x.number ≡ y.number = cc in
    let is_side : x.side ≡ y.side = cc in
    let is_owner : x.owner ≡ y.owner = cc in
    let is_record_type : x.record_type ≡ y.record_type = cc in
    let is_rdata : x.rdata ≡ y.rdata = cc in
    let is_ttl : x.ttl ≡ y.ttl = cc in
    λ i. record { origin = is_origin i; number = is_number i; side = is_side i; owner = is_owner i; record_type = is_record_type i; rdata = is_rdata i; ttl = is_ttl i }

pub zone_hits : (origin : List ℕ) (r : List ℕ) → hits by_first (Text origin ∷ []) (stored_zone r) ≡ (bytes_eq r origin)
zone_hits origin r = rw (same_text r origin, and_true (bytes_eq r origin)) refl

pub selects_zone : (old new : State) (origin : List ℕ) (rows : List Row) (all : RowsOf) → Shown the.zone_text (Text origin ∷ []) old new rows → Reads old.now all → IsPermutation (map stored_zone (filter (λ r. bytes_eq r origin) all.zones)) rows
selects_zone old new origin rows all shown h =
    asked (layout_in old.now.trees) stored_zone (λ r. bytes_eq r origin) (codes "zones") 1 zones_columns (1 ∷ []) 1 refl (plainly 1 refl) the.zone_text (Text origin ∷ []) old new h.schema (the.zone_plain (layout_in old.now.trees)) by_first columns_1 _ (the.zone_is (layout_in old.now.trees)).0 (the.zone_is (layout_in old.now.trees)).1
    (by_first_test (Text origin ∷ [])) (shown_1 (Text origin ∷ [])) (zone_hits origin) (λ _. refl) all.zones rows shown h.tables.zones

pub records_of_hits : (origin : List ℕ) (r : RecordRowOf) → hits by_first (Text origin ∷ []) (stored_record r) ≡ (bytes_eq r.origin origin)
records_of_hits origin r = rw (same_text r.origin origin, and_true (bytes_eq r.origin origin)) refl

pub selects_records_of : (old new : State) (origin : List ℕ) (rows : List Row) (all : RowsOf) → Shown the.records_of_text (Text origin ∷ []) old new rows → Reads old.now all → IsPermutation (map stored_record (records_of origin all.records)) rows
selects_records_of old new origin rows all shown h =
    asked (layout_in old.now.trees) stored_record (λ r. bytes_eq r.origin origin) (codes "records") 3 records_columns (1 ∷ 2 ∷ 3 ∷ 4 ∷ []) 2 refl (plainly 3 refl) the.records_of_text (Text origin ∷ []) old new h.schema (the.records_of_plain (layout_in old.now.trees)) by_first columns_6 _ (the.records_of_is (layout_in old.now.trees)).0 (the.records_of_is (layout_in old.now.trees)).1
    (by_first_test (Text origin ∷ [])) (shown_6 (Text origin ∷ [])) (records_of_hits origin) (λ _. refl) all.records rows shown h.tables.records

records_at_hits : (origin owner_key : List ℕ) (r : RecordRowOf) → hits by_owner_key (Text origin ∷ Blob owner_key ∷ []) (stored_record r) ≡ (bytes_eq r.origin origin && bytes_eq r.owner_key owner_key)
records_at_hits origin owner_key r = rw (same_text r.origin origin, same_key_octets r.owner_key owner_key, and_true (bytes_eq r.owner_key owner_key)) refl

pub selects_records_at : (old new : State) (origin owner_key : List ℕ) (rows : List Row) (all : RowsOf) → Shown the.records_at_text (Text origin ∷ Blob owner_key ∷ []) old new rows → Reads old.now all → IsPermutation (map stored_record (records_at origin owner_key all.records)) rows
selects_records_at old new origin owner_key rows all shown h =
    asked (layout_in old.now.trees) stored_record (λ r. bytes_eq r.origin origin && bytes_eq r.owner_key owner_key) (codes "records") 3 records_columns (1 ∷ 2 ∷ 3 ∷ 4 ∷ []) 2 refl (plainly 3 refl) the.records_at_text (Text origin ∷ Blob owner_key ∷ []) old new h.schema (the.records_at_plain (layout_in old.now.trees)) by_owner_key columns_6 _ (the.records_at_is (layout_in old.now.trees)).0 (the.records_at_is (layout_in old.now.trees)).1
    (by_owner_key_test (Text origin ∷ Blob owner_key ∷ [])) (shown_6 (Text origin ∷ Blob owner_key ∷ [])) (records_at_hits origin owner_key) (λ _. refl) all.records rows shown h.tables.records

records_between_hits : (origin from to : List ℕ) (r : RecordRowOf) → hits by_range (Text origin ∷ Blob from ∷ Blob to ∷ []) (stored_record r) ≡ (bytes_eq r.origin origin && (not (is_below r.owner_key from) && is_below r.owner_key to))
records_between_hits origin from to r = rw (same_text r.origin origin, not_below r.owner_key from, below r.owner_key to, and_true (is_below r.owner_key to)) refl

pub selects_records_between : (old new : State) (origin from to : List ℕ) (rows : List Row) (all : RowsOf) → Shown the.records_between_text (Text origin ∷ Blob from ∷ Blob to ∷ []) old new rows → Reads old.now all → IsPermutation (map stored_record (records_between origin from to all.records)) rows
selects_records_between old new origin from to rows all shown h =
    asked (layout_in old.now.trees) stored_record (λ r. bytes_eq r.origin origin && (not (is_below r.owner_key from) && is_below r.owner_key to)) (codes "records") 3 records_columns (1 ∷ 2 ∷ 3 ∷ 4 ∷ []) 2 refl (plainly 3 refl) the.records_between_text (Text origin ∷ Blob from ∷ Blob to ∷ []) old new h.schema (the.records_between_plain (layout_in old.now.trees)) by_range columns_6 _ (the.records_between_is (layout_in old.now.trees)).0 (the.records_between_is (layout_in old.now.trees)).1
    (by_range_test (Text origin ∷ Blob from ∷ Blob to ∷ [])) (shown_6 (Text origin ∷ Blob from ∷ Blob to ∷ [])) (records_between_hits origin from to) (λ _. refl) all.records rows shown h.tables.records

receipts_of_hits : (caller id : List ℕ) (r : ReceiptRowOf) → hits by_two (Text caller ∷ Text id ∷ []) (stored_receipt r) ≡ (bytes_eq r.caller caller && bytes_eq r.id id)
receipts_of_hits caller id r = rw (same_text r.caller caller, same_text r.id id, and_true (bytes_eq r.id id)) refl

pub selects_receipts_of : (old new : State) (caller id : List ℕ) (rows : List Row) (all : RowsOf) → Shown the.receipts_of_text (Text caller ∷ Text id ∷ []) old new rows → Reads old.now all → IsPermutation (map stored_receipt (receipts_of caller id all.receipts)) rows
selects_receipts_of old new caller id rows all shown h =
    asked (layout_in old.now.trees) stored_receipt (λ r. bytes_eq r.caller caller && bytes_eq r.id id) (codes "receipts") (receipts_tree (layout_in old.now.trees)) receipts_columns (1 ∷ 2 ∷ []) 3 refl (plainly_receipts (layout_in old.now.trees)) the.receipts_of_text (Text caller ∷ Text id ∷ []) old new h.schema (the.receipts_of_plain (layout_in old.now.trees)) by_two columns_5 _ (the.receipts_of_is (layout_in old.now.trees)).0 (the.receipts_of_is (layout_in old.now.trees)).1
    (by_two_test (Text caller ∷ Text id ∷ [])) (shown_5 (Text caller ∷ Text id ∷ [])) (receipts_of_hits caller id) (λ _. refl) all.receipts rows shown h.tables.receipts

pub changes_of_hits : (origin : List ℕ) (r : ChangeRowOf) → hits by_first (Text origin ∷ []) (stored_change r) ≡ (bytes_eq r.origin origin)
changes_of_hits origin r = rw (same_text r.origin origin, and_true (bytes_eq r.origin origin)) refl

pub selects_changes_of : (old new : State) (origin : List ℕ) (rows : List Row) (all : RowsOf) → Shown the.changes_of_text (Text origin ∷ []) old new rows → Reads old.now all → IsPermutation (map stored_change (changes_of origin all.changes)) rows
selects_changes_of old new origin rows all shown h =
    asked (layout_in old.now.trees) stored_change (λ r. bytes_eq r.origin origin) (codes "changes") (changes_tree (layout_in old.now.trees)) changes_columns (1 ∷ 2 ∷ 3 ∷ 4 ∷ 5 ∷ 6 ∷ []) 4 refl (plainly_changes (layout_in old.now.trees)) the.changes_of_text (Text origin ∷ []) old new h.schema (the.changes_of_plain (layout_in old.now.trees)) by_first columns_7 _ (the.changes_of_is (layout_in old.now.trees)).0 (the.changes_of_is (layout_in old.now.trees)).1
    (by_first_test (Text origin ∷ [])) (shown_7 (Text origin ∷ [])) (changes_of_hits origin) (λ _. refl) all.changes rows shown h.tables.changes

readable_part : {X : Type 0} (stored : X → Row) (q : X → Bool) (xs : List X) → AllByRecursion IsReadableRow (map stored xs) → AllByRecursion IsReadableRow (map stored (filter q xs))
readable_part stored q xs h = all-map IsReadableRow stored (filter q xs) (all-filter (λ x. IsReadableRow (stored x)) q xs (all_from_map IsReadableRow stored xs h))

-- rows that are an answer are read
pub never_bad_rows : {X : Type 0} (stored : X → Row) (q : X → Bool) (xs : List X) (rows : List Row) → IsPermutation (map stored (filter q xs)) rows → AllByRecursion IsReadableRow (map stored xs)
    → ((zs : List X) → rows ≡ map stored zs → AllByRecursion IsReadableRow rows → ⊥) → ⊥
never_bad_rows stored q xs rows p readable none =
    let it = pull_back stored (map stored (filter q xs)) rows p (filter q xs) refl in
    none it.0 it.2 (all-permutation IsReadableRow (map stored (filter q xs)) rows p (readable_part stored q xs readable))

any_passes : (origin : List ℕ) (zones : List (List ℕ)) → (filter (λ r. bytes_eq r origin) zones ≡ [] → list_any (bytes_eq origin) zones ≡ false) × ((z : List ℕ) (zs : List (List ℕ)) → filter (λ r. bytes_eq r origin) zones ≡ z ∷ zs → list_any (bytes_eq origin) zones ≡ true)
any_passes origin [] = ((λ e. refl), (λ z zs e. absurd cc))
any_passes origin (y ∷ zones) =
    rw (bytes_eq_sym origin y) (elim (bytes_eq y origin) as (λ b. (cond b (y ∷ filter (λ r. bytes_eq r origin) zones) (filter (λ r. bytes_eq r origin) zones) ≡ [] → (b || list_any (bytes_eq origin) zones) ≡ false)
    × ((z : List ℕ) (zs : List (List ℕ)) → cond b (y ∷ filter (λ r. bytes_eq r origin) zones) (filter (λ r. bytes_eq r origin) zones) ≡ z ∷ zs → (b || list_any (bytes_eq origin) zones) ≡ true)) [
      | true ↦ ((λ e. absurd cc), (λ z zs e. refl))
      | false ↦ any_passes origin zones
    ])

-- there is a zone where a row is shown
pub is_there : (origin : List ℕ) (zones : List (List ℕ)) (rows : List Row) → IsPermutation (map stored_zone (filter (λ r. bytes_eq r origin) zones)) rows → not (length rows == 0) ≡ list_any (bytes_eq origin) zones
is_there origin zones rows p = go (filter (λ r. bytes_eq r origin) zones) rows refl p
  where
    go : (fs : List (List ℕ)) (ys : List Row) → filter (λ r. bytes_eq r origin) zones ≡ fs → IsPermutation (map stored_zone fs) ys → not (length ys == 0) ≡ list_any (bytes_eq origin) zones
    go [] [] e p = sym ((any_passes origin zones).0 e)
    go [] (y ∷ ys) e p = absurd (let n = length_permutation [] (y ∷ ys) p in omega arith)
    go (f ∷ fs) [] e p = absurd (let n = length_permutation (map stored_zone (f ∷ fs)) [] p in omega arith)
    go (f ∷ fs) (y ∷ ys) e p = let some : (length (y ∷ ys) == 0) ≡ false = grind (arith, nat_tests) in ap not some ∙ sym ((any_passes origin zones).1 f fs e)
