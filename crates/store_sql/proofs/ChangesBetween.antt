-- The changes of a zone from a number on and below another.
use Rattle.std.proofs.Common.{◌≡◌, false, ◌&&◌, ℕ, ℤ, List, [], ◌∷◌, map, drop, codes, refl, ap, ◌∙◌, IsPermutation, bytes_eq}
use Rattle.std.specs.List.{list_all}
use Rattle.std.specs.Ordering.{is_ge, is_lt, int_cmp}
use Rattle.sqlite_value.specs.declared.keys.Collation.TheVariants.{Binary}
use Rattle.sqlite_value.specs.declared.value.Value.TheVariants.{Int, Text}
use Rattle.sqlite_value.specs.Order.{Row, value_cmp}
use Rattle.sqlite_value.proofs.OrderLemmas.{value_cmp-Int}
use Rattle.sqlite_sql.specs.Term.{Term, col, op2, holds}
use Rattle.sqlite_sql.specs.Ops.{binary, is_true}
use Rattle.sqlite_sql.specs.declared.ops.BinaryOp.TheVariants.{Compare}
use Rattle.sqlite_sql.specs.declared.ops.CompareOp.TheVariants.{Ge, Lt}
use Rattle.sqlite_schema.specs.declared.command.Command.TheVariants.{Select}
use Rattle.sqlite_tied.specs.Compute.{everything}
use Rattle.sqlite.specs.Listing.{understood, reads_listing}
use Rattle.sqlite.specs.State.{State, Shown}
use Rattle.sqlite.proofs.Callers.{IsPlain, command_of}
use Rattle.store_sql.specs.Rows.{ChangeRowOf, RowsOf}
use Rattle.store_sql.specs.declared.layout.Layout.{Layout}
use Rattle.store_sql.specs.declared.layout.Layout.TheVariants.{IndexAfterRecords, IndexLast}
use Rattle.store_sql.specs.Tables.{layout_in, changes_tree, changes_columns, office_schema, stored_change}
use Rattle.store_sql.specs.Holds.{Reads}
use Rattle.store_sql.specs.Lookups.{changes_between}
use Rattle.store_sql.proofs.Texts.{is_param, select_from, columns_7}
use Rattle.store_sql.proofs.StatementLemmas.{plainly_changes}
use Rattle.store_sql.proofs.Values.{told, same_text, and_true, hits}
use Rattle.store_sql.proofs.Selections.{asked, shown_7}

-- ---- what the text means

abbrev by_number : List Term
by_number = is_param 1 0 ∷ op2 (Compare Ge Binary) (col 1 2) (col 0 1) ∷ op2 (Compare Lt Binary) (col 1 2) (col 0 2) ∷ []

abbrev pub changes_between_text : List ℕ
changes_between_text = codes "SELECT origin, number, side, owner, type, data, ttl FROM changes WHERE origin = ?1 AND number >= ?2 AND number < ?3"

changes_between_is : (l : Layout) → (command_of (understood (office_schema l) changes_between_text) ≡ Select (record { lets = []; body = select_from (changes_tree l) by_number columns_7 }) (codes "origin" ∷ codes "number" ∷ codes "side" ∷ codes "owner" ∷ codes "type" ∷ codes "data" ∷ codes "ttl" ∷ [])) × (reads_listing (office_schema l) changes_between_text ≡ false)
unfolding understood everything
changes_between_is IndexAfterRecords = (refl, refl)
changes_between_is IndexLast = (refl, refl)

changes_between_plain : (l : Layout) → IsPlain (understood (office_schema l) changes_between_text)
unfolding understood everything
changes_between_plain IndexAfterRecords = (refl, refl)
changes_between_plain IndexLast = (refl, refl)

-- ---- what it answers

not_less_number : (a b : ℤ) → is_true (binary (Compare Ge Binary) (Int a) (Int b)) ≡ is_ge (int_cmp a b)
unfolding binary
not_less_number a b = told (is_ge (value_cmp (Int a) (Int b))) ∙ ap is_ge (value_cmp-Int a b)

less_number : (a b : ℤ) → is_true (binary (Compare Lt Binary) (Int a) (Int b)) ≡ is_lt (int_cmp a b)
unfolding binary
less_number a b = told (is_lt (value_cmp (Int a) (Int b))) ∙ ap is_lt (value_cmp-Int a b)

by_number_test : (params r : Row) → list_all (holds (params ∷ r ∷ [])) by_number ≡ hits by_number params (drop 1 r)
by_number_test params [] = refl
by_number_test params (v ∷ body) = refl

changes_between_hits : (origin : List ℕ) (from to : ℤ) (r : ChangeRowOf)
    → hits by_number (Text origin ∷ Int from ∷ Int to ∷ []) (stored_change r) ≡ (bytes_eq r.origin origin && (is_ge (int_cmp r.number from) && is_lt (int_cmp r.number to)))
changes_between_hits origin from to r = rw (same_text r.origin origin, not_less_number r.number from, less_number r.number to, and_true (is_lt (int_cmp r.number to))) refl

pub selects_changes_between : (old new : State) (origin : List ℕ) (from to : ℤ) (rows : List Row) (all : RowsOf) → Shown changes_between_text (Text origin ∷ Int from ∷ Int to ∷ []) old new rows → Reads old.now all
    → IsPermutation (map stored_change (changes_between origin from to all.changes)) rows
selects_changes_between old new origin from to rows all shown h =
    let l = layout_in old.now.trees in
    asked l stored_change (λ r. bytes_eq r.origin origin && (is_ge (int_cmp r.number from) && is_lt (int_cmp r.number to))) (codes "changes") (changes_tree l) changes_columns (1 ∷ 2 ∷ 3 ∷ 4 ∷ 5 ∷ 6 ∷ []) 4 refl (plainly_changes l) changes_between_text (Text origin ∷ Int from ∷ Int to ∷ []) old new h.schema
    (changes_between_plain l) by_number columns_7 _ (changes_between_is l).0 (changes_between_is l).1 (by_number_test (Text origin ∷ Int from ∷ Int to ∷ [])) (shown_7 (Text origin ∷ Int from ∷ Int to ∷ [])) (changes_between_hits origin from to) (λ _. refl) all.changes rows shown h.tables.changes
