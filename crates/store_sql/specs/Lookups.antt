-- What is asked of the rows.
use Rattle.std.specs.Prelude.{◌≡◌, ℕ, ℤ, Bool, false, not, ◌&&◌, List, [], filter, Option, Some, None, IsTrue, bytes_eq}
use Rattle.std.specs.List.{AllByRecursion, list_any}
use Rattle.std.specs.Ordering.{is_ge, is_lt, int_cmp, int_eq, nat_cmp}
use Rattle.std.specs.Cmp.Lexicographic.{slice_cmp}
use Rattle.store_sql.specs.Rows.{RecordRowOf, ReceiptRowOf, ChangeRowOf}

abbrev pub records_of : List ℕ → List RecordRowOf → List RecordRowOf
records_of origin = filter (λ r. bytes_eq r.origin origin)

abbrev pub records_at : List ℕ → List ℕ → List RecordRowOf → List RecordRowOf
records_at origin owner_key = filter (λ r. bytes_eq r.origin origin && bytes_eq r.owner_key owner_key)

-- one row of octets is below another, in the order of their octets
abbrev pub is_below : List ℕ → List ℕ → Bool
is_below a b = is_lt (slice_cmp nat_cmp a b)

abbrev pub records_between : List ℕ → List ℕ → List ℕ → List RecordRowOf → List RecordRowOf
records_between origin from to = filter (λ r. bytes_eq r.origin origin && (not (is_below r.owner_key from) && is_below r.owner_key to))

abbrev pub receipts_of : List ℕ → List ℕ → List ReceiptRowOf → List ReceiptRowOf
receipts_of caller id = filter (λ r. bytes_eq r.caller caller && bytes_eq r.id id)

abbrev pub changes_of : List ℕ → List ChangeRowOf → List ChangeRowOf
changes_of origin = filter (λ r. bytes_eq r.origin origin)

-- those of the changes from a number on and below another
abbrev pub changes_between : List ℕ → ℤ → ℤ → List ChangeRowOf → List ChangeRowOf
changes_between origin from to = filter (λ r. bytes_eq r.origin origin && (is_ge (int_cmp r.number from) && is_lt (int_cmp r.number to)))

-- none of no rows; else the number of one of them, and none of them has a greater one
abbrev pub IsLast : List ChangeRowOf → Option ℤ → Type 0
IsLast rows None = rows ≡ []
IsLast rows (Some n) = IsTrue (list_any (λ r. int_eq r.number n) rows) × AllByRecursion (λ r. is_lt (int_cmp n r.number) ≡ false) rows
