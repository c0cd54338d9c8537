-- Receipts, by their callers and identifiers.
use Rattle.std.proofs.Common.{◌≡◌, ℕ, ℤ, Bool, true, false, List, [], ◌∷◌, map, Option, Some, None, Ok, Err, IsPermutation, refl, sym, ap, subst, ◌∙◌, ◌&&◌, ◌<◌, ◌≤◌, length, get_or, arith}
use Rattle.std.proofs.lemmas.Bool.{and_parts, false_from_ne_true}
use Rattle.std.proofs.lemmas.List.Sorted.{IsPermutation-trans}
use Rattle.std.specs.Prelude.{option_map, bytes_eq}
use Rattle.sqlite_keyed.proofs.ListLemmas.{ascending_weaker, filter-map, IsPermutation-filter}
use Rattle.office_model.specs.States.{State}
use Rattle.store_sql.specs.Rows.{ReceiptRowOf, RowsOf}
use Rattle.store_sql.specs.Lookups.{receipts_of}
use Rattle.store_rows.specs.Contents.{ReceiptAt, receipt_among, row_of_receipt, IsReceiptAt, AreOfState}
use Rattle.store_rows.proofs.ListLemmas.{ascending_from_pairs, filter_one, found_list, none_moved, one_moved, found_has}
use Rattle.store_rows.specs.declared.row_fault.RowFault.TheVariants.{BadRow}
use Rattle.store_rows.specs.RowFaults.{◌>>=◌}
use Rattle.store_rows.specs.RowReading.{receipt_in, receipt_by}
use Rattle.store_rows.proofs.NameLemmas.{bytes_is}
use Rattle.store_rows.proofs.ReceiptRowLaws.{receipt_read}
use Rattle.store_rows.proofs.RowSteps.{done}

-- two receipts are of different callers, or under different identifiers
abbrev pub Differ : ReceiptAt → ReceiptAt → Type 0
Differ a b = ¬ ((a.caller ≡ b.caller) × (a.id ≡ b.id))

-- a receipt is of a caller, under an identifier
abbrev pub is_under : List ℕ → List ℕ → ReceiptAt → Bool
is_under caller id r = bytes_eq r.caller caller && bytes_eq r.id id

under_parts : (caller id : List ℕ) (r : ReceiptAt) → is_under caller id r ≡ true → (r.caller ≡ caller) × (r.id ≡ id)
under_parts caller id r t =
    let both = and_parts (bytes_eq r.caller caller) (bytes_eq r.id id) t in
    (bytes_is r.caller caller both.0, bytes_is r.id id both.1)

pub not_both : (caller id : List ℕ) (a b : ReceiptAt) → Differ a b → is_under caller id a ≡ true → is_under caller id b ≡ false
not_both caller id a b differ t =
    false_from_ne_true (is_under caller id b)
    (λ also.
    let p = under_parts caller id a t in
    let q = under_parts caller id b also in
    differ (p.0 ∙ sym q.0, p.1 ∙ sym q.1))

-- the rows of what is found
abbrev pub found_rows : Option ReceiptAt → List ReceiptRowOf
found_rows found = map row_of_receipt (found_list found)

found_moved : (found : Option ReceiptAt) (rows : List ReceiptRowOf) → IsPermutation (found_rows found) rows → rows ≡ found_rows found
found_moved None rows same = none_moved rows same
found_moved (Some r) rows same = one_moved (row_of_receipt r) rows same

module _ (version : ℤ) (all : RowsOf) (s : State) (st : AreOfState version all s) (caller id : List ℕ) where
  abbrev receipts : List ReceiptAt
  receipts = st.content.receipts

  -- the rows under a caller and an identifier are that of the receipt there, if there is one
  rows_are : (rows : List ReceiptRowOf) → IsPermutation (receipts_of caller id all.receipts) rows → rows ≡ found_rows (receipt_among receipts caller id)
  rows_are rows same =
      let test = λ (r : ReceiptRowOf). bytes_eq r.caller caller && bytes_eq r.id id in
      let up = ascending_weaker Differ (λ a b. is_under caller id a ≡ true → is_under caller id b ≡ false) (not_both caller id) receipts (ascending_from_pairs Differ receipts st.is_content.receipts_apart) in
      let mine : receipts_of caller id (map row_of_receipt receipts) ≡ found_rows (receipt_among receipts caller id) =
      filter-map test row_of_receipt receipts ∙ ap (map row_of_receipt) (filter_one (is_under caller id) receipts up) in
      let there = subst (λ l. IsPermutation l (receipts_of caller id all.receipts)) mine (IsPermutation-filter test (map row_of_receipt receipts) all.receipts st.same.receipts) in
      found_moved (receipt_among receipts caller id) rows (IsPermutation-trans (found_rows (receipt_among receipts caller id)) (receipts_of caller id all.receipts) rows there same)

  pub found_is : (r : ReceiptAt) → receipt_among receipts caller id ≡ Some r → IsReceiptAt r
  found_is r e = found_has (is_under caller id) IsReceiptAt receipts r st.is_content.receipts e

  held_is : s.receipts caller id ≡ option_map (λ r. r.receipt) (receipt_among receipts caller id)
  held_is = st.means.receipts caller id

  -- they are read as what is held
  pub receipts_stored : (rows : List ReceiptRowOf) → IsPermutation (receipts_of caller id all.receipts) rows → receipt_by rows ≡ Ok (s.receipts caller id)
  receipts_stored rows same = ap receipt_by (rows_are rows same) ∙ go (receipt_among receipts caller id) refl ∙ ap done (sym held_is) where
    go : (found : Option ReceiptAt) → receipt_among receipts caller id ≡ found → receipt_by (found_rows found) ≡ Ok (option_map (λ r. r.receipt) found)
    go None e = refl
    go (Some r) e = ap (λ x. x >>= λ receipt. done (Some receipt)) (receipt_read r (found_is r e))

-- ---- by how many rows there are

pub no_row : (rows : List ReceiptRowOf) → length rows < 1 → receipt_by rows ≡ Ok None
no_row [] short = refl
no_row (r ∷ rows) short = absurd (omega arith)

pub two_rows : (rows : List ReceiptRowOf) → 2 ≤ length rows → receipt_by rows ≡ Err BadRow
two_rows [] long = absurd (omega arith)
two_rows (r ∷ []) long = absurd (omega arith)
two_rows (r ∷ s ∷ rows) long = refl

-- of one row, which is the first
pub one_row : (rows : List ReceiptRowOf) (row : ReceiptRowOf) → length rows ≡ 1 → row ≡ get_or rows 0 row → receipt_by rows ≡ (receipt_in row >>= λ receipt. done (Some receipt))
one_row [] row one first = absurd (omega (arith, one))
one_row (r ∷ []) row one first = ap (λ x. receipt_by (x ∷ [])) (sym first)
one_row (r ∷ s ∷ rows) row one first = absurd (omega (arith, one))
