-- The rows of changes: what is written is read, and what is read was written so.
use Rattle.std.proofs.Common.{◌≡◌, ℕ, ◌<◌, Bool, true, false, cond, eqb, zero, suc, List, Result, Ok, Err, refl, sym, ap, subst, ◌∙◌, arith, ne_eqb}
use Rattle.std.proofs.lemmas.Bool.Decides.{Decides-int_eq}
use Rattle.std.specs.Prelude.{ℤ, pos, negsuc}
use Rattle.std.specs.Ordering.{int_eq}
use Rattle.dns_data.specs.declared.record.Record.{Record}
use Rattle.store_sql.specs.Rows.{ChangeRowOf}
use Rattle.store_rows.specs.declared.changes.ChangedRecord.{ChangedRecord}
use Rattle.store_rows.specs.declared.row_fault.RowFault.{RowFault}
use Rattle.store_rows.specs.declared.row_fault.RowFault.TheVariants.{BadRow}
use Rattle.store_rows.specs.declared.side.Side.{Side}
use Rattle.store_rows.specs.declared.side.Side.TheVariants.{Removed, Added}
use Rattle.store_rows.specs.ChangeRows.{side_number, row_of, IsChanged, ChangeRowsAreApart}
use Rattle.store_rows.specs.RowFaults.{◌>>=◌}
use Rattle.store_rows.specs.RowReading.{name_from, name_in, side_in, number_in, record_from, record_at, changed_in, changed_at}
use Rattle.store_rows.proofs.ColumnLaws.{name_read, name_found, record_read, record_found}
use Rattle.store_rows.proofs.StoredLaws.{name_stored, columns_stored}
use Rattle.store_rows.proofs.RowSteps.{done, ok_is, step_ok, needed_ok}

-- ---- columns

side_read : (side : Side) → side_in (side_number side) ≡ Ok side
side_read Removed = refl
side_read Added = refl

side_found : (z : ℤ) (side : Side) → side_in z ≡ Ok side → z ≡ side_number side
side_found z side e = go (int_eq z (pos 0)) refl e where
  go : (b : Bool) → int_eq z (pos 0) ≡ b → cond b (done Removed) (cond (int_eq z (pos 1)) (done Added) (Err BadRow)) ≡ Ok side → z ≡ side_number side
  go true t e = (Decides-int_eq z (pos 0)).0 t ∙ ap side_number (ok_is Removed side e)
  go false t e = let n = needed_ok (int_eq z (pos 1)) Added side e in (Decides-int_eq z (pos 1)).0 n.0 ∙ ap side_number n.1

number_read : (n : ℕ) → 0 < n → number_in (pos n) ≡ Ok n
number_read n h = ap (λ (b : Bool). cond b (Err BadRow) (done n)) (ne_eqb n 0 (λ e. omega arith))

some_number : (n m : ℕ) (b : Bool) → eqb n 0 ≡ b → cond b (Err BadRow) (done n) ≡ Ok m → (n ≡ m) × (0 < m)
some_number n m true t e = absurd cc
some_number zero m false t e = absurd cc
some_number (suc n) m false t e = let same : suc n ≡ m = ok_is (suc n) m e in (same, omega arith)

number_found : (z : ℤ) (n : ℕ) → number_in z ≡ Ok n → (z ≡ pos n) × (0 < n)
number_found (pos m) n e = let s = some_number m n (eqb m 0) refl e in (ap (λ (k : ℕ). pos k) s.0, s.1)
number_found (negsuc m) n e = absurd cc

-- ---- rows

abbrev made_of : List (List ℕ) → ℕ → Side → Record → Result ChangedRecord RowFault
made_of origin number side r = Ok (record { origin = origin; number = number; side = side; changed = r })

pub changed_read : (c : ChangedRecord) → IsChanged c → changed_in (row_of c) ≡ Ok c
changed_read c is =
    let row = row_of c in
    ap (λ x. x >>= λ o. number_in row.number >>= λ n. side_in row.side >>= λ s. record_from row.owner row.record_type row.rdata row.ttl >>= λ r. made_of o n s r) (name_stored c.origin is.origin)
    ∙ ap (λ x. x >>= λ n. side_in row.side >>= λ s. record_from row.owner row.record_type row.rdata row.ttl >>= λ r. made_of c.origin n s r) (number_read c.number is.number)
    ∙ ap (λ x. x >>= λ s. record_from row.owner row.record_type row.rdata row.ttl >>= λ r. made_of c.origin c.number s r) (side_read c.side)
    ∙ ap (λ x. x >>= λ r. made_of c.origin c.number c.side r) (columns_stored c.changed is.changed)

-- the same by columns in canonical text
pub changed_again : (c : ChangedRecord) → IsChanged c → changed_at (row_of c) ≡ Ok c
changed_again c is =
    let row = row_of c in
    ap (λ x. x >>= λ o. number_in row.number >>= λ n. side_in row.side >>= λ s. record_at row.owner row.record_type row.rdata row.ttl >>= λ r. made_of o n s r) (name_read c.origin is.origin)
    ∙ ap (λ x. x >>= λ n. side_in row.side >>= λ s. record_at row.owner row.record_type row.rdata row.ttl >>= λ r. made_of c.origin n s r) (number_read c.number is.number)
    ∙ ap (λ x. x >>= λ s. record_at row.owner row.record_type row.rdata row.ttl >>= λ r. made_of c.origin c.number s r) (side_read c.side)
    ∙ ap (λ x. x >>= λ r. made_of c.origin c.number c.side r) (record_read c.changed is.changed)

pub changed_found : (row : ChangeRowOf) (c : ChangedRecord) → changed_at row ≡ Ok c → (row ≡ row_of c) × (0 < c.number)
changed_found row c e =
    let o = step_ok (name_in row.origin) (λ o. number_in row.number >>= λ n. side_in row.side >>= λ s. record_at row.owner row.record_type row.rdata row.ttl >>= λ r. made_of o n s r) c e in
    let n = step_ok (number_in row.number) (λ n. side_in row.side >>= λ s. record_at row.owner row.record_type row.rdata row.ttl >>= λ r. made_of o.0 n s r) c o.2 in
    let s = step_ok (side_in row.side) (λ s. record_at row.owner row.record_type row.rdata row.ttl >>= λ r. made_of o.0 n.0 s r) c n.2 in
    let r = step_ok (record_at row.owner row.record_type row.rdata row.ttl) (λ r. made_of o.0 n.0 s.0 r) c s.2 in
    let made : ChangedRecord = record { origin = o.0; number = n.0; side = s.0; changed = r.0 } in
    let same = ok_is made c r.2 in
    let name = name_found row.origin o.0 o.1 in
    let number = number_found row.number n.0 n.1 in
    let side = side_found row.side s.0 s.1 in
    let columns = record_found row.owner row.record_type row.rdata row.ttl r.0 r.1 in
    let is : row ≡ row_of made =
    λ i. record { origin = name i; number = number.0 i; side = side i; owner = columns.owner_is i; record_type = columns.type_is i; rdata = columns.rdata_is i; ttl = columns.ttl_is i } in
    (is ∙ ap row_of same, subst (λ (x : ChangedRecord). 0 < x.number) same number.1)

-- the number of a row that is read counts from 1
pub number_of_row : (row : ChangeRowOf) (c : ChangedRecord) → changed_in row ≡ Ok c → (row.number ≡ pos c.number) × (0 < c.number)
number_of_row row c e =
    let o = step_ok (name_from row.origin) (λ o. number_in row.number >>= λ n. side_in row.side >>= λ s. record_from row.owner row.record_type row.rdata row.ttl >>= λ r. made_of o n s r) c e in
    let n = step_ok (number_in row.number) (λ n. side_in row.side >>= λ s. record_from row.owner row.record_type row.rdata row.ttl >>= λ r. made_of o.0 n s r) c o.2 in
    let s = step_ok (side_in row.side) (λ s. record_from row.owner row.record_type row.rdata row.ttl >>= λ r. made_of o.0 n.0 s r) c n.2 in
    let r = step_ok (record_from row.owner row.record_type row.rdata row.ttl) (λ r. made_of o.0 n.0 s.0 r) c s.2 in
    let same = ok_is (record { origin = o.0; number = n.0; side = s.0; changed = r.0 }) c r.2 in
    let number = number_found row.number n.0 n.1 in
    (number.0 ∙ ap (λ (x : ChangedRecord). pos x.number) same, subst (λ (x : ChangedRecord). 0 < x.number) same number.1)

pub change_rows_are_apart : ChangeRowsAreApart
change_rows_are_apart a b is also e = ok_is a b (sym (changed_read a is) ∙ ap changed_in e ∙ changed_read b also)
