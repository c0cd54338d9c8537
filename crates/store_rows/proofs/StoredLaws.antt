-- Columns and rows: what is written is read.
use Rattle.std.proofs.Common.{◌≡◌, ℕ, zero, suc, ◌+◌, ◌<◌, ◌≤◌, List, [], ◌∷◌, ◌++◌, take, map, length, get_or, None, Result, Ok, Err, refl, sym, ap, ◌∙◌, arith}
use Rattle.std.proofs.lemmas.List.{take_all, map-id}
use Rattle.std.proofs.Math.Seq.{take-suc}
use Rattle.std.specs.Prelude.{pos}
use Rattle.std.specs.List.{AllByRecursion}
use Rattle.dns_names.specs.Labels.{IsName}
use Rattle.dns_names.specs.Spelling.{name_text}
use Rattle.dns_names.proofs.ReadingLaws.{absolute_again}
use Rattle.dns_data.specs.declared.rdata.Data.{Data}
use Rattle.dns_data.specs.declared.record.Record.{Record}
use Rattle.dns_data.specs.Rdata.{type_of, IsRdata, IsRecord}
use Rattle.dns_data.specs.Reading.{data_of}
use Rattle.dns_data.specs.Text.{data_items, data_text}
use Rattle.dns_data.specs.Types.{type_number}
use Rattle.dns_data.proofs.DataLaws.{data_again, some_items}
use Rattle.dns_master.proofs.CleanLaws.{data_clean}
use Rattle.store_rows.specs.declared.row_fault.RowFault.{RowFault}
use Rattle.store_rows.specs.declared.row_fault.RowFault.TheVariants.{BadRow, NoMemory}
use Rattle.store_rows.specs.RecordRows.{record_row}
use Rattle.store_rows.specs.RowFaults.{◌>>=◌, Refuses, of_names, of_datas}
use Rattle.store_rows.specs.RowReading.{name_from, type_in, ttl_in, data_from, record_from, record_in, each_read}
use Rattle.store_rows.proofs.RowSteps.{step_ok}
use Rattle.store_rows.proofs.FieldsLaws.{fields_read}
use Rattle.store_rows.proofs.ColumnLaws.{type_read, ttl_read}

-- ---- columns

pub name_stored : (name : List (List ℕ)) → IsName name → name_from (name_text name) ≡ Ok name
name_stored name is = ap of_names (absolute_again name is)

data_stored : (rdata : Data) → IsRdata rdata → data_from (type_of rdata) (data_text rdata) ≡ Ok rdata
data_stored rdata is =
    ap (λ r. r >>= λ items. of_datas (data_of (type_of rdata) None items)) (fields_read (data_items rdata) (record { some = some_items rdata is; clean = data_clean rdata is }))
    ∙ ap of_datas (data_again rdata is)

abbrev made_of : List (List ℕ) → ℕ → Data → Result Record RowFault
made_of name ttl rdata = Ok (record { owner = name; ttl = ttl; rdata = rdata })

pub columns_stored : (r : Record) → IsRecord r → record_from (name_text r.owner) (pos (type_number (type_of r.rdata))) (data_text r.rdata) (pos r.ttl) ≡ Ok r
columns_stored r is =
    ap (λ x. x >>= λ name. type_in (pos (type_number (type_of r.rdata))) >>= λ t. ttl_in (pos r.ttl) >>= λ ttl. data_from t (data_text r.rdata) >>= λ made. made_of name ttl made) (name_stored r.owner is.owner)
    ∙ ap (λ x. x >>= λ t. ttl_in (pos r.ttl) >>= λ ttl. data_from t (data_text r.rdata) >>= λ made. made_of r.owner ttl made) (type_read (type_of r.rdata))
    ∙ ap (λ x. x >>= λ ttl. data_from (type_of r.rdata) (data_text r.rdata) >>= λ made. made_of r.owner ttl made) (ttl_read r.ttl is.ttl)
    ∙ ap (λ x. x >>= λ made. made_of r.owner r.ttl made) (data_stored r.rdata is.rdata)

-- ---- rows of one kind

module _ {X Y : Type 0} (read : X → Result Y RowFault) where
  -- rows that are written of things are read as what each of these is read as
  pub each_given : {Z : Type 0} (f : Z → X) (g : Z → Y) (zs : List Z) → AllByRecursion (λ z. read (f z) ≡ Ok (g z)) zs → each_read read (map f zs) ≡ Ok (map g zs)
  each_given f g [] all = refl
  each_given f g (z ∷ zs) all = ap (λ q. q >>= λ y. each_read read (map f zs) >>= λ ys. Ok (y ∷ ys)) all.0 ∙ ap (λ q. q >>= λ ys. Ok (g z ∷ ys)) (each_given f g zs all.1)

  -- rows that are written of things are read as these
  pub each_stored : (f : Y → X) (ys : List Y) → AllByRecursion (λ y. read (f y) ≡ Ok y) ys → each_read read (map f ys) ≡ Ok ys
  each_stored f [] all = refl
  each_stored f (y ∷ ys) all = ap (λ q. q >>= λ z. each_read read (map f ys) >>= λ zs. Ok (z ∷ zs)) all.0 ∙ ap (λ q. q >>= λ zs. Ok (y ∷ zs)) (each_stored f ys all.1)

  pub with_one : (front : List X) (x : X) (ys : List Y) (y : Y) → each_read read front ≡ Ok ys → read x ≡ Ok y → each_read read (front ++ x ∷ []) ≡ Ok (ys ++ y ∷ [])
  with_one [] x ys y e one = ap (λ q. q >>= λ z. Ok (z ∷ [])) one ∙ (let none : [] ≡ ys = cc in ap (λ (l : List Y). Ok (l ++ y ∷ [])) none)
  with_one (w ∷ front) x ys y e one =
      let s = step_ok (read w) (λ z. each_read read front >>= λ zs. Ok (z ∷ zs)) ys e in
      let t = step_ok (each_read read front) (λ zs. Ok (s.0 ∷ zs)) ys s.2 in
      let is : s.0 ∷ t.0 ≡ ys = cc in
      ap (λ q. q >>= λ z. each_read read (front ++ x ∷ []) >>= λ zs. Ok (z ∷ zs)) s.1
      ∙ ap (λ q. q >>= λ zs. Ok (s.0 ∷ zs)) (with_one front x t.0 y t.1 one)
      ∙ ap (λ (l : List Y). Ok (l ++ y ∷ [])) is

  -- one row more
  pub each_more : (rows : List X) (i : ℕ) (x : X) (ys zs : List Y) (y : Y) → i < length rows → x ≡ get_or rows i x → each_read read (take i rows) ≡ Ok ys → read x ≡ Ok y → zs ≡ ys ++ y ∷ [] → each_read read (take (i + 1) rows) ≡ Ok zs
  each_more rows i x ys zs y below is e one more =
      let next : i + 1 ≡ suc i = omega arith in
      ap (each_read read) (ap (λ k. take k rows) next ∙ take-suc rows i x below ∙ ap (λ (z : X). take i rows ++ z ∷ []) (sym is)) ∙ with_one (take i rows) x ys y e one ∙ ap (λ (l : List Y). Ok l) (sym more)

  -- all rows
  pub each_all : (rows : List X) (i : ℕ) (ys : List Y) → length rows ≤ i → each_read read (take i rows) ≡ Ok ys → each_read read rows ≡ Ok ys
  each_all rows i ys long e = ap (each_read read) (sym (take_all i rows long)) ∙ e

  bad_row : (rows : List X) (i : ℕ) (x : X) (ys : List Y) → i < length rows → x ≡ get_or rows i x → each_read read (take i rows) ≡ Ok ys → read x ≡ Err BadRow → each_read read rows ≡ Err BadRow
  bad_row [] i x ys below is e bad = absurd (omega arith)
  bad_row (r ∷ rows) zero x ys below is e bad = ap (λ q. q >>= λ z. each_read read rows >>= λ zs. Ok (z ∷ zs)) (ap read (sym is) ∙ bad)
  bad_row (r ∷ rows) (suc i) x ys below is e bad =
      let s = step_ok (read r) (λ z. each_read read (take i rows) >>= λ zs. Ok (z ∷ zs)) ys e in
      let t = step_ok (each_read read (take i rows)) (λ zs. Ok (s.0 ∷ zs)) ys s.2 in
      ap (λ q. q >>= λ z. each_read read rows >>= λ zs. Ok (z ∷ zs)) s.1
      ∙ ap (λ q. q >>= λ zs. Ok (s.0 ∷ zs)) (bad_row rows i x t.0 (omega arith) is t.1 bad)

  -- what one row is refused with refuses all
  pub each_refused : (e : RowFault) (rows : List X) (i : ℕ) (x : X) (ys : List Y) → i < length rows → x ≡ get_or rows i x → each_read read (take i rows) ≡ Ok ys → Refuses e (read x) → Refuses e (each_read read rows)
  each_refused NoMemory rows i x ys below is front h = tt
  each_refused BadRow rows i x ys below is front h = bad_row rows i x ys below is front h

  -- and so where the rows before it were yielded
  pub refused_in_turn : (e : RowFault) (rows yielded : List X) (x : X) (ys : List Y) → map (λ y. y) yielded ≡ take (length yielded) rows → (length yielded < length rows) × (x ≡ get_or rows (length yielded) x) → each_read read yielded ≡ Ok ys → Refuses e (read x) → Refuses e (each_read read rows)
  refused_in_turn e rows yielded x ys so_far turn front h = each_refused e rows (length yielded) x ys turn.0 turn.1 (ap (each_read read) (sym (sym (map-id yielded) ∙ so_far)) ∙ front) h

-- ---- records

-- the row of a record is read as it
pub row_read : (origin : List (List ℕ)) (r : Record) → IsRecord r → record_in (record_row origin r) ≡ Ok r
row_read origin r is = columns_stored r is

-- and so are the rows of the records of a zone
pub rows_stored : (origin : List (List ℕ)) (rs : List Record) → AllByRecursion IsRecord rs → each_read record_in (map (record_row origin) rs) ≡ Ok rs
rows_stored origin rs all = each_stored record_in (record_row origin) rs (go rs all) where
  go : (rs : List Record) → AllByRecursion IsRecord rs → AllByRecursion (λ r. record_in (record_row origin r) ≡ Ok r) rs
  go [] all = tt
  go (r ∷ rs) all = (row_read origin r all.0, go rs all.1)
