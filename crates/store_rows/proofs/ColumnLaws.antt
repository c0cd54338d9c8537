-- Columns: what is written is read, and what is read was written so.
use Rattle.std.proofs.Common.{◌≡◌, ℕ, ◌≤◌, Bool, cond, eqb, List, None, Result, Ok, Err, sym, ap, ◌∙◌, eqb-true}
use Rattle.std.proofs.lemmas.Bool.{le-leb}
use Rattle.std.specs.Prelude.{ℤ, pos, negsuc, nat_le}
use Rattle.std.specs.List.{find}
use Rattle.dns_names.specs.Labels.{IsName}
use Rattle.dns_names.specs.Reading.{absolute_name}
use Rattle.dns_names.specs.Spelling.{name_text}
use Rattle.dns_names.proofs.ReadingLaws.{absolute_again}
use Rattle.dns_data.specs.declared.rdata.Data.{Data}
use Rattle.dns_data.specs.declared.record.Record.{Record}
use Rattle.dns_data.specs.declared.record_type.RecordType.{RecordType}
use Rattle.dns_data.specs.Rdata.{type_of, IsRdata, IsRecord}
use Rattle.dns_data.specs.Reading.{data_of}
use Rattle.dns_data.specs.Text.{data_items, data_text}
use Rattle.dns_data.specs.Types.{kept_types, type_number}
use Rattle.dns_data.proofs.DataLaws.{data_again, data_typed, some_items}
use Rattle.dns_data.proofs.KeptLaws.{number_found}
use Rattle.dns_data.proofs.WordLemmas.{found_passes}
use Rattle.dns_master.proofs.CleanLaws.{data_clean}
use Rattle.store_rows.specs.declared.row_fault.RowFault.{RowFault}
use Rattle.store_rows.specs.declared.row_fault.RowFault.TheVariants.{BadRow}
use Rattle.store_rows.specs.RowFaults.{◌>>=◌, of_names, of_datas, canonical}
use Rattle.store_rows.specs.RowReading.{or_bad, name_from, name_in, fields_of, type_in, data_from, data_in, ttl_in, record_at}
use Rattle.store_rows.proofs.RowSteps.{done, ok_is, step_ok, datas_ok, or_bad_ok, needed_ok, canonical_again, canonical_ok}
use Rattle.store_rows.proofs.FieldsLaws.{fields_read}

-- ---- names

pub name_read : (name : List (List ℕ)) → IsName name → name_in (name_text name) ≡ Ok name
name_read name is =
    ap (λ r. of_names r >>= λ n. canonical (name_text n) (name_text name) n) (absolute_again name is) ∙ canonical_again (name_text name) name

pub name_found : (text : List ℕ) (name : List (List ℕ)) → name_in text ≡ Ok name → text ≡ name_text name
name_found text name e =
    let s = step_ok (of_names (absolute_name text)) (λ n. canonical (name_text n) text n) name e in
    let t = canonical_ok (name_text s.0) text s.0 name s.2 in
    sym t.0 ∙ ap name_text t.1

-- and whatever its spelling
pub name_also : (text : List ℕ) (name : List (List ℕ)) → name_in text ≡ Ok name → name_from text ≡ Ok name
name_also text name e =
    let s = step_ok (of_names (absolute_name text)) (λ n. canonical (name_text n) text n) name e in
    s.1 ∙ ap done (canonical_ok (name_text s.0) text s.0 name s.2).1

-- ---- types

pub type_read : (t : RecordType) → type_in (pos (type_number t)) ≡ Ok t
type_read t = ap (or_bad {A = RecordType}) (number_found t)

pub type_found : (number : ℤ) (t : RecordType) → type_in number ≡ Ok t → number ≡ pos (type_number t)
type_found (pos n) t e =
    let test = λ (t : RecordType). eqb (type_number t) n in
    ap (λ (m : ℕ). pos m) (sym (eqb-true (type_number t) n (found_passes test kept_types t (or_bad_ok (find test kept_types) t e))))
type_found (negsuc n) t e = absurd cc

-- ---- data

pub data_read : (rdata : Data) → IsRdata rdata → data_in (type_of rdata) (data_text rdata) ≡ Ok rdata
data_read rdata is =
    ap (λ r. r >>= λ items. of_datas (data_of (type_of rdata) None items) >>= λ d. canonical (data_text d) (data_text rdata) d)
    (fields_read (data_items rdata) (record { some = some_items rdata is; clean = data_clean rdata is }))
    ∙ ap (λ r. of_datas r >>= λ d. canonical (data_text d) (data_text rdata) d) (data_again rdata is)
    ∙ canonical_again (data_text rdata) rdata

pub data_found : (t : RecordType) (text : List ℕ) (rdata : Data) → data_in t text ≡ Ok rdata → (type_of rdata ≡ t) × (text ≡ data_text rdata)
data_found t text rdata e =
    let s = step_ok (fields_of text) (λ items. of_datas (data_of t None items) >>= λ d. canonical (data_text d) text d) rdata e in
    let d = step_ok (of_datas (data_of t None s.0)) (λ d. canonical (data_text d) text d) rdata s.2 in
    let same = canonical_ok (data_text d.0) text d.0 rdata d.2 in
    (sym (ap type_of same.1) ∙ data_typed t None s.0 d.0 (datas_ok (data_of t None s.0) d.0 d.1), sym same.0 ∙ ap data_text same.1)

-- and whatever their spelling
pub data_also : (t : RecordType) (text : List ℕ) (rdata : Data) → data_in t text ≡ Ok rdata → data_from t text ≡ Ok rdata
data_also t text rdata e =
    let s = step_ok (fields_of text) (λ items. of_datas (data_of t None items) >>= λ d. canonical (data_text d) text d) rdata e in
    let d = step_ok (of_datas (data_of t None s.0)) (λ d. canonical (data_text d) text d) rdata s.2 in
    ap (λ r. r >>= λ items. of_datas (data_of t None items)) s.1 ∙ d.1 ∙ ap done (canonical_ok (data_text d.0) text d.0 rdata d.2).1

-- ---- TTLs

pub ttl_read : (ttl : ℕ) → ttl ≤ 2147483647 → ttl_in (pos ttl) ≡ Ok ttl
ttl_read ttl h = ap (λ (b : Bool). cond b (done ttl) (Err BadRow)) (le-leb ttl 2147483647 h)

pub ttl_found : (seconds : ℤ) (ttl : ℕ) → ttl_in seconds ≡ Ok ttl → seconds ≡ pos ttl
ttl_found (pos n) ttl e = ap (λ (m : ℕ). pos m) (needed_ok (nat_le n 2147483647) n ttl e).1
ttl_found (negsuc n) ttl e = absurd cc

-- ---- records

abbrev made_of : List (List ℕ) → ℕ → Data → Result Record RowFault
made_of name ttl rdata = Ok (record { owner = name; ttl = ttl; rdata = rdata })

pub record_read : (r : Record) → IsRecord r → record_at (name_text r.owner) (pos (type_number (type_of r.rdata))) (data_text r.rdata) (pos r.ttl) ≡ Ok r
record_read r is =
    ap (λ x. x >>= λ name. type_in (pos (type_number (type_of r.rdata))) >>= λ t. ttl_in (pos r.ttl) >>= λ ttl. data_in t (data_text r.rdata) >>= λ made. made_of name ttl made) (name_read r.owner is.owner)
    ∙ ap (λ x. x >>= λ t. ttl_in (pos r.ttl) >>= λ ttl. data_in t (data_text r.rdata) >>= λ made. made_of r.owner ttl made) (type_read (type_of r.rdata))
    ∙ ap (λ x. x >>= λ ttl. data_in (type_of r.rdata) (data_text r.rdata) >>= λ made. made_of r.owner ttl made) (ttl_read r.ttl is.ttl)
    ∙ ap (λ x. x >>= λ made. made_of r.owner r.ttl made) (data_read r.rdata is.rdata)

-- the columns of a record
pub record AreColumns (owner : List ℕ) (record_type : ℤ) (rdata : List ℕ) (ttl : ℤ) (r : Record) : Type 0 where
  pub owner_is : owner ≡ name_text r.owner
  pub type_is : record_type ≡ pos (type_number (type_of r.rdata))
  pub rdata_is : rdata ≡ data_text r.rdata
  pub ttl_is : ttl ≡ pos r.ttl

pub record_found : (owner : List ℕ) (record_type : ℤ) (rdata : List ℕ) (ttl : ℤ) (r : Record) → record_at owner record_type rdata ttl ≡ Ok r → AreColumns owner record_type rdata ttl r
record_found owner record_type rdata ttl r e =
    let n = step_ok (name_in owner) (λ name. type_in record_type >>= λ t. ttl_in ttl >>= λ seconds. data_in t rdata >>= λ made. made_of name seconds made) r e in
    let t = step_ok (type_in record_type) (λ t. ttl_in ttl >>= λ seconds. data_in t rdata >>= λ made. made_of n.0 seconds made) r n.2 in
    let s = step_ok (ttl_in ttl) (λ seconds. data_in t.0 rdata >>= λ made. made_of n.0 seconds made) r t.2 in
    let d = step_ok (data_in t.0 rdata) (λ made. made_of n.0 s.0 made) r s.2 in
    let same = ok_is (record { owner = n.0; ttl = s.0; rdata = d.0 }) r d.2 in
    let found = data_found t.0 rdata d.0 d.1 in
    record {
      owner_is = name_found owner n.0 n.1 ∙ ap (λ (x : Record). name_text x.owner) same;
      type_is = type_found record_type t.0 t.1 ∙ ap (λ (x : RecordType). pos (type_number x)) (sym found.0) ∙ ap (λ (x : Record). pos (type_number (type_of x.rdata))) same;
      rdata_is = found.1 ∙ ap (λ (x : Record). data_text x.rdata) same;
      ttl_is = ttl_found ttl s.0 s.1 ∙ ap (λ (x : Record). pos x.ttl) same;
    }
