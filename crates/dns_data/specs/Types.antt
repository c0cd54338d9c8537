-- The record types that are kept: what each is called, its number, and the fields of its data.
use Rattle.std.specs.Prelude.{◌≡◌, ℕ, List, [], ◌∷◌, Option, codes, nat_lt}
use Rattle.std.specs.List.{count_by, find}
use Rattle.std.specs.Str.{str_to_ascii_lowercase, str_eq_ignore_ascii_case}
use Rattle.dns_data.specs.declared.record_type.RecordType.{RecordType}
use Rattle.dns_data.specs.declared.record_type.RecordType.TheVariants.{A, Ns, Cname, Soa, Ptr, Mx, Txt, Aaaa, Srv, Ds}
use Rattle.dns_data.specs.Fields.{U8, U16, U32, Name, Number, Seconds, Ipv4, Ipv6, Fields, End, ◌▸◌, Strings, Digest}

-- the types that are kept, by number (RFC 1035 section 3.2.2, RFC 2782, RFC 3596 section 2.1, RFC 4034 section 5)
abbrev pub kept_types : List RecordType
kept_types = A ∷ Ns ∷ Cname ∷ Soa ∷ Ptr ∷ Mx ∷ Txt ∷ Aaaa ∷ Srv ∷ Ds ∷ []

-- what a type is called, its number, and the fields of its data
pub record TypeRow : Type 0 where
  pub text : List ℕ
  pub number : ℕ
  pub fields : Fields

abbrev pub row : List ℕ → ℕ → Fields → TypeRow
row text number fields = record { text = text; number = number; fields = fields }

-- The table of types (RFC 1035 sections 3.2.2, 3.3 and 3.4, RFC 2782, RFC 3596 section 2, RFC 4034 section 5)
abbrev pub row_of : RecordType → TypeRow
row_of A = row (codes "A") 1 (Ipv4 ▸ End)
row_of Ns = row (codes "NS") 2 (Name ▸ End)
row_of Cname = row (codes "CNAME") 5 (Name ▸ End)
-- MNAME RNAME SERIAL REFRESH RETRY EXPIRE MINIMUM
row_of Soa = row (codes "SOA") 6 (Name ▸ Name ▸ Number U32 ▸ Seconds ▸ Seconds ▸ Seconds ▸ Seconds ▸ End)
row_of Ptr = row (codes "PTR") 12 (Name ▸ End)
-- preference and exchange
row_of Mx = row (codes "MX") 15 (Number U16 ▸ Name ▸ End)
row_of Txt = row (codes "TXT") 16 Strings
row_of Aaaa = row (codes "AAAA") 28 (Ipv6 ▸ End)
-- priority, weight, port and target
row_of Srv = row (codes "SRV") 33 (Number U16 ▸ Number U16 ▸ Number U16 ▸ Name ▸ End)
-- key tag, algorithm, digest type and digest
row_of Ds = row (codes "DS") 43 (Number U16 ▸ Number U8 ▸ Number U8 ▸ Digest)

abbrev pub type_text : RecordType → List ℕ
type_text record_type = (row_of record_type).text

abbrev pub type_number : RecordType → ℕ
type_number record_type = (row_of record_type).number

-- the place of a type among those that are kept: how many of them have a lesser number
abbrev pub place_of : RecordType → ℕ
place_of record_type = count_by (λ t. nat_lt (type_number t) (type_number record_type)) kept_types

abbrev pub fields_of : RecordType → Fields
fields_of record_type = (row_of record_type).fields

-- what is said of a type, once it is known which
abbrev pub by_type : {R : Type 0} → (RecordType → R) → RecordType → R
by_type say A = say A
by_type say record_type = say record_type

-- a text is what the type is called, in either letter case
abbrev pub IsCalled : RecordType → List ℕ → Type 0
IsCalled record_type text = str_to_ascii_lowercase text ≡ str_to_ascii_lowercase (type_text record_type)

-- the type that a text names, in either letter case
abbrev pub type_named : List ℕ → Option RecordType
type_named text = find (λ t. str_eq_ignore_ascii_case (type_text t) text) kept_types
