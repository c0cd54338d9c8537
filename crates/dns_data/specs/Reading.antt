-- What items say as the data of a record of a type: the generic form is not read; then fields from left to right, with the
-- refusal that comes first; then what stands after the last field, and then the size.
use Rattle.std.specs.Prelude.{ℕ, ◌-◌, ◌^◌, List, [], ◌∷◌, ◌++◌, length, ◌==◌, nat_lt, if◌then◌else◌, Option, Some, None, Result, Ok, Err}
use Rattle.std.specs.Net.Reader.{whole_value, read_ipv4, read_ipv6}
use Rattle.std.specs.declared.net.ipv4_addr.Ipv4Addr.{Ipv4Addr}
use Rattle.std.specs.declared.net.ipv6_addr.Ipv6Addr.{Ipv6Addr}
use Rattle.dns_names.specs.Reading.{absolute_name, relative_name}
use Rattle.dns_data.specs.declared.data_fault.DataFault.{DataFault}
use Rattle.dns_data.specs.declared.data_fault.DataFault.TheVariants.{BadAddress, FieldMissing, FieldExtra, TypeNotKept, DataTooLong, QuotedItem}
use Rattle.dns_data.specs.declared.record_type.RecordType.{RecordType}
use Rattle.dns_data.specs.declared.rdata.Data.{Data}
use Rattle.dns_data.specs.Faults.{◌>>=◌, of_names}
use Rattle.dns_data.specs.Items.{ItemText, is_generic}
use Rattle.dns_data.specs.Numbers.{number_of, duration_of}
use Rattle.dns_data.specs.Strings.{string_of, strings_len}
use Rattle.dns_data.specs.Digests.{digest_of}
use Rattle.dns_data.specs.Fields.{Width, U32, bits, Kind, Name, Number, Seconds, Ipv4, Ipv6, Fields, End, ◌▸◌, Strings, Digest, Value, Values}
use Rattle.dns_data.specs.Types.{fields_of, by_type}
use Rattle.dns_data.specs.Rdata.{data_with}

-- a field and the items after it
abbrev pub Field : Type 0 → Type 0
Field X = Result (X × List ItemText) DataFault

-- ---- single fields

abbrev pub ipv4_from : Option (List ℕ) → Result Ipv4Addr DataFault
ipv4_from None = Err BadAddress
ipv4_from (Some octets) = Ok (record { octets = octets })

-- as std reads the texts of RFC 1035 section 3.4.1
abbrev pub ipv4_of : List ℕ → Result Ipv4Addr DataFault
ipv4_of raw = ipv4_from (whole_value (read_ipv4 raw))

abbrev pub ipv6_from : Option (List ℕ) → Result Ipv6Addr DataFault
ipv6_from None = Err BadAddress
ipv6_from (Some segments) = Ok (record { segments = segments })

-- as std reads the texts of RFC 4291 section 2.2
abbrev pub ipv6_of : List ℕ → Result Ipv6Addr DataFault
ipv6_of raw = ipv6_from (whole_value (read_ipv6 raw))

-- relative to the origin where there is one
abbrev pub name_of : Option (List (List ℕ)) → List ℕ → Result (List (List ℕ)) DataFault
name_of None raw = of_names (absolute_name raw)
name_of (Some origin) raw = of_names (relative_name origin raw)

-- the next item, read as a field that is not quoted
abbrev pub field : {X : Type 0} → (List ℕ → Result X DataFault) → List ItemText → Field X
field read [] = Err FieldMissing
field read (item ∷ items) = if item.quoted then Err QuotedItem else (read item.raw >>= λ x. Ok (x, items))

-- the greatest number of so many bits
abbrev pub most : Width → ℕ
most width = 2 ^ bits width - 1

-- a value, of the text of its item
abbrev pub value_of : Option (List (List ℕ)) → (kind : Kind) → List ℕ → Result (Value kind) DataFault
value_of origin Name raw = name_of origin raw
value_of origin (Number width) raw = number_of (most width) raw
value_of origin Seconds raw = duration_of (most U32) raw
value_of origin Ipv4 raw = ipv4_of raw
value_of origin Ipv6 raw = ipv6_of raw

-- ---- fields that take all items that are left

-- each item as a character-string
unfoldable pub each_string : List ItemText → Result (List (List ℕ)) DataFault
each_string [] = Ok []
each_string (item ∷ items) = do
  string ← string_of item.raw
  strings ← each_string items
  Ok (string ∷ strings)

-- all items as character-strings, one or more
unfoldable pub strings_of : List ItemText → Result (List (List ℕ)) DataFault
strings_of [] = Err FieldMissing
strings_of (item ∷ items) = do
  strings ← each_string (item ∷ items)
  if nat_lt 65535 (strings_len strings) then Err DataTooLong else Ok strings

-- the octets of items, joined; none of them is quoted
unfoldable pub joined : List ItemText → Result (List ℕ) DataFault
joined [] = Ok []
joined (item ∷ items) = if item.quoted then Err QuotedItem else (joined items >>= λ others. Ok (item.raw ++ others))

-- all items, one or more, as one digest
unfoldable pub digest_at : List ItemText → Result (List ℕ) DataFault
digest_at [] = Err FieldMissing
digest_at (item ∷ items) = joined (item ∷ items) >>= digest_of

-- ---- data

-- the values of fields from left to right, and the items after them
unfoldable pub values_at : Option (List (List ℕ)) → (fields : Fields) → List ItemText → Field (Values fields)
values_at origin End items = Ok (tt, items)
values_at origin (kind ▸ fields) items = do
  first ← field (value_of origin kind) items
  others ← values_at origin fields first.1
  Ok ((first.0, others.0), others.1)
values_at origin Strings items = strings_of items >>= λ strings. Ok (strings, [])
values_at origin Digest items = digest_at items >>= λ digest. Ok (digest, [])

abbrev pub data_of_values : (record_type : RecordType) → Field (Values (fields_of record_type)) → Field Data
data_of_values record_type read = read >>= λ v. Ok (data_with record_type v.0, v.1)

abbrev pub data_at : RecordType → Option (List (List ℕ)) → List ItemText → Field Data
data_at record_type origin items = by_type (λ t. data_of_values t (values_at origin (fields_of t) items)) record_type

-- nothing stands after the last field
abbrev pub ended : Data × List ItemText → Result Data DataFault
ended read = if length read.1 == 0 then Ok read.0 else Err FieldExtra

abbrev pub data_of : RecordType → Option (List (List ℕ)) → List ItemText → Result Data DataFault
data_of record_type origin items = if is_generic items then Err TypeNotKept else (data_at record_type origin items >>= ended)
