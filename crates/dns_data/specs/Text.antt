-- The one canonical text of record data: its items, with one space between them.
use Rattle.std.specs.Prelude.{ℕ, List, [], ◌∷◌, map, decimal, codes}
use Rattle.std.specs.Net.Addr.{ipv4_octets, ipv6_segments}
use Rattle.std.specs.Net.Text.{ipv4_text, hex_groups_text}
use Rattle.hex.specs.Hex.{encode_lower}
use Rattle.dns_names.specs.Spelling.{name_text}
use Rattle.dns_data.specs.declared.rdata.Data.{Data}
use Rattle.dns_data.specs.declared.record.Record.{Record}
use Rattle.dns_data.specs.Fields.{Kind, Name, Number, Seconds, Ipv4, Ipv6, Fields, End, ◌▸◌, Strings, Digest, Value, Values}
use Rattle.dns_data.specs.Types.{type_text, fields_of}
use Rattle.dns_data.specs.Rdata.{by_parts, type_of}
use Rattle.dns_data.specs.Items.{ItemText, plain, in_quotes, items_text}
use Rattle.dns_data.specs.Strings.{string_text}

abbrev pub value_text : (kind : Kind) → Value kind → List ℕ
value_text Name name = name_text name
value_text (Number width) n = decimal n
value_text Seconds n = decimal n
value_text Ipv4 address = ipv4_text (ipv4_octets address)
-- with no dotted tail (RFC 5952 section 4)
value_text Ipv6 address = hex_groups_text (ipv6_segments address)

abbrev pub strings_items : List (List ℕ) → List ItemText
strings_items strings = map (λ string. in_quotes (string_text string)) strings

-- a digest is one item, in lower case
abbrev pub values_items : (fields : Fields) → Values fields → List ItemText
values_items End v = []
values_items (kind ▸ fields) v = plain (value_text kind v.0) ∷ values_items fields v.1
values_items Strings strings = strings_items strings
values_items Digest digest = plain (encode_lower digest) ∷ []

-- the items of data, as they are printed
abbrev pub data_items : Data → List ItemText
data_items = by_parts (λ t v. values_items (fields_of t) v)

abbrev pub data_text : Data → List ℕ
data_text rdata = items_text (data_items rdata)

-- owner, TTL, class, type and data, with one space between them (RFC 1035 section 5.1)
abbrev pub record_items : Record → List ItemText
record_items r =
    plain (name_text r.owner) ∷ plain (decimal r.ttl) ∷ plain (codes "IN") ∷ plain (type_text (type_of r.rdata)) ∷ data_items r.rdata

abbrev pub record_line : Record → List ℕ
record_line r = items_text (record_items r)
