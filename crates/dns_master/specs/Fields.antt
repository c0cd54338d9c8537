-- What stands before the data of a record: owner, TTL, class and type (RFC 1035 section 5.1).
use Rattle.std.specs.Prelude.{ℕ, List, [], ◌∷◌, codes, drop, Bool, true, false, not, ◌||◌, ◌&&◌, if◌then◌else◌, Option, Some, None, Result, Ok, Err}
use Rattle.std.specs.Option.{is_some}
use Rattle.std.specs.Char.{is_ascii_digit}
use Rattle.std.specs.Str.{str_eq_ignore_ascii_case}
use Rattle.dns_data.specs.declared.data_fault.DataFault.{DataFault}
use Rattle.dns_data.specs.declared.data_fault.DataFault.TheVariants.{TypeNotKept, QuotedItem}
use Rattle.dns_data.specs.declared.record_type.RecordType.{RecordType}
use Rattle.dns_data.specs.Items.{ItemText}
use Rattle.dns_data.specs.Numbers.{duration_of}
use Rattle.dns_data.specs.Reading.{name_of}
use Rattle.dns_data.specs.Types.{type_named}
use Rattle.dns_master.specs.declared.entry_fault.EntryFault.{EntryFault}
use Rattle.dns_master.specs.declared.entry_fault.EntryFault.TheVariants.{ClassNotIn, BadTtl, Data, EntryShort}
use Rattle.dns_master.specs.declared.field.Part.{Part}
use Rattle.dns_master.specs.declared.field.Part.TheVariants as parts
use Rattle.dns_master.specs.declared.field.TtlAndClass.{TtlAndClass}
use Rattle.dns_master.specs.declared.field.Lead.{Lead}
use Rattle.dns_master.specs.EntryFaults.{◌>>=◌, of_datas}

-- the octets of an item that must not stand in quotes
abbrev pub unquoted : ItemText → Result (List ℕ) EntryFault
unquoted item = if item.quoted then Err (Data QuotedItem) else Ok item.raw

-- a name relative to this origin
abbrev pub name_at : List (List ℕ) → ItemText → Result (List (List ℕ)) EntryFault
name_at origin item = unquoted item >>= λ raw. of_datas (name_of (Some origin) raw)

-- a TTL has 31 bits (RFC 2181 section 8)
abbrev pub in_ttl : Result ℕ DataFault → Result ℕ EntryFault
in_ttl (Ok ttl) = Ok ttl
in_ttl (Err fault) = Err BadTtl

abbrev pub ttl_of : List ℕ → Result ℕ EntryFault
ttl_of raw = in_ttl (duration_of 2147483647 raw)

abbrev pub or_not_kept : Option RecordType → Result RecordType EntryFault
or_not_kept None = Err (Data TypeNotKept)
or_not_kept (Some record_type) = Ok record_type

-- the kept type that is called so, in either letter case
abbrev pub type_of_text : List ℕ → Result RecordType EntryFault
type_of_text raw = or_not_kept (type_named raw)

abbrev pub begins_with_digit : List ℕ → Bool
begins_with_digit [] = false
begins_with_digit (o ∷ rest) = is_ascii_digit o

-- the classes but IN (RFC 1035 section 3.2.4)
abbrev pub is_other_class : List ℕ → Bool
is_other_class raw =
    str_eq_ignore_ascii_case raw (codes "CH") || str_eq_ignore_ascii_case raw (codes "HS") || str_eq_ignore_ascii_case raw (codes "CS")

-- What an item between the owner and the data is: while no TTL was read, one that begins with a digit is a TTL; while no class
-- was read, one that names a class is it; any other stands in the type's place.
abbrev pub part_in : TtlAndClass → List ℕ → Result Part EntryFault
part_in read raw =
    if not (is_some read.ttl) && begins_with_digit raw then (ttl_of raw >>= λ ttl. Ok (parts.More (record { ttl = Some ttl; has_class = read.has_class })))
    else (if not read.has_class && str_eq_ignore_ascii_case raw (codes "IN") then Ok (parts.More (record { ttl = read.ttl; has_class = true }))
    else (if not read.has_class && is_other_class raw then Err ClassNotIn
    else (type_of_text raw >>= λ t. Ok (parts.«Type» read.ttl t))))

abbrev pub part_of : TtlAndClass → ItemText → Result Part EntryFault
part_of read item = unquoted item >>= part_in read

-- the TTL if there is one, the type, and the items of the data
abbrev pub LeadText : Type 0
LeadText = Option ℕ × RecordType × List ItemText

-- what an item does, before these items
abbrev pub with_part : Part → List ItemText → (TtlAndClass → Result LeadText EntryFault) → Result LeadText EntryFault
with_part (parts.More next) items more = more next
with_part (parts.«Type» ttl t) items more = Ok (ttl, t, items)

-- TTL and class, each at most once and in either order, and then the type (RFC 1035 section 5.1)
abbrev pub lead_of : TtlAndClass → List ItemText → Result LeadText EntryFault
lead_of read [] = Err EntryShort
lead_of read (item ∷ items) = part_of read item >>= λ part. with_part part items (λ next. lead_of next items)

-- what a call answered of these items
abbrev pub lead_before : List ItemText → Lead → LeadText
lead_before items lead = (lead.ttl, lead.record_type, drop lead.len items)
