-- What an entry states (RFC 1035 section 5.1, RFC 2308 section 4): what its items say, with the refusal that comes first.
use Rattle.std.specs.Prelude.{ℕ, List, [], ◌∷◌, codes, Bool, true, false, not, if◌then◌else◌, Option, Some, None, Result, Ok, Err, ◌==◌, ◌&&◌}
use Rattle.std.specs.Str.{str_eq_ignore_ascii_case}
use Rattle.dns_data.specs.declared.rdata.Data.{Data as DataOf}
use Rattle.dns_data.specs.declared.data_fault.DataFault.TheVariants.{FieldExtra}
use Rattle.dns_data.specs.Items.{ItemText}
use Rattle.dns_data.specs.Reading.{data_of}
use Rattle.dns_master.specs.declared.entry_fault.EntryFault.{EntryFault}
use Rattle.dns_master.specs.declared.entry_fault.EntryFault.TheVariants.{NoOwner, DirectiveNotKept, Data, EntryShort}
use Rattle.dns_master.specs.declared.statement.Statement.{Statement}
use Rattle.dns_master.specs.declared.statement.Statement.TheVariants.{Origin, DefaultTtl, Record}
use Rattle.dns_master.specs.EntryFaults.{◌>>=◌, of_datas}
use Rattle.dns_master.specs.Fields.{unquoted, name_at, ttl_of, lead_of}

-- the first octet is `$`
abbrev pub begins_with_dollar : List ℕ → Bool
begins_with_dollar [] = false
begins_with_dollar (o ∷ rest) = o == 36

-- whether an item that stands first makes a directive
abbrev pub is_directive : ItemText → Bool
is_directive item = begins_with_dollar item.raw && not item.quoted

-- nothing stands after the item of a directive
abbrev pub no_more : List ItemText → Result (Unit {0}) EntryFault
no_more [] = Ok tt
no_more (item ∷ items) = Err (Data FieldExtra)

-- `$ORIGIN` and a name relative to the origin in force
abbrev pub origin_of : List (List ℕ) → List ItemText → Result Statement EntryFault
origin_of origin [] = Err EntryShort
origin_of origin (item ∷ items) = name_at origin item >>= λ name. no_more items >>= λ _. Ok (Origin name)

-- the TTL that an item says
abbrev pub ttl_at : ItemText → Result ℕ EntryFault
ttl_at item = unquoted item >>= ttl_of

-- `$TTL` and a TTL (RFC 2308 section 4)
abbrev pub default_ttl_of : List ItemText → Result Statement EntryFault
default_ttl_of [] = Err EntryShort
default_ttl_of (item ∷ items) = unquoted item >>= λ raw. ttl_of raw >>= λ ttl. no_more items >>= λ _. Ok (DefaultTtl ttl)

abbrev pub directive_of : List (List ℕ) → List ℕ → List ItemText → Result Statement EntryFault
directive_of origin name items =
    if str_eq_ignore_ascii_case name (codes "$ORIGIN") then origin_of origin items
    else (if str_eq_ignore_ascii_case name (codes "$TTL") then default_ttl_of items else Err DirectiveNotKept)

-- the owner that is stated; none after white space, where one must be in force
abbrev pub owner_of : List (List ℕ) → Option (List (List ℕ)) → Bool → List ItemText → Result (Option (List (List ℕ))) EntryFault
owner_of origin None true items = Err NoOwner
owner_of origin (Some owner) true items = Ok None
owner_of origin owner false [] = Err EntryShort
owner_of origin owner false (item ∷ items) = name_at origin item >>= λ name. Ok (Some name)

-- the items after the owner
abbrev pub behind_owner : Bool → List ItemText → List ItemText
behind_owner true items = items
behind_owner false [] = []
behind_owner false (item ∷ items) = items

-- TTL, class, type and data, of which the TTL and the data are told (RFC 1035 section 5.1)
abbrev pub behind_of : List (List ℕ) → List ItemText → Result (Option ℕ × DataOf) EntryFault
behind_of origin items = do
  lead ← lead_of (record { ttl = None; has_class = false }) items
  rdata ← of_datas (data_of lead.1 (Some origin) lead.2)
  Ok (lead.0, rdata)

-- owner, TTL, class, type and data (RFC 1035 section 5.1)
abbrev pub record_of : List (List ℕ) → Option (List (List ℕ)) → Bool → List ItemText → Result Statement EntryFault
record_of origin owner white items = do
  own ← owner_of origin owner white items
  lead ← lead_of (record { ttl = None; has_class = false }) (behind_owner white items)
  rdata ← of_datas (data_of lead.1 (Some origin) lead.2)
  Ok (Record (record { owner = own; ttl = lead.0; rdata = rdata }))

-- what an entry states where this origin and this owner are in force
abbrev pub statement_of : List (List ℕ) → Option (List (List ℕ)) → Bool → List ItemText → Result Statement EntryFault
statement_of origin owner white [] = record_of origin owner white []
statement_of origin owner white (item ∷ items) =
    if is_directive item then directive_of origin item.raw items else record_of origin owner white (item ∷ items)
