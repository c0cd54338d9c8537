-- What rows say. Whether a row is the one row of what it is read as is another question.
use Rattle.std.specs.Prelude.{◌≡◌, ℕ, ◌^◌, ◌-◌, ℤ, pos, negsuc, List, [], ◌∷◌, length, map, Bool, not, ◌&&◌, ◌==◌, nat_le, nat_lt, if◌then◌else◌, Option, Some, None, Result, Ok, Err, bytes_eq, codes}
use Rattle.std.specs.List.{find, list_all}
use Rattle.std.specs.List.Sorted.{IsPermutation, IsSorted}
use Rattle.std.specs.Ordering.{int_eq}
use Rattle.std.specs.Str.Parse.{digits_value}
use Rattle.dns_names.specs.Keys.{key_of}
use Rattle.dns_names.specs.Reading.{absolute_name}
use Rattle.dns_names.specs.Spelling.{name_text}
use Rattle.dns_data.specs.declared.rdata.Data.{Data}
use Rattle.dns_data.specs.declared.record.Record.{Record}
use Rattle.dns_data.specs.declared.record_type.RecordType.{RecordType}
use Rattle.dns_data.specs.Items.{ItemText}
use Rattle.dns_data.specs.Numbers.{is_number}
use Rattle.dns_data.specs.Reading.{data_of}
use Rattle.dns_data.specs.Text.{data_text}
use Rattle.dns_data.specs.Types.{kept_types, type_number}
use Rattle.dns_master.specs.declared.master_fault.MasterFault.{MasterFault}
use Rattle.dns_master.specs.Tokens.{TokenText, tokens_of}
use Rattle.grant_policy.specs.Identifiers.{is_identifier_octet}
use Rattle.zone_core.specs.declared.prerequisite_code.PrerequisiteCode.TheVariants as prerequisites
use Rattle.zone_core.specs.declared.rcode.Rcode.{Rcode}
use Rattle.zone_core.specs.declared.rcode.Rcode.TheVariants as rcodes
use Rattle.zone_core.specs.declared.update.ItemList.{ItemList}
use Rattle.zone_core.specs.declared.update.ItemList.TheVariants as lists
use Rattle.zone_core.specs.Kinds.{list_named}
use Rattle.zone_core.specs.Rcodes.{rcode_named}
use Rattle.zone_core.specs.Updates.{UpdateOf, place_in}
use Rattle.zone_core.specs.Prerequisites.{failed}
use Rattle.zone_core.specs.Zones.{ZoneOf, built}
use Rattle.zone_core.specs.Changes.{ChangeOf}
use Rattle.office_model.specs.declared.receipt.Receipt.{Receipt}
use Rattle.office_model.specs.declared.reply.UpdateReply.{UpdateReply}
use Rattle.office_model.specs.declared.reply.UpdateReply.TheVariants.{NoError, NotAuth, NotZone, Refused, Failed}
use Rattle.update_lines.specs.Reading.{items_of}
use Rattle.update_lines.specs.Texts.{update_text}
use Rattle.store_sql.specs.Rows.{RecordRowOf, ReceiptRowOf, ChangeRowOf}
use Rattle.store_rows.specs.ChangeRows.{changed_order, are_of_one, are_numbered, gathered}
use Rattle.store_rows.specs.declared.changes.ChangedRecord.{ChangedRecord}
use Rattle.store_rows.specs.declared.ordered.KeptReceipt.{KeptReceipt}
use Rattle.store_rows.specs.declared.ordered.ZoneRecord.{ZoneRecord}
use Rattle.store_rows.specs.declared.row_fault.RowFault.{RowFault}
use Rattle.store_rows.specs.declared.row_fault.RowFault.TheVariants.{BadRow}
use Rattle.store_rows.specs.declared.side.Side.{Side}
use Rattle.store_rows.specs.declared.side.Side.TheVariants as sides
use Rattle.store_rows.specs.RowFaults.{◌>>=◌, of_names, of_datas, of_masters, of_updates_in, of_zones, canonical}

-- what is found, or that a row is bad
abbrev pub or_bad : {A : Type 0} → Option A → Result A RowFault
or_bad None = Err BadRow
or_bad (Some x) = Ok x

-- ---- columns

-- a name
abbrev pub name_from : List ℕ → Result (List (List ℕ)) RowFault
name_from text = of_names (absolute_name text)

-- a name by its canonical text
abbrev pub name_in : List ℕ → Result (List (List ℕ)) RowFault
name_in text = of_names (absolute_name text) >>= λ name. canonical (name_text name) text name

-- the items of tokens
abbrev pub fields_in : Result (List TokenText) MasterFault → Result (List ItemText) RowFault
fields_in read = of_masters read >>= λ tokens. Ok (map (λ t. t.item) tokens)

-- the items of a text (RFC 1035 section 5.1)
abbrev pub fields_of : List ℕ → Result (List ItemText) RowFault
fields_of text = fields_in (tokens_of text)

-- a type by its number
abbrev pub type_in : ℤ → Result RecordType RowFault
type_in (pos n) = or_bad (find (λ t. type_number t == n) kept_types)
type_in (negsuc n) = Err BadRow

-- data of a type
abbrev pub data_from : RecordType → List ℕ → Result Data RowFault
data_from record_type text = fields_of text >>= λ items. of_datas (data_of record_type None items)

-- data of a type by their canonical text
abbrev pub data_in : RecordType → List ℕ → Result Data RowFault
data_in record_type text =
    fields_of text >>= λ items. of_datas (data_of record_type None items) >>= λ rdata. canonical (data_text rdata) text rdata

-- a TTL of 31 bits (RFC 2181 section 8)
abbrev pub ttl_in : ℤ → Result ℕ RowFault
ttl_in (pos n) = if nat_le n 2147483647 then Ok n else Err BadRow
ttl_in (negsuc n) = Err BadRow

-- an identifier
abbrev pub is_identifier : List ℕ → Bool
is_identifier text = nat_lt 0 (length text) && (nat_le (length text) 64 && list_all is_identifier_octet text)

abbrev pub identifier_in : List ℕ → Result (List ℕ) RowFault
identifier_in text = if is_identifier text then Ok text else Err BadRow

-- a side
abbrev pub side_in : ℤ → Result Side RowFault
side_in n = if int_eq n (pos 0) then Ok sides.Removed else (if int_eq n (pos 1) then Ok sides.Added else Err BadRow)

-- ---- records

-- a record by its columns
abbrev pub record_from : List ℕ → ℤ → List ℕ → ℤ → Result Record RowFault
record_from owner record_type rdata ttl =
    name_from owner >>= λ name. type_in record_type >>= λ t. ttl_in ttl >>= λ seconds. data_from t rdata >>= λ made.
    Ok (record { owner = name; ttl = seconds; rdata = made })

-- and by columns in canonical text
abbrev pub record_at : List ℕ → ℤ → List ℕ → ℤ → Result Record RowFault
record_at owner record_type rdata ttl =
    name_in owner >>= λ name. type_in record_type >>= λ t. ttl_in ttl >>= λ seconds. data_in t rdata >>= λ made.
    Ok (record { owner = name; ttl = seconds; rdata = made })

-- the record of a row, whatever its origin
abbrev pub record_in : RecordRowOf → Result Record RowFault
record_in row = record_from row.owner row.record_type row.rdata row.ttl

-- the record of a zone in a row, by columns in canonical text and the key of the owner
abbrev pub zone_record_in : RecordRowOf → Result ZoneRecord RowFault
zone_record_in row =
    name_in row.origin >>= λ origin. record_at row.owner row.record_type row.rdata row.ttl >>= λ r.
    canonical (key_of r.owner) row.owner_key (record { origin = origin; rr = r })

-- ---- replies

-- a number of 64 bits
abbrev pub number_named : List ℕ → Option ℕ
number_named word = if is_number word && nat_le (digits_value 10 word) (2 ^ 64 - 1) then Some (digits_value 10 word) else None

-- a reply that is a code alone
abbrev pub reply_alone : Rcode → Result UpdateReply RowFault
reply_alone rcodes.NoError = Ok NoError
reply_alone rcodes.NotAuth = Ok NotAuth
reply_alone code = Err BadRow

-- A reply with a code, at an item of a list: a name is outside the zone, the item is denied by the closing default, or it is a
-- prerequisite that does not hold (RFC 2136 sections 2.4 and 3)
abbrev pub reply_with : Rcode → ItemList → ℕ → Result UpdateReply RowFault
reply_with rcodes.NotZone list n = Ok (NotZone (place_in list n))
reply_with rcodes.Refused list n = Ok (Refused (place_in list n) None)
reply_with rcodes.NxDomain lists.Prerequisites n = Ok (Failed (failed n prerequisites.NxDomain))
reply_with rcodes.YxDomain lists.Prerequisites n = Ok (Failed (failed n prerequisites.YxDomain))
reply_with rcodes.YxRrset lists.Prerequisites n = Ok (Failed (failed n prerequisites.YxRrset))
reply_with rcodes.NxRrset lists.Prerequisites n = Ok (Failed (failed n prerequisites.NxRrset))
reply_with code list n = Err BadRow

-- a reply of a code, a list and the number of an item
abbrev pub reply_at : List ℕ → List ℕ → List ℕ → Result UpdateReply RowFault
reply_at code list item =
    or_bad (rcode_named code) >>= λ c. or_bad (list_named list) >>= λ l. or_bad (number_named item) >>= λ n. reply_with c l n

-- who denied an item: the closing default, by its word, which is not in quotes, or a rule
abbrev pub denier_in : ItemText → Result (Option (List ℕ)) RowFault
denier_in item =
    if not item.quoted && bytes_eq item.raw (codes "closing") then Ok None else (identifier_in item.raw >>= λ rule. Ok (Some rule))

-- a denial, with who denied it
abbrev pub denied_by : UpdateReply → Option (List ℕ) → Result UpdateReply RowFault
denied_by (Refused place None) by = Ok (Refused place by)
denied_by reply by = Err BadRow

-- a reply by its words, whatever their spelling; a denial by nobody is one by the closing default
abbrev pub reply_of : List ItemText → Result UpdateReply RowFault
reply_of (code ∷ []) = or_bad (rcode_named code.raw) >>= reply_alone
reply_of (code ∷ list ∷ item ∷ []) = reply_at code.raw list.raw item.raw
reply_of (code ∷ list ∷ item ∷ by ∷ []) = denier_in by >>= λ d. reply_at code.raw list.raw item.raw >>= λ reply. denied_by reply d
reply_of words = Err BadRow

-- a reply
abbrev pub reply_in : List ℕ → Result UpdateReply RowFault
reply_in text = fields_of text >>= reply_of

-- ---- receipts

-- an update by its item lines
abbrev pub request_in : List ℕ → Result UpdateOf RowFault
request_in text = of_updates_in (items_of text)

-- by their canonical text
abbrev pub request_at : List ℕ → Result UpdateOf RowFault
request_at text = request_in text >>= λ update. canonical (update_text update) text update

-- the receipt of a row, whatever its caller and identifier
abbrev pub receipt_in : ReceiptRowOf → Result Receipt RowFault
receipt_in row =
    name_from row.origin >>= λ origin. request_in row.request >>= λ update. reply_in row.reply >>= λ reply.
    Ok (record { origin = origin; update = update; reply = reply })

-- with the caller and the identifier
abbrev pub kept_in : ReceiptRowOf → Result KeptReceipt RowFault
kept_in row =
    identifier_in row.caller >>= λ caller. identifier_in row.id >>= λ id. receipt_in row >>= λ receipt.
    Ok (record { caller = caller; id = id; receipt = receipt })

-- ---- changes

-- a number from 1 on
abbrev pub number_in : ℤ → Result ℕ RowFault
number_in (pos n) = if n == 0 then Err BadRow else Ok n
number_in (negsuc n) = Err BadRow

-- what a row has
abbrev pub changed_in : ChangeRowOf → Result ChangedRecord RowFault
changed_in row =
    name_from row.origin >>= λ origin. number_in row.number >>= λ number. side_in row.side >>= λ side.
    record_from row.owner row.record_type row.rdata row.ttl >>= λ r.
    Ok (record { origin = origin; number = number; side = side; changed = r })

-- and by columns in canonical text
abbrev pub changed_at : ChangeRowOf → Result ChangedRecord RowFault
changed_at row =
    name_in row.origin >>= λ origin. number_in row.number >>= λ number. side_in row.side >>= λ side.
    record_at row.owner row.record_type row.rdata row.ttl >>= λ r.
    Ok (record { origin = origin; number = number; side = side; changed = r })

-- what has a number after so many changes, numbered from 1
abbrev pub renumbered : ℕ → ChangedRecord → Result ChangedRecord RowFault
renumbered count c = if nat_lt count c.number then Ok (record c { number = c.number - count }) else Err BadRow

-- what a row has, numbered so
abbrev pub changed_behind : ℕ → ChangeRowOf → Result ChangedRecord RowFault
changed_behind count row = changed_in row >>= renumbered count

-- ---- rows of one kind

-- what each of them is read as, in their order
abbrev pub each_read : {X Y : Type 0} → (X → Result Y RowFault) → List X → Result (List Y) RowFault
each_read read [] = Ok []
each_read read (row ∷ rows) = read row >>= λ x. each_read read rows >>= λ xs. Ok (x ∷ xs)

-- the zone of an origin by rows, all of which are of it
abbrev pub zone_by : List (List ℕ) → List RecordRowOf → Result ZoneOf RowFault
zone_by origin rows =
    if list_all (λ r. bytes_eq r.origin (name_text origin)) rows then (each_read record_in rows >>= λ rs. of_zones (built origin rs)) else Err BadRow

-- the receipt by rows of which there is at most one
abbrev pub receipt_by : List ReceiptRowOf → Result (Option Receipt) RowFault
receipt_by [] = Ok None
receipt_by (row ∷ []) = receipt_in row >>= λ receipt. Ok (Some receipt)
receipt_by (row ∷ more) = Err BadRow

-- the changes of what rows have, in order, if it is that of the rows of the changes of one zone
abbrev pub changes_among : List ChangedRecord → Result (List ChangeOf) RowFault
changes_among cs = if are_of_one cs && are_numbered cs then Ok (gathered cs) else Err BadRow

-- changes have what each of the rows says, in order
pub record AreStoredIn (rows : List ChangeRowOf) (changes : List ChangeOf) : Type 0 where
  pub changed : List ChangedRecord
  pub sorted : List ChangedRecord
  pub each : each_read changed_in rows ≡ Ok changed
  pub same : IsPermutation changed sorted
  pub order : IsSorted changed_order sorted
  pub are : changes_among sorted ≡ Ok changes

-- changes have what each of the rows says, in order, after so many others
pub record AreStoredBehind (count : ℕ) (rows : List ChangeRowOf) (changes : List ChangeOf) : Type 0 where
  pub changed : List ChangedRecord
  pub sorted : List ChangedRecord
  pub each : each_read (changed_behind count) rows ≡ Ok changed
  pub same : IsPermutation changed sorted
  pub order : IsSorted changed_order sorted
  pub are : changes_among sorted ≡ Ok changes
