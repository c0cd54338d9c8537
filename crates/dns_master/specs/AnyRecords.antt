-- The records of a text, of any types (RFC 1035 section 5.1, RFC 3597): those of types that are kept as the reader of files has them, and of
-- the others their type and data as they are written.
use Rattle.std.specs.Prelude.{ℕ, List, [], ◌∷◌, ◌++◌, length, map, Bool, true, false, nat_lt, if◌then◌else◌, Option, None, Result, Ok, Err}
use Rattle.std.specs.List.{list_any}
use Rattle.dns_names.specs.declared.name_fault.NameFault.TheVariants.{BadEscape}
use Rattle.dns_data.specs.declared.data_fault.DataFault.TheVariants.{TypeNotKept, Name}
use Rattle.dns_data.specs.declared.record.Record.{Record}
use Rattle.dns_data.specs.Items.{ItemText}
use Rattle.dns_master.specs.declared.master_fault.MasterFault.{MasterFault}
use Rattle.dns_master.specs.declared.master_fault.MasterFault.TheVariants.{TooLarge}
use Rattle.dns_master.specs.declared.shape.ShapeFault.{ShapeFault}
use Rattle.dns_master.specs.declared.entry_fault.EntryFault.{EntryFault}
use Rattle.dns_master.specs.declared.entry_fault.EntryFault.TheVariants.{NoOwner, NoTtl, Data, EntryShort}
use Rattle.dns_master.specs.declared.field.Part.{Part}
use Rattle.dns_master.specs.declared.field.Part.TheVariants as parts
use Rattle.dns_master.specs.declared.field.TtlAndClass.{TtlAndClass}
use Rattle.dns_master.specs.declared.file.FileFault.{FileFault}
use Rattle.dns_master.specs.declared.file.FileFault.TheVariants.{Shape, Entry as AtEntry}
use Rattle.dns_master.specs.declared.other.OtherPart.{OtherPart}
use Rattle.dns_master.specs.declared.other.OtherPart.TheVariants as others
use Rattle.dns_master.specs.declared.statement.Statement.{Statement}
use Rattle.dns_master.specs.Grammar.{taken_behind}
use Rattle.dns_master.specs.Entries.{Entry, entries}
use Rattle.dns_master.specs.Reader.{text_of}
use Rattle.dns_master.specs.EntryFaults.{◌>>=◌}
use Rattle.dns_master.specs.Fields.{part_of}
use Rattle.dns_master.specs.Statements.{owner_of, behind_owner, statement_of}
use Rattle.dns_master.specs.InForce.{InForce, or_else, ttl_in_force, behind_entry, handed_in}
use Rattle.dns_master.specs.Files.{or_refused, records_of, first_left, file_fault_on_line}
use Rattle.dns_master.specs.OtherTypes.{is_other_type}

-- A record of a type that is not kept: the origin to which names in its data are relative, owner, TTL, the word for its type, and the items of
-- its data, these as they are written.
pub record OtherText : Type 0 where
  pub origin : List (List ℕ)
  pub owner : List (List ℕ)
  pub ttl : ℕ
  pub kind : List ℕ
  pub fields : List ItemText

-- a record of any type
pub data AnyRecord : Type 0 where
  Kept : Record → AnyRecord
  Other : OtherText → AnyRecord

-- ---- an entry

-- whether an entry is refused for its type
abbrev pub is_not_kept : EntryFault → Bool
is_not_kept (Data TypeNotKept) = true
is_not_kept fault = false

-- what an item before the data is: a TTL or the class, with which this was read; or it stands in the place of a type that is not kept, and
-- this TTL was read before it
abbrev pub other_part : Option ℕ → Result Part EntryFault → Result OtherPart EntryFault
other_part ttl (Ok (parts.More next)) = Ok (others.More next)
other_part ttl (Ok (parts.«Type» own t)) = Err (Data TypeNotKept)
other_part ttl (Err fault) = if is_not_kept fault then Ok (others.Kind ttl) else Err fault

-- the TTL if there is one, the word for the type, and the items of the data
pub record OtherLead : Type 0 where
  pub ttl : Option ℕ
  pub kind : List ℕ
  pub fields : List ItemText

-- what an item does, before these items
abbrev pub with_next : ItemText → List ItemText → OtherPart → (TtlAndClass → Result OtherLead EntryFault) → Result OtherLead EntryFault
with_next item items (others.Kind ttl) more = Ok (record { ttl = ttl; kind = item.raw; fields = items })
with_next item items (others.More next) more = more next

-- TTL and class, each at most once and in either order, and then a type that is not kept
abbrev pub other_lead_of : TtlAndClass → List ItemText → Result OtherLead EntryFault
other_lead_of read [] = Err EntryShort
other_lead_of read (item ∷ items) = other_part read.ttl (part_of read item) >>= λ next. with_next item items next (λ n. other_lead_of n items)

-- an item ends with a backslash that takes nothing, as it may at the end of the text
abbrev pub ends_open : ItemText → Bool
ends_open item = taken_behind false item.raw

-- the lead, if its word can stand for another type, and none of its items ends so
abbrev pub whole_lead : OtherLead → Result OtherLead EntryFault
whole_lead lead =
    if is_other_type lead.kind then (if list_any ends_open lead.fields then Err (Data (Name BadEscape)) else Ok lead) else Err (Data TypeNotKept)

-- a record of another type as its entry states it: the owner and the TTL may be left to the entries before
pub record StatedOther : Type 0 where
  pub owner : Option (List (List ℕ))
  pub ttl : Option ℕ
  pub kind : List ℕ
  pub fields : List ItemText

-- TTL, class and type, and the data as they are written, after this owner
abbrev pub other_behind : Option (List (List ℕ)) → List ItemText → Result StatedOther EntryFault
other_behind own items = do
  read ← other_lead_of (record { ttl = None; has_class = false }) items
  lead ← whole_lead read
  Ok (record { owner = own; ttl = lead.ttl; kind = lead.kind; fields = lead.fields })

-- owner, TTL, class and type, and the data as they are written (RFC 1035 section 5.1)
abbrev pub other_of : List (List ℕ) → Option (List (List ℕ)) → Bool → List ItemText → Result StatedOther EntryFault
other_of origin owner white items = owner_of origin owner white items >>= λ own. other_behind own (behind_owner white items)

-- ---- what is in force

-- what is in force after a record of another type: its owner, and its TTL where it states one
abbrev pub behind_other : StatedOther → InForce → InForce
behind_other o before = record {
  origin = before.origin;
  owner = or_else o.owner before.owner;
  default_ttl = before.default_ttl;
  stated_ttl = or_else o.ttl before.stated_ttl;
  minimum = before.minimum;
}

-- the record of another type, with the owner and the TTL in force where it leaves them out
abbrev pub other_in : StatedOther → InForce → Result OtherText EntryFault
other_in o before =
    or_refused NoOwner (or_else o.owner before.owner) >>= λ owner.
    or_refused NoTtl (ttl_in_force o.ttl before before) >>= λ ttl.
    Ok (record { origin = before.origin; owner = owner; ttl = ttl; kind = o.kind; fields = o.fields })

-- what is in force after an entry, and its record
abbrev pub AnyTaken : Type 0
AnyTaken = InForce × List AnyRecord

-- an entry that states this where this is in force
abbrev pub kept_taken : InForce → Statement → Result AnyTaken EntryFault
kept_taken before s = records_of s before >>= λ records. Ok (behind_entry s before, map Kept records)

abbrev pub other_taken : InForce → StatedOther → Result AnyTaken EntryFault
other_taken before o = other_in o before >>= λ r. Ok (behind_other o before, Other r ∷ [])

-- the items after this owner, and an entry, of another type
abbrev pub behind_taken : InForce → Option (List (List ℕ)) → List ItemText → Result AnyTaken EntryFault
behind_taken before own items = other_behind own items >>= other_taken before

abbrev pub entry_taken : InForce → Bool → List ItemText → Result AnyTaken EntryFault
entry_taken before white items = other_of before.origin before.owner white items >>= other_taken before

-- what the reader of files reads of an entry, and another type where it refuses the type
abbrev pub any_of : InForce → Bool → List ItemText → Result Statement EntryFault → Result AnyTaken EntryFault
any_of before white items (Ok s) = kept_taken before s
any_of before white items (Err fault) =
    if is_not_kept fault then entry_taken before white items else Err fault

-- an entry where this is in force
abbrev pub any_taken : InForce → Bool → List ItemText → Result AnyTaken EntryFault
any_taken before white items = any_of before white items (statement_of before.origin before.owner white items)

-- ---- all entries

-- records before the others
abbrev pub with_any : List AnyRecord → Result (List AnyRecord) FileFault → Result (List AnyRecord) FileFault
with_any records (Ok others) = Ok (records ++ others)
with_any records (Err fault) = Err fault

-- an entry, and then the records of the entries after it
abbrev pub then_any : ℕ → Result AnyTaken EntryFault → (InForce → Result (List AnyRecord) FileFault) → Result (List AnyRecord) FileFault
then_any left (Err fault) more = Err (AtEntry left fault)
then_any left (Ok t) more = with_any t.1 (more t.0)

-- the records of entries, or the first entry at fault
abbrev pub any_from : List Entry → InForce → Result (List AnyRecord) FileFault
any_from [] before = Ok []
any_from (e ∷ es) before = then_any (first_left e.items) (any_taken before e.white (map text_of e.items)) (any_from es)

-- a fault of parentheses and quotes anywhere, else the records of the entries, or the first of them at fault
abbrev pub any_file_from : InForce → Result (List Entry) ShapeFault → Result (List AnyRecord) FileFault
any_file_from before (Err fault) = Err (Shape fault)
any_file_from before (Ok es) = any_from es before

-- the records of a text, or its first refusal, of which it is said how many octets are left
abbrev pub placed_any : List ℕ → List (List ℕ) → Result (List AnyRecord) FileFault
placed_any text origin = any_file_from (handed_in origin) (entries text)

abbrev pub any_on_lines : {A : Type 0} → List ℕ → Result A FileFault → Result A MasterFault
any_on_lines text (Ok records) = Ok records
any_on_lines text (Err fault) = Err (file_fault_on_line text fault)

-- The records of a text, or its first refusal, in the order in which the reader of files refuses.
abbrev pub any_file : List ℕ → List (List ℕ) → Result (List AnyRecord) MasterFault
any_file text origin = if nat_lt 4194304 (length text) then Err TooLarge else any_on_lines text (placed_any text origin)
