-- The forms of bodies: which JSON values (RFC 8259) are updates (RFC 2136 section 2), and which are delegations (RFC 1034
-- section 4.2.1).
use Rattle.std.specs.Prelude.{◌≡◌, ℕ, ◌≤◌, ◌⊎◌, List, [], ◌∷◌, map, Bool, true, false, ◌&&◌, ◌==◌, if◌then◌else◌, Option, Some, None, bytes_eq}
use Rattle.std.specs.List.{AllByRecursion, list_any}
use Rattle.std.specs.Str.{is_utf8}
use Rattle.std.specs.Net.Grammar.{IsIpv4Text, IsIpv6Text}
use Rattle.std.specs.declared.net.ip_addr.IpAddr.{IpAddr}
use Rattle.std.specs.declared.net.ip_addr.IpAddr.TheVariants as addresses
use Rattle.serde_json.specs.Data.{Data, unsigned, number, string, array, object, Items, no_items, item, Members, no_members, member}
use Rattle.serde_json.specs.Read.{read}
use Rattle.serde_json.specs.Find.{get}
use Rattle.dns_names.specs.Labels.{IsName}
use Rattle.dns_names.specs.Spelling.{SpellsAbsolute}
use Rattle.dns_data.specs.declared.rdata.Data.{Data as Rdata}
use Rattle.dns_data.specs.declared.record.Record.{Record}
use Rattle.dns_data.specs.declared.record_type.RecordType.{RecordType}
use Rattle.dns_data.specs.Types.{IsCalled}
use Rattle.dns_data.specs.Rdata.{type_of}
use Rattle.dns_data.specs.Grammar.{IsData}
use Rattle.dns_master.specs.Tokens.{TokenText, AreTokens}
use Rattle.grant_policy.specs.Identifiers.{IsIdentifier}
use Rattle.zone_core.specs.declared.update.Prerequisite.{Prerequisite}
use Rattle.zone_core.specs.declared.update.Prerequisite.TheVariants.{RrsetExists, RrsetEquals, RrsetAbsent, NameUsed, NameUnused}
use Rattle.zone_core.specs.declared.update.Operation.{Operation}
use Rattle.zone_core.specs.declared.update.Operation.TheVariants.{Add, DeleteRrset, DeleteName, DeleteRecord}
use Rattle.zone_core.specs.Kinds.{prerequisite_word, operation_word, prerequisite_kind, operation_kind}
use Rattle.zone_core.specs.Updates.{UpdateOf}
use Rattle.wire_json.specs.declared.field.Field.{Field}
use Rattle.wire_json.specs.declared.field.Field.TheVariants as field
use Rattle.wire_json.specs.Fields.{field_text, update_fields, prerequisite_fields, operation_fields, delegation_fields, server_fields}

-- the JSON value of a body in UTF-8; of a key that comes twice the last value stays (RFC 8259 sections 4 and 8.1)
abbrev pub json_of : List ℕ → Option Data
json_of body = if is_utf8 body then read body else None

-- ---- objects

-- the value of a field, where there is one
abbrev pub at : Field → Data → Option Data
at f d = get (field_text f) d

-- whether each member is one of these fields
abbrev pub has_only : List Field → Members → Bool
has_only fields no_members = true
has_only fields (member k d ms) = list_any (λ f. bytes_eq (field_text f) k) fields && has_only fields ms

-- an object that has no other fields than these
abbrev pub HasOnly : List Field → Data → Type 0
HasOnly fields d = (ms : Members) × (d ≡ object ms) × (has_only fields ms ≡ true)

-- a field that is this text
abbrev pub IsText : Field → List ℕ → Data → Type 0
IsText f text d = at f d ≡ Some (string text)

-- a field that is this array
abbrev pub IsArray : Field → Items → Data → Type 0
IsArray f items d = at f d ≡ Some (array items)

-- the same, or no items where the field is absent
abbrev pub IsArrayOrAbsent : Field → Items → Data → Type 0
IsArrayOrAbsent f items d = IsArray f items d ⊎ ((at f d ≡ None) × (items ≡ no_items))

-- the items of an array are these, one after the other
abbrev pub AreItems : {X : Type 0} → (X → Data → Type 0) → List X → Items → Type 0
AreItems Is [] no_items = Unit {0}
AreItems Is [] (item d ds) = ⊥
AreItems Is (x ∷ xs) no_items = ⊥
AreItems Is (x ∷ xs) (item d ds) = Is x d × AreItems Is xs ds

-- ---- fields

-- an absolute name (RFC 1035 section 5.1)
abbrev pub IsNameField : Field → List (List ℕ) → Data → Type 0
IsNameField f name d = (text : List ℕ) × IsText f text d × IsName name × SpellsAbsolute name text

-- what a type is called, in either letter case
abbrev pub IsTypeField : RecordType → Data → Type 0
IsTypeField record_type d = (text : List ℕ) × IsText field.Type text d × IsCalled record_type text

-- a TTL as a whole number of 31 bits (RFC 2181 section 8)
abbrev pub IsTtlField : ℕ → Data → Type 0
IsTtlField ttl d = (at field.Ttl d ≡ Some (number (unsigned ttl))) × (ttl ≤ 2147483647)

-- a text with the items of one entry, which are the data (RFC 1035 section 5.1)
abbrev pub SpellsData : Rdata → List ℕ → Type 0
SpellsData rdata text =
    (tokens : List TokenText) × AreTokens text tokens × AllByRecursion (λ t. t.entry ≡ 0) tokens × IsData None rdata (map (λ t. t.item) tokens)

-- data as such a text
abbrev pub IsDataField : Rdata → Data → Type 0
IsDataField rdata d = (text : List ℕ) × IsText field.Data text d × SpellsData rdata text

-- an identifier
abbrev pub IsIdField : List ℕ → Data → Type 0
IsIdField id d = IsText field.Id id d × IsIdentifier id

-- ---- items

-- a name and a type
pub record IsSetBody (name : List (List ℕ)) (record_type : RecordType) (d : Data) : Type 0 where
  pub name_is : IsNameField field.Name name d
  pub type_is : IsTypeField record_type d

-- a name, a type and data of it
pub record IsDatumBody (name : List (List ℕ)) (rdata : Rdata) (d : Data) : Type 0 where
  pub name_is : IsNameField field.Name name d
  pub type_is : IsTypeField (type_of rdata) d
  pub data_is : IsDataField rdata d

-- a name, a TTL, a type and data of it
pub record IsRecordBody (r : Record) (d : Data) : Type 0 where
  pub name_is : IsNameField field.Name r.owner d
  pub ttl_is : IsTtlField r.ttl d
  pub type_is : IsTypeField (type_of r.rdata) d
  pub data_is : IsDataField r.rdata d

-- the values of a prerequisite (RFC 2136 section 2.4)
abbrev pub TestsBody : Prerequisite → Data → Type 0
TestsBody (RrsetExists name record_type) d = IsSetBody name record_type d
TestsBody (RrsetEquals name rdata) d = IsDatumBody name rdata d
TestsBody (RrsetAbsent name record_type) d = IsSetBody name record_type d
TestsBody (NameUsed name) d = IsNameField field.Name name d
TestsBody (NameUnused name) d = IsNameField field.Name name d

-- the values of an operation (RFC 2136 section 2.5)
abbrev pub ChangesBody : Operation → Data → Type 0
ChangesBody (Add r) d = IsRecordBody r d
ChangesBody (DeleteRrset name record_type) d = IsSetBody name record_type d
ChangesBody (DeleteName name) d = IsNameField field.Name name d
ChangesBody (DeleteRecord name rdata) d = IsDatumBody name rdata d

-- an object with the word of a prerequisite, the values that it asks for, and no others
pub record IsPrerequisiteBody (p : Prerequisite) (d : Data) : Type 0 where
  pub fields : HasOnly (prerequisite_fields (prerequisite_kind p)) d
  pub word : IsText field.Test (prerequisite_word (prerequisite_kind p)) d
  pub values : TestsBody p d

-- an object with the word of an operation, the values that it asks for, and no others
pub record IsOperationBody (op : Operation) (d : Data) : Type 0 where
  pub fields : HasOnly (operation_fields (operation_kind op)) d
  pub word : IsText field.Op (operation_word (operation_kind op)) d
  pub values : ChangesBody op d

-- ---- updates

-- the prerequisites of an update
abbrev pub ArePrerequisites : List Prerequisite → Data → Type 0
ArePrerequisites ps d = (items : Items) × IsArrayOrAbsent field.Prerequisites items d × AreItems IsPrerequisiteBody ps items

-- the operations of an update
abbrev pub AreOperations : List Operation → Data → Type 0
AreOperations ops d = (items : Items) × IsArray field.Operations items d × AreItems IsOperationBody ops items

-- an object with an identifier, prerequisites and operations, and no other fields
pub record IsUpdateValue (id : List ℕ) (update : UpdateOf) (d : Data) : Type 0 where
  pub fields : HasOnly update_fields d
  pub id_is : IsIdField id d
  pub prerequisites : ArePrerequisites update.prerequisites d
  pub operations : AreOperations update.operations d

-- a body that asks for an update under an identifier
abbrev pub IsUpdateBody : List ℕ → List ℕ → UpdateOf → Type 0
IsUpdateBody body id update = (d : Data) × (json_of body ≡ Some d) × IsUpdateValue id update d

-- ---- delegations

-- a server of a child zone, and its addresses
pub record ServerOf : Type 0 where
  pub name : List (List ℕ)
  pub addresses : List IpAddr

-- a child zone, the TTL of all records that are added, and its servers
pub record RequestOf : Type 0 where
  pub child : List (List ℕ)
  pub ttl : ℕ
  pub servers : List ServerOf

-- a colon, which only the texts of IPv6 addresses have (RFC 4291 section 2.2)
abbrev pub has_colon : List ℕ → Bool
has_colon text = list_any (λ o. o == 58) text

-- an address in text: an IPv6 address where it has a colon, and else an IPv4 address
abbrev pub SpellsAddress : IpAddr → List ℕ → Type 0
SpellsAddress (addresses.V4 address) text = (has_colon text ≡ false) × IsIpv4Text text address
SpellsAddress (addresses.V6 address) text = (has_colon text ≡ true) × IsIpv6Text text address

-- an address as a text
abbrev pub IsAddressBody : IpAddr → Data → Type 0
IsAddressBody address d = (text : List ℕ) × (d ≡ string text) × SpellsAddress address text

-- an object with a name and an array of addresses, and no other fields
pub record IsServerBody (server : ServerOf) (d : Data) : Type 0 where
  pub fields : HasOnly server_fields d
  pub name_is : IsNameField field.Name server.name d
  pub addresses_are : (items : Items) × IsArray field.Addresses items d × AreItems IsAddressBody server.addresses items

-- an object with an identifier, a child, a TTL and an array of servers, and no other fields
pub record IsDelegationValue (id : List ℕ) (request : RequestOf) (d : Data) : Type 0 where
  pub fields : HasOnly delegation_fields d
  pub id_is : IsIdField id d
  pub child_is : IsNameField field.Child request.child d
  pub ttl_is : IsTtlField request.ttl d
  pub servers_are : (items : Items) × IsArray field.Servers items d × AreItems IsServerBody request.servers items

-- a body that asks for a delegation under an identifier
abbrev pub IsDelegationBody : List ℕ → List ℕ → RequestOf → Type 0
IsDelegationBody body id request = (d : Data) × (json_of body ≡ Some d) × IsDelegationValue id request d
