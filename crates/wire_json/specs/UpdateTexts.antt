-- The one text of an update as the body of a request: a JSON object (RFC 8259) without white space, whose keys stand in byte order.
use Rattle.std.specs.Prelude.{ℕ, List, map}
use Rattle.serde_json.specs.Data.{Data, unsigned, number, string, array, object, Members, no_members, member}
use Rattle.serde_json.specs.View.{items_of}
use Rattle.serde_json.specs.Written.{compact_text}
use Rattle.dns_names.specs.Spelling.{name_text}
use Rattle.dns_data.specs.declared.rdata.Data.{Data as Rdata}
use Rattle.dns_data.specs.declared.record_type.RecordType.{RecordType}
use Rattle.dns_data.specs.Types.{type_text}
use Rattle.dns_data.specs.Rdata.{type_of}
use Rattle.dns_data.specs.Text.{data_text}
use Rattle.zone_core.specs.declared.kind.PrerequisiteKind.{PrerequisiteKind}
use Rattle.zone_core.specs.declared.kind.PrerequisiteKind.TheVariants as tests
use Rattle.zone_core.specs.declared.kind.OperationKind.{OperationKind}
use Rattle.zone_core.specs.declared.kind.OperationKind.TheVariants as changes
use Rattle.zone_core.specs.declared.update.Prerequisite.{Prerequisite}
use Rattle.zone_core.specs.declared.update.Prerequisite.TheVariants.{RrsetExists, RrsetEquals, RrsetAbsent, NameUsed, NameUnused}
use Rattle.zone_core.specs.declared.update.Operation.{Operation}
use Rattle.zone_core.specs.declared.update.Operation.TheVariants.{Add, DeleteRrset, DeleteName, DeleteRecord}
use Rattle.zone_core.specs.Kinds.{prerequisite_word, operation_word}
use Rattle.zone_core.specs.Updates.{UpdateOf}
use Rattle.wire_json.specs.declared.field.Field.{Field}
use Rattle.wire_json.specs.declared.field.Field.TheVariants as field
use Rattle.wire_json.specs.Fields.{field_text}

-- ---- fields, before others

-- a field that is a text
abbrev pub with_text : Field → List ℕ → Members → Members
with_text f text more = member (field_text f) (string text) more

-- the data of a record
abbrev pub with_data : Rdata → Members → Members
with_data rdata more = with_text field.Data (data_text rdata) more

-- an absolute name
abbrev pub with_name : List (List ℕ) → Members → Members
with_name name more = with_text field.Name (name_text name) more

-- the word of a prerequisite
abbrev pub with_test : PrerequisiteKind → Members → Members
with_test kind more = with_text field.Test (prerequisite_word kind) more

-- the word of an operation
abbrev pub with_op : OperationKind → Members → Members
with_op kind more = with_text field.Op (operation_word kind) more

-- a TTL in seconds
abbrev pub with_ttl : ℕ → Members → Members
with_ttl ttl more = member (field_text field.Ttl) (number (unsigned ttl)) more

-- a type, which is the last field
abbrev pub typed : RecordType → Members
typed record_type = with_text field.Type (type_text record_type) no_members

-- ---- items

-- the fields of a prerequisite (RFC 2136 section 2.4)
abbrev pub test_members : Prerequisite → Members
test_members (RrsetExists name record_type) = with_name name (with_test tests.RrsetExists (typed record_type))
test_members (RrsetEquals name rdata) = with_data rdata (with_name name (with_test tests.RrsetEquals (typed (type_of rdata))))
test_members (RrsetAbsent name record_type) = with_name name (with_test tests.RrsetAbsent (typed record_type))
test_members (NameUsed name) = with_name name (with_test tests.NameUsed no_members)
test_members (NameUnused name) = with_name name (with_test tests.NameUnused no_members)

abbrev pub prerequisite_value : Prerequisite → Data
prerequisite_value p = object (test_members p)

-- the fields of an operation (RFC 2136 section 2.5)
abbrev pub change_members : Operation → Members
change_members (Add r) = with_data r.rdata (with_name r.owner (with_op changes.Add (with_ttl r.ttl (typed (type_of r.rdata)))))
change_members (DeleteRrset name record_type) = with_name name (with_op changes.DeleteRrset (typed record_type))
change_members (DeleteName name) = with_name name (with_op changes.DeleteName no_members)
change_members (DeleteRecord name rdata) = with_data rdata (with_name name (with_op changes.DeleteRecord (typed (type_of rdata))))

abbrev pub operation_value : Operation → Data
operation_value op = object (change_members op)

-- ---- updates

-- a field that is an array of values
abbrev pub with_array : Field → List Data → Members → Members
with_array f values more = member (field_text f) (array (items_of values)) more

-- an update under an identifier
abbrev pub update_members : List ℕ → UpdateOf → Members
update_members id update =
    with_text field.Id id (with_array field.Operations (map operation_value update.operations)
    (with_array field.Prerequisites (map prerequisite_value update.prerequisites) no_members))

abbrev pub update_value : List ℕ → UpdateOf → Data
update_value id update = object (update_members id update)

abbrev pub update_text : List ℕ → UpdateOf → List ℕ
update_text id update = compact_text (update_value id update)
