-- The fields of the objects in bodies.
use Rattle.std.specs.Prelude.{ℕ, List, [], ◌∷◌, codes}
use Rattle.zone_core.specs.declared.kind.PrerequisiteKind.{PrerequisiteKind}
use Rattle.zone_core.specs.declared.kind.PrerequisiteKind.TheVariants as tests
use Rattle.zone_core.specs.declared.kind.OperationKind.{OperationKind}
use Rattle.zone_core.specs.declared.kind.OperationKind.TheVariants as changes
use Rattle.wire_json.specs.declared.field.Field.{Field}
use Rattle.wire_json.specs.declared.field.Field.TheVariants as field

-- what a field is called
abbrev pub field_text : Field → List ℕ
field_text field.Addresses = codes "addresses"
field_text field.Child = codes "child"
field_text field.Data = codes "data"
field_text field.Id = codes "id"
field_text field.Name = codes "name"
field_text field.Op = codes "op"
field_text field.Operations = codes "operations"
field_text field.Prerequisites = codes "prerequisites"
field_text field.Servers = codes "servers"
field_text field.Test = codes "test"
field_text field.Ttl = codes "ttl"
field_text field.Type = codes "type"

-- the fields of an update
abbrev pub update_fields : List Field
update_fields = field.Id ∷ field.Prerequisites ∷ field.Operations ∷ []

-- those of them that it has to have
abbrev pub needed_fields : List Field
needed_fields = field.Id ∷ field.Operations ∷ []

-- the fields of a prerequisite of a kind (RFC 2136 section 2.4)
abbrev pub prerequisite_fields : PrerequisiteKind → List Field
prerequisite_fields tests.RrsetExists = field.Test ∷ field.Name ∷ field.Type ∷ []
prerequisite_fields tests.RrsetEquals = field.Test ∷ field.Name ∷ field.Type ∷ field.Data ∷ []
prerequisite_fields tests.RrsetAbsent = field.Test ∷ field.Name ∷ field.Type ∷ []
prerequisite_fields tests.NameUsed = field.Test ∷ field.Name ∷ []
prerequisite_fields tests.NameUnused = field.Test ∷ field.Name ∷ []

-- the fields of an operation of a kind (RFC 2136 section 2.5)
abbrev pub operation_fields : OperationKind → List Field
operation_fields changes.Add = field.Op ∷ field.Name ∷ field.Ttl ∷ field.Type ∷ field.Data ∷ []
operation_fields changes.DeleteRrset = field.Op ∷ field.Name ∷ field.Type ∷ []
operation_fields changes.DeleteName = field.Op ∷ field.Name ∷ []
operation_fields changes.DeleteRecord = field.Op ∷ field.Name ∷ field.Type ∷ field.Data ∷ []

-- the fields of a delegation
abbrev pub delegation_fields : List Field
delegation_fields = field.Id ∷ field.Child ∷ field.Ttl ∷ field.Servers ∷ []

-- the fields of a server
abbrev pub server_fields : List Field
server_fields = field.Name ∷ field.Addresses ∷ []
