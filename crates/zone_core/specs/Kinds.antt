-- The kinds of prerequisites and of operations, and what each is called in requests; and the two lists of an update.
use Rattle.std.specs.Prelude.{ℕ, List, [], ◌∷◌, Option, bytes_eq, codes}
use Rattle.std.specs.List.{find}
use Rattle.zone_core.specs.declared.kind.PrerequisiteKind.{PrerequisiteKind}
use Rattle.zone_core.specs.declared.kind.PrerequisiteKind.TheVariants as tests
use Rattle.zone_core.specs.declared.kind.OperationKind.{OperationKind}
use Rattle.zone_core.specs.declared.kind.OperationKind.TheVariants as changes
use Rattle.zone_core.specs.declared.update.ItemList.{ItemList}
use Rattle.zone_core.specs.declared.update.ItemList.TheVariants.{Prerequisites, Operations}
use Rattle.zone_core.specs.declared.update.Prerequisite.{Prerequisite}
use Rattle.zone_core.specs.declared.update.Prerequisite.TheVariants.{RrsetExists, RrsetEquals, RrsetAbsent, NameUsed, NameUnused}
use Rattle.zone_core.specs.declared.update.Operation.{Operation}
use Rattle.zone_core.specs.declared.update.Operation.TheVariants.{Add, DeleteRrset, DeleteName, DeleteRecord}

-- what a kind of prerequisite is called (RFC 2136 section 2.4)
abbrev pub prerequisite_word : PrerequisiteKind → List ℕ
prerequisite_word tests.RrsetExists = codes "rrset-exists"
prerequisite_word tests.RrsetEquals = codes "rrset-equals"
prerequisite_word tests.RrsetAbsent = codes "rrset-absent"
prerequisite_word tests.NameUsed = codes "name-used"
prerequisite_word tests.NameUnused = codes "name-unused"

-- what a kind of operation is called (RFC 2136 section 2.5)
abbrev pub operation_word : OperationKind → List ℕ
operation_word changes.Add = codes "add"
operation_word changes.DeleteRrset = codes "delete-rrset"
operation_word changes.DeleteName = codes "delete-name"
operation_word changes.DeleteRecord = codes "delete-record"

-- what a list of an update is called
abbrev pub list_word : ItemList → List ℕ
list_word Prerequisites = codes "prerequisites"
list_word Operations = codes "operations"

-- the lists of an update
abbrev pub item_lists : List ItemList
item_lists = Prerequisites ∷ Operations ∷ []

-- the list that is called so, as it is written
abbrev pub list_named : List ℕ → Option ItemList
list_named word = find (λ list. bytes_eq (list_word list) word) item_lists

-- the kinds of prerequisites that there are (RFC 2136 section 2.4)
abbrev pub prerequisite_kinds : List PrerequisiteKind
prerequisite_kinds = tests.RrsetExists ∷ tests.RrsetEquals ∷ tests.RrsetAbsent ∷ tests.NameUsed ∷ tests.NameUnused ∷ []

-- the kinds of operations that there are (RFC 2136 section 2.5)
abbrev pub operation_kinds : List OperationKind
operation_kinds = changes.Add ∷ changes.DeleteRrset ∷ changes.DeleteName ∷ changes.DeleteRecord ∷ []

-- the kind of prerequisite that is called so, as it is written
abbrev pub prerequisite_named : List ℕ → Option PrerequisiteKind
prerequisite_named word = find (λ kind. bytes_eq (prerequisite_word kind) word) prerequisite_kinds

-- the kind of operation that is called so, as it is written
abbrev pub operation_named : List ℕ → Option OperationKind
operation_named word = find (λ kind. bytes_eq (operation_word kind) word) operation_kinds

-- the kind of a prerequisite
abbrev pub prerequisite_kind : Prerequisite → PrerequisiteKind
prerequisite_kind (RrsetExists name record_type) = tests.RrsetExists
prerequisite_kind (RrsetEquals name rdata) = tests.RrsetEquals
prerequisite_kind (RrsetAbsent name record_type) = tests.RrsetAbsent
prerequisite_kind (NameUsed name) = tests.NameUsed
prerequisite_kind (NameUnused name) = tests.NameUnused

-- the kind of an operation
abbrev pub operation_kind : Operation → OperationKind
operation_kind (Add r) = changes.Add
operation_kind (DeleteRrset name record_type) = changes.DeleteRrset
operation_kind (DeleteName name) = changes.DeleteName
operation_kind (DeleteRecord name rdata) = changes.DeleteRecord
