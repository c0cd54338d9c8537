-- What the program sees of an item of an update.
use Rattle.std.specs.Prelude.{ℕ, List, Option}
use Rattle.dns_data.specs.declared.record_type.RecordType.{RecordType}
use Rattle.grant_policy.specs.declared.action.Action.{Action}
use Rattle.zone_core.specs.Updates.{tested_name, acted_name}
use Rattle.office_core.specs.declared.item.Item.{Item}
use Rattle.office_core.specs.declared.item.Item.TheVariants as item
use Rattle.office_core.specs.Footprints.{prerequisite_action, operation_action}

-- the name of its points
abbrev pub item_name : Item → List (List ℕ)
item_name (item.Prerequisite p) = tested_name p.now
item_name (item.Operation origin op) = acted_name op.now

-- what it asks to do with the records of a type
abbrev pub item_action : Item → RecordType → Option Action
item_action (item.Prerequisite p) record_type = prerequisite_action p.now record_type
item_action (item.Operation origin op) record_type = operation_action origin.now op.now record_type
