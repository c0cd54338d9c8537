use Rattle.std.proofs.Common.{◌≡◌, ◌++◌, List, drop}
use Rattle.dns_data.specs.declared.record_type.RecordType.{RecordType}
use Rattle.dns_data.specs.Types.{kept_types}
use Rattle.zone_core.specs.declared.update.ItemList.TheVariants as lists
use Rattle.zone_core.specs.Updates.{place_in, acted_name}
use Rattle.office_core.specs.Footprints.{points_at, operation_action}
use Rattle.cli_updates.specs.Explained.{point_texts}
use Rattle.cli_updates.proofs.explained.Explainer.push_operation.Given as goal

-- the texts so far, and those of the types that are left
abbrev pub invariant-loop-record_type : goal.invariant-loop-record_type
invariant-loop-record_type l =
    let texts = λ (ts : List RecordType). point_texts l.fn.self.form l.fn.self.policy.now l.fn.self.caller.now (points_at (place_in lists.Operations l.item) (acted_name l.operation) (operation_action l.origin l.operation) ts) in
    l.text.items ++ texts (drop l.record_type-index kept_types) ≡ l.initial.text.items ++ texts kept_types
