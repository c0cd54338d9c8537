use Rattle.std.proofs.Common.{rules}
use Rattle.office_core.proofs.FootprintLemmas.{operation_asks}
use Rattle.office_core.proofs.footprint.operation_asks.Goals as goal

pub returns-then-not-changes_type-clause-asks : goal.returns-then-not-changes_type-clause-asks
returns-then-not-changes_type-clause-asks c = operation_asks c.args.origin.now c.args.operation.now c.args.record_type _ (search rules)

pub returns-then-delegates-clause-asks : goal.returns-then-delegates-clause-asks
returns-then-delegates-clause-asks c = operation_asks c.args.origin.now c.args.operation.now c.args.record_type _ (search rules)

pub returns-clause-asks : goal.returns-clause-asks
returns-clause-asks c = operation_asks c.args.origin.now c.args.operation.now c.args.record_type _ (search rules)
