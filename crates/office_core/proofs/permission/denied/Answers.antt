use Rattle.office_core.specs.Footprints.{footprint}
use Rattle.office_core.proofs.PermissionLaws.{if_denied, if_permitted}
use Rattle.office_core.proofs.permission.denied.Goals as goal

pub returns-clause-permitted : goal.returns-clause-permitted
returns-clause-permitted c = if_permitted c.args.policy.now c.args.caller.now c.args.origin.now c.args.update.now c.first_denied.result c.first_denied.ensures.denial

pub returns-clause-first : goal.returns-clause-first
returns-clause-first c = if_denied c.args.policy.now c.args.caller.now (footprint c.args.origin.now c.args.update.now) c.first_denied.result c.first_denied.ensures.denial
