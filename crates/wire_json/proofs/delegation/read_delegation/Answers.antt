use Rattle.wire_json.proofs.FormLaws.{delegation_only}
use Rattle.wire_json.proofs.delegation.read_delegation.Goals as goal

pub returns-clause-only : goal.returns-clause-only
returns-clause-only c = λ id request h. rw (← delegation_only c.args.origin.now c.args.body.now id request h) c.delegation_of_body.ensures.exact
