use Rattle.wire_json.proofs.FormLaws.{update_only}
use Rattle.wire_json.proofs.update.read_update.Goals as goal

pub returns-clause-only : goal.returns-clause-only
returns-clause-only c = λ id update h. rw (← update_only c.args.body.now id update h) c.update_of_body.ensures.exact
