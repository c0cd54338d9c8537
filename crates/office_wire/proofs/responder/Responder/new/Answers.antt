use Rattle.office_wire.proofs.responder.Responder.new.Goals as goal

pub returns-clause-fits : goal.returns-clause-fits
returns-clause-fits c = λ s. c.new.ensures c.args.policy.now s
