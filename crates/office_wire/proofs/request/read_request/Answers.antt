use Rattle.office_wire.proofs.request.read_request.Goals as goal

pub returns-in-RecordsWithin-clause-exact : goal.returns-in-RecordsWithin-clause-exact
returns-in-RecordsWithin-clause-exact c = rw c.in-RecordsWithin.is (c.read_within.ensures.exact c.args.body.now)

pub returns-in-Changes-clause-exact : goal.returns-in-Changes-clause-exact
returns-in-Changes-clause-exact c = rw c.in-Changes.is (c.read_changes.ensures.exact c.args.body.now)

pub returns-in-Rights-clause-exact : goal.returns-in-Rights-clause-exact
returns-in-Rights-clause-exact c = rw c.in-Rights.is (c.read_rights.ensures.exact c.args.body.now)
