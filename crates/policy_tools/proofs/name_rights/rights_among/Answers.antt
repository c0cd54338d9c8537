use Rattle.policy_tools.proofs.NameRightLemmas.{rights_ok}
use Rattle.policy_tools.proofs.name_rights.rights_among.Goals as goal

pub returns : goal.returns
returns c = rights_ok c.args.claims.now c.in_ok-covering.covering.items c.deref.result.now c.args.name.now c.rights_by.result c.requires c.in_ok-covering.ensures c.deref.ensures.value c.rights_by.ensures
