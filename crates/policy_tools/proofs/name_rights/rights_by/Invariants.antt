use Rattle.policy_tools.specs.NameRights.{AreRows}
use Rattle.policy_tools.proofs.name_rights.rights_by.Given as goal

-- the rows of the claims so far
abbrev pub invariant-loop-claim : goal.invariant-loop-claim
invariant-loop-claim l = AreRows l.claims l.others.bits l.claim-index l.named.items
