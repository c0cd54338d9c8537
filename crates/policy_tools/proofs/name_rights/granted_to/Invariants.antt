use Rattle.policy_tools.proofs.NameRightLemmas.{AreWalked}
use Rattle.policy_tools.proofs.name_rights.granted_to.Given as goal

-- what the claims so far granted and decided
abbrev pub invariant-loop-claim : goal.invariant-loop-claim
invariant-loop-claim l = AreWalked l.claims l.callers l.claim-index l.granted.bits l.decided.bits
