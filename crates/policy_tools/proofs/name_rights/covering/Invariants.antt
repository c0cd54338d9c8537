use Rattle.std.proofs.Common.{◌≡◌, take}
use Rattle.policy_tools.specs.NameRights.{claims_at}
use Rattle.policy_tools.proofs.name_rights.covering.Given as goal

-- the claims so far that cover the name
abbrev pub invariant-loop-claim : goal.invariant-loop-claim
invariant-loop-claim l = l.covering.items ≡ claims_at (take l.claim-index l.claims) l.name
