use Rattle.std.proofs.Common.{◌≡◌, drop}
use Rattle.policy_tools.specs.NameRights.{listed_of}
use Rattle.policy_tools.proofs.name_rights.NameRights.of.Given as goal

-- none of the rows so far is the caller's
abbrev pub invariant-loop-row : goal.invariant-loop-row
invariant-loop-row l = listed_of l.self.named.items l.self.others l.caller ≡ listed_of (drop l.row-index l.self.named.items) l.self.others l.caller
