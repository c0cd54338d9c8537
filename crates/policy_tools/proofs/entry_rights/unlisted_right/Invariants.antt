use Rattle.std.proofs.Common.{take}
use Rattle.std.specs.List.{Contains}
use Rattle.policy_tools.specs.declared.claims.Entry.{Entry}
use Rattle.policy_tools.specs.declared.exposure.Right.{Right}
use Rattle.policy_tools.specs.EntryRights.{GrantsUnlisted}
use Rattle.policy_tools.proofs.entry_rights.unlisted_right.Given as goal

-- none of the entries so far grants one of the pairs to others
abbrev pub invariant-loop-entry : goal.invariant-loop-entry
invariant-loop-entry l = (e : Entry) (right : Right) → Contains (take l.entry-index l.entries) e → ¬ GrantsUnlisted l.listed l.wanted.bits e right
