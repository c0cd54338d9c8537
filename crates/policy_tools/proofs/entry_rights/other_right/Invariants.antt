use Rattle.std.proofs.Common.{take}
use Rattle.std.specs.List.{Contains}
use Rattle.policy_tools.specs.declared.claims.Entry.{Entry}
use Rattle.policy_tools.specs.declared.exposure.Right.{Right}
use Rattle.policy_tools.specs.EntryRights.{GrantsOthers}
use Rattle.policy_tools.proofs.entry_rights.other_right.Given as goal

-- none of the entries so far grants others a change
abbrev pub invariant-loop-entry : goal.invariant-loop-entry
invariant-loop-entry l = (e : Entry) (right : Right) → Contains (take l.entry-index l.entries) e → ¬ GrantsOthers l.caller e right
