use Rattle.std.proofs.lemmas.Bool.{both_ways}
use Rattle.policy_tools.proofs.ClaimLemmas.{item_at, among}
use Rattle.policy_tools.proofs.EntryRightLemmas.{others_more, others_grant, grant_others}
use Rattle.policy_tools.proofs.entry_rights.other_right.Goals as goal
use Rattle.policy_tools.proofs.entry_rights.other_right.Goals.{then-not-is_only+in_default, else-not-is_only}

pub returns-in-Some : goal.returns-in-Some
returns-in-Some c =
    let entries = c.args.entries.now in
    let n = c.loop-entry.entry-index in
    let e = c.entry-item.result in (
      e,
      among entries n e (item_at entries n e c.loop-entry-test.true c.entry-item.is),
      grant_others c.args.caller.now e c.wanted-changes.result.bits c.in-Some.right c.wanted-changes.ensures (λ only. both_ways c.is_only.result c.if-not-is_only.true (c.is_only.ensures.1 only)) c.in-Some.ensures,
    )

pub loop-entry-preserved : goal.loop-entry-preserved
loop-entry-preserved c =
    let entries = c.args.entries.now in
    let caller = c.args.caller.now in
    let n = c.loop-entry.entry-index in
    let e = c.entry-item.result in
    elim c.if-not-is_only.branch [
      | then-not-is_only+in_default w ↦ others_more caller entries n e c.loop-entry-test.true c.entry-item.is (λ right g. w.in_default.ensures right (others_grant caller e c.wanted-changes.result.bits right c.wanted-changes.ensures g)) c.loop-entry.invariant
      | else-not-is_only w ↦ others_more caller entries n e c.loop-entry-test.true c.entry-item.is (λ right g. g.others (c.is_only.ensures.0 w.if-not-is_only.false)) c.loop-entry.invariant
    ]
