use Rattle.std.proofs.Common.{sym, ◌∙◌}
use Rattle.std.proofs.lemmas.Bool.{both_ways}
use Rattle.policy_tools.proofs.ClaimLemmas.{item_at, among}
use Rattle.policy_tools.proofs.LimitLemmas.{unlisted_more}
use Rattle.policy_tools.proofs.entry_rights.unlisted_right.Goals as goal
use Rattle.policy_tools.proofs.entry_rights.unlisted_right.Goals.{then-not-are_listed+in_default, else-not-are_listed}

pub returns-in-Some : goal.returns-in-Some
returns-in-Some c =
    let entries = c.args.entries.now in
    let n = c.loop-entry.entry-index in
    let e = c.entry-item.result in
    (e, among entries n e (item_at entries n e c.loop-entry-test.true c.entry-item.is), record { unlisted = sym c.are_listed.ensures ∙ c.if-not-are_listed.true; grant = c.in-Some.ensures })

pub loop-entry-preserved : goal.loop-entry-preserved
loop-entry-preserved c =
    let entries = c.args.entries.now in
    let listed = c.args.listed.now in
    let n = c.loop-entry.entry-index in
    let e = c.entry-item.result in
    elim c.if-not-are_listed.branch [
      | then-not-are_listed+in_default w ↦ unlisted_more listed c.args.wanted.bits entries n e c.loop-entry-test.true c.entry-item.is (λ right g. w.in_default.ensures right g.grant) c.loop-entry.invariant
      | else-not-are_listed w ↦ unlisted_more listed c.args.wanted.bits entries n e c.loop-entry-test.true c.entry-item.is (λ right g. both_ways c.are_listed.result (c.are_listed.ensures ∙ g.unlisted) w.if-not-are_listed.false) c.loop-entry.invariant
    ]
