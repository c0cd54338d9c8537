use Rattle.std.proofs.Common.{sym, ◌∙◌}
use Rattle.policy_tools.proofs.NameRightLemmas.{walked_first, walked_yes, walked_no, walked_all}
use Rattle.policy_tools.proofs.name_rights.granted_to.Goals as goal
use Rattle.policy_tools.proofs.name_rights.granted_to.Goals.{then-include_all, else-include_all}

pub loop-claim-init : goal.loop-claim-init
loop-claim-init c = walked_first c.args.claims.now c.args.callers.now c.none-granted.result.bits c.none-decided.result.bits c.none-granted.ensures c.none-decided.ensures

pub loop-claim-preserved : goal.loop-claim-preserved
loop-claim-preserved c =
    let claims = c.args.claims.now in
    let callers = c.args.callers.now in
    let n = c.loop-claim.claim-index in
    let granted = c.loop-claim.granted.bits in
    let decided = c.loop-claim.decided.bits in
    let claim = c.claim-item.result in
    let lt = c.loop-claim-test.true in
    elim c.if-include_all.branch [
      | then-include_all w ↦ rw (w.granted-is, w.decided-is)
          (walked_yes claims callers n granted decided claim w.grants_of.result.bits w.without.result.bits w.with-granted.result.bits w.with-decided.result.bits lt c.claim-item.is
          (sym c.include_all.ensures ∙ w.if-include_all.true) w.grants_of.ensures w.without.ensures w.with-granted.ensures w.with-decided.ensures c.loop-claim.invariant)
      | else-include_all w ↦ rw (w.granted-is, w.decided-is) (walked_no claims callers n granted decided claim lt c.claim-item.is (sym c.include_all.ensures ∙ w.if-include_all.false) c.loop-claim.invariant)
    ]

pub returns : goal.returns
returns c = walked_all c.args.claims.now c.args.callers.now c.loop-claim.claim-index c.loop-claim.granted.bits c.loop-claim.decided.bits c.loop-claim-test.false c.loop-claim.invariant
