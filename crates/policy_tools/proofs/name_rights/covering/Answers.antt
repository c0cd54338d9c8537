use Rattle.policy_tools.proofs.NameRightLemmas.{claims_yes, claims_no, claims_all}
use Rattle.policy_tools.proofs.name_rights.covering.Goals as goal
use Rattle.policy_tools.proofs.name_rights.covering.Goals.{then-covers+in_ok-push, else-covers}
use Rattle.std.proofs.Common.{sym, ◌∙◌}

pub loop-claim-preserved : goal.loop-claim-preserved
loop-claim-preserved c =
    let claims = c.args.claims.now in
    let name = c.args.name.now in
    let n = c.loop-claim.claim-index in
    let claim = c.claim-item.result in
    elim c.if-covers.branch [
      | then-covers+in_ok-push w ↦ rw (w.covering-is, w.in_ok-push.ensures.items) (claims_yes claims name n c.loop-claim.covering.items claim c.loop-claim-test.true c.claim-item.is (sym c.covers.ensures.value ∙ w.if-covers.true) c.loop-claim.invariant)
      | else-covers w ↦ rw w.covering-is (claims_no claims name n c.loop-claim.covering.items claim c.loop-claim-test.true c.claim-item.is (sym c.covers.ensures.value ∙ w.if-covers.false) c.loop-claim.invariant)
    ]

pub returns : goal.returns
returns c = claims_all c.args.claims.now c.args.name.now c.loop-claim.claim-index c.loop-claim.covering.items c.loop-claim-test.false c.loop-claim.invariant
