use Rattle.std.proofs.Common.{◌≡◌, ℕ, length, subst, arith}
use Rattle.policy_tools.specs.NameRights.{AreRows}
use Rattle.policy_tools.proofs.NameRightLemmas.{rows_first, rows_more, rule_here}
use Rattle.policy_tools.proofs.name_rights.rights_by.Goals as goal

pub loop-claim-init : goal.loop-claim-init
loop-claim-init c = rw c.new-named.ensures.items (rows_first c.args.claims.now c.granted_to-others.result.bits)

pub loop-claim-preserved : goal.loop-claim-preserved
loop-claim-preserved c =
    let claims = c.args.claims.now in
    let n = c.loop-claim.claim-index in
    let claim = c.claim-item.result in
    let here = rule_here claims n claim c.loop-claim-test.true c.claim-item.is in
    rows_more claims c.granted_to-others.result.bits n claim.rule.now c.loop-claim.named.items c.add_row.new.named.items here.0 here.1 c.in_ok-add_row.ensures c.loop-claim.invariant

pub returns : goal.returns
returns c =
    let claims = c.args.claims.now in
    let n = c.loop-claim.claim-index in
    let all : n ≡ length claims = omega (arith, c.loop-claim.auto.claim-index-end, c.loop-claim-test.false) in
    rw c.of.ensures (record {
      others = c.granted_to-others.ensures;
      rows = subst (λ (m : ℕ). AreRows claims c.granted_to-others.result.bits m c.loop-claim.named.items) all c.loop-claim.invariant;
    })
