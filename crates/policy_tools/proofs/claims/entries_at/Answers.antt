use Rattle.std.proofs.Common.{sym, ◌∙◌, subst}
use Rattle.std.proofs.lemmas.List.Elements.{All-get_or}
use Rattle.policy_tools.specs.declared.claims.Claim.{Claim}
use Rattle.policy_tools.specs.Claims.{IsClaim, rules_of}
use Rattle.policy_tools.proofs.ClaimLemmas.{rule_at, claim_entry, no_entry}
use Rattle.policy_tools.proofs.claims.entries_at.Goals as goal
use Rattle.policy_tools.proofs.claims.entries_at.Goals.{then-covers+in_ok-push, else-covers}

pub loop-number-preserved : goal.loop-number-preserved
loop-number-preserved c =
    let claims = c.args.claims.now in
    let name = c.args.name.now in
    let n = c.loop-number.number in
    let entries = c.loop-number.entries.items in
    let claim = c.index-claims-number.result in
    let lt = c.loop-number-test.true in
    let at = rule_at claims n claim lt c.index-claims-number.is in
    let is = subst (λ (x : Claim). IsClaim x) (sym c.index-claims-number.is) (All-get_or IsClaim claims n claim lt c.requires) in
    elim c.if-covers.branch [
      | then-covers+in_ok-push w ↦ rw (w.entries-is, w.in_ok-push.ensures.items)
          (claim_entry (rules_of claims) name n entries w.entry_behind-entry.result claim c.loop-number.invariant w.entry_behind-entry.ensures.number w.entry_behind-entry.ensures.claim at is.0
          (sym c.covers.ensures.value ∙ w.if-covers.true)
          (rw (← w.deref.ensures.value) w.entry_behind-entry.ensures.left))
      | else-covers w ↦ rw w.entries-is (no_entry (rules_of claims) name n entries claim.rule.now c.loop-number.invariant at (sym c.covers.ensures.value ∙ w.if-covers.false))
    ]
