use Rattle.std.proofs.Common.{List, [], ◌∷◌, ◌++◌, take, refl, sym, ap, ◌∙◌}
use Rattle.std.proofs.lemmas.List.{map_push, take_more, take_all}
use Rattle.std.proofs.lemmas.List.Elements.{All-nil, All-push}
use Rattle.policy_tools.specs.declared.claims.Claim.{Claim}
use Rattle.grant_policy.specs.declared.rule.Rule.{Rule}
use Rattle.policy_tools.specs.Claims.{IsClaim}
use Rattle.policy_tools.proofs.claims.claims_of.Goals as goal

pub loop-rule-init : goal.loop-rule-init
loop-rule-init c = rw c.new-claims.ensures.items (record { rules = refl; claims = All-nil IsClaim })

pub returns-clause-rules : goal.returns-clause-rules
returns-clause-rules c = c.loop-rule.invariant.rules ∙ take_all c.loop-rule.rule-index c.args.rules.now c.loop-rule-test.false

pub returns-clause-claims : goal.returns-clause-claims
returns-clause-claims c = c.loop-rule.invariant.claims

pub loop-rule-preserved : goal.loop-rule-preserved
loop-rule-preserved c =
    let rules = c.args.rules.now in
    let n = c.loop-rule.rule-index in
    let claims = c.loop-rule.claims.items in
    let rule = c.rule-item.result in
    rw c.in_ok-push.ensures.items (record {
      rules = map_push (λ (x : Claim). x.rule.now) claims _
          ∙ ap (λ (xs : List Rule). xs ++ c.claim_of.result.rule.now ∷ []) c.loop-rule.invariant.rules
          ∙ ap (λ (x : Rule). take n rules ++ x ∷ []) (c.claim_of.ensures.rule ∙ c.rule-item.is)
          ∙ sym (take_more rules n rule c.loop-rule-test.true);
      claims = All-push IsClaim claims _ c.loop-rule.invariant.claims c.claim_of.ensures.claim;
    })
