use Rattle.std.proofs.Common.{◌≡◌, ℕ, ◌+◌, ◌<◌, ◌≤◌, List, length, get_or, drop, Option, sym, ap, subst, ◌∙◌}
use Rattle.std.specs.Option.{option_copied}
use Rattle.grant_policy.specs.declared.rule.Rule.{Rule}
use Rattle.grant_policy.proofs.ReachLemmas.{ReachesSoFar, all_reached, reached, skipped}
use Rattle.grant_policy.proofs.reaching.reach.Goals.{in-Some+in_ok-widened, in_default}
use Rattle.grant_policy.proofs.reaching.reach.Goals as goal

pub loop-rule-preserved : goal.loop-rule-preserved
loop-rule-preserved c =
    let rules = c.args.policy.now in
    let caller = c.args.caller.now in
    let action = c.args.action in
    let origin = c.args.origin.now in
    let i = c.loop-rule.rule-index in
    let rule = c.rule-item.result in
    let same = c.rules-rule-items.ensures.rules in
    let before = subst (λ (rs : List Rule). ReachesSoFar rules caller action origin (drop i rs) c.loop-rule.so_far) same c.loop-rule.invariant in
    let lt = subst (λ (rs : List Rule). i < length rs) same c.loop-rule-test.true in
    let is = subst (λ (rs : List Rule). rule ≡ get_or rs i rule) same c.rule-item.is in
    let after = λ (so_far : Option (List (List ℕ))) (reaches : ReachesSoFar rules caller action origin (drop (i + 1) rules) so_far) (told : c.match-reach_of.so_far ≡ so_far).
    subst (λ (rs : List Rule). ReachesSoFar rules caller action origin (drop (i + 1) rs) c.match-reach_of.so_far) (sym same)
    (subst (ReachesSoFar rules caller action origin (drop (i + 1) rules)) (sym told) reaches) in
    elim c.match-reach_of.branch [
      | in-Some+in_ok-widened w ↦ after _ (reached rules caller action origin i rule c.loop-rule.so_far w.in-Some.name.now _ lt is (sym c.reach_of.ensures ∙ ap option_copied w.in-Some.is) w.in_ok-widened.ensures before) w.so_far-is
      | in_default w ↦ after _ (skipped rules caller action origin i rule c.loop-rule.so_far lt is (sym c.reach_of.ensures ∙ ap option_copied w.in_default.is) before) w.so_far-is
    ]

pub returns : goal.returns
returns c =
    let same = c.rules-rule-items.ensures.rules in
    let i = c.loop-rule.rule-index in
    all_reached c.args.policy.now c.args.caller.now c.args.action c.args.origin.now c.loop-rule.so_far i
    (subst (λ (rs : List Rule). length rs ≤ i) same c.loop-rule-test.false)
    (subst (λ (rs : List Rule). ReachesSoFar c.args.policy.now c.args.caller.now c.args.action c.args.origin.now (drop i rs) c.loop-rule.so_far) same c.loop-rule.invariant)
