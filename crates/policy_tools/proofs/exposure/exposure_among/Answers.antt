use Rattle.std.proofs.Common.{List, ℕ, [], subst, below_more, arith}
use Rattle.std.proofs.lemmas.List.{get_or_read}
use Rattle.grant_policy.specs.Isolated.{IsIsolatedAt}
use Rattle.policy_tools.proofs.IsolatedLemmas.{isolated_all}
use Rattle.policy_tools.proofs.exposure.exposure_among.Goals as goal

pub loop-name-preserved : goal.loop-name-preserved
loop-name-preserved c =
    let name = c.name-item.result in
    let here : IsIsolatedAt c.args.rules.now c.args.caller.now name = rw c.in_default.is at c.in_ok-exposure.ensures in
    below_more _ _ c.loop-name.invariant (subst (λ (n : List (List ℕ)). IsIsolatedAt c.args.rules.now c.args.caller.now n) (get_or_read c.args.names.now c.loop-name.name-index name c.loop-name-test.true c.name-item.is []) here)

pub returns : goal.returns
returns c = isolated_all c.args.rules.now c.args.caller.now c.args.names.now c.requires.names (λ k lt. c.loop-name.invariant k (omega arith))
