use Rattle.std.proofs.Common.{List, ℕ, [], subst, below_more, arith}
use Rattle.std.proofs.lemmas.List.{get_or_read}
use Rattle.policy_tools.specs.Limits.{IsKeptAt}
use Rattle.policy_tools.proofs.LimitLemmas.{kept_all}
use Rattle.policy_tools.proofs.limits.excess_among.Goals as goal

pub loop-name-preserved : goal.loop-name-preserved
loop-name-preserved c =
    let name = c.name-item.result in
    let here : IsKeptAt c.args.rules.now c.args.limit.now name = rw c.in_default.is at c.in_ok-excess.ensures in
    below_more _ _ c.loop-name.invariant (subst (λ (n : List (List ℕ)). IsKeptAt c.args.rules.now c.args.limit.now n) (get_or_read c.args.names.now c.loop-name.name-index name c.loop-name-test.true c.name-item.is []) here)

pub returns : goal.returns
returns c = kept_all c.args.rules.now c.args.limit.now c.args.names.now c.requires.names (λ k lt. c.loop-name.invariant k (omega arith))
