use Rattle.std.proofs.Common.{List, ℕ, [], subst}
use Rattle.policy_tools.specs.FreeNames.{AddsServed}
use Rattle.policy_tools.proofs.representatives.with_root.Goals as goal

pub returns : goal.returns
returns c =
    let rules = c.args.rules.now in
    let new = c.add_with_child.new.names.items in
    subst (λ (top : List (List ℕ)). AddsServed rules top [] new) c.in_ok-root.ensures
    (subst (λ (old : List (List (List ℕ))). AddsServed rules c.in_ok-root.root old new) c.new-names.ensures.items c.in_ok-add_with_child.ensures.added)
