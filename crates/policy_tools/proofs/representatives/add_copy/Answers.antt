use Rattle.std.proofs.Common.{List, ℕ, [], ◌∷◌, ◌++◌, ap, ◌∙◌}
use Rattle.policy_tools.proofs.representatives.add_copy.Goals as goal

pub returns-clause-added : goal.returns-clause-added
returns-clause-added c = c.in_ok-push.ensures.items ∙ ap (λ (n : List (List ℕ)). c.args.names.now.items ++ n ∷ []) c.in_ok-copy.ensures
