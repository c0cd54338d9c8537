use Rattle.std.proofs.Common.{List, ℕ, [], ◌∷◌, ◌++◌, Some, None, sym, ap, ◌∙◌, subst}
use Rattle.std.proofs.lemmas.List.{append-nil}
use Rattle.policy_tools.specs.FreeNames.{IsFreeChild}
use Rattle.policy_tools.proofs.representatives.add_with_child.Goals as goal

pub returns-in_default-clause-added : goal.returns-in_default-clause-added
returns-in_default-clause-added c =
    let top = c.args.top.now in
    record {
      child = None;
      free = subst (IsFreeChild c.args.rules.now top) c.in_default.is c.in_ok-found.ensures;
      added = c.in_ok-add_copy.ensures.added ∙ sym (append-nil (c.args.names.now.items ++ top ∷ []));
    }

pub returns-clause-added : goal.returns-clause-added
returns-clause-added c =
    let child = c.in-Some.child in
    record {
      child = Some child;
      free = subst (IsFreeChild c.args.rules.now c.args.top.now) c.in-Some.is c.in_ok-found.ensures;
      added = c.in_ok-push.ensures.items ∙ ap (λ (l : List (List (List ℕ))). l ++ child ∷ []) c.in_ok-add_copy.ensures.added;
    }
