use Rattle.std.proofs.Common.{List, ℕ, [], ◌∷◌, ◌++◌, map, ap, ◌∙◌}
use Rattle.std.proofs.lemmas.List.Elements.{All-push, All-nil}
use Rattle.dns_names.specs.Labels.{IsName}
use Rattle.dns_names.proofs.PlacedLemmas.{root_is}
use Rattle.grant_policy.specs.declared.rule.Rule.{Rule}
use Rattle.policy_tools.proofs.name_groups.names_of.Goals as goal

pub returns-clause-names : goal.returns-clause-names
returns-clause-names c =
    let more = λ (l : List (List (List ℕ))). l ++ map (λ (r : Rule). r.at) c.args.rules.now in
    c.in_ok-add_names.ensures.added ∙ ap more (c.in_ok-add_root.ensures ∙ ap (λ (l : List (List (List ℕ))). l ++ [] ∷ []) c.new-names.ensures.items)

pub returns-clause-valid : goal.returns-clause-valid
returns-clause-valid c =
    c.in_ok-add_names.ensures.valid (rw (c.in_ok-add_root.ensures, c.new-names.ensures.items) (All-push IsName [] [] (All-nil IsName) root_is))
