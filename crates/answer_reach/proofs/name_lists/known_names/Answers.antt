use Rattle.std.proofs.Common.{◌≡◌, List, ◌++◌, IfOk, ap, subst, ◌∙◌}
use Rattle.std.specs.List.{flat_map}
use Rattle.zone_core.specs.Delegations.{AreNamesOf}
use Rattle.zone_answers.specs.Answers.{Name}
use Rattle.answer_reach.specs.ReachTests.{named_by, named_by_rule}
use Rattle.answer_reach.proofs.name_lists.known_names.Goals as goal

pub returns : goal.returns
returns c =
    let f = flat_map (named_by c.args.origin.now) c.args.records.now in
    let g = flat_map (named_by_rule c.args.origin.now) c.args.rules.now in
    let first : c.push_by_records.new.names.items ≡ f = c.in_ok-push_by_records.ensures ∙ ap (λ (l : List Name). l ++ f) c.new-names.ensures.items in
    let all : c.push_by_rules.new.names.items ≡ f ++ g = c.in_ok-push_by_rules.ensures ∙ ap (λ (l : List Name). l ++ g) first in
    subst (λ (names : List Name). IfOk c.ordered.result (λ ordered. AreNamesOf ordered.items names)) all c.ordered.ensures
