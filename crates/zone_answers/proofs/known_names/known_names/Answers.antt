use Rattle.std.proofs.Common.{◌≡◌, List, ◌++◌, IfOk, ap, sym, subst, ◌∙◌}
use Rattle.std.specs.List.{flat_map}
use Rattle.std.proofs.lemmas.Grind.{flat_map-append}
use Rattle.zone_core.specs.Delegations.{AreNamesOf}
use Rattle.zone_answers.specs.Answers.{Name}
use Rattle.zone_answers.specs.ChangeTests.{known_by}
use Rattle.zone_answers.proofs.known_names.known_names.Goals as goal

pub returns : goal.returns
returns c =
    let f = known_by c.args.origin.now in
    let old = c.args.old.now in
    let new = c.args.new.now in
    let first : c.push_known.new.names.items ≡ flat_map f old = c.in_ok-push_known.ensures ∙ ap (λ (l : List Name). l ++ flat_map f old) c.new-names.ensures.items in
    let all : c.push_known-2.new.names.items ≡ flat_map f (old ++ new) =
    c.in_ok-push_known-2.ensures ∙ ap (λ (l : List Name). l ++ flat_map f new) first ∙ sym (flat_map-append f old new) in
    subst (λ (names : List Name). IfOk c.ordered.result (λ ordered. AreNamesOf ordered.items names)) all c.ordered.ensures
