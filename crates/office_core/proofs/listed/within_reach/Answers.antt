use Rattle.std.proofs.Common.{option_map, ap, subst, ◌∙◌}
use Rattle.grant_policy.specs.declared.action.Action.TheVariants as action
use Rattle.grant_policy.specs.Grants.{GrantsOf}
use Rattle.grant_policy.specs.Reach.{IsReach}
use Rattle.office_model.specs.States.{subtree_at}
use Rattle.office_model.specs.Tables.{included}
use Rattle.office_core.proofs.SubtreeLemmas.{by_none, by_subtree, on_ok}
use Rattle.office_core.proofs.listed.within_reach.Goals as goal

pub returns-in_default-clause-answer : goal.returns-in_default-clause-answer
returns-in_default-clause-answer g c =
    let rules = c.args.policy.now in
    let caller = c.args.caller.now in
    let origin = c.args.origin.now in
    let nowhere = subst (IsReach rules caller action.List origin) c.in_default.is c.in_ok-top.ensures in
    λ honest. on_ok c.none_of.result (λ found tells s holds. tells s holds ∙ by_none rules caller origin s (g.met.T.ZoneTable.zones c.args.table.now s holds) nowhere.granted) (c.none_of.ensures.answer honest)

pub returns-clause-answer : goal.returns-clause-answer
returns-clause-answer g c =
    let rules = c.args.policy.now in
    let caller = c.args.caller.now in
    let origin = c.args.origin.now in
    let reaches = subst (IsReach rules caller action.List origin) c.in-Some.is c.in_ok-top.ensures in
    λ honest. on_ok c.subtree.result
    (λ found tells s holds.
    tells s holds
    ∙ ap (λ (gs : GrantsOf). option_map (included gs) (subtree_at s origin c.in-Some.top)) c.new-grants.ensures
    ∙ by_subtree rules caller origin s c.in-Some.top (g.met.T.ZoneTable.zones c.args.table.now s holds) reaches.granted)
    (c.subtree.ensures.answer honest)
