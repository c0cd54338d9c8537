use Rattle.std.proofs.Common.{option_map, ap, sym, subst, ◌∙◌}
use Rattle.grant_policy.specs.Grants.{GrantsOf}
use Rattle.grant_policy.specs.Reach.{GrantsWithinSome}
use Rattle.grant_policy.specs.declared.action.Action.TheVariants as action
use Rattle.zone_core.specs.Outermost.{AreApart}
use Rattle.office_model.specs.Tables.{included}
use Rattle.office_core.specs.Subtrees.{subtrees_at}
use Rattle.office_core.proofs.SubtreeLemmas.{by_subtrees, on_ok}
use Rattle.office_core.proofs.listed.listed_of.Goals as goal

pub returns-clause-answer : goal.returns-clause-answer
returns-clause-answer g c =
    let rules = c.args.policy.now in
    let caller = c.args.caller.now in
    let origin = c.args.origin.now in
    let tops = c.deref.result.now in
    let apart = subst AreApart (sym c.deref.ensures.value) c.in_ok-tops.ensures.apart in
    let granted = subst (GrantsWithinSome rules caller action.List origin) (sym c.deref.ensures.value) c.in_ok-tops.ensures.granted in
    λ honest. on_ok c.within_each.result
    (λ found tells s holds.
    tells s holds
    ∙ ap (λ (gs : GrantsOf). option_map (included gs) (subtrees_at s origin tops)) c.new-grants.ensures
    ∙ by_subtrees rules caller origin s tops (g.met.T.ZoneTable.zones c.args.table.now s holds) apart granted)
    (c.within_each.ensures.answer honest)
