use Rattle.std.proofs.Common.{[], ◌∷◌, ◌++◌, map, take, sym, ap, subst, ◌∙◌}
use Rattle.std.specs.List.{AllByRecursion}
use Rattle.std.proofs.lemmas.List.{take_all, take_more, map_push}
use Rattle.dns_names.proofs.CutLemmas.{AllByRecursion-push}
use Rattle.zone_core.specs.declared.report.Delegation.{Delegation}
use Rattle.zone_core.specs.Delegations.{IsDelegation, AreNamesOf, cut_owners}
use Rattle.zone_core.proofs.NameListLemmas.{report_is}
use Rattle.zone_core.proofs.report.delegation_report.Goals as goal

pub loop-child-preserved : goal.loop-child-preserved
loop-child-preserved c =
    let rs = c.args.records.now in
    let items = c.deref-child-items.result.now in
    let i = c.loop-child.child-index in
    let child = c.child-item.result in
    let ds = c.loop-child.delegations.items in
    let d = c.in_ok-delegation_of.field-0 in
    let made = c.in_ok-delegation_of.ensures in
    let grown = c.in_ok-push.ensures.items in (
      ap (map (λ (x : Delegation). x.child)) grown ∙ map_push (λ (x : Delegation). x.child) ds d
          ∙ (λ j. c.loop-child.invariant.0 j ++ made.child j ∷ [])
          ∙ sym (take_more items i child c.loop-child-test.true ∙ ap (λ x. take i items ++ x ∷ []) (sym c.child-item.is)),
      subst (AllByRecursion (IsDelegation rs)) (sym grown) (AllByRecursion-push (IsDelegation rs) ds d c.loop-child.invariant.1 made.servers),
    )

pub returns-clause-found : goal.returns-clause-found
returns-clause-found c =
    let items = c.deref-child-items.result.now in
    let all = c.loop-child.invariant.0 ∙ take_all c.loop-child.child-index items c.loop-child-test.false ∙ c.deref-child-items.ensures.value in
    record {
      children = subst (λ ns. AreNamesOf ns (cut_owners c.args.origin.now c.args.records.now)) (sym all) c.in_ok-children.ensures;
      each = c.loop-child.invariant.1;
    }

pub returns-clause-exact : goal.returns-clause-exact
returns-clause-exact c = report_is c.args.origin.now c.args.records.now c.loop-child.delegations.items (returns-clause-found c)
