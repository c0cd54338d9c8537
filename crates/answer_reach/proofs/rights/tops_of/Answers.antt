use Rattle.std.proofs.Common.{List, sym, subst}
use Rattle.std.specs.List.Sorted.{IsSorted}
use Rattle.dns_names.specs.Order.{canonical_cmp}
use Rattle.zone_core.specs.Delegations.{AreNamesOf}
use Rattle.zone_core.specs.Outermost.{AreOutermost}
use Rattle.zone_answers.specs.Answers.{Name}
use Rattle.answer_reach.proofs.GrowLemmas.{sorted_names_of}
use Rattle.answer_reach.proofs.RightsLemmas.{tops_are}
use Rattle.answer_reach.proofs.rights.tops_of.Goals as goal

pub outermost-requires : goal.outermost-requires
outermost-requires c =
    subst (λ (names : List Name). IsSorted canonical_cmp names) (sym c.deref.ensures.value) (sorted_names_of c.in_ok-all.all.items c.in_ok-names.names.items c.in_ok-all.ensures)

pub returns : goal.returns
returns c =
    let all = c.in_ok-all.all.items in
    let tops = c.in_ok-tops.tops.items in
    tops_are c.args.rules.now c.args.caller.now all tops
    (subst (λ (names : List Name). AreNamesOf all names) c.in_ok-names.ensures c.in_ok-all.ensures)
    (subst (λ (names : List Name). AreOutermost names tops) c.deref.ensures.value c.in_ok-tops.ensures)
