use Rattle.std.proofs.Common.{List, sym, subst}
use Rattle.std.specs.List.Sorted.{IsSorted}
use Rattle.dns_names.specs.Order.{canonical_cmp}
use Rattle.dns_data.specs.declared.record.Record.{Record}
use Rattle.zone_core.specs.Outermost.{AreOutermost}
use Rattle.zone_core.specs.Delegations.{AreNamesOf, cut_owners}
use Rattle.zone_answers.specs.Answers.{Name}
use Rattle.zone_answers.proofs.CutLemmas.{sorted_names}
use Rattle.zone_answers.proofs.cut_names.top_cuts.Goals as goal

pub outermost-requires : goal.outermost-requires
outermost-requires c =
    subst (λ (names : List Name). IsSorted canonical_cmp names) (sym c.deref.ensures.value) (sorted_names c.in_ok-all.all.items c.in_ok-all.ensures.order)

pub returns : goal.returns
returns c =
    let all = c.in_ok-all.all.items in
    let tops = c.in_ok-tops.tops.items in
    record {
      all = all;
      names =
          subst (λ (rs : List Record). AreNamesOf all (cut_owners c.args.zone.now.origin rs)) c.records.ensures.value
          (subst (λ (o : Name). AreNamesOf all (cut_owners o c.records.result.now)) c.origin.ensures.value c.in_ok-all.ensures);
      tops = subst (λ (names : List Name). AreOutermost names tops) c.deref.ensures.value c.in_ok-tops.ensures;
    }
