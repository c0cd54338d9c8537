use Rattle.std.proofs.Common.{List, sym, ap, subst, ◌∙◌}
use Rattle.std.specs.List.{list_any}
use Rattle.std.specs.List.Sorted.{IsSorted}
use Rattle.dns_names.specs.Labels.{is_within}
use Rattle.dns_names.specs.Order.{canonical_cmp}
use Rattle.zone_core.proofs.BelowLemmas.{Name}
use Rattle.zone_tools.specs.ZoneTests.{is_delegated}
use Rattle.zone_tools.proofs.SurveyLemmas.{sorted_names, covers_delegated}
use Rattle.zone_tools.proofs.zone_survey.top_cuts.Goals as goal

pub outermost-requires : goal.outermost-requires
outermost-requires c =
    subst (λ (names : List Name). IsSorted canonical_cmp names) (sym c.deref.ensures.value) (sorted_names c.in_ok-all.all.items c.in_ok-all.ensures.order)

pub returns : goal.returns
returns c =
    let all = c.in_ok-all.all.items in
    let tops = c.in_ok-tops.ensures in
    record {
      apart = tops.apart;
      covers = λ name.
          tops.covers name ∙ ap (list_any (λ top. is_within name top)) c.deref.ensures.value
          ∙ covers_delegated c.origin.result.now c.records.result.now all c.in_ok-all.ensures name
          ∙ (λ k. is_delegated (c.origin.ensures.value k) (c.records.ensures.value k) name);
    }
