use Rattle.std.proofs.Common.{List, sym, ap, subst, ◌∙◌}
use Rattle.std.specs.List.{list_any}
use Rattle.std.specs.List.Sorted.{IsSorted}
use Rattle.dns_names.specs.Order.{canonical_cmp, same_name}
use Rattle.zone_core.proofs.BelowLemmas.{Name}
use Rattle.zone_tools.proofs.SurveyLemmas.{searched}
use Rattle.zone_tools.proofs.zone_survey.Survey.is_server.Goals as goal

pub returns : goal.returns
returns c =
    let name = c.args.name.now in
    let is = c.deref.ensures.value in
    c.is_ok.ensures.value
    ∙ searched c.deref.result.now name c.binary_search.result (subst (λ (names : List Name). IsSorted canonical_cmp names) (sym is) c.requires.servers.order) c.binary_search.ensures.bound c.binary_search.ensures.position
    ∙ ap (list_any (same_name name)) is ∙ c.requires.servers.members name
