use Rattle.std.proofs.Common.{is_some, ap, ◌∙◌}
use Rattle.dns_names.specs.Labels.{is_within}
use Rattle.zone_core.proofs.CoverLemmas.{found_any}
use Rattle.zone_tools.proofs.SurveyLemmas.{copied_some}
use Rattle.zone_tools.proofs.zone_survey.is_covered.Goals as goal

pub returns : goal.returns
returns c =
    c.is_some.ensures ∙ copied_some c.cut_over.result ∙ ap is_some c.cut_over.ensures
    ∙ found_any (λ cut. is_within c.args.name.now cut) c.args.cuts.now
