use Rattle.std.proofs.Common.{sym, ap, ◌∙◌}
use Rattle.std.specs.List.{find}
use Rattle.std.specs.Option.{option_copied}
use Rattle.dns_names.specs.Labels.{is_within}
use Rattle.zone_core.specs.Sets.{listing}
use Rattle.zone_tools.proofs.SurveyLemmas.{not_covered_below, covered_below}
use Rattle.zone_tools.proofs.zone_survey.Survey.is_below_cut.Goals as goal

pub returns-in-Some : goal.returns-in-Some
returns-in-Some c =
    let survey = c.args.self.now in
    let name = c.args.name.now in
    c.ne.ensures
    ∙ covered_below survey.zone.now.origin (listing survey.zone.now.records) survey.cuts.items c.requires.cuts name c.in-Some.cut.now
    (ap (find (λ cut. is_within name cut)) (sym c.deref.ensures.value) ∙ sym c.cut_over.ensures ∙ ap option_copied c.in-Some.is)

pub returns-in-None : goal.returns-in-None
returns-in-None c =
    let survey = c.args.self.now in
    let name = c.args.name.now in
    sym (not_covered_below survey.zone.now.origin (listing survey.zone.now.records) survey.cuts.items c.requires.cuts name
    (ap (find (λ cut. is_within name cut)) (sym c.deref.ensures.value) ∙ sym c.cut_over.ensures ∙ ap option_copied c.in-None.is))
