use Rattle.std.proofs.Common.{ap, subst, ◌∙◌}
use Rattle.std.specs.List.{find}
use Rattle.dns_names.specs.Labels.{is_within}
use Rattle.zone_core.specs.Sets.{listing}
use Rattle.zone_core.specs.Zones.{ZoneOf}
use Rattle.zone_answers.specs.AnswerTests.{AreTopCuts}
use Rattle.zone_answers.proofs.CutLemmas.{tops_over}
use Rattle.zone_answers.proofs.zone_index.ZoneIndex.outermost_cut.Goals as goal

pub returns : goal.returns
returns c =
    let zone = c.args.self.now in
    c.cut_over.ensures ∙ ap (find (λ cut. is_within c.args.name.now cut)) c.deref.ensures.value
    ∙ tops_over zone.origin (listing zone.records) c.self.inside.cuts.items
    (subst (λ (z : ZoneOf). AreTopCuts z.origin (listing z.records) c.self.inside.cuts.items) c.self.view_is c.self.invariant.0) c.args.name.now
