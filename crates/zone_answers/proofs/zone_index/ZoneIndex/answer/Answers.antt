use Rattle.std.proofs.Common.{ap, subst, ◌∙◌}
use Rattle.zone_core.specs.Sets.{listing}
use Rattle.zone_core.specs.Zones.{ZoneOf, IsZone}
use Rattle.zone_answers.proofs.LawLemmas.{index_found, index_only}
use Rattle.zone_answers.proofs.zone_index.ZoneIndex.answer.Goals as goal

pub returns-clause-found : goal.returns-clause-found
returns-clause-found c =
    let of = c.records.ensures in
    let same = c.zone.ensures in
    index_found c.args.self.now (subst IsZone same of.zone) c.records.result.now of.order (of.set ∙ ap (λ (z : ZoneOf). z.records) same)
    (of.value ∙ ap (λ (z : ZoneOf). listing z.records) same) c.args.name.now c.args.asked c.answered.result c.answered.ensures

pub returns-clause-only : goal.returns-clause-only
returns-clause-only c =
    let of = c.records.ensures in
    let same = c.zone.ensures in
    index_only c.args.self.now (subst IsZone same of.zone) c.records.result.now of.order (of.set ∙ ap (λ (z : ZoneOf). z.records) same)
    (of.value ∙ ap (λ (z : ZoneOf). listing z.records) same) c.args.name.now c.args.asked c.answered.result c.answered.ensures
