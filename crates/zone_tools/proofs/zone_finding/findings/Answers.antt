use Rattle.std.proofs.Common.{◌≡◌, [], ◌∷◌, ◌++◌, ◌+◌, length, sym, ap, ◌∙◌, take, arith}
use Rattle.std.proofs.lemmas.List.{take_all, take_more, length-take}
use Rattle.zone_core.specs.Sets.{listing}
use Rattle.zone_core.specs.Zones.{ZoneOf}
use Rattle.zone_tools.specs.ZoneFindings.{findings_from, findings_at}
use Rattle.zone_tools.proofs.FindingLemmas.{from_append, findings_are}
use Rattle.zone_tools.proofs.zone_finding.findings.Goals as goal

pub loop-place-preserved : goal.loop-place-preserved
loop-place-preserved c =
    let zone = c.in_ok-survey.survey.zone.now in
    let rs = listing zone.records in
    let items = c.records-record-items.result.now in
    let i = c.loop-place.place in
    let r = c.record-item.result in
    let front = take i items in
    let count : length front ≡ i = omega (arith, length-take i items, c.loop-place-test.true) in
    c.in_ok-found.ensures ∙ ap (λ xs. xs ++ findings_at zone.origin rs i r) c.loop-place.invariant
    ∙ (let e : 0 + length front ≡ i = omega (arith, count) in ap (λ k. findings_from zone.origin rs 0 front ++ findings_at zone.origin rs k r) (sym e))
    ∙ sym (from_append zone.origin rs 0 front r) ∙ ap (findings_from zone.origin rs 0) (sym (take_more items i r c.loop-place-test.true ∙ ap (λ x. front ++ x ∷ []) (sym c.record-item.is)))

pub returns-clause-exact : goal.returns-clause-exact
returns-clause-exact c =
    c.loop-place.invariant
    ∙ (λ k. let zone : ZoneOf = c.in_ok-survey.ensures.zone k in findings_from zone.origin (listing zone.records) 0 ((take_all c.loop-place.place c.records-record-items.result.now c.loop-place-test.false ∙ c.records-record-items.ensures.value) k))

pub returns-clause-found : goal.returns-clause-found
returns-clause-found c = findings_are c.args.zone.now.origin (listing c.args.zone.now.records) c.loop-place.found.items (returns-clause-exact c)
