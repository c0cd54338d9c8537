use Rattle.std.proofs.Common.{◌-◌, take, drop, length, sym, ◌∙◌, ap, List, subst}
use Rattle.dns_data.specs.declared.record.Record.{Record}
use Rattle.zone_core.proofs.RangeLemmas.{rest_is}
use Rattle.zone_answers.specs.Places.{begins_within, AreNearest}
use Rattle.zone_answers.proofs.PlaceLemmas.{there_first, near_place, node_here}
use Rattle.zone_answers.proofs.places.locate.Goals as goal

pub returns-then-begins_within : goal.returns-then-begins_within
returns-then-begins_within c = λ name is.
    let rs = c.args.records.now in
    let n = c.count_before-place.result in
    let short = c.count_before-place.ensures.bound in
    let ends = c.count_before-place.ensures.place name is in
    let rest = take (length rs - n) (drop n rs) in
    let first = c.begins_within.ensures name is ∙ ap (λ (xs : List Record). begins_within xs name) (rest_is rs n) in (
      sym (there_first rs c.requires name n short ends) ∙ sym first ∙ c.if-begins_within.true,
      node_here rs c.requires name n short ends rest (rest_is rs n) c.count_at.result c.count_at.ensures.bound (c.count_at.ensures.place name is),
    )

pub returns-else-begins_within : goal.returns-else-begins_within
returns-else-begins_within c = λ name is.
    let rs = c.args.records.now in
    let n = c.count_before-place.result in
    let short = c.count_before-place.ensures.bound in
    let ends = c.count_before-place.ensures.place name is in
    let first = c.begins_within.ensures name is ∙ ap (λ (xs : List Record). begins_within xs name) (rest_is rs n) in (
      sym (there_first rs c.requires name n short ends) ∙ sym first ∙ c.if-begins_within.false,
      subst (λ (near : List Record). AreNearest rs near name) (sym c.beside.ensures) (near_place rs c.requires name n short ends),
    )
