use Rattle.std.proofs.Common.{sym, ap, ◌∙◌}
use Rattle.std.specs.List.{filter}
use Rattle.zone_core.specs.Sets.{Records, key_of, listing, part, at, at_name}
use Rattle.zone_core.proofs.RowLemmas.{listing-part}
use Rattle.zone_answers.specs.Answers.{asked_at}
use Rattle.answer_reach.proofs.asker.asked_at.Goals as goal

pub returns-in-Kept : goal.returns-in-Kept
returns-in-Kept c =
    let test = at c.args.name.now c.in-Kept.record_type in
    let rs = c.records.result.now in
    c.rrset.ensures ∙ ap (λ (s : Records). listing (part s test)) (sym c.records.ensures.set)
    ∙ listing-part test rs c.records.ensures.order ∙ ap (filter (λ r. test (key_of r))) c.records.ensures.value
    ∙ ap (asked_at (listing c.args.zone.now.records) c.args.name.now) (sym c.in-Kept.is)

pub returns-in-Any : goal.returns-in-Any
returns-in-Any c =
    let test = at_name c.args.name.now in
    let rs = c.records.result.now in
    c.records_at.ensures ∙ ap (λ (s : Records). listing (part s test)) (sym c.records.ensures.set)
    ∙ listing-part test rs c.records.ensures.order ∙ ap (filter (λ r. test (key_of r))) c.records.ensures.value
    ∙ ap (asked_at (listing c.args.zone.now.records) c.args.name.now) (sym c.in-Any.is)
