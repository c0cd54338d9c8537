use Rattle.std.proofs.Common.{Some, ap, ◌∙◌}
use Rattle.zone_core.specs.Sets.{listing}
use Rattle.zone_answers.specs.Answers.{Name}
use Rattle.zone_answers.specs.AnswerTests.{if_there}
use Rattle.zone_answers.proofs.SourceLemmas.{wildcard_is_read, long_is_not}
use Rattle.zone_answers.proofs.ZoneLemmas.{owners_fit}
use Rattle.zone_answers.proofs.finding.wildcard_there.Goals as goal

pub returns-in-Ok : goal.returns-in-Ok
returns-in-Ok c =
    let e = c.args.encloser.now in
    let rs = listing c.args.zone.now.records in
    c.if_there.ensures ∙ ap (λ (n : Name). if_there rs (Some n)) (wildcard_is_read e c.in-Ok.name c.in-Ok.ensures.exact)

pub returns-in-Err-NameTooLong : goal.returns-in-Err-NameTooLong
returns-in-Err-NameTooLong c =
    let e = c.args.encloser.now in
    let zone = c.args.zone.now in
    let of = c.records.ensures in
    long_is_not (listing zone.records) (owners_fit zone of.zone c.records.result.now of.order of.set of.value) e (rw c.in-Err-NameTooLong.field-0-is at c.in-Err-NameTooLong.ensures.exact)
