use Rattle.std.proofs.Common.{List, ap, ◌∙◌}
use Rattle.dns_data.specs.declared.record.Record.{Record}
use Rattle.zone_answers.specs.Answers.{asked_at}
use Rattle.zone_answers.proofs.NodeLemmas.{nothing_asked}
use Rattle.zone_answers.proofs.rows.asked_at.Goals as goal

pub returns-in-Between : goal.returns-in-Between
returns-in-Between c =
    let name = c.args.name.now in
    nothing_asked c.records.result.now name c.args.asked (c.in-Between.ensures name c.key.ensures.key).0 ∙ ap (λ (rs : List Record). asked_at rs name c.args.asked) c.records.ensures.value
