use Rattle.std.proofs.Common.{List, ◌++◌, ◌∙◌, ap}
use Rattle.dns_data.specs.declared.record.Record.{Record}
use Rattle.zone_answers.proofs.LawLemmas.{if_ok}
use Rattle.zone_answers.proofs.ReferralLemmas.{soa_alone}
use Rattle.zone_answers.proofs.answer.push_soa.Goals as goal

pub returns : goal.returns
returns c =
    let of = c.records.ensures in
    let one = soa_alone c.args.zone.now c.records.result.now of.order of.set of.value c.soa.result.now c.soa.ensures.one c.soa.ensures.value in
    if_ok c.push_negative.result (λ u e. e ∙ ap (λ (l : List Record). c.args.rows.now.items ++ l) one) c.push_negative.ensures
