use Rattle.std.proofs.Common.{◌∙◌, ap}
use Rattle.zone_core.specs.Sets.{listing}
use Rattle.zone_answers.specs.AnswerTests.{answer_from}
use Rattle.zone_answers.proofs.FollowLemmas.{first_name}
use Rattle.zone_answers.proofs.LawLemmas.{if_ok}
use Rattle.zone_answers.proofs.zone_index.ZoneIndex.answered.Goals as goal

pub returns : goal.returns
returns c =
    let zone = c.args.self.now in
    let rs = listing zone.records in
    if_ok c.answer_from.result
    (λ a e. e ∙ ap (answer_from zone.origin rs c.args.name.now c.args.asked) c.in_ok-finding.ensures ∙ first_name zone.origin rs c.args.name.now c.args.asked)
    c.answer_from.ensures
