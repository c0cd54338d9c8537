use Rattle.std.proofs.Common.{Option, ap, sym, ◌∙◌}
use Rattle.zone_core.specs.Sets.{listing}
use Rattle.zone_answers.specs.Answers.{Name}
use Rattle.zone_answers.specs.AnswerTests.{if_there, found_from}
use Rattle.zone_answers.proofs.EncloserLemmas.{wildcard_some, wildcard_none}
use Rattle.zone_answers.proofs.LawLemmas.{if_ok}
use Rattle.zone_answers.proofs.zone_index.ZoneIndex.found_over.Goals as goal

pub returns-in-Some : goal.returns-in-Some
returns-in-Some c =
    let rs = listing c.args.self.now.records in
    if_ok c.found_at_wildcard.result
    (λ finding found. λ name is nearest.
    let wildcard = wildcard_some rs c.args.near.now name nearest c.in-Some.encloser.now (c.in-Some.ensures name is) in
    found wildcard.0 wildcard.1 ∙ ap (λ (o : Option Name). found_from rs c.args.asked (if_there rs o)) (sym wildcard.2))
    c.found_at_wildcard.ensures

pub returns-in-None : goal.returns-in-None
returns-in-None c = λ name is nearest.
    let rs = listing c.args.self.now.records in
    ap (λ (o : Option Name). found_from rs c.args.asked (if_there rs o)) (sym (wildcard_none rs c.args.near.now name nearest (c.in-None.ensures name is)))
