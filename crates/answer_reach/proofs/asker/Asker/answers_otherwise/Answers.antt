use Rattle.std.proofs.Common.{◌≡◌, sym, subst, ◌∙◌}
use Rattle.zone_core.specs.Zones.{IsZone}
use Rattle.zone_answers.specs.AnswerChanges.{AreSame}
use Rattle.zone_answers.specs.Views.{answer_of}
use Rattle.answer_reach.specs.Trials.{covers_servers}
use Rattle.answer_reach.proofs.DifferLemmas.{told}
use Rattle.answer_reach.proofs.TrialLemmas.{told_of}
use Rattle.answer_reach.proofs.asker.Asker.answers_otherwise.Goals as goal

pub returns : goal.returns
returns c =
    let s = c.args.self.now in
    let a = answer_of c.in_ok-before.before in
    let b = answer_of c.in_ok-after.after in
    let covers : covers_servers c.args.trial.now.covered.items b.authority ≡ covers_servers c.deref.result.now c.deref-2.result.now =
    λ i. covers_servers (sym c.deref.ensures.value i) (sym c.deref-2.ensures.value i) in
    told_of s.rights.now.rules s.rights.now.caller s.index.now (subst IsZone c.zone.ensures c.records.ensures.zone) c.args.trial.now c.requires c.args.name.now c.args.asked a b c.deref-3.result.now c.are_whole_at.result
    c.in_ok-before.ensures.found c.in_ok-after.ensures.found (told c.answers_differ.result (¬ AreSame a b) c.answers_differ.ensures c.if-not-answers_differ.false)
    (covers ∙ sym c.covers_servers.ensures ∙ c.if-not-covers_servers.false) (c.deref-3.ensures.value ∙ c.in_ok-names.ensures) c.are_whole_at.ensures
