use Rattle.std.proofs.Common.{◌≡◌, ℕ, suc, ◌+◌, ◌-◌, ap, subst, ◌∙◌, arith}
use Rattle.zone_core.specs.Sets.{listing}
use Rattle.zone_answers.specs.AnswerTests.{follow}
use Rattle.zone_answers.specs.Views.{Steps}
use Rattle.zone_answers.proofs.FollowLemmas.{follow_none}
use Rattle.zone_answers.proofs.zone_index.ZoneIndex.follow.Goals as goal

pub returns-in-Some : goal.returns-in-Some
returns-in-Some c =
    let zone = c.args.self.now in
    let rs = listing zone.records in
    let more : suc (c.args.most - (c.loop.counter + 1)) ≡ c.args.most - c.loop.counter = omega arith in
    let steps = subst (Steps zone.origin rs c.args.asked c.loop.aliases.items c.loop.name c.step.new.aliases.items c.step.new.name) c.in-Some.is c.in_ok-finding.ensures in
    steps (c.args.most - (c.loop.counter + 1))
    ∙ ap (λ (n : ℕ). follow zone.origin rs c.args.asked n c.loop.aliases.items c.loop.name) more
    ∙ c.loop.invariant

pub returns : goal.returns
returns c =
    let zone = c.args.self.now in
    let rs = listing zone.records in
    let over : 0 ≡ c.args.most - c.loop.counter = omega arith in
    follow_none zone.origin rs c.args.asked c.loop.aliases.items c.loop.name
    ∙ ap (λ (n : ℕ). follow zone.origin rs c.args.asked n c.loop.aliases.items c.loop.name) over
    ∙ c.loop.invariant
