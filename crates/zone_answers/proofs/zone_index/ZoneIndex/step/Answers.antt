use Rattle.std.proofs.Common.{◌≡◌, List, sym, ap, ◌∙◌}
use Rattle.dns_data.specs.declared.record.Record.{Record}
use Rattle.zone_core.specs.Sets.{listing}
use Rattle.zone_answers.specs.AnswerTests.{was_asked, alias_in, follow}
use Rattle.zone_answers.specs.Views.{found_in}
use Rattle.zone_answers.proofs.FollowLemmas.{follow_again, follow_on, follow_ends}
use Rattle.zone_answers.proofs.zone_index.ZoneIndex.step.Goals as goal

pub returns-then-was_asked : goal.returns-then-was_asked
returns-then-was_asked c =
    let zone = c.args.self.now in
    let name = c.args.name.now in
    let is : c.was_asked.result ≡ was_asked c.args.aliases.now.items name = c.was_asked.ensures ∙ ap (λ (bs : List Record). was_asked bs name) c.deref.ensures.value in
    λ n. follow_again zone.origin (listing zone.records) c.args.asked c.args.aliases.now.items name n (sym is ∙ c.if-was_asked.true)

pub returns-in_ok-follow_one-in-Some : goal.returns-in_ok-follow_one-in-Some
returns-in_ok-follow_one-in-Some c =
    let zone = c.args.self.now in
    let name = c.args.name.now in
    let before = c.args.aliases.now.items in
    let is : c.was_asked.result ≡ was_asked before name = c.was_asked.ensures ∙ ap (λ (bs : List Record). was_asked bs name) c.deref.ensures.value in
    let made = c.in_ok-follow_one-in-Some.ensures in
    λ n.
    (λ i. follow zone.origin (listing zone.records) c.args.asked n (made.aliases i) (made.name i))
    ∙ follow_on zone.origin (listing zone.records) c.args.asked before name n c.in-Some.alias.now (sym is ∙ c.if-was_asked.false) (c.in-Some.ensures ∙ ap alias_in c.in_ok-finding.ensures)

pub returns-in-None : goal.returns-in-None
returns-in-None c =
    let zone = c.args.self.now in
    let name = c.args.name.now in
    let before = c.args.aliases.now.items in
    let is : c.was_asked.result ≡ was_asked before name = c.was_asked.ensures ∙ ap (λ (bs : List Record). was_asked bs name) c.deref.ensures.value in
    λ n.
    follow_ends zone.origin (listing zone.records) c.args.asked before name n (found_in c.in_ok-finding.finding) (sym is ∙ c.if-was_asked.false) c.in_ok-finding.ensures c.in-None.ensures
