use Rattle.std.proofs.Common.{◌≡◌, ◌+◌, ◌++◌, ◌<◌, map, drop, take, length, nat_le, option_map, sym, ap, subst, ◌∙◌, arith}
use Rattle.std.proofs.lemmas.Bool.Decides.{nat_tests}
use Rattle.zone_core.specs.Changes.{change_in}
use Rattle.office_model.specs.Replies.{seen_in}
use Rattle.grant_policy.specs.Grants.{GrantsOf}
use Rattle.office_core.specs.Machine.{seen}
use Rattle.office_core.proofs.BookmarkLemmas.{found_behind}
use Rattle.office_core.proofs.SeenLemmas.{next}
use Rattle.office_core.proofs.changes.Seen.read_next.Goals as goal

pub returns-clause-answer : goal.returns-clause-answer
returns-clause-answer g c = λ honest s holds.
    let most = c.max-most.result in
    let read = c.in_ok-read.read in
    let piece = c.in-Some.changes.items in
    let found = found_behind s c.args.origin.now (λ cs. take most (drop read cs)) (map change_in piece) (sym (ap (option_map (λ cs. map change_in cs.items)) c.in-Some.is) ∙ c.in_ok-changes.ensures.answer honest s (c.in_ok-ahead.ensures.reads.0 s holds)) in
    let zone = found.0 in
    let hidden = c.in_ok-ahead.ensures.hidden (c.changes_behind.ensures.reads.3 honest) s zone holds found.1 in
    let many : c.len.result ≡ length piece = omega (arith, c.len.ensures, c.in-Some.changes.ok.0) in
    next c.args.grants.now c.requires zone c.args.self.now c.push.new.self c.in_ok-ahead.ahead.hidden most piece hidden
    (found.2 ∙ ap (λ n. take most (drop n zone.changes)) c.in_ok-read.ensures)
    (c.in_ok-push.ensures.read ∙ ap (λ n. n + length piece) c.in_ok-read.ensures)
    (subst (λ (g : GrantsOf). map seen_in c.push.new.self.changes.items ≡ map seen_in c.args.self.now.changes.items ++ seen g.rules g.caller (map change_in piece)) c.ahead.ensures.same c.in_ok-push.ensures.changes)
    (s.zones c.args.origin.now) (nat_le most c.len.result) found.1
    (λ short. let few : length piece < most = grind (arith, nat_tests, short, many) in few)
