use Rattle.std.proofs.Common.{Some, map, subst, sym, ap, ◌∙◌, arith}
use Rattle.std.proofs.lemmas.List.{length-map}
use Rattle.grant_policy.specs.declared.action.Action.TheVariants as action
use Rattle.office_model.specs.Replies.{numbered_of, seen_in}
use Rattle.office_model.specs.States.{Held}
use Rattle.office_core.specs.Bookmarks.{IsStart}
use Rattle.office_core.specs.Seen.{IsSeenBehind, IsSeenWhole}
use Rattle.office_core.proofs.BookmarkLemmas.{ended_at, followed, one_held}
use Rattle.office_core.proofs.changes.changes.Goals as goal

pub returns-clause-takes : goal.returns-clause-takes
returns-clause-takes g c = λ honest s holds right.
    let rules = c.args.policy.now in
    let caller = c.args.caller.now in
    let origin = c.args.origin.now in
    let began = c.in_ok-began.began in
    let reads = c.in_ok-began.ensures.reads in
    let now = reads.0 s holds in
    let earlier = c.in_ok-seen.ensures.reads.3 honest in
    let starts = c.in_ok-began.ensures.start earlier s in
    let found = subst (IsSeenBehind c.passed_on.new.grants began.read (s.zones origin)) c.in-Some.is (c.in_ok-seen.ensures.answer honest s now) in
    let start = subst (λ grants. IsStart grants.rules grants.caller c.args.from found.0.changes began) c.new-grants.ensures (starts found.0 holds found.1 (subst (λ grants. IsStart grants.rules grants.caller c.args.from found.0.changes c.start-began.result) (sym c.new-grants.ensures) (c.start-began.ensures rules s found.0 right found.1))) in
    let whole = subst (λ grants. IsSeenWhole grants began.read found.0.changes c.in-Some.seen) (c.in_ok-began.ensures.same ∙ c.new-grants.ensures) found.2 in (
      ap Some (followed rules caller s origin c.args.from began found.0 (map seen_in c.in-Some.seen.changes.items) (map numbered_of c.in_ok-changes.changes.items) start found.1 whole.sees c.in_ok-changes.ensures),
      c.in_ok-seen.ensures.reads.0 s now,
    )

pub returns-clause-bookmarks : goal.returns-clause-bookmarks
returns-clause-bookmarks g c = λ honest s holds right.
    let rules = c.args.policy.now in
    let caller = c.args.caller.now in
    let origin = c.args.origin.now in
    let began = c.in_ok-began.began in
    let reads = c.in_ok-began.ensures.reads in
    let now = reads.0 s holds in
    let earlier = c.in_ok-seen.ensures.reads.3 honest in
    let starts = c.in_ok-began.ensures.start earlier s in
    let found = subst (IsSeenBehind c.passed_on.new.grants began.read (s.zones origin)) c.in-Some.is (c.in_ok-seen.ensures.answer honest s now) in
    let whole = subst (λ grants. IsSeenWhole grants began.read found.0.changes c.in-Some.seen) (c.in_ok-began.ensures.same ∙ c.new-grants.ensures) found.2 in
    c.keep.ensures rules s right
    (λ held is.
    let start = subst (λ grants. IsStart grants.rules grants.caller c.args.from held.changes began) c.new-grants.ensures (starts held holds is (subst (λ grants. IsStart grants.rules grants.caller c.args.from held.changes c.start-began.result) (sym c.new-grants.ensures) (c.start-began.ensures rules s held right is))) in
    let there = subst (λ (h : Held). IsSeenWhole (record { rules = rules; caller = caller; action = action.List }) began.read h.changes c.in-Some.seen) (one_held s origin found.0 held found.1 is) whole in (
      start.right,
      ended_at rules caller held.changes (map seen_in c.in-Some.seen.changes.items) began c.after-ended.result c.in-Some.seen.read c.len.result start.right there.read there.sees
          (omega (arith, c.len.ensures, c.in-Some.seen.changes.ok.0, length-map c.in-Some.seen.changes.items seen_in)) c.after-ended.ensures,
    ))
