use Rattle.std.proofs.Common.{Ok, Some, ap, sym, subst, ◌∙◌, arith}
use Rattle.grant_policy.specs.Grants.{GrantsOf}
use Rattle.office_core.specs.Seen.{IsNext, IsSeenUpTo, IsSeenWhole}
use Rattle.office_core.proofs.changes.seen_behind.Goals as goal

pub pieces-smaller : goal.pieces-smaller
pieces-smaller g c =
    let more = ap Ok (c.in-Some-true.is ∙ ap Some c.in-Some-true.field-0-test) in
    omega (arith, c.in_ok-read_next.ensures.further more, c.in_ok-read_next.ensures.fits more)

pub returns-in-Some-false-clause-answer : goal.returns-in-Some-false-clause-answer
returns-in-Some-false-clause-answer g c = λ honest s holds.
    let count = c.args.count in
    let new = c.read_next.new.self in
    let next = subst (IsNext c.pieces.grants (s.zones c.args.origin.now) c.pieces.seen new) c.in-Some-false.is (c.in_ok-read_next.ensures.answer honest s (c.pieces.invariant.same s holds)) in
    let changes = next.0.changes in
    let up = c.pieces.invariant.up (c.read_next.ensures.reads.3 honest) s next.0 holds next.1 in
    let whole = (next.2 count (subst (λ (g : GrantsOf). IsSeenUpTo g count changes c.pieces.seen) (sym c.pieces.invariant.grants) up)).1 c.in-Some-false.field-0-test in
    (next.0, next.1, subst (λ (g : GrantsOf). IsSeenWhole g count changes new) c.pieces.invariant.grants whole)
