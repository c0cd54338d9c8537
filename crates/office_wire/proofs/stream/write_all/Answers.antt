use Rattle.std.proofs.Common.{◌∙◌, ◌<◌, length, rules, refl, arith}
use Rattle.std.proofs.lemmas.List.{take_rest}
use Rattle.std.proofs.lemmas.Result.{err_from_is_err_and}
use Rattle.office_wire.proofs.OrderLemmas.{left_whole, left_less, left_part}
use Rattle.office_wire.proofs.stream.write_all.Goals as goal

pub loop-rest-init : goal.loop-rest-init
loop-rest-init g c = record { left = left_whole _ _; fine = refl; same = refl; still = refl; kept = g.met.S.Stream.same _ }

pub loop-rest-preserved : goal.loop-rest-preserved
loop-rest-preserved g c =
    let e = c.in_ok-count.ensures in
    let i = c.loop-rest.invariant in
    rw take_rest
    (record { left = left_less _ _ _ _ _ c.in_ok-count.count i.left e.written.bytes e.written.event; fine = e.failed ∙ i.fine; same = e.written.unread ∙ i.same; still = e.still ∙ i.still; kept = g.met.S.Stream.joins _ _ _ i.kept e.kept })

pub returns-in_err-count-clause-written : goal.returns-in_err-count-clause-written
returns-in_err-count-clause-written g c =
    let e = c.in_err-count.ensures in
    let p = err_from_is_err_and c.from_residual.result c.from_residual.ensures.1 in
    let some : 0 < length c.loop-rest.rest.now = search rules in
    rw p.1 (left_part _ _ _ _ _ c.loop-rest.invariant.left some e.written.bytes e.written.event)

pub returns-in_err-count-clause-failed : goal.returns-in_err-count-clause-failed
returns-in_err-count-clause-failed g c =
    let e = c.in_err-count.ensures in
    let p = err_from_is_err_and c.from_residual.result c.from_residual.ensures.1 in
    let more = e.failed in
    let same = c.loop-rest.invariant.fine in
    rw p.1 (omega (arith, more, same))
