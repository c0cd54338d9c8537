use Rattle.std.proofs.Common.{◌∙◌, ◌<◌, length, arith, rules}
use Rattle.std.proofs.lemmas.List.{take_rest}
use Rattle.std.proofs.lemmas.Result.{err_from_is_err_and}
use Rattle.dns_master.proofs.DeviceLemmas.{left_less, left_part}
use Rattle.dns_master.proofs.device.write_all.Goals as goal

pub loop-rest-preserved : goal.loop-rest-preserved
loop-rest-preserved g c =
    let e = c.in_ok-count.ensures in
    rw take_rest (record { left = left_less _ _ _ _ _ c.in_ok-count.count c.loop-rest.invariant.left e.bytes; fine = e.fine ∙ c.loop-rest.invariant.fine })

pub returns-in_err-count : goal.returns-in_err-count
returns-in_err-count g c =
    let e = c.in_err-count.ensures in
    let p = err_from_is_err_and c.from_residual.result c.from_residual.ensures.1 in
    let some : 0 < length c.loop-rest.rest.now = search rules in
    rw p.1 (left_part _ _ _ _ _ c.loop-rest.invariant.left some e.bytes, omega (arith, e.failed, c.loop-rest.invariant.fine))
