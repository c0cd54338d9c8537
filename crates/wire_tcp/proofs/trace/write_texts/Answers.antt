use Rattle.std.proofs.Common.{◌<◌, length, arith}
use Rattle.std.proofs.lemmas.Result.{err_from_is_err_and}
use Rattle.wire_tcp.proofs.SendLemmas.{sent_part}
use Rattle.wire_tcp.proofs.trace.write_texts.Goals as goal

pub returns-in_err-write_text : goal.returns-in_err-write_text
returns-in_err-write_text g c =
    let l = c.loop-text in
    let p = err_from_is_err_and c.from_residual.result c.from_residual.ensures.1 in
    let lt : l.text-index < length c.args.texts.now = omega arith in
    let sent = c.in_err-write_text.ensures in
    rw p.1 (sent_part c.args.texts.now l.text-index _ _ _ _ lt l.invariant.sent sent.0, omega (arith, l.invariant.fine, sent.1))
