use Rattle.std.proofs.Common.{◌∙◌, arith}
use Rattle.zone_core.proofs.SharedOctetLemmas.{written_take, written_short}
use Rattle.zone_core.proofs.sorting.written.Goals as goal

pub returns-in-Some : goal.returns-in-Some
returns-in-Some c =
    let cases = c.in-Some.ensures.cases in
    c.from_be_bytes.ensures ∙ written_take c.args.octets.now c.in-Some.head.now cases.0 (omega (arith, cases.2))

pub returns : goal.returns
returns c = c.from_be_bytes-2.ensures ∙ written_short c.args.octets.now c.copy_from_slice.new.self c.copy_from_slice.ensures.after c.in_default.ensures.cases
