use Rattle.std.proofs.Common.{arith}
use Rattle.dns_data.proofs.NumberLemmas.{past_most, digit_at}
use Rattle.zone_tools.proofs.ReverseBlockLemmas.{small_enough}
use Rattle.zone_tools.proofs.reverse_blocks.octet_of_digits.Goals as goal

pub returns-in_err-checked_mul : goal.returns-in_err-checked_mul
returns-in_err-checked_mul c =
    let l = c.loop-digit in
    rw c.from_residual.ensures (past_most c.args.digits.now l.digit-index l.value 255 c.loop-digit-test.true l.invariant.0 (omega (arith, c.in_err-checked_mul.ensures)))

pub returns-in_err-value : goal.returns-in_err-value
returns-in_err-value c =
    let l = c.loop-digit in
    let digit = digit_at c.args.digits.now l.digit-index c.requires c.loop-digit-test.true in
    rw c.from_residual-in_err-value.ensures (past_most c.args.digits.now l.digit-index l.value 255 c.loop-digit-test.true l.invariant.0 (omega (arith, c.in_err-value.ensures, digit)))

pub returns : goal.returns
returns c =
    let l = c.loop-digit in
    small_enough c.args.digits.now l.digit-index l.value c.from.result c.loop-digit-test.false l.invariant.0 c.from.ensures l.invariant.1
