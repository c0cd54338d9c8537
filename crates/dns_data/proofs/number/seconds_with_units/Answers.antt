use Rattle.std.proofs.Common.{◌^◌, ◌-◌, sym, ◌∙◌, arith}
use Rattle.dns_data.proofs.NumberLemmas.{wanted, after_digit, after_unit, no_unit, no_number, ends_open, ends, of_some}
use Rattle.dns_data.proofs.number.seconds_with_units.Goals as goal
use Rattle.dns_data.proofs.number.seconds_with_units.Goals.{then-is_ascii_digit, else-is_ascii_digit+in_ok-number+in_ok-unit_seconds}

pub returns-in_err-number : goal.returns-in_err-number
returns-in_err-number c =
    let l = c.loop-octet in
    let text = c.args.text.now in
    let so_far = rw c.in_err-number.was at l.invariant.so_far in
    rw c.from_residual.ensures (of_some text _ _ (omega (arith, c.loop-octet-test.true)) (no_number (2 ^ 64 - 1) l.total text l.octet-index (wanted (2 ^ 64 - 1) text) c.loop-octet-test.true (sym c.is_ascii_digit.ensures.value ∙ c.if-is_ascii_digit.false) so_far))

pub returns-in_err-unit_seconds : goal.returns-in_err-unit_seconds
returns-in_err-unit_seconds c =
    let l = c.loop-octet in
    let text = c.args.text.now in
    let so_far = rw c.in_ok-number.was at l.invariant.so_far in
    rw c.from_residual-in_err-unit_seconds.ensures
    (of_some text _ _ (omega (arith, c.loop-octet-test.true)) (no_unit (2 ^ 64 - 1) l.total text l.octet-index (wanted (2 ^ 64 - 1) text) c.loop-octet-test.true c.in_ok-number.field-0 (sym c.is_ascii_digit.ensures.value ∙ c.if-is_ascii_digit.false) (sym c.in_err-unit_seconds.ensures) so_far))

pub loop-octet-preserved : goal.loop-octet-preserved
loop-octet-preserved c =
    let l = c.loop-octet in
    let text = c.args.text.now in
    elim c.if-is_ascii_digit.branch [
      | then-is_ascii_digit w ↦
          rw (w.number-is, w.total-is) record {
            fits = l.invariant.fits;
            so_far =
                after_digit (2 ^ 64 - 1) l.total text l.octet-index (wanted (2 ^ 64 - 1) text) c.loop-octet-test.true l.number w.saturating_mul.result w.saturating_add.result (sym c.is_ascii_digit.ensures.value ∙ w.if-is_ascii_digit.true) (rw (← w.unwrap_or.ensures) w.saturating_mul.ensures) (rw (← w.from-digit.ensures) w.saturating_add.ensures) l.invariant.so_far;
          }
      | else-is_ascii_digit+in_ok-number+in_ok-unit_seconds w ↦
          let so_far = rw w.in_ok-number.was at l.invariant.so_far in
          rw (w.number-is, w.total-is) record {
            fits = omega (arith, w.saturating_add-total.ensures);
            so_far =
                after_unit (2 ^ 64 - 1) l.total text l.octet-index (wanted (2 ^ 64 - 1) text) c.loop-octet-test.true w.in_ok-number.field-0 w.in_ok-unit_seconds.field-0 w.saturating_mul-seconds.result w.saturating_add-total.result (sym c.is_ascii_digit.ensures.value ∙ w.if-is_ascii_digit.false) (sym w.in_ok-unit_seconds.ensures) w.saturating_mul-seconds.ensures w.saturating_add-total.ensures so_far;
          }
    ]

pub returns-then-is_some : goal.returns-then-is_some
returns-then-is_some c =
    let l = c.loop-octet in
    let text = c.args.text.now in
    of_some text _ _ (grind (arith, c.is_empty.ensures, c.if-is_empty.false)) (ends_open (2 ^ 64 - 1) l.total l.number text l.octet-index (wanted (2 ^ 64 - 1) text) c.loop-octet-test.false (sym c.is_some.ensures ∙ c.if-is_some.true) l.invariant.so_far)

pub returns-else-is_some : goal.returns-else-is_some
returns-else-is_some c =
    let l = c.loop-octet in
    let text = c.args.text.now in
    of_some text _ _ (grind (arith, c.is_empty.ensures, c.if-is_empty.false)) (ends (2 ^ 64 - 1) l.total l.number text l.octet-index (wanted (2 ^ 64 - 1) text) c.loop-octet-test.false (sym c.is_some.ensures ∙ c.if-is_some.false) (omega arith) l.invariant.so_far)
