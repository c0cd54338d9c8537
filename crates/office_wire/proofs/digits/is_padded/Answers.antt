use Rattle.std.proofs.Common.{◌≡◌, ◌-◌, ℕ, List, length, drop, sym, ap, ◌∙◌, bytes_eq}
use Rattle.std.proofs.lemmas.List.{take_rest}
use Rattle.office_wire.proofs.DigitLemmas.{padded_true, padded_false}
use Rattle.office_wire.proofs.digits.is_padded.Goals as goal

pub returns-then-are_zeros : goal.returns-then-are_zeros
returns-then-are_zeros c =
    let short = c.args.short.now in
    let long = c.args.long.now in
    let back : c.eq.result ≡ bytes_eq (drop (length long - length short) long) short = c.eq.ensures ∙ ap (λ (l : List ℕ). bytes_eq l short) (take_rest long (length long - length short)) in
    back ∙ padded_true short long c.requires.short c.requires.long c.requires.order (sym c.are_zeros.ensures ∙ c.if-are_zeros.true)

pub returns-else-are_zeros : goal.returns-else-are_zeros
returns-else-are_zeros c =
    c.are_zeros.ensures ∙ padded_false c.args.short.now c.args.long.now c.requires.short c.requires.long c.requires.order (sym c.are_zeros.ensures ∙ c.if-are_zeros.false)
