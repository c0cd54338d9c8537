use Rattle.std.proofs.Common.{ℕ, List, subst}
use Rattle.wire_json.specs.Appending.{Appends}
use Rattle.wire_json.proofs.ShortLemmas.{form_error_text}
use Rattle.wire_json.proofs.short.push_form_error.Goals as goal

pub returns-clause-text : goal.returns-clause-text
returns-clause-text c =
    subst (λ (t : List ℕ). Appends c.args.out.now c.push_all.new.out t c.push_all.result) (form_error_text c.args.number)
    (rw (c.as_bytes.ensures.value, c.as_bytes-number.ensures.value, c.format.ensures.text, c.as_bytes-2.ensures.value) at c.push_all.ensures.text)
