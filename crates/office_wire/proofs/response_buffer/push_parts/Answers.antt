use Rattle.std.proofs.Common.{◌≡◌, ◌++◌, ℕ, List, subst, OnOk}
use Rattle.office_wire.proofs.TextLemmas.{parts_text}
use Rattle.office_wire.proofs.response_buffer.push_parts.Goals as goal

pub returns-clause-text : goal.returns-clause-text
returns-clause-text c =
    subst (λ (t : List ℕ). OnOk c.push_all.result (c.push_all.new.out.items ≡ c.args.out.now.items ++ t)) (parts_text c.args.code.now c.args.phrase.now c.args.media.now c.args.digits.now c.args.end.now)
    (rw (c.as_bytes.ensures.value, c.as_bytes-2.ensures.value, c.as_bytes-3.ensures.value, c.as_bytes-4.ensures.value, c.as_bytes-5.ensures.value, c.as_bytes-6.ensures.value, c.as_bytes-7.ensures.value, c.as_bytes-8.ensures.value, c.as_bytes-9.ensures.value) at c.push_all.ensures.text.ok)
