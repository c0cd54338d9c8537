use Rattle.std.proofs.Common.{ℕ, List, subst}
use Rattle.wire_json.specs.Appending.{Appends}
use Rattle.wire_json.proofs.ShortLemmas.{place_text}
use Rattle.wire_json.proofs.short.push_place.Goals as goal

pub returns-clause-text : goal.returns-clause-text
returns-clause-text c =
    subst (λ (t : List ℕ). Appends c.args.out.now c.push_all.new.out t c.push_all.result) (place_text c.args.code c.args.item c.args.list)
    (rw (c.as_bytes.ensures.value, c.as_bytes-number.ensures.value, c.format.ensures.text, c.number.ensures, c.as_bytes-2.ensures.value, c.as_bytes-item.ensures.value, c.format-2.ensures.text, c.as_bytes-3.ensures.value, c.as_bytes-4.ensures.value, c.text.ensures.text, c.as_bytes-5.ensures.value, c.as_bytes-6.ensures.value, c.text-2.ensures, c.as_bytes-7.ensures.value) at c.push_all.ensures.text)
