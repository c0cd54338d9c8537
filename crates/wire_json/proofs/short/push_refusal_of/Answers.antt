use Rattle.std.proofs.Common.{ℕ, List, subst}
use Rattle.wire_json.specs.Appending.{Appends}
use Rattle.wire_json.proofs.ShortLemmas.{refusing_text}
use Rattle.wire_json.proofs.short.push_refusal_of.Goals as goal

pub returns-clause-text : goal.returns-clause-text
returns-clause-text c =
    subst (λ (t : List ℕ). Appends c.args.out.now c.push_all.new.out t c.push_all.result) (refusing_text c.args.rule.now c.args.item.now c.args.list.now c.requires.rule c.requires.plain)
    (rw (c.as_bytes.ensures.value, c.as_bytes-2.ensures.value, c.as_bytes-3.ensures.value, c.as_bytes-4.ensures.value, c.as_bytes-5.ensures.value, c.as_bytes-6.ensures.value) at c.push_all.ensures.text)
