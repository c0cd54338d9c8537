use Rattle.std.proofs.Common.{ℕ, List, subst}
use Rattle.wire_json.specs.Appending.{Appends}
use Rattle.wire_json.proofs.ShortLemmas.{decision_text}
use Rattle.wire_json.proofs.short.push_decision.Goals as goal

pub returns-clause-text : goal.returns-clause-text
returns-clause-text c =
    subst (λ (t : List ℕ). Appends c.args.out.now c.push_all.new.out t c.push_all.result) (decision_text c.args.rule.now c.args.granted.now c.requires.rule)
    (rw (c.as_bytes.ensures.value, c.as_bytes-2.ensures.value, c.as_bytes-3.ensures.value, c.as_bytes-4.ensures.value) at c.push_all.ensures.text)
