use Rattle.wire_json.proofs.short.push_refusal.Goals as goal

pub returns-clause-text : goal.returns-clause-text
returns-clause-text c = rw (c.as_bytes.ensures.value, c.as_bytes-number.ensures.value, c.format.ensures.text, c.as_bytes-2.ensures.value) at c.push_all.ensures.text
