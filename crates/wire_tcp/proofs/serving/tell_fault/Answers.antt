use Rattle.wire_tcp.proofs.serving.tell_fault.Goals as goal

pub returns : goal.returns
returns g c = rw (c.as_bytes.ensures.value, c.format.ensures.text, c.number.ensures) at c.write_texts.ensures
