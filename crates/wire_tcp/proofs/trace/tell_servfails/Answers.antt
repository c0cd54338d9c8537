use Rattle.wire_tcp.proofs.trace.tell_servfails.Goals as goal

pub returns : goal.returns
returns g c =
    let sent = rw (c.as_bytes.ensures.value, c.format.ensures.text, c.as_bytes-2.ensures.value, c.were_answered.ensures, c.as_bytes-3.ensures.value, c.words.ensures, c.of.ensures) at c.write_texts.ensures in
    rw c.in-Some.is sent
