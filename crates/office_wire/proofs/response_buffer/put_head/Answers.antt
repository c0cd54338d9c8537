use Rattle.office_wire.proofs.response_buffer.put_head.Goals as goal

pub returns-clause-text : goal.returns-clause-text
returns-clause-text c =
    rw (c.as_str.ensures, c.phrase.ensures, c.media_type.ensures.text, c.format.ensures.text, c.head_end.ensures.text, c.status-status.ensures.status, c.clear.ensures.items) at c.in-Ok.ensures.text
