use Rattle.cli_store.proofs.log_object.push_request.Goals as goal

pub returns : goal.returns
returns c = rw (c.as_bytes.ensures.value, c.in_ok-request.ensures.canonical) at c.push_member.ensures
