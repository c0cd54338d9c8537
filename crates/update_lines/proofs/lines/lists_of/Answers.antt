use Rattle.std.proofs.Common.{map}
use Rattle.dns_master.specs.Tokens.{token_of}
use Rattle.update_lines.proofs.EntryLemmas.{lists_of_tokens, lists_refused_by}
use Rattle.update_lines.proofs.lines.lists_of.Goals as goal

pub returns-in-Ok : goal.returns-in-Ok
returns-in-Ok c =
    rw (lists_of_tokens c.args.text.now (map token_of c.in-Ok.tokens.items) c.in-Ok.ensures.exact, ← c.deref.ensures.value) c.read_lists.ensures

pub returns-in-Err : goal.returns-in-Err
returns-in-Err c = rw c.of_shape.ensures (lists_refused_by c.args.text.now c.in-Err.fault c.in-Err.ensures.exact)
