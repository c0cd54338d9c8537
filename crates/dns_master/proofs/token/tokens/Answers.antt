use Rattle.std.proofs.Common.{map, sym, ap, ◌∙◌}
use Rattle.dns_master.specs.Tokens.{token_of}
use Rattle.dns_master.specs.Faults.{on_lines}
use Rattle.dns_master.proofs.WalkLaws.{tokens_found, tokens_read, tokens_or_memory}
use Rattle.dns_master.proofs.SpanLaws.{tokens_slices, tokens_in_order}
use Rattle.dns_master.proofs.RefusalLaws.{refusal_is_fault}
use Rattle.dns_master.proofs.token.tokens.Goals as goal

pub returns-in-Ok-clause-found : goal.returns-in-Ok-clause-found
returns-in-Ok-clause-found c = tokens_found c.args.text.now (map token_of c.in-Ok.tokens.items) c.in-Ok.ensures

pub returns-in-Ok-clause-only : goal.returns-in-Ok-clause-only
returns-in-Ok-clause-only c = λ ts h. ap (on_lines c.args.text.now) (sym (tokens_read c.args.text.now ts h) ∙ c.in-Ok.ensures)

pub returns-in-Ok-clause-slices : goal.returns-in-Ok-clause-slices
returns-in-Ok-clause-slices c =
    tokens_slices c.args.text.now (map token_of c.in-Ok.tokens.items) (tokens_found c.args.text.now (map token_of c.in-Ok.tokens.items) c.in-Ok.ensures)

pub returns-in-Ok-clause-order : goal.returns-in-Ok-clause-order
returns-in-Ok-clause-order c =
    tokens_in_order c.args.text.now (map token_of c.in-Ok.tokens.items) (tokens_found c.args.text.now (map token_of c.in-Ok.tokens.items) c.in-Ok.ensures)

pub returns-in-Err-clause-only : goal.returns-in-Err-clause-only
returns-in-Err-clause-only c = λ ts h. rw c.on_line.ensures (tokens_or_memory c.args.text.now c.in-Err.fault ts c.in-Err.ensures h)

pub returns-in-Err-clause-refused : goal.returns-in-Err-clause-refused
returns-in-Err-clause-refused c = rw c.on_line.ensures (refusal_is_fault c.args.text.now c.in-Err.fault c.in-Err.ensures)
