use Rattle.std.proofs.Common.{arith}
use Rattle.dns_names.proofs.RowLemmas.{counts_fit, key_total}
use Rattle.dns_names.proofs.representation.key_len.Goals as goal

pub overflow_add-result-2 : goal.overflow_add-result-2
overflow_add-result-2 c = omega (arith, (counts_fit _ c.requires).2, key_total _ _ _ _ _ c.args.front.now c.args.tail.now c.front.invariant c.front.view_is c.tail.invariant c.tail.view_is)

pub overflow_add-result-3 : goal.overflow_add-result-3
overflow_add-result-3 c = omega (arith, (counts_fit _ c.requires).2, key_total _ _ _ _ _ c.args.front.now c.args.tail.now c.front.invariant c.front.view_is c.tail.invariant c.tail.view_is, c.escapes.ensures)

pub returns : goal.returns
returns c = omega (arith, key_total _ _ _ _ _ c.args.front.now c.args.tail.now c.front.invariant c.front.view_is c.tail.invariant c.tail.view_is, c.escapes.ensures)
