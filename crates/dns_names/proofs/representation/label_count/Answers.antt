use Rattle.std.proofs.Common.{sym, arith}
use Rattle.dns_names.proofs.RowLemmas.{counts_fit, labels_joined}
use Rattle.dns_names.proofs.representation.label_count.Goals as goal

pub overflow_cast-result : goal.overflow_cast-result
overflow_cast-result c = omega (arith, (counts_fit _ c.requires).0, labels_joined _ _ _ _ _ c.args.front.now c.args.tail.now c.front.invariant c.front.view_is c.tail.invariant c.tail.view_is)

pub returns : goal.returns
returns c = sym (labels_joined _ _ _ _ _ c.args.front.now c.args.tail.now c.front.invariant c.front.view_is c.tail.invariant c.tail.view_is)
