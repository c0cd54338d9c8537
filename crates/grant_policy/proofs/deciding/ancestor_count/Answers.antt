use Rattle.std.proofs.Common.{inl, ap, length, List, ℕ, arith}
use Rattle.grant_policy.proofs.DecideLemmas.{count_fits}
use Rattle.grant_policy.proofs.deciding.ancestor_count.Goals as goal

pub count-requires-clause-fits : goal.count-requires-clause-fits
count-requires-clause-fits c = inl (omega (arith, count_fits c.args.name.now, ap (length {A = List ℕ}) c.labels.ensures.labels, c.labels.ensures.name.short))

pub overflow_add-result : goal.overflow_add-result
overflow_add-result c = omega (arith, count_fits c.args.name.now, ap (length {A = List ℕ}) c.labels.ensures.labels, c.labels.ensures.name.short, c.count.ensures.bound)
