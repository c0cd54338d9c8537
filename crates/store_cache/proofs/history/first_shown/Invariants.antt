use Rattle.std.proofs.Common.{◌≡◌}
use Rattle.store_cache.proofs.history.first_shown.Given as goal

abbrev pub invariant-loop-touched : goal.invariant-loop-touched
invariant-loop-touched l = record {
  same : l.grants ≡ l.fn.grants;
}
