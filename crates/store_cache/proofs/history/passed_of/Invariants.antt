use Rattle.std.proofs.Common.{◌≡◌, ◌≤◌, ◌&&◌, not, length, take}
use Rattle.std.specs.List.{filter}
use Rattle.store_cache.specs.declared.history.Touched.{Touched}
use Rattle.store_cache.specs.History.{includes_none}
use Rattle.store_cache.proofs.history.passed_of.Given as goal

abbrev pub invariant-loop-touched : goal.invariant-loop-touched
invariant-loop-touched l = record {
  same : l.grants ≡ l.fn.grants;
  read : l.passed.read ≡ l.touched-index;
  seen : l.passed.seen ≡ length (filter (λ (t : Touched). not (not (t.soa && l.sees_soa) && includes_none l.fn.grants t.points.items)) (take l.touched-index l.changes));
  few : l.passed.seen ≤ l.most;
}
