use Rattle.std.proofs.Common.{◌≡◌, take, IsTrue}
use Rattle.store_cache.specs.History.{includes_none}
use Rattle.store_cache.proofs.history.Touched.is_hidden.Given as goal

abbrev pub invariant-loop-point : goal.invariant-loop-point
invariant-loop-point l = record {
  same : l.grants ≡ l.fn.grants;
  none : IsTrue (includes_none l.fn.grants (take l.point-index l.self.points.items));
}
