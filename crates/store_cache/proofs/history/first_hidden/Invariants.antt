use Rattle.std.proofs.Common.{◌≡◌, ◌&&◌, not, take, IsTrue}
use Rattle.std.specs.List.{list_all}
use Rattle.store_cache.specs.declared.history.Touched.{Touched}
use Rattle.store_cache.specs.History.{includes_none}
use Rattle.store_cache.proofs.history.first_hidden.Given as goal

abbrev pub invariant-loop-touched : goal.invariant-loop-touched
invariant-loop-touched l = record {
  same : l.grants ≡ l.fn.grants;
  count : l.count ≡ l.touched-index;
  none : IsTrue (list_all (λ (t : Touched). not (t.soa && l.sees_soa) && includes_none l.fn.grants t.points.items) (take l.touched-index l.changes));
}
