use Rattle.std.proofs.Common.{◌≡◌, drop}
use Rattle.store_rows.specs.Orders.{rises_above}
use Rattle.store_rows.proofs.ascending.rise_above.Given as goal

abbrev pub invariant-loop-next : goal.invariant-loop-next
invariant-loop-next g l = rises_above g.T.Ordered.compare l.before (drop l.next-index l.others) ≡ rises_above g.T.Ordered.compare l.fn.first l.fn.others
