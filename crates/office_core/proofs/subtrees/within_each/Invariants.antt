use Rattle.std.proofs.Common.{◌≡◌, take}
use Rattle.zone_core.specs.Sets.{InOrder}
use Rattle.office_model.specs.States.{State, zone_at}
use Rattle.office_core.proofs.SubtreesLemmas.{AreSoFar}
use Rattle.office_core.proofs.subtrees.within_each.Given as goal

abbrev pub invariant-loop-top : goal.invariant-loop-top
invariant-loop-top g l = record {
  order : InOrder l.all.items;
  grants : l.grants ≡ l.fn.grants;
  so_far : g.T.ZoneTable.is_honest l.table → (s : State) → g.T.ZoneTable.holds l.fn.table s → AreSoFar l.fn.grants (zone_at s l.origin) (take l.top-index l.tops) l.all.items;
  same : (s : State) → g.T.ZoneTable.holds l.fn.table s → g.T.ZoneTable.holds l.table s;
  only : g.T.ZoneTable.is_honest l.table → (s : State) → g.T.ZoneTable.holds l.table s → g.T.ZoneTable.holds l.fn.table s;
  crash : (s t : State) → g.T.ZoneTable.leaves l.fn.table s t → g.T.ZoneTable.leaves l.table s t;
  honest : g.T.ZoneTable.is_honest l.table → g.T.ZoneTable.is_honest l.fn.table;
  counts : g.T.ZoneTable.failures l.table ≡ g.T.ZoneTable.failures l.fn.table;
}
