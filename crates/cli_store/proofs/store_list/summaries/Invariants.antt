use Rattle.std.proofs.Common.{◌≡◌, map, take, IsTrue}
use Rattle.std.specs.List.{AllByRecursion}
use Rattle.sqlite.specs.Held.{state}
use Rattle.sqlite.specs.State.{HasCleanDisk}
use Rattle.office_model.specs.States.{State}
use Rattle.office_store.specs.Holds.{HoldsState}
use Rattle.office_store.specs.Queries.{Asked, Only}
use Rattle.cli_store.specs.declared.zone_list.ZoneSummary.{ZoneSummary}
use Rattle.cli_store.specs.StoreList.{IsSummary}
use Rattle.cli_store.proofs.store_list.summaries.Given as goal

abbrev pub invariant-loop-origin : goal.invariant-loop-origin
invariant-loop-origin g l = record {
  asked : Asked (state g.S.Store l.fn.table.conn) (state g.S.Store l.table.conn);
  only : HasCleanDisk (state g.S.Store l.table.conn) → IsTrue (state g.S.Store l.fn.table.conn).is_open → Only (state g.S.Store l.fn.table.conn) (state g.S.Store l.table.conn);
  names : map (λ (z : ZoneSummary). z.origin) l.zones.items ≡ take l.origin-index l.origins;
  held : HasCleanDisk (state g.S.Store l.table.conn) → (s : State) → HoldsState (state g.S.Store l.fn.table.conn) s → AllByRecursion (IsSummary s) l.zones.items;
}
