use Rattle.std.proofs.Common.{drop}
use Rattle.sqlite.specs.Held.{state}
use Rattle.cli_store.proofs.ListPutLemmas.{Leads}
use Rattle.cli_store.proofs.ZoneFileLemmas.{views}
use Rattle.cli_store.proofs.import_list.put_all.Given as goal

-- what is done with the zones that are left is done with all
abbrev pub invariant-loop-zone : goal.invariant-loop-zone
invariant-loop-zone g l =
    Leads (state g.S.Store) (g.M.Surroundings.around l.around) l.existing (views (drop l.zone-index l.zones)) l.table.conn (g.W.Sink.contents l.writer) (g.W.FaultCount.failures l.writer)
    (views l.zones) l.initial.table.conn (g.W.Sink.contents l.initial.writer) (g.W.FaultCount.failures l.initial.writer)
