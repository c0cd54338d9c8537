use Rattle.std.proofs.Common.{refl}
use Rattle.sqlite.specs.Held.{state}
use Rattle.wire_tcp.specs.Connections.{Writing}
use Rattle.cli_store.specs.Program.{Reading}
use Rattle.cli_store.specs.Stores.{stores_of}
use Rattle.cli_store.proofs.ProgramLemmas.{list_ended}
use Rattle.cli_store.proofs.program.done.Goals as goal

pub returns-in-Import : goal.returns-in-Import
returns-in-Import g c = rw c.in-Import.is ((refl, refl), (_, (c.import.ensures.written, c.import.ensures.stored), refl))

pub returns-in-ImportList : goal.returns-in-ImportList
returns-in-ImportList g c =
    let read = c.import_list.new.input in
    let written = c.import_list.new.output in
    let i : Reading = record { left = g.R.Source.remaining c.args.input.now; rest = g.R.Source.remaining read; before = g.R.FaultCount.failures c.args.input.now; after = g.R.FaultCount.failures read } in
    let o : Writing = record { old = g.W.Sink.contents c.args.output.now; new = g.W.Sink.contents written; before = g.W.FaultCount.failures c.args.output.now; after = g.W.FaultCount.failures written } in
    let s = stores_of (state g.S.Store) (g.P.StoreFiles.finds c.args.files) (g.P.StoreFiles.refuses c.args.files) (g.P.StoreFiles.connects c.args.files) in
    rw c.in-ImportList.is ((refl, refl), list_ended (g.M.Surroundings.around c.args.around.now) i s c.in-ImportList.words c.import_list.result.0 o c.import_list.result.1 c.import_list.ensures)

pub returns-in-Export : goal.returns-in-Export
returns-in-Export g c = rw c.in-Export.is ((refl, refl), (refl, refl), (_, c.export_by.ensures, refl))

pub returns-in-Zones : goal.returns-in-Zones
returns-in-Zones g c = rw c.in-Zones.is ((refl, refl), (refl, refl), (_, c.list_zones.ensures, refl))

pub returns-in-Log : goal.returns-in-Log
returns-in-Log g c = rw c.in-Log.is ((refl, refl), (refl, refl), (_, c.log.ensures, refl))

pub returns-in-Blame : goal.returns-in-Blame
returns-in-Blame g c = rw c.in-Blame.is ((refl, refl), (refl, refl), (_, c.blame_by.ensures, refl))

pub returns-in-Undo : goal.returns-in-Undo
returns-in-Undo g c = rw c.in-Undo.is ((refl, refl), (refl, refl), (_, c.undo.ensures, refl))

pub returns-in-Migrate : goal.returns-in-Migrate
returns-in-Migrate g c = rw c.in-Migrate.is ((refl, refl), (refl, refl), (_, (c.migrate.ensures.written, c.migrate.ensures.migrated), refl))

pub returns-in-Remove : goal.returns-in-Remove
returns-in-Remove g c = rw c.in-Remove.is ((refl, refl), (refl, refl), (_, (c.remove.ensures.written, c.remove.ensures.removed), refl))

pub returns-in-Serve : goal.returns-in-Serve
returns-in-Serve g c = rw c.in-Serve.is ((refl, refl), (_, c.serve.ensures, refl))
