use Rattle.std.proofs.lemmas.Result.{err_from_is_err_and}
use Rattle.std.specs.Prelude.{string_bytes}
use Rattle.sqlite.specs.Held.{state}
use Rattle.cli_store.specs.ZoneFiles.{zone_file_view}
use Rattle.cli_store.proofs.ListPutLemmas.{file_refused, file_put}
use Rattle.cli_store.proofs.import_list.put_file.Goals as goal

pub returns-in_err-it : goal.returns-in_err-it
returns-in_err-it g c =
    let p = err_from_is_err_and c.from_residual.result c.from_residual.ensures.1 in
    rw (p.1, p.2) (file_refused (g.M.Surroundings.around c.args.around.now) c.args.existing (zone_file_view c.args.zone.now) (state g.S.Store c.args.table.now.conn) _ c.in_err-it.ensures.refused)

pub returns : goal.returns
returns g c =
    let made = c.in_ok-it.ensures.made in
    rw c.line_of.ensures (file_put (g.M.Surroundings.around c.args.around.now) c.args.existing (zone_file_view c.args.zone.now) string_bytes _ _ _ _ _ made.0 made.2 c.run.ensures)
