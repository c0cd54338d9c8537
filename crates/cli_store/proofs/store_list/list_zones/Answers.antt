use Rattle.std.specs.Prelude.{string_bytes}
use Rattle.std.specs.Result.{result_map_both}
use Rattle.sqlite.specs.Held.{state}
use Rattle.cli_store.specs.StoreList.{list_in, IsListRead}
use Rattle.cli_store.proofs.FilesLemmas.{got_seen}
use Rattle.cli_store.proofs.store_list.list_zones.Goals as goal

pub returns : goal.returns
returns g c =
    let path = c.args.store.now in (
      result_map_both list_in (λ fault. fault) c.asked_by-conn.result.1,
      got_seen (state g.S.Store) (g.P.StoreFiles.finds c.args.files path) (g.P.StoreFiles.refuses c.args.files path) (g.P.StoreFiles.connects c.args.files path) list_in IsListRead c.asked_by-conn.result.0 c.asked_by-conn.result.1 c.asked_by-conn.ensures,
      (result_map_both string_bytes (λ fault. fault) c.text_of.result, c.text_of.ensures, c.report.ensures),
    )
