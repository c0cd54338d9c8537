use Rattle.std.proofs.Common.{Err}
use Rattle.std.specs.Prelude.{string_bytes}
use Rattle.std.specs.Result.{result_map_both}
use Rattle.sqlite.specs.Held.{state}
use Rattle.cli_core.specs.LineFaults.{of_store}
use Rattle.cli_store.specs.Stores.{stores_of}
use Rattle.cli_store.proofs.FilesLemmas.{put_read, put_unread}
use Rattle.cli_store.proofs.StoreLemmas.{import_told}
use Rattle.cli_store.proofs.zones.import.Goals as goal

pub returns-in-Ok : goal.returns-in-Ok
returns-in-Ok g c =
    let s = stores_of (state g.S.Store) (g.P.StoreFiles.finds c.args.files) (g.P.StoreFiles.refuses c.args.files) (g.P.StoreFiles.connects c.args.files) in
    let what = c.args.what in
    let path = what.0.store.now in
    let left = g.R.Input.left c.args.reader.now in
    let fine = g.R.Input.fine c.args.reader.now c.zone_with_line.new.reader in
    let failed = g.R.Input.failed c.args.reader.now c.zone_with_line.new.reader in
    let made = c.in-Ok.ensures.made in
    let done = c.put_by-conn.result in
    let x =
    import_told s path what.0.origin.now done.0 _ _ _ _ _ what.1 left (result_map_both string_bytes (λ fault. fault) (result_map_both (λ _. c.in-Ok.line) of_store done.1)) fine failed
    (put_read s.shows (s.finds path) (s.refuses path) (s.connects path) string_bytes left what.0.origin.now what.1 c.in-Ok.zone done.0 done.1 c.in-Ok.line fine failed made.0 made.1 made.2 c.put_by-conn.ensures) (rw c.line_of.ensures at c.report.ensures) in
    record { written = x.0; stored = x.1 }

pub returns-in-Err : goal.returns-in-Err
returns-in-Err g c =
    let s = stores_of (state g.S.Store) (g.P.StoreFiles.finds c.args.files) (g.P.StoreFiles.refuses c.args.files) (g.P.StoreFiles.connects c.args.files) in
    let what = c.args.what in
    let path = what.0.store.now in
    let left = g.R.Input.left c.args.reader.now in
    let fine = g.R.Input.fine c.args.reader.now c.zone_with_line.new.reader in
    let failed = g.R.Input.failed c.args.reader.now c.zone_with_line.new.reader in
    let x =
    import_told s path what.0.origin.now _ _ _ _ _ _ what.1 left (Err c.in-Err.fault) fine failed
    (put_unread s.shows (s.finds path) (s.refuses path) (s.connects path) left what.0.origin.now what.1 c.in-Err.fault fine failed c.in-Err.ensures.refused) c.write_refusal.ensures in
    record { written = x.0; stored = x.1 }
