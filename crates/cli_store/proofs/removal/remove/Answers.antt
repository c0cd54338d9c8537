use Rattle.std.proofs.Common.{inl, refl, Err}
use Rattle.std.specs.Prelude.{string_bytes}
use Rattle.std.specs.Result.{result_map_both}
use Rattle.sqlite.specs.Held.{state}
use Rattle.cli_core.specs.LineFaults.{of_store}
use Rattle.cli_store.specs.Stores.{stores_of}
use Rattle.cli_store.proofs.RemovalLemmas.{removed_there, removal_told}
use Rattle.cli_store.proofs.removal.remove.Goals as goal

pub returns-in-Ok : goal.returns-in-Ok
returns-in-Ok g c =
    let s = stores_of (state g.S.Store) (g.P.StoreFiles.finds c.args.files) (g.P.StoreFiles.refuses c.args.files) (g.P.StoreFiles.connects c.args.files) in
    let path = c.args.stored.store.now in
    let word = c.args.stored.origin.now in
    let got = c.asked_by-conn.result in
    let x =
    removal_told s path word got.0 _ _ _ _ _ (result_map_both string_bytes (λ fault. fault) (result_map_both (λ line. line) of_store got.1))
    (removed_there s.shows (s.finds path) (s.refuses path) (s.connects path) string_bytes word c.in-Ok.origin got.0 got.1 c.in-Ok.ensures c.asked_by-conn.ensures) (rw c.line_of.ensures at c.report.ensures) in
    record { written = x.0; removed = x.1 }

pub returns-in-Err : goal.returns-in-Err
returns-in-Err g c =
    let s = stores_of (state g.S.Store) (g.P.StoreFiles.finds c.args.files) (g.P.StoreFiles.refuses c.args.files) (g.P.StoreFiles.connects c.args.files) in
    let x = removal_told s c.args.stored.store.now c.args.stored.origin.now _ _ _ _ _ _ (Err c.in-Err.fault) (inl (c.in-Err.ensures, refl)) c.write_refusal.ensures in
    record { written = x.0; removed = x.1 }
