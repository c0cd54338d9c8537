use Rattle.std.proofs.Common.{inl, refl, Err, List, ℕ, Vec, Global}
use Rattle.std.specs.Result.{result_map_both}
use Rattle.dns_data.specs.declared.record.Record.{Record}
use Rattle.sqlite.specs.Held.{state}
use Rattle.cli_text.specs.Canon.{zone_text_in}
use Rattle.cli_core.specs.LineFaults.{of_store}
use Rattle.cli_store.specs.Stores.{stores_of}
use Rattle.cli_store.proofs.FilesLemmas.{found_exported}
use Rattle.cli_store.proofs.StoreLemmas.{export_told, shown_with}
use Rattle.cli_store.proofs.zones.export.Goals as goal

pub returns-in-Ok : goal.returns-in-Ok
returns-in-Ok g c =
    let s = stores_of (state g.S.Store) (g.P.StoreFiles.finds c.args.files) (g.P.StoreFiles.refuses c.args.files) (g.P.StoreFiles.connects c.args.files) in
    let path = c.args.stored.store.now in
    let word = c.args.stored.origin.now in
    let origin = c.in-Ok.origin in
    let held = c.asked_by-conn.result in
    let x =
    export_told s path word held.0 _ _ _ _ _ c.args.form (λ (records : Vec Record Global). records.items) (result_map_both (λ (records : Vec Record Global). (origin, records)) of_store held.1)
    (found_exported s.shows (s.finds path) (s.refuses path) (s.connects path) (λ (records : Vec Record Global). records.items) word origin held.0 held.1 c.in-Ok.ensures c.asked_by-conn.ensures)
    (shown_with (λ (name : List (List ℕ)) (records : Vec Record Global). zone_text_in c.args.form name records.items) origin _ _ _ _ held.1 c.print_held.result c.print_held.ensures) in
    record { written = x.0; held = x.1 }

pub returns-in-Err : goal.returns-in-Err
returns-in-Err g c =
    let s = stores_of (state g.S.Store) (g.P.StoreFiles.finds c.args.files) (g.P.StoreFiles.refuses c.args.files) (g.P.StoreFiles.connects c.args.files) in
    let x =
    export_told s c.args.stored.store.now c.args.stored.origin.now _ _ _ _ _ _ c.args.form (λ (records : Vec Record Global). records.items) (Err c.in-Err.fault) (inl (c.in-Err.ensures, refl)) c.write_refusal.ensures in
    record { written = x.0; held = x.1 }
