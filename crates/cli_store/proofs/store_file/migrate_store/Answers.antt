use Rattle.std.proofs.Common.{inl, refl}
use Rattle.sqlite.specs.Held.{state}
use Rattle.cli_store.proofs.FilesLemmas.{migrated_to, unmigrated, migrated_store}
use Rattle.cli_store.proofs.store_file.migrate_store.Goals as goal

pub returns-in-Ok : goal.returns-in-Ok
returns-in-Ok g c =
    let e = c.migrate-migrated.ensures in
    let found = c.in-Ok.conn in
    let after = c.migrate-migrated.new.conn in
    let done = c.migrate-migrated.result in
    migrated_store (state g.S.Store) (g.P.StoreFiles.finds c.args.files c.args.path.now) (g.P.StoreFiles.refuses c.args.files c.args.path.now) (g.P.StoreFiles.connects c.args.files c.args.path.now) found after done c.in-Ok.ensures.connected
    (migrated_to (state g.S.Store found) (state g.S.Store after) done e.made) (unmigrated (state g.S.Store found) (state g.S.Store after) done e.failed e.good e.wrong e.bad e.named e.crash e.same)

pub returns-in-Err : goal.returns-in-Err
returns-in-Err g c = inl (c.in-Err.ensures.refused, refl)
