use Rattle.std.proofs.Common.{ap, map, sym}
use Rattle.std.specs.Process.{exit_status}
use Rattle.sqlite.specs.Held.{state}
use Rattle.cli_store.specs.Stores.{stores_of}
use Rattle.cli_store.proofs.StreamLemmas.{run_kept}
use Rattle.cli_store.proofs.streams.run_words.Goals as goal

pub returns : goal.returns
returns g c =
    let s = stores_of (state g.S.Store) (g.P.StoreFiles.finds c.args.files) (g.P.StoreFiles.refuses c.args.files) (g.P.StoreFiles.connects c.args.files) in
    let run = rw c.new-kept.ensures at c.run_counted-conn.ensures in
    run_kept _ s (map (λ w. w.now) c.args.words.now) (exit_status c.run_counted-conn.result.2) (g.M.Surroundings.around c.args.around.now) c.run_counted-conn.result.0 _ _ _ _
    (ap g.I.Read.remaining c.new.ensures) (ap g.I.Read.remaining (sym c.into_parts-input.ensures)) run
