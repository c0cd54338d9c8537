use Rattle.std.proofs.Common.{ap, map, sym}
use Rattle.std.specs.Process.{exit_status}
use Rattle.sqlite.specs.Held.{state}
use Rattle.cli_store.specs.Stores.{stores_of}
use Rattle.cli_store.proofs.StreamLemmas.{run_counted}
use Rattle.cli_store.proofs.streams.run_counted.Goals as goal

pub returns : goal.returns
returns g c =
    let s = stores_of (state g.S.Store) (g.P.StoreFiles.finds c.args.files) (g.P.StoreFiles.refuses c.args.files) (g.P.StoreFiles.connects c.args.files) in
    let i = c.new-input.ensures in
    let o = c.new-output.ensures in
    let t = c.new-trace.ensures in
    run_counted _ s (map (λ w. w.now) c.args.words.now) (exit_status c.do_words-conn.result.1) (g.M.Surroundings.around c.args.around.now) c.do_words-conn.result.0 _ _ _
    (ap g.I.Read.remaining i.device) (ap g.I.Read.remaining (sym c.into_inner.ensures)) i.none (ap g.O.Write.contents o.device)
    (ap g.O.Write.contents (sym c.into_inner-2.ensures)) o.none (ap g.E.Write.contents t.device) (ap g.E.Write.contents (sym c.into_inner-3.ensures)) t.none
    c.do_words-conn.ensures
