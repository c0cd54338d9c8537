use Rattle.std.proofs.Common.{ap, refl, sym}
use Rattle.sqlite.specs.Held.{state}
use Rattle.cli_store.specs.Around.{Callers}
use Rattle.cli_store.specs.Serve.{parties_of}
use Rattle.cli_store.proofs.FilesLemmas.{told_as}
use Rattle.cli_store.proofs.ServedLemmas.{served_of}
use Rattle.cli_store.proofs.service.serve_opened.Goals as goal

pub returns : goal.returns
returns g c =
    let e = c.serve_table-done.ensures in
    let of = c.connections_of-connections.ensures in
    let table = c.limit.new.table in
    let left = c.serve_table-done.new.table in
    let callers : Callers _ _ = record { cut = g.M.Listener.Socket.cut; gives = g.M.Listener.Socket.gives; ends = g.M.Listener.Socket.ends; flow = g.M.Listener.Peer.Peer.flow; times = g.M.Listener.Peer.Peer.times } in
    rw (c.into_connection.ensures, sym c.limit.ensures.conn) (record {
      honest = e.honest;
      before = record { conn = table.conn; failures = table.book.total; fault = table.fault };
      before_is = refl;
      left = record { conn = left.conn; failures = left.book.total; fault = left.fault };
      left_is = refl;
      told = told_as (g.M.Surroundings.around c.args.around.now) _ _ _ _ _ _ _ _ (λ idle. (ap (λ t. t.conn) idle.0, idle.1, idle.2))
          (λ mid l m served clean. served_of (parties_of (state g.S.Store) callers) (λ t. record { conn = t.conn; failures = t.book.total; fault = t.fault }) (λ l. l) _ _ _ _ _ _ _ _ (served clean))
          (rw (of.most, of.policy, of.patience, of.longest) at e.told);
    })
