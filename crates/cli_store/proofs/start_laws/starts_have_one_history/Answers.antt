use Rattle.sqlite.specs.Held.{state}
use Rattle.cli_store.proofs.DeedLemmas as deeds
use Rattle.cli_store.proofs.StartLemmas as the
use Rattle.cli_store.proofs.start_laws.starts_have_one_history.Goals as goal

pub returns-clause-history : goal.returns-clause-history
returns-clause-history g c = the.starts_have_one_history (record {
  around = g.M.Surroundings.around;
  callers = record { cut = g.M.Listener.Socket.cut; gives = g.M.Listener.Socket.gives; ends = g.M.Listener.Socket.ends; flow = g.M.Listener.Peer.Peer.flow; times = g.M.Listener.Peer.Peer.times };
  shows = state g.S.Store;
  finds = g.P.StoreFiles.finds;
  refuses = g.P.StoreFiles.refuses;
  connects = g.P.StoreFiles.connects;
}) (λ conn db up may. g.met.S.Store.settled conn.store db up may)

pub returns-clause-kept : goal.returns-clause-kept
returns-clause-kept g c = deeds.deeds_keep_receipts

pub returns-clause-once : goal.returns-clause-once
returns-clause-once g c = deeds.deeds_are_made_once

pub returns-clause-anew : goal.returns-clause-anew
returns-clause-anew g c = deeds.zones_begin_anew
