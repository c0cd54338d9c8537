use Rattle.cli_store.proofs.ServedLemmas.{served_of}
use Rattle.cli_store.proofs.service.serve_listening.Goals as goal

pub returns-clause-served : goal.returns-clause-served
returns-clause-served g c = (
  c.serve.new.listener.socket,
  λ honest. rw c.new-listener.ensures.socket at (served_of
      (record { holds = g.T.ZoneTable.holds; leaves = g.T.ZoneTable.leaves; failures = g.T.ZoneTable.failures; fault = g.D.Diagnosis.fault c.args.connections.now.diagnosis.now; gives = g.K.Socket.gives; ends = g.K.Socket.ends; flow = g.K.Peer.Peer.flow; times = g.K.Peer.Peer.times })
      (λ t. t) (λ l. l.socket) _ _ _ _ _ _ _ _ (c.serve.ensures.served honest)),
)

pub returns-clause-written : goal.returns-clause-written
returns-clause-written g c = let told = rw c.new-listener.ensures.socket at c.serve.ensures.written in (told.0, told.1)
