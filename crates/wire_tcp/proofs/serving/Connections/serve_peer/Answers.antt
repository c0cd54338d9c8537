use Rattle.std.proofs.Common.{refl}
use Rattle.wire_tcp.proofs.ServedLemmas.{served_as}
use Rattle.wire_tcp.proofs.serving.Connections.serve_peer.Goals as goal

pub returns-clause-run : goal.returns-clause-run
returns-clause-run g c = λ honest s held.
    let a = c.serve_stream.ensures.run honest s held in (
      a.0,
      a.1,
      a.2,
      a.3,
      a.4,
      served_as a.0 c.serve_stream.result.1.ended _ _ _ _ c.take_watch-watch.ensures.flow refl a.5,
      a.6 _ (rw c.take_watch-watch.ensures.watch at c.now-begun.ensures),
    )

pub returns-clause-waited : goal.returns-clause-waited
returns-clause-waited g c = rw c.take_watch-watch.ensures.waits at c.serve_stream.ensures.waited

pub returns-clause-tried : goal.returns-clause-tried
returns-clause-tried g c = rw c.take_watch-watch.ensures.waits at c.serve_stream.ensures.tried
