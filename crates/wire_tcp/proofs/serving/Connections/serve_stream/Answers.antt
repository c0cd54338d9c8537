use Rattle.std.proofs.Common.{◌∙◌, ap, sym}
use Rattle.wire_tcp.proofs.TryLemmas.{are_tried, tried_as}
use Rattle.wire_tcp.proofs.WaitLemmas.{are_waits}
use Rattle.wire_tcp.proofs.ServedLemmas.{served_as, waits_as, ages_as}
use Rattle.wire_tcp.proofs.serving.Connections.serve_stream.Goals as goal

pub returns-clause-run : goal.returns-clause-run
returns-clause-run g c = λ honest s held.
    let a = c.serve_stream-served.ensures.run honest s held in (
      a.0,
      a.1,
      a.2,
      a.3,
      a.5,
      served_as a.0 c.serve_stream-served.result.ended _ _ _ _ c.new-stream.ensures.flow (c.put_watch.ensures.flow ∙ ap g.P.Peer.flow c.into_peer-peer.ensures) a.6,
      λ start first. ages_as _ _ _ a.0 c.serve_stream-served.result.ended _ _ _ _ _ _ _ _ c.requires.longest (c.put_watch.ensures.ages ∙ ap g.P.Watch.Watch.readings c.into_watch.ensures) c.new-limit.ensures.asks c.new-limit.ensures.passes first
          c.serve_stream-served.new.deadline.told a.7 c.serve_stream-served.ensures.passed,
    )

pub returns-clause-waited : goal.returns-clause-waited
returns-clause-waited g c =
    let new = c.new-stream.ensures in
    waits_as _ _ _ _ _ _ _ new.patience new.longest (c.put_watch.ensures.waits ∙ ap (λ p. (g.P.Peer.times p).waits) c.into_peer-peer.ensures)
    (are_waits c.new-stream.result.pace _ _ _ _ _ new.first (new.left ∙ sym new.patience) new.connected c.serve_stream-served.ensures.kept.1)

pub returns-clause-tried : goal.returns-clause-tried
returns-clause-tried g c =
    let new = c.new-stream.ensures in
    let tried = c.serve_stream-served.ensures.kept.3 in
    tried_as c.serve_stream-served.result.ended _ _ _ (c.put_watch.ensures.waits ∙ ap (λ p. (g.P.Peer.times p).waits) c.into_peer-peer.ensures)
    (are_tried c.serve_stream-served.result.ended _ _ _ _ tried.0 tried.1 _ _ _ _ new.connected tried.2 new.reads new.writes tried.3 tried.4 c.serve_stream-served.ensures.devices)
