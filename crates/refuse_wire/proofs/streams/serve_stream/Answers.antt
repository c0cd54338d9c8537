-- One answer for what the function ensures, so that a wrong body is refused soon.
use Rattle.refuse_wire.proofs.streams.serve_stream.Goals as goal

pub returns : goal.returns
returns g c = λ honest s held. let r = c.serve_stream-served.ensures.run honest s held in (r.0, r.1, r.2, r.3, r.5, r.6.in_turn)
