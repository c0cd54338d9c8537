use Rattle.std.proofs.Common.{◌≡◌, Result, Ok, ap, subst, ◌∙◌}
use Rattle.office_wire.specs.declared.ending.Ending.{Ending}
use Rattle.office_wire.specs.declared.ending.Ending.TheVariants.{Answered}
use Rattle.office_wire.specs.declared.serve_fault.ServeFault.{ServeFault}
use Rattle.office_wire.specs.Serving.{IsEnded}
use Rattle.office_wire.proofs.responder.serve_whole.Goals as goal

pub returns-in-Ok-Answered-clause-run : goal.returns-in-Ok-Answered-clause-run
returns-in-Ok-Answered-clause-run g c = λ honest s held.
    let served = c.serve_stream-served.ensures.run honest s (held, c.new-responder.ensures.fits s.state) in
    let r = rw c.new-responder.ensures.rules at served in
    let inner : c.in-Ok-Answered.field-0 ≡ Answered = rw c.in-Ok-Answered.is at c.in-Ok-Answered.field-0-is in
    let answered : c.serve_stream-served.result.ended ≡ Ok Answered = c.in-Ok-Answered.is ∙ ap (λ (e : Ending). Ok e) inner in
    let before = g.S.Stream.flow c.args.stream.now in
    let now = g.S.Stream.flow c.serve_stream-served.new.stream in
    let done = subst (λ (e : Result Ending ServeFault). IsEnded r.0 e before.remaining now.remaining before.contents now.contents) answered r.6.done in
    (r.0, r.1, r.2.0, r.3, done, r.4)
