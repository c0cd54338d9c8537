use Rattle.answer_reach.specs.Examples.{SearchOf}
use Rattle.answer_reach.proofs.ExampleLemmas.{of_row}
use Rattle.answer_reach.proofs.asker.Asker.example_in.Goals as goal

pub returns : goal.returns
returns c =
    let s = c.args.self.now in
    let of : SearchOf = record { rules = s.rights.now.rules; caller = s.rights.now.caller; zone = s.index.now } in
    of_row of c.args.row.now c.deref.result.now c.in-Some.name c.example_for.result (rw c.in-Some.is at c.in_ok-name.ensures) c.deref.ensures.value c.example_for.ensures
