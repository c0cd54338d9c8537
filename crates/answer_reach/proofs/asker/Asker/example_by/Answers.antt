use Rattle.std.proofs.Common.{sym, subst}
use Rattle.zone_core.specs.Updates.{UpdateOf}
use Rattle.zone_answers.specs.Answers.{Name}
use Rattle.answer_reach.specs.Examples.{SearchOf, IsExample}
use Rattle.answer_reach.proofs.ExampleLemmas.{is_example}
use Rattle.answer_reach.proofs.asker.Asker.example_by.Goals as goal

pub returns : goal.returns
returns c =
    let s = c.args.self.now in
    let of : SearchOf = record { rules = s.rights.now.rules; caller = s.rights.now.caller; zone = s.index.now } in
    let trial = c.in-Some.trial in
    let asked = c.in-Some-2.asked in
    let is = rw c.in-Some.is at c.in_ok-trial.ensures in
    let both = rw c.in-Some-2.is at c.in_ok-asked.ensures in
    let example = is_example of trial.covered.items c.args.name.now asked trial.update is.tried both.1 in (
      c.in_ok-own.ensures,
      both.0,
      subst (λ (n : Name). IsExample of n asked c.in_ok-made.made) (sym c.in_ok-own.ensures)
          (subst (λ (u : UpdateOf). IsExample of c.args.name.now asked u) (sym c.in_ok-made.ensures) example),
    )
