use Rattle.std.proofs.Common.{List, ℕ, ◌++◌, ◌∷◌, [], sym, ◌∙◌, ap, length, arith, length-append}
use Rattle.dns_names.proofs.RowLemmas.{last_in_row}
use Rattle.dns_names.proofs.labels.LabelsDoubleEndedIterator.next_back.Goals as goal

pub returns-clause-steps : goal.returns-clause-steps
returns-clause-steps c =
    let e = c.in_ok-length.ensures.cases.0 ∙ ap (λ (n : ℕ). c.in_ok-length.lengths.now ++ n ∷ []) (sym c.from-length.ensures) in
    let last = last_in_row c.self.inside.lengths.now c.in_ok-length.lengths.now c.from-length.result c.self.inside.row.now c.split_at.result.0.now c.split_at.result.1.now e c.self.invariant c.split_at.ensures.front c.split_at.ensures.back in
    sym c.self.view_is ∙ last.1

pub returns-clause-goes : goal.returns-clause-goes
returns-clause-goes c =
    let steps = returns-clause-steps c in
    record { on = λ _. (tt, tt, omega (arith, ap (length {A = List ℕ}) steps, length-append {A = List ℕ})); keeps = tt; rests = λ _. tt }
