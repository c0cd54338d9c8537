use Rattle.std.proofs.Common.{ℕ, ◌++◌, ◌∷◌, [], sym, ap, ◌∙◌}
use Rattle.dns_names.proofs.RowLemmas.{last_label}
use Rattle.dns_names.proofs.representation.NewLabels.take_last.Goals as goal

pub returns-clause-some : goal.returns-clause-some
returns-clause-some c =
    let e = c.in_ok-length.ensures.cases.0 ∙ ap (λ (n : ℕ). c.in_ok-length.lengths.now ++ n ∷ []) (sym c.from.ensures) in
    sym c.self.view_is ∙ last_label c.self.inside.lengths.now c.in_ok-length.lengths.now c.from.result c.self.inside.octets.now c.split_at.result.0.now c.split_at.result.1.now e c.self.invariant c.split_at.ensures.front c.split_at.ensures.back
