use Rattle.std.proofs.Common.{◌∙◌, ap, drop}
use Rattle.cli_text.proofs.LineObjectLemmas.{joined}
use Rattle.cli_text.proofs.line_objects.one_string.Goals as goal

pub returns : goal.returns
returns c =
    let rest = c.after_first.ensures ∙ (ap (drop 1) (c.deref.ensures.value ∙ c.in_ok-text.ensures) ∙ joined 32 (λ w. w.now) c.args.words.now) in
    rw rest at c.quoted.ensures
