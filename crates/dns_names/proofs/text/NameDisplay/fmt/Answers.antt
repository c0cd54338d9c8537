use Rattle.std.proofs.Common.{ap, ◌∙◌, arith}
use Rattle.std.proofs.Output.{has_written_of_eq}
use Rattle.std.specs.List.{flat_map}
use Rattle.dns_names.specs.Spelling.{label_text}
use Rattle.dns_names.proofs.TextLemmas.{some_labels, no_label, labels_text}
use Rattle.dns_names.proofs.text.NameDisplay.fmt.Goals as goal

pub returns-in-Some-clause-writes : goal.returns-in-Some-clause-writes
returns-in-Some-clause-writes g c = λ plain ok.
    let text = c.in-Some.ensures.some ∙ ap (flat_map label_text) c.labels.ensures.labels in
    has_written_of_eq _ _ _ _ _ (some_labels c.args.self.now c.in-Some.text.bytes text (grind (arith, c.is_empty.ensures, c.if-not-is_empty.true))) (rw c.as_str.ensures.value at (c.write_str.ensures.writes plain ok))

pub returns-in-Some-2-clause-writes : goal.returns-in-Some-2-clause-writes
returns-in-Some-2-clause-writes g c = λ plain ok.
    let text = c.in-Some.ensures.some ∙ ap (flat_map label_text) c.labels.ensures.labels in
    has_written_of_eq _ _ _ _ _ (no_label c.args.self.now c.in-Some.text.bytes text (grind (arith, c.is_empty.ensures, c.if-not-is_empty.false))) (c.write_str-in-Some-2.ensures.writes plain ok)

pub returns-in-None-clause-writes : goal.returns-in-None-clause-writes
returns-in-None-clause-writes g c = λ plain ok.
    has_written_of_eq _ _ _ _ _ (ap (flat_map label_text) c.labels-in-None.ensures.labels ∙ labels_text c.args.self.now (λ none. c.in-None.ensures.none (c.labels.ensures.labels ∙ none))) (c.write_labels.ensures plain ok)
