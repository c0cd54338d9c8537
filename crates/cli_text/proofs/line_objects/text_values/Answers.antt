use Rattle.std.proofs.Common.{◌∙◌, ap, sym, List, ℕ, Bor}
use Rattle.std.specs.List.{flat_map}
use Rattle.std.proofs.lemmas.List.Folds.{flat_map-map}
use Rattle.policy_tools.specs.ExpectationLines.{lines_of}
use Rattle.cli_text.specs.LineObjects.{each_after, line_value}
use Rattle.cli_text.proofs.LineObjectLemmas.{each_values}
use Rattle.cli_text.proofs.line_objects.text_values.Goals as goal

pub returns : goal.returns
returns c =
    let value = λ (line : List ℕ). each_after 44 (line_value c.args.kind line) in
    let each = λ (line : Bor (List ℕ)). value line.now in
    let same = ap (flat_map each) c.deref.ensures.value ∙ (sym (flat_map-map value (λ (line : Bor (List ℕ)). line.now) c.in_ok-lines.lines.items)
    ∙ (ap (flat_map value) c.in_ok-lines.ensures ∙ each_values 44 (line_value c.args.kind) (lines_of c.args.text.now))) in
    rw same at c.values_after.ensures
