use Rattle.std.proofs.Common.{◌∙◌, ap, List, ℕ, ◌++◌, drop}
use Rattle.std.specs.List.{flat_map, join_with_byte}
use Rattle.policy_tools.specs.ExpectationLines.{lines_of}
use Rattle.cli_text.specs.LineObjects.{line_value}
use Rattle.cli_text.proofs.LineObjectLemmas.{joined_texts, in_brackets}
use Rattle.cli_text.proofs.line_objects.objects_array.Goals as goal

pub returns : goal.returns
returns c =
    let values = flat_map (line_value c.args.kind) (lines_of c.args.text.now) in
    let rest = c.after_first.ensures ∙ (ap (drop 1) (c.deref.ensures.value ∙ c.in_ok-values.ensures) ∙ joined_texts 44 values) in
    in_brackets c.in_ok-array.array.items (join_with_byte 44 values) c.extend_from_slice.new.self.items c.push.new.self.items c.in_ok-array.ensures.items
    (c.in_ok-extend_from_slice.ensures.items ∙ ap (λ (l : List ℕ). c.in_ok-array.array.items ++ l) rest) c.in_ok-push.ensures.items
