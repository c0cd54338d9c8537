use Rattle.std.proofs.Common.{◌≡◌, ◌++◌, take}
use Rattle.std.specs.Prelude.{string_bytes}
use Rattle.std.specs.List.{flat_map}
use Rattle.cli_text.specs.ChangedAnswerLines.{type_word}
use Rattle.cli_text.proofs.changed_answers.push_each.Given as goal

-- the types so far
abbrev pub invariant-loop-asked : goal.invariant-loop-asked
invariant-loop-asked l = string_bytes l.text ≡ string_bytes l.initial.text ++ flat_map type_word (take l.asked-index l.types)
