use Rattle.std.proofs.Common.{◌≡◌, take}
use Rattle.toml.specs.View.{items_view}
use Rattle.policy_build.specs.Printing.{words_data}
use Rattle.policy_build.proofs.printing.words_value.Given as goal

-- the texts of the words so far
abbrev pub invariant-loop-word : goal.invariant-loop-word
invariant-loop-word g l = items_view l.values.items ≡ words_data g.T.Word.word_text (take l.word-index l.words)
