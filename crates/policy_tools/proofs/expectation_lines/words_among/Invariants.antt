use Rattle.policy_tools.proofs.ReadingLemmas.{WordsFrom}
use Rattle.policy_tools.proofs.expectation_lines.words_among.Given as goal

-- the words of the parts so far, and those of the others
abbrev pub invariant-loop-part : goal.invariant-loop-part
invariant-loop-part l = WordsFrom l.parts l.part-index l.words.items
