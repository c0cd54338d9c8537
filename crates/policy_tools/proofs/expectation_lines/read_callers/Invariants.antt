use Rattle.policy_tools.proofs.ReadingLemmas.{CallersFrom}
use Rattle.policy_tools.proofs.expectation_lines.read_callers.Given as goal

-- the callers so far, and those of the other words
abbrev pub invariant-loop-word : goal.invariant-loop-word
invariant-loop-word l = CallersFrom l.words l.word-index l.callers.items
