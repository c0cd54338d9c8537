use Rattle.cli_checks.proofs.PrintedLemmas.{NamesFrom}
use Rattle.cli_checks.proofs.printed_policy.names_from.Given as goal

-- the names of the words so far, and those of the others
abbrev pub invariant-loop-word : goal.invariant-loop-word
invariant-loop-word l = NamesFrom l.words l.word-index l.names.items
