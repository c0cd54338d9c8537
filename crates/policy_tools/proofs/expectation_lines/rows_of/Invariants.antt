use Rattle.policy_tools.proofs.ReadingLemmas.{RowsFrom}
use Rattle.policy_tools.proofs.expectation_lines.rows_of.Given as goal

-- the rows of the lines so far, and those of the others
abbrev pub invariant-loop-i : goal.invariant-loop-i
invariant-loop-i l = RowsFrom l.lines l.i l.rows.items
