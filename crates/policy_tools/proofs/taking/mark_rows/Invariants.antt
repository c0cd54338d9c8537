use Rattle.policy_tools.proofs.ClaimLemmas.{MarksIn}
use Rattle.policy_tools.proofs.taking.mark_rows.Given as goal

-- the rules that take questions in the rows so far are marked
abbrev pub invariant-loop-row : goal.invariant-loop-row
invariant-loop-row l = MarksIn l.initial.found l.found l.claim l.number l.rows l.row-index
