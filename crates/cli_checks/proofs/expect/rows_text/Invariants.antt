use Rattle.std.proofs.Common.{take}
use Rattle.cli_checks.specs.Expect.{IsRowText}
use Rattle.cli_checks.specs.ReportLines.{AreTexts}
use Rattle.cli_checks.proofs.expect.rows_text.Given as goal

-- what is told of the lines so far
abbrev pub invariant-loop-row : goal.invariant-loop-row
invariant-loop-row l = AreTexts (IsRowText l.policy) (take l.row-index l.rows) l.text.items
