use Rattle.std.proofs.Common.{take}
use Rattle.std.specs.Prelude.{string_bytes}
use Rattle.cli_checks.specs.ReachExamples.{IsRowText}
use Rattle.cli_checks.specs.ReportLines.{AreTexts}
use Rattle.cli_checks.proofs.reach_examples.rows_text.Given as goal

-- the lines of the rows so far
abbrev pub invariant-loop-row : goal.invariant-loop-row
invariant-loop-row l = AreTexts (IsRowText l.search) (take l.row-index l.rows) (string_bytes l.text)
