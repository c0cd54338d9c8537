-- What `check reach --example` prints: the line of each group, and after it a question of the group and an update that changes its answer, or
-- that none was found.
use Rattle.std.specs.Prelude.{◌≡◌, ℕ, List, [], ◌∷◌, ◌++◌, codes, Option, Some, None, IfSome}
use Rattle.std.specs.List.{flat_map}
use Rattle.grant_policy.specs.declared.rule.Rule.{Rule}
use Rattle.zone_core.specs.declared.update.Operation.{Operation}
use Rattle.zone_core.specs.Zones.{ZoneOf}
use Rattle.update_lines.specs.Texts.{operation_line}
use Rattle.answer_reach.specs.declared.example.Example.{Example}
use Rattle.answer_reach.specs.declared.reached.ReachedAnswers.{ReachedAnswers}
use Rattle.answer_reach.specs.Examples.{SearchOf, IsExampleOf}
use Rattle.cli_checks.specs.declared.check.Findings.{Findings}
use Rattle.cli_text.specs.ChangedAnswerLines.{questions_line}
use Rattle.cli_checks.specs.Reach.{reached_line, AreReached}
use Rattle.cli_checks.specs.ReportLines.{AreTexts}
use Rattle.cli_checks.specs.ZoneCheck.{told}

-- ---- lines

-- after two spaces, an operation as updates have it
abbrev pub change_line : Operation → List ℕ
change_line operation = codes "  " ++ operation_line operation

-- after two spaces, a question; and the operations of an update, which has no prerequisites
abbrev pub example_lines : Example → List ℕ
example_lines example = questions_line (codes "  ask") example.name (example.asked ∷ []) ++ flat_map change_line example.update.operations

abbrev pub found_lines : Option Example → List ℕ
found_lines None = codes "  none found\n"
found_lines (Some example) = example_lines example

-- ---- which lines

-- the line of a row; and the lines of an example for one of its questions, if one is found
abbrev pub IsRowText : SearchOf → ReachedAnswers → List ℕ → Type 0
IsRowText of row text = (found : Option Example) × IfSome found (IsExampleOf of row) × (text ≡ reached_line row ++ found_lines found)

-- those of all rows of a caller of a policy, and a zone, in order; something was found exactly where there are some
abbrev pub IsExamplesReport : List Rule → List ℕ → ZoneOf → Findings → List ℕ → Type 0
IsExamplesReport rules caller zone findings text =
    (rows : List ReachedAnswers) × AreReached rules caller zone rows
    × AreTexts (IsRowText (record { rules = rules; caller = caller; zone = zone })) rows text × (findings ≡ told text)
