-- What `check expect` prints: what is expected of a policy, line by line, and is not so.
use Rattle.std.specs.Prelude.{◌≡◌, ◌⊎◌, ℕ, List, [], ◌∷◌, ◌++◌, codes, decimal, Option, Some, None, Result, Ok, Err}
use Rattle.dns_names.specs.Spelling.{name_text}
use Rattle.grant_policy.specs.declared.rule.Rule.{Rule}
use Rattle.grant_policy.specs.declared.decision.Decision.{Decision}
use Rattle.grant_policy.specs.Decisions.{verdict_of}
use Rattle.policy_tools.specs.declared.expectation_fault.ExpectationFault.{ExpectationFault}
use Rattle.policy_tools.specs.declared.expectation_fault.ExpectationFault.TheVariants as of_line
use Rattle.policy_tools.specs.declared.expectation_fault.ExpectationsFault.{ExpectationsFault}
use Rattle.policy_tools.specs.declared.expectation_lines.ExpectationLine.{ExpectationLine}
use Rattle.policy_tools.specs.declared.expectations.Counterexample.{Counterexample}
use Rattle.policy_tools.specs.declared.expectations.Counterexample.TheVariants.{Decided, Granted}
use Rattle.policy_tools.specs.declared.limits.Excess.{Excess}
use Rattle.policy_tools.specs.ExpectationReading.{expectations_of}
use Rattle.policy_tools.specs.Expectations.{Holds, IsCounterexample}
use Rattle.cli_core.specs.declared.word_fault.WordFault.{WordFault}
use Rattle.cli_core.specs.declared.word_fault.WordFault.TheVariants as word
use Rattle.cli_core.specs.declared.refusal.Refusal.{Refusal}
use Rattle.cli_core.specs.declared.refusal.Refusal.TheVariants.{Line}
use Rattle.cli_core.specs.declared.line_fault.LineFault.{LineFault}
use Rattle.cli_core.specs.declared.line_fault.LineFault.TheVariants.{Refused, NoMemory}
use Rattle.cli_checks.specs.declared.check.Findings.{Findings}
use Rattle.cli_text.specs.Rights.{verdict_line}
use Rattle.cli_checks.specs.ReportLines.{AreTexts, other_text, right_text}
use Rattle.cli_checks.specs.ZoneCheck.{told}

-- ---- what is expected

-- what is wrong with the words of a line
abbrev pub word_fault : ExpectationFault → Option WordFault
word_fault of_line.Form = Some word.Expectation
word_fault of_line.NoCaller = Some word.Caller
word_fault (of_line.Name fault) = Some (word.Name fault)
word_fault of_line.TypeNotKept = Some word.Type
word_fault of_line.NoAction = Some word.Action
word_fault of_line.NoRule = Some word.Rule
word_fault of_line.NoMemory = None

abbrev pub on_line : ℕ → Option WordFault → LineFault
on_line line (Some fault) = Refused (Line line fault)
on_line line None = NoMemory

abbrev pub of_expectations : ExpectationsFault → LineFault
of_expectations e = on_line e.line (word_fault e.fault)

-- no definition runs out of memory
abbrev pub refusal_of : ExpectationsFault → Option WordFault → Refusal
refusal_of e (Some fault) = Line e.line fault
refusal_of e None = Line e.line word.Expectation

abbrev pub or_line : Result (List ExpectationLine) ExpectationsFault → Result (List ExpectationLine) Refusal
or_line (Ok rows) = Ok rows
or_line (Err e) = Err (refusal_of e (word_fault e.fault))

-- the expectations of a text, or the refusal of the first line that is not one
abbrev pub expectations_read : List ℕ → Result (List ExpectationLine) Refusal
expectations_read text = or_line (expectations_of text)

-- ---- what is not so

-- the line, and what is decided in place of what it expects
abbrev pub differs_line : ℕ → Decision → List ℕ
differs_line line decision = (codes "differs " ++ (decimal line ++ 32 ∷ [])) ++ verdict_line (verdict_of decision)

-- the line, and a caller, a name, a type, an action and a rule that grants beyond its limit
abbrev pub exceeds_line : List Rule → ℕ → Excess → List ℕ
exceeds_line rules line excess =
    (((codes "exceeds " ++ decimal line) ++ other_text excess.caller) ++ (32 ∷ name_text excess.name)) ++ right_text rules excess.right ++ 10 ∷ []

abbrev pub example_line : List Rule → ℕ → Counterexample → List ℕ
example_line rules line (Decided decision) = differs_line line decision
example_line rules line (Granted excess) = exceeds_line rules line excess

-- a line holds and nothing is told of it, or something shows that it does not hold, and that is told
abbrev pub IsRowText : List Rule → ExpectationLine → List ℕ → Type 0
IsRowText rules row text =
    (Holds rules row.expectation × (text ≡ []))
    ⊎ ((example : Counterexample) × IsCounterexample rules row.expectation example × (text ≡ example_line rules row.line example))

-- the same of lines, one after the other; something was found exactly where there is a text
abbrev pub IsExpectReport : List Rule → List ExpectationLine → Findings → List ℕ → Type 0
IsExpectReport rules rows findings text = AreTexts (IsRowText rules) rows text × (findings ≡ told text)
