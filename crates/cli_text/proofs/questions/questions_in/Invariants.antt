use Rattle.std.proofs.Common.{◌≡◌, ◌≤◌, ◌-◌, map, length, drop}
use Rattle.dns_master.specs.Tokens.{token_of}
use Rattle.update_lines.specs.Views.{gathered}
use Rattle.cli_text.specs.Questions.{questions_in}
use Rattle.cli_text.specs.QuestionViews.{question_view}
use Rattle.cli_text.proofs.QuestionLemmas.{then_questions}
use Rattle.cli_text.proofs.questions.questions_in.Given as goal

-- the questions before a token, and then those from it on
abbrev pub invariant-loop-at : goal.invariant-loop-at
invariant-loop-at l = record {
  within : l.at ≤ length l.tokens;
  read : questions_in (gathered (map token_of l.tokens)) ≡ then_questions (map question_view l.questions.items) (questions_in (gathered (map token_of (drop l.at l.tokens))));
}

abbrev pub decreases-loop-at : goal.decreases-loop-at
decreases-loop-at l = length l.tokens - l.at
