-- What `rights` prints: the decision of a policy on what words ask.
use Rattle.std.specs.Prelude.{ℕ, List, [], ◌∷◌, ◌++◌, codes, Option, Some, None, Result, Ok}
use Rattle.dns_names.specs.Reading.{absolute_name}
use Rattle.grant_policy.specs.Words.{action_of}
use Rattle.grant_policy.specs.Rules.{Question}
use Rattle.grant_policy.specs.Decisions.{Verdict, granted, denied, decision, decider}
use Rattle.grant_policy.specs.Documents.{document_of}
use Rattle.grant_policy.specs.Reading.{identifier_of, type_of, policy_of}
use Rattle.cli_core.specs.declared.refusal.Refusal.{Refusal}
use Rattle.cli_core.specs.declared.refusal.Refusal.TheVariants.{NoCaller, TypeNotKept, NoAction}
use Rattle.cli_core.specs.declared.job.QuestionWords.{QuestionWords}
use Rattle.cli_core.specs.declared.job.TextForm.{TextForm}
use Rattle.cli_core.specs.declared.job.TextForm.TheVariants.{Plain, Json}
use Rattle.cli_text.specs.declared.rights.QuestionRead.{QuestionRead}
use Rattle.cli_core.specs.LineFaults.{◌>>=◌, or_refused, limited, of_names, of_policies}
use Rattle.cli_text.specs.RightsObjects.{verdict_object}

-- the caller that a word is
abbrev pub caller_in : List ℕ → Result (List ℕ) Refusal
caller_in word = or_refused (identifier_of word) NoCaller

-- the caller that a word is, if one is given
abbrev pub caller_if : Option (List ℕ) → Result (Option (List ℕ)) Refusal
caller_if None = Ok None
caller_if (Some word) = or_refused (identifier_of word) NoCaller >>= λ caller. Ok (Some caller)

-- what words ask, or the refusal of the first that is refused: the caller, the name, the type, the action
abbrev pub question_of : QuestionWords → Result Question Refusal
question_of words = do
  caller ← or_refused (identifier_of words.caller.now) NoCaller
  name ← of_names (absolute_name words.name.now)
  record_type ← or_refused (type_of words.record_type.now) TypeNotKept
  action ← or_refused (action_of words.action.now) NoAction
  Ok (record { caller = caller; name = name; record_type = record_type; action = action })

abbrev pub question_in : QuestionRead → Question
question_in q = record { caller = q.caller; name = q.name; record_type = q.record_type; action = q.action }

-- `granted` or `denied`, and the rule that decided
abbrev pub verdict_word : Verdict → List ℕ
verdict_word (granted id) = codes "granted "
verdict_word (denied id) = codes "denied "

abbrev pub verdict_line : Verdict → List ℕ
verdict_line verdict = verdict_word verdict ++ decider verdict ++ 10 ∷ []

-- a decision, as what it is printed
abbrev pub verdict_in_form : TextForm → Verdict → List ℕ
verdict_in_form Plain verdict = verdict_line verdict
verdict_in_form Json verdict = verdict_object verdict ++ 10 ∷ []

-- what the policy of a text decides
abbrev pub decided_by : TextForm → Question → List ℕ → Result (List ℕ) Refusal
decided_by form asked text = of_policies (policy_of (document_of text)) >>= λ rules. Ok (verdict_in_form form (decision asked rules))

-- what is asked by words, of a policy that is the input
abbrev pub rights_text : TextForm → QuestionWords → List ℕ → Result (List ℕ) Refusal
rights_text form words input = question_of words >>= λ asked. limited input >>= decided_by form asked
