-- What `answer` prints: what an authoritative server answers from a zone (RFC 1034 section 4.3.2).
use Rattle.std.specs.Prelude.{◌≡◌, ℕ, List, [], ◌∷◌, ◌++◌, codes, Bool, if◌then◌else◌, Option, Result, Ok, Err}
use Rattle.std.specs.List.{flat_map}
use Rattle.dns_names.specs.Reading.{absolute_name}
use Rattle.dns_names.specs.Spelling.{name_text}
use Rattle.zone_core.specs.Rcodes.{rcode_text}
use Rattle.zone_core.specs.Sets.{listing}
use Rattle.zone_core.specs.Zones.{ZoneOf}
use Rattle.zone_answers.specs.Answers.{AnswerOf}
use Rattle.zone_answers.specs.AnswerTests.{answer_to}
use Rattle.cli_core.specs.declared.job.TextForm.{TextForm}
use Rattle.cli_core.specs.declared.job.TextForm.TheVariants.{Plain, Json}
use Rattle.cli_core.specs.declared.refusal.Refusal.{Refusal}
use Rattle.cli_core.specs.declared.line_fault.JobFault.{JobFault}
use Rattle.cli_core.specs.Inputs.{InputOf}
use Rattle.cli_core.specs.LineFaults.{◌>>=◌, limited, of_names, Makes}
use Rattle.cli_core.specs.Replies.{Answered}
use Rattle.cli_text.specs.declared.answer_fault.AnswerFault.{AnswerFault}
use Rattle.cli_text.specs.declared.answer_fault.AnswerFault.TheVariants.{Questions, Zone}
use Rattle.cli_text.specs.declared.questions.Inquiry.{Inquiry}
use Rattle.cli_text.specs.QuestionViews.{inquiry_view}
use Rattle.cli_text.specs.Canon.{zone_of_file}
use Rattle.cli_text.specs.AnswerObjects.{answer_object}
use Rattle.cli_text.specs.RecordLines.{records_text}
use Rattle.cli_text.specs.Questions.{QuestionOf, InquiryOf, inquiry_of, inquiry_in}

-- ---- one answer

-- whether the server has authority (AA, RFC 1035 section 4.1.1)
abbrev pub end_of_line : Bool → List ℕ
end_of_line authoritative = if authoritative then codes " aa" ++ 10 ∷ [] else 10 ∷ []

-- a comment: the question and the code of its answer
abbrev pub question_line : QuestionOf → AnswerOf → List ℕ
question_line q a = codes "; " ++ (name_text q.name ++ (32 ∷ (q.word ++ (32 ∷ (rcode_text a.code ++ end_of_line a.authoritative)))))

-- and the records of the three sections (RFC 1035 section 4.1)
abbrev pub answer_lines : QuestionOf → AnswerOf → List ℕ
answer_lines q a = question_line q a ++ (records_text a.answer ++ (records_text a.authority ++ records_text a.additional))

-- an answer, as what it is printed
abbrev pub answer_in_form : TextForm → QuestionOf → AnswerOf → List ℕ
answer_in_form Plain q a = answer_lines q a
answer_in_form Json q a = answer_object q a ++ 10 ∷ []

-- ---- all of them

-- what is printed of a question about a zone
abbrev pub question_text : TextForm → ZoneOf → QuestionOf → List ℕ
question_text form zone q = answer_in_form form q (answer_to zone.origin (listing zone.records) q.name q.asked)

abbrev pub answers_text : TextForm → ZoneOf → List QuestionOf → List ℕ
answers_text form zone qs = flat_map (question_text form zone) qs

-- what is printed of an inquiry about the zone of a master file
abbrev pub answers_behind : InquiryOf → List ℕ → Result (List ℕ) Refusal
answers_behind i text = zone_of_file i.origin text >>= λ zone. Ok (answers_text i.form zone i.questions)

abbrev pub answers_of : InquiryOf → List ℕ → Result (List ℕ) Refusal
answers_of i input = limited input >>= answers_behind i

-- the question of words about the zone of an input
abbrev pub answer_text : TextForm → List ℕ → List ℕ → Option (List ℕ) → List ℕ → Result (List ℕ) Refusal
answer_text form origin name asked input = inquiry_of form origin name asked >>= λ i. limited input >>= answers_behind i

-- the questions of an input about the zone of a word that is its origin
abbrev pub inquiry_read : TextForm → List ℕ → List ℕ → Result InquiryOf Refusal
inquiry_read form word input = of_names (absolute_name word) >>= λ origin. limited input >>= inquiry_in form origin

-- ---- two inputs

-- what is printed of the input that has the questions, by itself: nothing, if they are questions
abbrev pub inquiry_text : TextForm → List ℕ → List ℕ → Result (List ℕ) Refusal
inquiry_text form word input = inquiry_read form word input >>= λ i. Ok []

-- As what answers are printed, the word of the origin, what was left to read of the questions, what the writer held before and after, how it went, that the input did
-- not fail, that it did, and the writer's failures before and after: the questions were read, and nothing is written; or their refusal is.
abbrev pub IsInquiryRead : TextForm → List ℕ → Option (List ℕ) → Option (List ℕ) → Option (List ℕ) → Result Inquiry JobFault → Type 0 → Type 0 → ℕ → ℕ → Type 0
IsInquiryRead form word left before after (Ok inquiry) fine failed writes writes_after =
    Makes left (inquiry_read form word) (Ok (inquiry_view inquiry)) × fine × (after ≡ before) × (writes_after ≡ writes)
IsInquiryRead form word left before after (Err fault) fine failed writes writes_after =
    Answered left (inquiry_text form word) before after (Err fault) fine failed writes writes_after

-- what is answered to questions that were read, from the zone
abbrev pub IsZoneAsked : TextForm → List ℕ → InputOf → InputOf → Option (List ℕ) → Option (List ℕ) → Result (Unit {0}) JobFault → ℕ → ℕ → Type 0
IsZoneAsked form word questions zone before after result writes writes_after =
    (i : InquiryOf) × Makes questions.left (inquiry_read form word) (Ok i) × questions.fine
    × Answered zone.left (answers_of i) before after result zone.fine zone.failed writes writes_after

-- As what answers are printed, the word of the origin, what is known of the questions and of the zone, what the writer held before and after, how it went, and the
-- writer's failures before and after: the questions were refused, or not read, and the zone was let be; or else they were answered.
abbrev pub IsInquired : TextForm → List ℕ → InputOf → InputOf → Option (List ℕ) → Option (List ℕ) → Result (Unit {0}) AnswerFault → ℕ → ℕ → Type 0
IsInquired form word questions zone before after (Err (Questions fault)) writes writes_after =
    Answered questions.left (inquiry_text form word) before after (Err fault) questions.fine questions.failed writes writes_after × zone.fine
IsInquired form word questions zone before after (Err (Zone fault)) writes writes_after =
    IsZoneAsked form word questions zone before after (Err fault) writes writes_after
IsInquired form word questions zone before after (Ok done) writes writes_after = IsZoneAsked form word questions zone before after (Ok done) writes writes_after
