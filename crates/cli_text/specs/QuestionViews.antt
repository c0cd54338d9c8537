-- Questions as calls hold them.
use Rattle.std.specs.Prelude.{map}
use Rattle.cli_text.specs.declared.questions.Question.{Question}
use Rattle.cli_text.specs.declared.questions.Inquiry.{Inquiry}
use Rattle.cli_text.specs.Questions.{QuestionOf, InquiryOf}

abbrev pub question_view : Question → QuestionOf
question_view q = record { name = q.name; word = q.word.items; asked = q.asked }

abbrev pub inquiry_view : Inquiry → InquiryOf
inquiry_view i = record { origin = i.origin; form = i.form; questions = map question_view i.questions.items }
