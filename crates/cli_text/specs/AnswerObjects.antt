-- What `answer --json` prints of an answer: an object of JSON (RFC 8259).
use Rattle.std.specs.Prelude.{ℕ, List, [], ◌∷◌, ◌++◌, codes, Bool, if◌then◌else◌}
use Rattle.dns_names.specs.Spelling.{name_text}
use Rattle.zone_core.specs.Rcodes.{rcode_text}
use Rattle.zone_answers.specs.Answers.{AnswerOf}
use Rattle.wire_json.specs.Json.{quoted, member, object}
use Rattle.wire_json.specs.Replies.{lines_value}
use Rattle.cli_text.specs.Questions.{QuestionOf}

-- a literal name (RFC 8259 section 3)
abbrev pub truth : Bool → List ℕ
truth b = if b then codes "true" else codes "false"

-- the records of the three sections as lines, whether the server has authority, the code, and the question, by keys in byte order
abbrev pub answer_object : QuestionOf → AnswerOf → List ℕ
answer_object q a =
    object
    (member (codes "additional") (lines_value a.additional) ∷ member (codes "answer") (lines_value a.answer)
    ∷ member (codes "authoritative") (truth a.authoritative) ∷ member (codes "authority") (lines_value a.authority)
    ∷ member (codes "code") (quoted (rcode_text a.code)) ∷ member (codes "name") (quoted (name_text q.name)) ∷ member (codes "type") (quoted q.word) ∷ [])

-- ---- piece by piece

-- whether the server has authority, and the key of the authority section
abbrev pub authority_key : Bool → List ℕ
authority_key authoritative = if authoritative then codes ",\"authoritative\":true,\"authority\":" else codes ",\"authoritative\":false,\"authority\":"

-- the members that have records, and the brace before them
abbrev pub sections_text : AnswerOf → List ℕ
sections_text a =
    codes "{\"additional\":" ++ (lines_value a.additional ++ (codes ",\"answer\":" ++ (lines_value a.answer ++ (authority_key a.authoritative ++ lines_value a.authority))))

-- the members of the code and of the question, and the brace after them
abbrev pub question_members : QuestionOf → List ℕ → List ℕ
question_members q code =
    codes ",\"code\":" ++ (quoted code ++ (codes ",\"name\":" ++ (quoted (name_text q.name) ++ (codes ",\"type\":" ++ (quoted q.word ++ codes "}")))))
