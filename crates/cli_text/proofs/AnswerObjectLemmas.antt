-- An answer as an object of JSON is what its pieces come to.
use Rattle.std.proofs.Common.{◌≡◌, ℕ, Bool, true, false, List, [], ◌∷◌, ◌++◌, sym, ap, ◌∙◌, append_assoc, codes}
use Rattle.dns_names.specs.Spelling.{name_text}
use Rattle.zone_core.specs.Rcodes.{rcode_text}
use Rattle.zone_answers.specs.Answers.{AnswerOf}
use Rattle.wire_json.specs.Json.{quoted, member, object}
use Rattle.wire_json.specs.Replies.{lines_value}
use Rattle.cli_text.specs.Questions.{QuestionOf}
use Rattle.cli_text.specs.AnswerObjects.{truth, answer_object, authority_key, sections_text, question_members}

join : (more additional answer records authority section code status name owner type word e : List ℕ)
    → (more ++ (additional ++ (answer ++ (records ++ (authority ++ (section ++ (code ++ (status ++ (name ++ (owner ++ (type ++ word))))))))))) ++ e
    ≡ (more ++ (additional ++ (answer ++ (records ++ (authority ++ section))))) ++ (code ++ (status ++ (name ++ (owner ++ (type ++ (word ++ e))))))
join more additional answer records authority section code status name owner type word e = simp append_assoc

module _ (additional records section status owner word : List ℕ) where
  by_authority : (b : Bool)
      → object
      (member (codes "additional") additional ∷ member (codes "answer") records ∷ member (codes "authoritative") (truth b) ∷ member (codes "authority") section
      ∷ member (codes "code") status ∷ member (codes "name") owner ∷ member (codes "type") word ∷ [])
      ≡ (codes "{\"additional\":" ++ (additional ++ (codes ",\"answer\":" ++ (records ++ (authority_key b ++ section)))))
      ++ (codes ",\"code\":" ++ (status ++ (codes ",\"name\":" ++ (owner ++ (codes ",\"type\":" ++ (word ++ codes "}"))))))
  by_authority true =
      join (codes "{\"additional\":") additional (codes ",\"answer\":") records (codes ",\"authoritative\":true,\"authority\":") section (codes ",\"code\":") status
      (codes ",\"name\":") owner (codes ",\"type\":") word (codes "}")
  by_authority false =
      join (codes "{\"additional\":") additional (codes ",\"answer\":") records (codes ",\"authoritative\":false,\"authority\":") section (codes ",\"code\":") status
      (codes ",\"name\":") owner (codes ",\"type\":") word (codes "}")

pub object_is : (q : QuestionOf) (a : AnswerOf) → answer_object q a ≡ sections_text a ++ question_members q (rcode_text a.code)
object_is q a =
    by_authority (lines_value a.additional) (lines_value a.answer) (lines_value a.authority) (quoted (rcode_text a.code)) (quoted (name_text q.name)) (quoted q.word) a.authoritative

-- ---- pieces that are appended

joined : (old a x b y c z : List ℕ) → ((old ++ (a ++ x)) ++ (b ++ y)) ++ (c ++ z) ≡ old ++ (a ++ (x ++ (b ++ (y ++ (c ++ z)))))
joined old a x b y c z = simp append_assoc

pub three_sections : (old a x b y c z first second third : List ℕ) → first ≡ old ++ (a ++ x) → second ≡ first ++ (b ++ y) → third ≡ second ++ (c ++ z)
    → third ≡ old ++ (a ++ (x ++ (b ++ (y ++ (c ++ z)))))
three_sections old a x b y c z first second third p q r =
    r ∙ ap (λ (l : List ℕ). l ++ (c ++ z)) (q ∙ ap (λ (l : List ℕ). l ++ (b ++ y)) p) ∙ joined old a x b y c z

ended : (old sections members end : List ℕ) → ((old ++ sections) ++ members) ++ end ≡ old ++ ((sections ++ members) ++ end)
ended old sections members end = simp append_assoc

pub object_ends : (old sections members object end first second third : List ℕ) → first ≡ old ++ sections → second ≡ first ++ members → third ≡ second ++ end
    → object ≡ sections ++ members → third ≡ old ++ (object ++ end)
object_ends old sections members object end first second third p q r e =
    r ∙ ap (λ (l : List ℕ). l ++ end) (q ∙ ap (λ (l : List ℕ). l ++ members) p) ∙ ended old sections members end ∙ ap (λ (l : List ℕ). old ++ (l ++ end)) (sym e)
