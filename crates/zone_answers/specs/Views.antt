-- What contracts see of what is found, and of an answer.
use Rattle.std.specs.Prelude.{◌≡◌, ℕ, suc, List, Option, Some, None}
use Rattle.dns_data.specs.declared.record.Record.{Record}
use Rattle.zone_answers.specs.declared.query_type.QueryType.{QueryType}
use Rattle.zone_answers.specs.declared.finding.Finding.{Finding}
use Rattle.zone_answers.specs.declared.finding.Finding.TheVariants as findings
use Rattle.zone_answers.specs.declared.answer.Answer.{Answer}
use Rattle.zone_answers.specs.Answers.{Name, Found, Outside, Delegated, Missing, Alias, Listed, Again, AnswerOf, answer_with}
use Rattle.zone_answers.specs.AnswerTests.{follow}

-- what is found for a name
abbrev pub found_in : Finding → Found
found_in findings.Outside = Outside
found_in (findings.Delegated cut) = Delegated cut.now
found_in findings.Missing = Missing
found_in (findings.Alias r) = Alias r.now
found_in (findings.Listed records) = Listed records.now
found_in findings.Again = Again

-- an answer
abbrev pub answer_of : Answer → AnswerOf
answer_of a = record {
  code = a.code;
  authoritative = a.authoritative;
  answer = a.answer.items;
  authority = a.authority.items;
  additional = a.additional.items;
}

-- one step from a name: an alias is followed, or there is an end, however many more would be followed
abbrev pub Steps : Name → List Record → QueryType → List Record → Name → List Record → Name → Option Finding → Type 0
Steps origin rs asked before name aliases last None = (n : ℕ) → follow origin rs asked n aliases last ≡ follow origin rs asked (suc n) before name
Steps origin rs asked before name aliases last (Some finding) =
    (n : ℕ) → answer_with origin rs aliases last (found_in finding) ≡ follow origin rs asked (suc n) before name
