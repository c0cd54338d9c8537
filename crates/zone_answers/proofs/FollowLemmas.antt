-- One step of aliases.
use Rattle.std.proofs.Common.{◌≡◌, ℕ, zero, suc, ◌+◌, length, List, [], ◌∷◌, ◌++◌, true, false, cond, Some, None, refl, sym, ap, ◌∙◌, arith}
use Rattle.dns_data.specs.declared.record.Record.{Record}
use Rattle.zone_answers.specs.declared.query_type.QueryType.{QueryType}
use Rattle.zone_answers.specs.Answers.{Name, answered_as, Found, Again, AnswerOf, answer_with}
use Rattle.zone_answers.specs.AnswerTests.{found_at, target_of, was_asked, alias_in, by_alias, follow, answer_from, answer_to}

module _ (origin : Name) (rs : List Record) (asked : QueryType) (before : List Record) (name : Name) (n : ℕ) where
  next : AnswerOf
  next = by_alias origin rs before name (follow origin rs asked n) (found_at origin rs name asked) (alias_in (found_at origin rs name asked))

  pub follow_again : was_asked before name ≡ true → answer_with origin rs before name Again ≡ follow origin rs asked (suc n) before name
  unfolding follow next
  follow_again e = sym (ap (λ b. cond b (answer_with origin rs before name Again) next) e)

  pub follow_on : (r : Record) → was_asked before name ≡ false → Some r ≡ alias_in (found_at origin rs name asked)
      → follow origin rs asked n (before ++ answered_as name r ∷ []) (target_of name r.rdata) ≡ follow origin rs asked (suc n) before name
  unfolding follow next
  follow_on r e f =
      ap (by_alias origin rs before name (follow origin rs asked n) (found_at origin rs name asked)) f
      ∙ sym (ap (λ b. cond b (answer_with origin rs before name Again) next) e)

  pub follow_ends : (found : Found) → was_asked before name ≡ false → found ≡ found_at origin rs name asked → None ≡ alias_in found
      → answer_with origin rs before name found ≡ follow origin rs asked (suc n) before name
  unfolding follow next
  follow_ends found e is none =
      ap (by_alias origin rs before name (follow origin rs asked n) found) none
      ∙ ap (λ (f : Found). by_alias origin rs before name (follow origin rs asked n) f (alias_in f)) is
      ∙ sym (ap (λ b. cond b (answer_with origin rs before name Again) next) e)

pub follow_none : (origin : Name) (rs : List Record) (asked : QueryType) (before : List Record) (name : Name)
    → answer_with origin rs before name Again ≡ follow origin rs asked zero before name
unfolding follow
follow_none origin rs asked before name = refl

-- ---- from what is found for the first name

pub first_name : (origin : Name) (rs : List Record) (name : Name) (asked : QueryType)
    → answer_from origin rs name asked (found_at origin rs name asked) ≡ answer_to origin rs name asked
unfolding follow
first_name origin rs name asked =
    let more : suc (1 + length rs) ≡ 2 + length rs = omega arith in
    let first : answer_from origin rs name asked (found_at origin rs name asked) ≡ follow origin rs asked (suc (1 + length rs)) [] name = refl in
    first ∙ ap (λ n. follow origin rs asked n [] name) more
