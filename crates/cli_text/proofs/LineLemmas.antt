-- The lines of a text, and the first of them.
use Rattle.std.proofs.Common.{◌≡◌, ℕ, zero, suc, ◌<◌, ◌≤◌, List, [], ◌∷◌, ◌++◌, length, take, drop, true, false, Bool, ◌==◌, if◌then◌else◌, inl, inr, ◌⊎◌, refl, sym, ap, ◌∙◌, arith, append_assoc, append-nil}
use Rattle.std.specs.List.{concat}
use Rattle.std.proofs.lemmas.Bool.{eqb-true}
use Rattle.memchr.specs.Find.{Nowhere, Passes, is_byte}
use Rattle.cli_text.specs.Parts.{EndsLine, onto, lines_of}
use Rattle.cli_text.specs.PartViews.{line_len}

-- ---- lines, joined again

onto-joined : (o : ℕ) (ls : List (List ℕ)) → concat (onto o ls) ≡ o ∷ concat ls
onto-joined o [] = refl
onto-joined o (l ∷ ls) = refl

pub lines-joined : (text : List ℕ) → concat (lines_of text) ≡ text
lines-joined [] = refl
lines-joined (o ∷ rest) =
    elim (o == 10) as (λ b. concat (if b then (o ∷ []) ∷ lines_of rest else onto o (lines_of rest)) ≡ o ∷ rest) [
      | true ↦ ap (λ (t : List ℕ). o ∷ t) (lines-joined rest)
      | false ↦ onto-joined o (lines_of rest) ∙ ap (λ (t : List ℕ). o ∷ t) (lines-joined rest)
    ]

-- ---- the first line

pub lines-first : (o : ℕ) (rest : List ℕ) → lines_of (o ∷ rest) ≡ take (line_len (o ∷ rest)) (o ∷ rest) ∷ lines_of (drop (line_len (o ∷ rest)) (o ∷ rest))
lines-first o [] =
    elim (o == 10) as (λ b. (if b then (o ∷ []) ∷ [] else (o ∷ []) ∷ []) ≡ take (if b then 1 else 1) (o ∷ []) ∷ lines_of (drop (if b then 1 else 1) (o ∷ []))) [ true ↦ refl | false ↦ refl ]
lines-first o (p ∷ more) =
    elim (o == 10) as (λ b. (if b then (o ∷ []) ∷ lines_of (p ∷ more) else onto o (lines_of (p ∷ more)))
    ≡ take (if b then 1 else suc (line_len (p ∷ more))) (o ∷ p ∷ more) ∷ lines_of (drop (if b then 1 else suc (line_len (p ∷ more))) (o ∷ p ∷ more))) [
      | true ↦ refl
      | false ↦ ap (onto o) (lines-first p more)
    ]

-- the length of the first line goes to the first line end
pub line_len-some : (text : List ℕ) (k : ℕ) → k < length text → Nowhere (Passes (is_byte 10) text) 0 k → Passes (is_byte 10) text k → line_len text ≡ suc k
line_len-some [] k short none here = absurd (omega (arith, short))
line_len-some (o ∷ rest) zero short none here = ap (λ b. if b then 1 else suc (line_len rest)) here
line_len-some (o ∷ rest) (suc k) short none here =
    let step : (b : Bool) → ((b ≡ true) → ⊥) → (if b then 1 else suc (line_len rest)) ≡ suc (suc k) = λ b. elim b as (λ b. ((b ≡ true) → ⊥) → (if b then 1 else suc (line_len rest)) ≡ suc (suc k)) [
      | true ↦ λ no. absurd (no refl)
      | false ↦ λ no. ap suc (line_len-some rest k (omega (arith, short)) (λ i low high is. none (suc i) (omega arith) (omega (arith, high)) is) here)
    ] in
    step (o == 10) (λ is. none 0 (omega arith) (omega arith) is)

pub line_len-none : (text : List ℕ) → Nowhere (Passes (is_byte 10) text) 0 (length text) → line_len text ≡ length text
line_len-none [] none = refl
line_len-none (o ∷ rest) none =
    let step : (b : Bool) → ((b ≡ true) → ⊥) → (if b then 1 else suc (line_len rest)) ≡ suc (length rest) = λ b. elim b as (λ b. ((b ≡ true) → ⊥) → (if b then 1 else suc (line_len rest)) ≡ suc (length rest)) [
      | true ↦ λ no. absurd (no refl)
      | false ↦ λ no. ap suc (line_len-none rest (λ i low high is. none (suc i) (omega arith) (omega (arith, high)) is))
    ] in
    step (o == 10) (λ is. none 0 (omega arith) (omega arith) is)

-- it has an octet where the text has one, and no more than the text
pub line_len-some_octet : (text : List ℕ) → 0 < length text → 0 < line_len text
line_len-some_octet [] some = some
line_len-some_octet (o ∷ rest) some = elim (o == 10) as (λ b. 0 < (if b then 1 else suc (line_len rest))) [ true ↦ omega arith | false ↦ omega arith ]

pub line_len-within : (text : List ℕ) → line_len text ≤ length text
line_len-within [] = omega arith
line_len-within (o ∷ rest) = let ih = line_len-within rest in elim (o == 10) as (λ b. (if b then 1 else suc (line_len rest)) ≤ suc (length rest)) [ true ↦ omega arith | false ↦ omega (arith, ih) ]

-- ---- lines after lines

ends-tail : (o : ℕ) (rest : List ℕ) → EndsLine (o ∷ rest) → ((rest ≡ []) × (o ≡ 10)) ⊎ ((front : List ℕ) × (rest ≡ front ++ 10 ∷ []))
ends-tail o rest (inl none) = absurd (cc none)
ends-tail o rest (inr ([], e)) = inl (cc e, cc e)
ends-tail o rest (inr (p ∷ front, e)) = inr (front, cc e)

onto-some : (o : ℕ) (ls : List (List ℕ)) → (l : List ℕ) × (more : List (List ℕ)) × (onto o ls ≡ l ∷ more)
onto-some o [] = (o ∷ [], [], refl)
onto-some o (l ∷ ls) = (o ∷ l, ls, refl)

-- a text with an octet has a line
lines-some : (o : ℕ) (rest : List ℕ) → (l : List ℕ) × (more : List (List ℕ)) × (lines_of (o ∷ rest) ≡ l ∷ more)
lines-some o rest =
    elim (o == 10) as (λ b. (l : List ℕ) × (more : List (List ℕ)) × ((if b then (o ∷ []) ∷ lines_of rest else onto o (lines_of rest)) ≡ l ∷ more)) [
      | true ↦ (o ∷ [], lines_of rest, refl)
      | false ↦ onto-some o (lines_of rest)
    ]

ended-some : (front : List ℕ) → (l : List ℕ) × (more : List (List ℕ)) × (lines_of (front ++ 10 ∷ []) ≡ l ∷ more)
ended-some [] = (10 ∷ [], [], refl)
ended-some (o ∷ front) = lines-some o (front ++ 10 ∷ [])

onto-append : (o : ℕ) (ls more : List (List ℕ)) (l : List ℕ) (rest : List (List ℕ)) → ls ≡ l ∷ rest → onto o (ls ++ more) ≡ onto o ls ++ more
onto-append o [] more l rest e = absurd (cc e)
onto-append o (m ∷ ls) more l rest e = refl

pub lines-append : (a b : List ℕ) → EndsLine a → lines_of (a ++ b) ≡ lines_of a ++ lines_of b
lines-append [] b ends = refl
lines-append (o ∷ rest) b ends = elim (ends-tail o rest ends) [
  | inl last ↦ rw (last.0, last.1) refl
  | inr more ↦
      let behind = lines-append rest b (inr more) in
      let some = ended-some more.0 in
      elim (o == 10) as (λ t. (if t then (o ∷ []) ∷ lines_of (rest ++ b) else onto o (lines_of (rest ++ b))) ≡ (if t then (o ∷ []) ∷ lines_of rest else onto o (lines_of rest)) ++ lines_of b) [
        | true ↦ ap (λ (ls : List (List ℕ)). (o ∷ []) ∷ ls) behind
        | false ↦ ap (onto o) behind ∙ onto-append o (lines_of rest) (lines_of b) some.0 some.1 (ap lines_of more.1 ∙ some.2)
      ]
]

-- ---- which lines end

-- a line with its end
abbrev pub IsEnded : List ℕ → Type 0
IsEnded line = (front : List ℕ) × (line ≡ front ++ 10 ∷ [])

-- each line but the last has its end
abbrev pub AreEnded : List (List ℕ) → Type 0
AreEnded [] = Unit {0}
AreEnded (l ∷ []) = Unit {0}
AreEnded (l ∷ m ∷ ls) = IsEnded l × AreEnded (m ∷ ls)

ended-onto : (o : ℕ) (ls : List (List ℕ)) → AreEnded ls → AreEnded (onto o ls)
ended-onto o [] ended = tt
ended-onto o (l ∷ []) ended = tt
ended-onto o (l ∷ m ∷ ls) ended = ((o ∷ ended.0.0, ap (λ (t : List ℕ). o ∷ t) ended.0.1), ended.1)

ended-before : (l : List ℕ) (ls : List (List ℕ)) → IsEnded l → AreEnded ls → AreEnded (l ∷ ls)
ended-before l [] end ended = tt
ended-before l (m ∷ ls) end ended = (end, ended)

pub lines-ended : (text : List ℕ) → AreEnded (lines_of text)
lines-ended [] = tt
lines-ended (o ∷ rest) =
    let behind = lines-ended rest in
    let step : (b : Bool) → (o == 10) ≡ b → AreEnded (if b then (o ∷ []) ∷ lines_of rest else onto o (lines_of rest)) = λ b. elim b as (λ b. (o == 10) ≡ b → AreEnded (if b then (o ∷ []) ∷ lines_of rest else onto o (lines_of rest))) [
      | true ↦ λ is. ended-before (o ∷ []) (lines_of rest) ([], ap (λ (n : ℕ). n ∷ []) (eqb-true o 10 is)) behind
      | false ↦ λ is. ended-onto o (lines_of rest) behind
    ] in
    step (o == 10) refl

-- a line that has others after it ends
pub ended-at : (front : List (List ℕ)) (l m : List ℕ) (ls : List (List ℕ)) → AreEnded (front ++ l ∷ m ∷ ls) → IsEnded l
ended-at [] l m ls ended = ended.0
ended-at (x ∷ []) l m ls ended = ended.1.0
ended-at (x ∷ y ∷ front) l m ls ended = ended-at (y ∷ front) l m ls ended.1

ended-behind : (l text : List ℕ) → IsEnded l → EndsLine text → EndsLine (l ++ text)
ended-behind l text end (inl none) = inr (end.0, rw none (append-nil l ∙ end.1))
ended-behind l text end (inr more) = inr (l ++ more.0, ap (λ (t : List ℕ). l ++ t) more.1 ∙ sym (append_assoc l more.0 (10 ∷ [])))

-- and lines that have another after them make a text of lines
pub ended-text : (front : List (List ℕ)) (l : List ℕ) (ls : List (List ℕ)) → AreEnded (front ++ l ∷ ls) → EndsLine (concat front)
ended-text [] l ls ended = inl refl
ended-text (x ∷ []) l ls ended = ended-behind x [] ended.0 (inl refl)
ended-text (x ∷ y ∷ front) l ls ended = ended-behind x (concat (y ∷ front)) ended.0 (ended-text (y ∷ front) l ls ended.1)
