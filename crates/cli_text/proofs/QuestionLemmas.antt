-- Questions are read entry by entry.
use Rattle.std.proofs.Common.{◌≡◌, ℕ, suc, ◌+◌, eqb, List, [], ◌∷◌, ◌++◌, length, map, take, drop, Result, Ok, Err, refl, sym, ap, subst, ◌∙◌, arith, append_assoc, append-nil, eq-eqb, ◌<◌, ◌≤◌, get_or, length-drop}
use Rattle.std.proofs.lemmas.List.{map-append}
use Rattle.std.proofs.lemmas.List.Sums.{prefix_len-le-length}
use Rattle.std.proofs.Math.Seq.{drop-cons, drop-drop}
use Rattle.dns_data.specs.Items.{ItemText}
use Rattle.dns_master.specs.declared.token.Token.{Token}
use Rattle.dns_master.specs.Tokens.{token_of}
use Rattle.update_lines.specs.Reading.{EntryLine}
use Rattle.update_lines.specs.Views.{entry_of, gathered}
use Rattle.update_lines.proofs.GatherLemmas.{run, gathered_first}
use Rattle.cli_core.specs.declared.refusal.Refusal.{Refusal}
use Rattle.cli_core.specs.declared.line_fault.LineFault.{LineFault}
use Rattle.cli_core.specs.declared.line_fault.LineFault.TheVariants.{Refused, ReadFailed, NoMemory}
use Rattle.cli_core.specs.LineFaults.{◌>>=◌, Gives}
use Rattle.cli_text.specs.declared.questions.Question.{Question}
use Rattle.cli_text.specs.Questions.{QuestionOf, question_of, questions_in}
use Rattle.cli_text.specs.QuestionViews.{question_view}

abbrev lined : ℕ → List ItemText → EntryLine
lined line items = record { line = line; items = items }

-- the first token is of its own entry
whole_first : (t : Token) (ts : List Token) → gathered (map token_of (t ∷ ts)) ≡ lined t.line (entry_of (take (run t.entry (t ∷ ts)) (t ∷ ts))) ∷ gathered (map token_of (drop (run t.entry (t ∷ ts)) (t ∷ ts)))
whole_first t ts =
    let m : 1 + run t.entry ts ≡ suc (run t.entry ts) = omega arith in
    rw (eq-eqb t.entry t.entry refl, m) (gathered_first t ts)

-- what is read after questions
abbrev pub then_questions : List QuestionOf → Result (List QuestionOf) Refusal → Result (List QuestionOf) Refusal
then_questions front read = read >>= λ back. Ok (front ++ back)

then_both : (a b : List QuestionOf) (read : Result (List QuestionOf) Refusal) → then_questions a (then_questions b read) ≡ then_questions (a ++ b) read
then_both a b (Ok qs) = ap (λ (xs : List QuestionOf). Ok xs) (sym (append_assoc a b qs))
then_both a b (Err refusal) = refl

-- after the last there is no more
pub none_behind : (front : List QuestionOf) → then_questions front (Ok []) ≡ Ok front
none_behind front = ap (λ (xs : List QuestionOf). Ok xs) (append-nil front)

entry_read : (e : EntryLine) (es : List EntryLine) (q : QuestionOf) → question_of e.line e.items ≡ Ok q → questions_in (e ∷ es) ≡ then_questions (q ∷ []) (questions_in es)
entry_read e es q is = ap (λ o. o >>= λ x. questions_in es >>= λ qs. Ok (x ∷ qs)) is

-- a fault of a step is one of all
pub refused_in : {A B X : Type 0} (view : X → B) (step : Result A Refusal → Result B Refusal) → ((r : Refusal) → step (Err r) ≡ Err r) → {Y : Type 0} (seen : Y → A) (fault : LineFault) (read : Result A Refusal)
    → Gives seen (Err fault) read → Gives view (Err fault) (step read)
refused_in view step keeps seen (Refused refusal) read h = ap step h ∙ keeps refusal
refused_in view step keeps seen NoMemory read h = tt
refused_in view step keeps seen ReadFailed read h = absurd h

-- one more question
pub viewed : (old new : List Question) (q : Question) → new ≡ old ++ q ∷ [] → map question_view new ≡ map question_view old ++ question_view q ∷ []
viewed old new q e = ap (map question_view) e ∙ map-append question_view old (q ∷ [])

-- the tokens from one on
module _ (all : Result (List QuestionOf) Refusal) (front : List QuestionOf) (ts rest : List Token) (at n : ℕ) (d : Token) (h : at < length ts) (from : rest ≡ drop at ts) (len : n ≡ run (get_or ts at d).entry rest) (so_far : all ≡ then_questions front (questions_in (gathered (map token_of (drop at ts))))) where
  abbrev line : ℕ
  line = (get_or ts at d).line

  abbrev entry : List ItemText
  entry = entry_of (take n rest)

  abbrev later : List EntryLine
  later = gathered (map token_of (drop n rest))

  first_entry : gathered (map token_of (drop at ts)) ≡ lined line entry ∷ later
  first_entry =
      let cut : drop at ts ≡ get_or ts at d ∷ drop (suc at) ts = drop-cons ts at d h in
      let whole = whole_first (get_or ts at d) (drop (suc at) ts) in
      rw (len, from, cut) whole

  pub entry_within : at + n ≤ length ts
  entry_within =
      omega (arith, len, prefix_len-le-length (λ (t : Token). eqb t.entry (get_or ts at d).entry) rest, ap length from, length-drop at ts)

  pub questions_more : (q : QuestionOf) (next : List QuestionOf) → question_of (get_or ts at d).line (entry_of (take n rest)) ≡ Ok q → next ≡ front ++ q ∷ [] → all ≡ then_questions next (questions_in (gathered (map token_of (drop (at + n) ts))))
  questions_more q next is e =
      let behind_it : drop n rest ≡ drop (at + n) ts = ap (drop n) from ∙ drop-drop n at ts in
      so_far ∙ ap (λ (es : List EntryLine). then_questions front (questions_in es)) first_entry ∙ ap (then_questions front) (entry_read (lined line entry) later q is)
      ∙ then_both front (q ∷ []) (questions_in later) ∙ ap (λ (qs : List QuestionOf). then_questions qs (questions_in later)) (sym e)
      ∙ ap (λ (us : List Token). then_questions next (questions_in (gathered (map token_of us)))) behind_it

  pub questions_refused : {X : Type 0} (view : X → List QuestionOf) (fault : LineFault) → Gives question_view (Err fault) (question_of (get_or ts at d).line (entry_of (take n rest))) → Gives view (Err fault) all
  questions_refused view fault none =
      subst (Gives view (Err fault)) (sym (so_far ∙ ap (λ (es : List EntryLine). then_questions front (questions_in es)) first_entry))
      (refused_in view (λ read. then_questions front (read >>= λ x. questions_in later >>= λ qs. Ok (x ∷ qs))) (λ r. refl) question_view fault (question_of line entry) none)
