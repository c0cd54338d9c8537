-- Reading part by part, word by word and line by line.
use Rattle.std.proofs.Common.{◌≡◌, ℕ, ◌+◌, ◌<◌, ◌≤◌, Bool, true, false, cond, List, [], ◌∷◌, ◌++◌, length, map, drop, get_or, Option, None, Result, Ok, Err, refl, sym, ap, ◌∙◌, subst, append_assoc, append-nil, Bor, arith, eqb, eqb-true}
use Rattle.std.specs.Option.{option_to_list}
use Rattle.std.proofs.lemmas.Bool.{false≢true}
use Rattle.std.proofs.lemmas.List.{drop_more, drop_all, map_push}
use Rattle.policy_tools.specs.declared.expectation_fault.ExpectationFault.{ExpectationFault}
use Rattle.policy_tools.specs.declared.expectation_fault.ExpectationFault.TheVariants.{NoCaller}
use Rattle.policy_tools.specs.declared.expectation_fault.ExpectationsFault.{ExpectationsFault}
use Rattle.policy_tools.specs.declared.expectation_lines.ExpectationLine.{ExpectationLine}
use Rattle.policy_tools.specs.ExpectationFaults.{or_fault, ◌>>=◌, ◌>>>=◌}
use Rattle.policy_tools.specs.ExpectationReading.{is_comment, words_among, words_of, listable_of, callers_in, expectation_in, row_of, expectations_from}

abbrev pub texts : List (Bor (List ℕ)) → List (List ℕ)
texts words = map (λ word. word.now) words

next : (words : List (Bor (List ℕ))) (i : ℕ) (word : Bor (List ℕ)) → i < length words → word ≡ get_or words i word → texts (drop i words) ≡ word.now ∷ texts (drop (i + 1) words)
next words i word lt is = ap texts (drop_more words i word lt) ∙ ap (λ (w : Bor (List ℕ)). w.now ∷ texts (drop (i + 1) words)) (sym is)

-- ---- words

-- the words of all parts are those so far, and those of the others
abbrev pub WordsFrom : List (Bor (List ℕ)) → ℕ → List (Bor (List ℕ)) → Type 0
WordsFrom parts i words = words_among (texts parts) ≡ texts words ++ words_among (texts (drop i parts))

among_comment : (part : List ℕ) (parts : List (List ℕ)) → is_comment part ≡ true → words_among (part ∷ parts) ≡ []
among_comment [] parts e = absurd (false≢true e)
among_comment (o ∷ text) parts e = ap (λ (b : Bool). cond b [] ((o ∷ text) ∷ words_among parts)) e

among_empty : (part : List ℕ) (parts : List (List ℕ)) → eqb (length part) 0 ≡ true → words_among (part ∷ parts) ≡ words_among parts
among_empty [] parts e = refl
among_empty (o ∷ text) parts e = absurd (let z = eqb-true (length (o ∷ text)) 0 e in omega (arith, z))

among_word : (part : List ℕ) (parts : List (List ℕ)) → is_comment part ≡ false → eqb (length part) 0 ≡ false → words_among (part ∷ parts) ≡ part ∷ words_among parts
among_word [] parts e some = absurd (false≢true (sym some))
among_word (o ∷ text) parts e some = ap (λ (b : Bool). cond b [] ((o ∷ text) ∷ words_among parts)) e

module _ (parts : List (Bor (List ℕ))) (i : ℕ) (words : List (Bor (List ℕ))) (part : Bor (List ℕ)) (lt : i < length parts) (is : part ≡ get_or parts i part) (so_far : WordsFrom parts i words) where
  pub words_stop : is_comment part.now ≡ true → texts words ≡ words_among (texts parts)
  words_stop e = sym (so_far ∙ ap (λ (l : List (List ℕ)). texts words ++ l) (ap words_among (next parts i part lt is) ∙ among_comment part.now (texts (drop (i + 1) parts)) e) ∙ append-nil (texts words))

  pub words_skip : eqb (length part.now) 0 ≡ true → WordsFrom parts (i + 1) words
  words_skip e = so_far ∙ ap (λ (l : List (List ℕ)). texts words ++ l) (ap words_among (next parts i part lt is) ∙ among_empty part.now (texts (drop (i + 1) parts)) e)

  pub words_more : is_comment part.now ≡ false → eqb (length part.now) 0 ≡ false → WordsFrom parts (i + 1) (words ++ part ∷ [])
  words_more e some =
      so_far
      ∙ ap (λ (l : List (List ℕ)). texts words ++ l) (ap words_among (next parts i part lt is) ∙ among_word part.now (texts (drop (i + 1) parts)) e some)
      ∙ sym (append_assoc (texts words) (part.now ∷ []) (words_among (texts (drop (i + 1) parts))))
      ∙ ap (λ (l : List (List ℕ)). l ++ words_among (texts (drop (i + 1) parts))) (sym (map_push (λ (w : Bor (List ℕ)). w.now) words part))

pub words_all : (parts : List (Bor (List ℕ))) (i : ℕ) (words : List (Bor (List ℕ))) → length parts ≤ i → WordsFrom parts i words → texts words ≡ words_among (texts parts)
words_all parts i words all so_far = sym (so_far ∙ ap (λ (l : List (Bor (List ℕ))). texts words ++ words_among (texts l)) (drop_all i parts all) ∙ append-nil (texts words))

-- ---- callers

abbrev Read : Type 0 → Type 0
Read A = Result A ExpectationFault

-- what is read after these
abbrev with_front : {X : Type 0} → List X → Read (List X) → Read (List X)
with_front done rest = rest >>= λ others. Ok (done ++ others)

abbrev pub CallersFrom : List (Bor (List ℕ)) → ℕ → List (List ℕ) → Type 0
CallersFrom words i callers = callers_in (texts words) ≡ with_front callers (callers_in (texts (drop i words)))

front_more : {X : Type 0} (done : List X) (x : X) (rest : Read (List X)) → with_front done (rest >>= λ others. Ok (x ∷ others)) ≡ with_front (done ++ x ∷ []) rest
front_more {X} done x (Ok others) = ap (λ (l : List X). Ok l) (sym (append_assoc done (x ∷ []) others))
front_more done x (Err fault) = refl

pub callers_first : (words : List (Bor (List ℕ))) → CallersFrom words 0 []
callers_first words = by (callers_in (texts words))
  where
    by : (rest : Read (List (List ℕ))) → rest ≡ with_front [] rest
    by (Ok others) = refl
    by (Err fault) = refl

module _ (words : List (Bor (List ℕ))) (i : ℕ) (callers : List (List ℕ)) (word : Bor (List ℕ)) (lt : i < length words) (is : word ≡ get_or words i word) (so_far : CallersFrom words i callers) where
  abbrev others : Read (List (List ℕ))
  others = callers_in (texts (drop (i + 1) words))

  here : callers_in (texts words) ≡ with_front callers (or_fault (listable_of word.now) NoCaller >>= λ c. others >>= λ cs. Ok (c ∷ cs))
  here = so_far ∙ ap (λ (l : List (List ℕ)). with_front callers (callers_in l)) (next words i word lt is)

  pub callers_more : (caller : List ℕ) → or_fault (listable_of word.now) NoCaller ≡ Ok caller → CallersFrom words (i + 1) (callers ++ caller ∷ [])
  callers_more caller e =
      here
      ∙ ap (λ (r : Read (List ℕ)). with_front callers (r >>= λ c. others >>= λ cs. Ok (c ∷ cs))) e
      ∙ front_more callers caller others

  pub callers_stop : (fault : ExpectationFault) → or_fault (listable_of word.now) NoCaller ≡ Err fault → callers_in (texts words) ≡ Err fault
  callers_stop fault e = here ∙ ap (λ (r : Read (List ℕ)). with_front callers (r >>= λ c. others >>= λ cs. Ok (c ∷ cs))) e

pub callers_all : (words : List (Bor (List ℕ))) (i : ℕ) (callers : List (List ℕ)) → length words ≤ i → CallersFrom words i callers → callers_in (texts words) ≡ Ok callers
callers_all words i callers all so_far =
    so_far ∙ ap (λ (l : List (Bor (List ℕ))). with_front callers (callers_in (texts l))) (drop_all i words all) ∙ ap (λ (l : List (List ℕ)). Ok l) (append-nil callers)

-- ---- lines

abbrev ReadText : Type 0 → Type 0
ReadText A = Result A ExpectationsFault

abbrev text_front : List ExpectationLine → ReadText (List ExpectationLine) → ReadText (List ExpectationLine)
text_front done rest = rest >>>= λ others. Ok (done ++ others)

abbrev pub RowsFrom : List (Bor (List ℕ)) → ℕ → List ExpectationLine → Type 0
RowsFrom lines i rows = expectations_from 1 (texts lines) ≡ text_front rows (expectations_from (i + 1) (texts (drop i lines)))

text_more : (done more : List ExpectationLine) (rest : ReadText (List ExpectationLine)) → text_front done (rest >>>= λ others. Ok (more ++ others)) ≡ text_front (done ++ more) rest
text_more done more (Ok others) = ap (λ (l : List ExpectationLine). Ok l) (sym (append_assoc done more others))
text_more done more (Err fault) = refl

pub rows_first : (lines : List (Bor (List ℕ))) → RowsFrom lines 0 []
rows_first lines = by (expectations_from 1 (texts lines))
  where
    by : (rest : ReadText (List ExpectationLine)) → rest ≡ text_front [] rest
    by (Ok rows) = refl
    by (Err fault) = refl

module _ (lines : List (Bor (List ℕ))) (i : ℕ) (rows : List ExpectationLine) (line : Bor (List ℕ)) (lt : i < length lines) (is : line ≡ get_or lines i line) (so_far : RowsFrom lines i rows) where
  abbrev rest_rows : ReadText (List ExpectationLine)
  rest_rows = expectations_from (i + 1 + 1) (texts (drop (i + 1) lines))

  abbrev row_here : ReadText (Option ExpectationLine)
  row_here = row_of (i + 1) (expectation_in (words_of line.now))

  this : expectations_from 1 (texts lines) ≡ text_front rows (row_here >>>= λ row. rest_rows >>>= λ others. Ok (option_to_list row ++ others))
  this = so_far ∙ ap (λ (l : List (List ℕ)). text_front rows (expectations_from (i + 1) l)) (next lines i line lt is)

  pub rows_more : (row : Option ExpectationLine) → row_here ≡ Ok row → RowsFrom lines (i + 1) (rows ++ option_to_list row)
  rows_more row e =
      this
      ∙ ap (λ (r : ReadText (Option ExpectationLine)). text_front rows (r >>>= λ x. rest_rows >>>= λ others. Ok (option_to_list x ++ others))) e
      ∙ text_more rows (option_to_list row) rest_rows

  pub rows_skip : row_here ≡ Ok None → RowsFrom lines (i + 1) rows
  rows_skip e = subst (λ (l : List ExpectationLine). RowsFrom lines (i + 1) l) (append-nil rows) (rows_more None e)

  pub rows_stop : (fault : ExpectationsFault) → row_here ≡ Err fault → expectations_from 1 (texts lines) ≡ Err fault
  rows_stop fault e = this ∙ ap (λ (r : ReadText (Option ExpectationLine)). text_front rows (r >>>= λ x. rest_rows >>>= λ others. Ok (option_to_list x ++ others))) e

pub rows_all : (lines : List (Bor (List ℕ))) (i : ℕ) (rows : List ExpectationLine) → length lines ≤ i → RowsFrom lines i rows → expectations_from 1 (texts lines) ≡ Ok rows
rows_all lines i rows all so_far =
    so_far ∙ ap (λ (l : List (Bor (List ℕ))). text_front rows (expectations_from (i + 1) (texts l))) (drop_all i lines all) ∙ ap (λ (l : List ExpectationLine). Ok l) (append-nil rows)
