-- The words of a line: what is read is in the grammar, and what is in the grammar is read.
use Rattle.std.proofs.Common.{◌≡◌, ◌⊎◌, inl, inr, ℕ, Bool, true, false, cond, List, [], ◌∷◌, ◌++◌, refl, sym, ap, ◌∙◌, subst, ⊎_elim, arith}
use Rattle.std.specs.List.{AllByRecursion, slice_split, onto_first}
use Rattle.std.proofs.lemmas.Bool.{cases_Bool}
use Rattle.std.proofs.lemmas.Bool.Decides.{nat_tests}
use Rattle.std.proofs.lemmas.List.Splits.{slice_split-cons_yes, slice_split-cons_no}
use Rattle.policy_tools.specs.ExpectationLines.{is_blank, AreBlank, begins_comment, IsComment, IsWord, EndsWord, AreWords}
use Rattle.policy_tools.specs.ExpectationReading.{words_among, parts_of, words_of}

-- ---- a blank before words

blank_more : (words : List (List ℕ)) (o : ℕ) (line : List ℕ) → is_blank o ≡ true → AreWords words line → AreWords words (o ∷ line)
blank_more [] o line b (blanks, comment, is, are, c) = (o ∷ blanks, comment, ap (λ (l : List ℕ). o ∷ l) is, (b, are), c)
blank_more (word ∷ words) o line b (blanks, rest, is, are, w, e, more) = (o ∷ blanks, rest, ap (λ (l : List ℕ). o ∷ l) is, (b, are), w, e, more)

-- ---- what is read is in the grammar

-- the first part of a line, and what is after it
record IsCut (line : List ℕ) : Type 0 where
  part : List ℕ
  parts : List (List ℕ)
  rest : List ℕ
  is : parts_of line ≡ part ∷ parts
  line_is : line ≡ part ++ rest
  plain : AllByRecursion (λ (x : ℕ). is_blank x ≡ false) part
  ends : EndsWord rest
  words : AreWords (words_among parts) rest

-- a part that is not empty is a word, or begins a comment
first_part : (o : ℕ) (text : List ℕ) (parts : List (List ℕ)) (line rest : List ℕ) → line ≡ (o ∷ text) ++ rest → AllByRecursion (λ (x : ℕ). is_blank x ≡ false) (o ∷ text) → EndsWord rest → AreWords (words_among parts) rest → AreWords (words_among ((o ∷ text) ∷ parts)) line
first_part o text parts line rest is plain ends words =
    ⊎_elim
    (λ (yes' : begins_comment o ≡ true). subst (λ (b : Bool). AreWords (cond b [] ((o ∷ text) ∷ words_among parts)) line) (sym yes') ([], (o ∷ text) ++ rest, is, tt, yes'))
    (λ (no' : begins_comment o ≡ false). subst (λ (b : Bool). AreWords (cond b [] ((o ∷ text) ∷ words_among parts)) line) (sym no') ([], rest, is, tt, (no', plain), ends, words))
    (cases_Bool (begins_comment o))

line_words : (line : List ℕ) → IsCut line → AreWords (words_of line) line
line_words line c = subst (λ (ps : List (List ℕ)). AreWords (words_among ps) line) (sym c.is) (by c.part c.line_is c.plain)
  where
    by : (part : List ℕ) → line ≡ part ++ c.rest → AllByRecursion (λ (x : ℕ). is_blank x ≡ false) part → AreWords (words_among (part ∷ c.parts)) line
    by [] is plain = subst (AreWords (words_among c.parts)) (sym is) c.words
    by (o ∷ text) is plain = first_part o text c.parts line c.rest is plain c.ends c.words

cut : (line : List ℕ) → IsCut line
cut [] = record { part = []; parts = []; rest = []; is = refl; line_is = refl; plain = tt; ends = tt; words = ([], [], refl, tt, tt) }
cut (o ∷ line) = by (cut line) (cases_Bool (is_blank o))
  where
    by : IsCut line → (is_blank o ≡ true) ⊎ (is_blank o ≡ false) → IsCut (o ∷ line)
    by c (inl b) = record {
      part = [];
      parts = parts_of line;
      rest = o ∷ line;
      is = slice_split-cons_yes is_blank o line b;
      line_is = refl;
      plain = tt;
      ends = b;
      words = blank_more (words_of line) o line b (line_words line c);
    }
    by c (inr b) = record {
      part = o ∷ c.part;
      parts = c.parts;
      rest = c.rest;
      is = slice_split-cons_no is_blank o line b ∙ ap (onto_first o) c.is;
      line_is = ap (λ (l : List ℕ). o ∷ l) c.line_is;
      plain = (b, c.plain);
      ends = c.ends;
      words = c.words;
    }

pub words_found : (line : List ℕ) → AreWords (words_of line) line
words_found line = line_words line (cut line)

-- ---- what is in the grammar is read

skip : (blanks line : List ℕ) → AreBlank blanks → words_of (blanks ++ line) ≡ words_of line
skip [] line are = refl
skip (o ∷ blanks) line (b, are) = ap words_among (slice_split-cons_yes is_blank o (blanks ++ line) b) ∙ skip blanks line are

not_blank : (o : ℕ) → begins_comment o ≡ true → is_blank o ≡ false
not_blank o e = grind (arith, nat_tests)

comment_none : (comment : List ℕ) → IsComment comment → words_of comment ≡ []
comment_none [] c = refl
comment_none (o ∷ text) c =
    let t = cut text in
    ap words_among (slice_split-cons_no is_blank o text (not_blank o c) ∙ ap (onto_first o) t.is) ∙ ap (λ (b : Bool). cond b [] ((o ∷ t.part) ∷ words_among t.parts)) c

-- a text without blanks before one that begins with a blank, or has no octets
part_first : (text : List ℕ) (rest : List ℕ) (parts : List (List ℕ)) → AllByRecursion (λ (x : ℕ). is_blank x ≡ false) text → parts_of rest ≡ [] ∷ parts → parts_of (text ++ rest) ≡ text ∷ parts
part_first [] rest parts plain is = is
part_first (o ∷ text) rest parts (b, plain) is = slice_split-cons_no is_blank o (text ++ rest) b ∙ ap (onto_first o) (part_first text rest parts plain is)

ended : (rest : List ℕ) → EndsWord rest → (parts : List (List ℕ)) × (parts_of rest ≡ [] ∷ parts) × (words_of rest ≡ words_among parts)
ended [] e = ([], refl, refl)
ended (o ∷ rest) e = let is = slice_split-cons_yes is_blank o rest e in (parts_of rest, is, ap words_among is)

word_first : (word rest : List ℕ) → IsWord word → EndsWord rest → words_of (word ++ rest) ≡ word ∷ words_of rest
word_first [] rest w e = absurd w
word_first (o ∷ text) rest (c, plain) e =
    let t = ended rest e in
    ap words_among (part_first (o ∷ text) rest t.0 plain t.1) ∙ ap (λ (b : Bool). cond b [] ((o ∷ text) ∷ words_among t.0)) c ∙ ap (λ (ws : List (List ℕ)). (o ∷ text) ∷ ws) (sym t.2)

pub words_only : (words : List (List ℕ)) (line : List ℕ) → AreWords words line → words_of line ≡ words
words_only [] line (blanks, comment, is, are, c) = ap words_of is ∙ skip blanks comment are ∙ comment_none comment c
words_only (word ∷ words) line (blanks, rest, is, are, w, e, more) =
    ap words_of is ∙ skip blanks (word ++ rest) are ∙ word_first word rest w e ∙ ap (λ (ws : List (List ℕ)). word ∷ ws) (words_only words rest more)

-- ---- octets

pub record AreSplit (P : ℕ → Type 0) (front back : List ℕ) : Type 0 where
  pub first : AllByRecursion P front
  pub second : AllByRecursion P back

octets_split : (P : ℕ → Type 0) (front back : List ℕ) → AllByRecursion P (front ++ back) → AreSplit P front back
octets_split P [] back all = record { first = tt; second = all }
octets_split P (o ∷ front) back (h, all) = let s = octets_split P front back all in record { first = (h, s.first); second = s.second }

-- what is true of each octet of a line is true of each of its words
pub words_octets : (P : ℕ → Type 0) (words : List (List ℕ)) (line : List ℕ) → AreWords words line → AllByRecursion P line → AllByRecursion (λ (word : List ℕ). AllByRecursion P word) words
words_octets P [] line are all = tt
words_octets P (word ∷ words) line (blanks, rest, is, are, w, e, more) all =
    let s = octets_split P blanks (word ++ rest) (subst (AllByRecursion P) is all) in
    let t = octets_split P word rest s.second in
    (t.first, words_octets P words rest more t.second)

-- and of each of the lines of a text
pub parts_octets : (P : ℕ → Type 0) (p : ℕ → Bool) (text : List ℕ) → AllByRecursion P text → AllByRecursion (λ (part : List ℕ). AllByRecursion P part) (slice_split p text)
parts_octets P p [] all = (tt, tt)
parts_octets P p (o ∷ text) (h, all) =
    ⊎_elim
    (λ (yes' : p o ≡ true). subst (AllByRecursion (λ (part : List ℕ). AllByRecursion P part)) (sym (slice_split-cons_yes p o text yes')) (tt, parts_octets P p text all))
    (λ (no' : p o ≡ false). subst (AllByRecursion (λ (part : List ℕ). AllByRecursion P part)) (sym (slice_split-cons_no p o text no')) (onto (slice_split p text) (parts_octets P p text all)))
    (cases_Bool (p o))
  where
    onto : (parts : List (List ℕ)) → AllByRecursion (λ (part : List ℕ). AllByRecursion P part) parts → AllByRecursion (λ (part : List ℕ). AllByRecursion P part) (onto_first o parts)
    onto [] _ = ((h, tt), tt)
    onto (part ∷ parts) (here, others) = ((h, here), others)
