-- The pieces that are read are pieces of the text.
use Rattle.std.proofs.Common.{◌≡◌, ℕ, zero, suc, ◌≤◌, Bool, true, false, eqb, List, [], ◌∷◌, ◌++◌, length, take, drop, Option, Some, None, refl, sym, ap, subst, ◌∙◌, arith, eqb-true, append_assoc}
use Rattle.std.proofs.lemmas.Bool.{cond_both}
use Rattle.std.proofs.lemmas.List.{append-nil}
use Rattle.std.specs.List.{AllByRecursion}
use Rattle.dns_master.specs.Pieces.{Piece, LineEnd, White, Comment, Open, Close, Quoted, Plain, Lexed, scan, line_len, ends_item, is_quote, is_white, quoted, piece_at, before, lexed_within, lexed}
use Rattle.dns_master.specs.Grammar.{Runs, taken_behind, Ends, EndsLine, spelled, Stands, ArePieces}
use Rattle.dns_master.proofs.EntryLemmas.{piece_shortens}
use Rattle.dns_master.proofs.GrammarLaws.{pieces_of}

cut_at : (n : ℕ) (xs : List ℕ) → xs ≡ take n xs ++ drop n xs
cut_at zero xs = refl
cut_at (suc n) [] = refl
cut_at (suc n) (x ∷ xs) = ap (λ (t : List ℕ). x ∷ t) (cut_at n xs)

-- ---- what a scan passes is a run

module _ (stops : ℕ → Bool) where
  pub record Scanned (taken : Bool) (n : ℕ) (text : List ℕ) : Type 0 where
    pub run : Runs stops taken (take n text)
    pub end : Ends stops (taken_behind taken (take n text)) (drop n text)

  pub scan_found : (taken : Bool) (text : List ℕ) → Scanned taken (scan stops taken text) text
  scan_found taken [] = record { run = tt; end = tt }
  scan_found true (o ∷ rest) = let s = scan_found false rest in record { run = s.run; end = s.end }
  scan_found false (o ∷ rest) =
      cond_both (stops o) 0 (suc (scan stops (eqb o 92) rest)) (λ n. Scanned false n (o ∷ rest))
      (λ h. record { run = tt; end = (refl, h) })
      (λ h. let s = scan_found (eqb o 92) rest in record { run = (h, s.run); end = s.end })

pub record LineFound (n : ℕ) (text : List ℕ) : Type 0 where
  pub none : AllByRecursion (λ o. eqb o 10 ≡ false) (take n text)
  pub end : EndsLine (drop n text)

line_found : (text : List ℕ) → LineFound (line_len text) text
line_found [] = record { none = tt; end = tt }
line_found (o ∷ rest) =
    cond_both (eqb o 10) 0 (suc (line_len rest)) (λ n. LineFound n (o ∷ rest))
    (λ h. record { none = tt; end = eqb-true o 10 h })
    (λ h. let s = line_found rest in record { none = (h, s.none); end = s.end })

-- ---- one piece

pub record IsFirst (text : List ℕ) (x : Piece × List ℕ) : Type 0 where
  pub parts : text ≡ spelled x.0 ++ x.1
  pub stands : Stands x.0 x.1

abbrev AreFirst : List ℕ → Option (Piece × List ℕ) → Type 0
AreFirst text r = (x : Piece × List ℕ) → r ≡ Some x → IsFirst text x

first_some : (text : List ℕ) (p : Piece) (after : List ℕ) → IsFirst text (p, after) → AreFirst text (Some (p, after))
first_some text p after h x e = let same : (p, after) ≡ x = cc in subst (IsFirst text) same h

first_quoted : (rest raw end : List ℕ) → rest ≡ raw ++ end → Runs is_quote false raw → Ends is_quote (taken_behind false raw) end → AreFirst (34 ∷ rest) (quoted raw end)
first_quoted rest raw [] parts run end x e = absurd cc
first_quoted rest raw (q ∷ after) parts run end x e =
    let is : q ≡ 34 = eqb-true q 34 end.1 in
    let whole : rest ≡ (raw ++ 34 ∷ []) ++ after = parts ∙ ap (λ (n : ℕ). raw ++ n ∷ after) is ∙ sym (append_assoc raw (34 ∷ []) after) in
    first_some (34 ∷ rest) (Quoted raw) after (record { parts = ap (λ (t : List ℕ). 34 ∷ t) whole; stands = (run, end.0) }) x e

pub piece_found : (o : ℕ) (rest : List ℕ) → AreFirst (o ∷ rest) (piece_at o rest)
piece_found o rest =
    let n = scan ends_item (eqb o 92) rest in
    let k = scan is_quote false rest in
    let m = line_len rest in
    let P = AreFirst (o ∷ rest) in
    let headed = λ (c : ℕ) (h : eqb o c ≡ true). ap (λ (v : ℕ). v ∷ rest) (eqb-true o c h) in
    cond_both (eqb o 10) (Some (LineEnd, rest)) _ P (λ h. first_some _ LineEnd rest (record { parts = headed 10 h; stands = tt })) (λ h10.
    cond_both (is_white o) (Some (White o, rest)) _ P (λ h. first_some _ (White o) rest (record { parts = refl; stands = h })) (λ hw.
    cond_both (eqb o 59) (Some (Comment (take m rest), drop m rest)) _ P (λ h. let s = line_found rest in first_some _ (Comment (take m rest)) (drop m rest) (record { parts = headed 59 h ∙ ap (λ (t : List ℕ). 59 ∷ t) (cut_at m rest); stands = (s.none, s.end) })) (λ h59.
    cond_both (eqb o 40) (Some (Open, rest)) _ P (λ h. first_some _ Open rest (record { parts = headed 40 h; stands = tt })) (λ h40.
    cond_both (eqb o 41) (Some (Close, rest)) _ P (λ h. first_some _ Close rest (record { parts = headed 41 h; stands = tt })) (λ h41.
    cond_both (is_quote o) (quoted (take k rest) (drop k rest)) (Some (Plain (o ∷ take n rest), drop n rest)) P
    (λ h. let s = scan_found is_quote false rest in
    let q = first_quoted rest (take k rest) (drop k rest) (cut_at k rest) s.run s.end in
    subst (λ (t : List ℕ). AreFirst t (quoted (take k rest) (drop k rest))) (sym (headed 34 h)) q)
    (λ h34. let s = scan_found ends_item (eqb o 92) rest in
    let no : ends_item o ≡ false = rw (hw, h10, h59, h40, h41, h34) refl in
    first_some _ (Plain (o ∷ take n rest)) (drop n rest) (record { parts = ap (λ (t : List ℕ). o ∷ t) (cut_at n rest); stands = ((no, s.run), s.end) })))))))

-- ---- a quote that stays open

abbrev IsOpen : ℕ → List ℕ → Option (Piece × List ℕ) → Type 0
IsOpen o rest r = r ≡ None → (o ≡ 34) × Runs is_quote false rest

quoted_open : (rest raw end : List ℕ) → rest ≡ raw ++ end → Runs is_quote false raw → quoted raw end ≡ None → Runs is_quote false rest
quoted_open rest raw [] parts run e = subst (Runs is_quote false) (sym (parts ∙ append-nil raw)) run
quoted_open rest raw (q ∷ after) parts run e = absurd cc

pub piece_open : (o : ℕ) (rest : List ℕ) → IsOpen o rest (piece_at o rest)
piece_open o rest =
    let n = scan ends_item (eqb o 92) rest in
    let k = scan is_quote false rest in
    let m = line_len rest in
    let P = IsOpen o rest in
    cond_both (eqb o 10) (Some (LineEnd, rest)) _ P (λ h e. absurd cc) (λ _.
    cond_both (is_white o) (Some (White o, rest)) _ P (λ h e. absurd cc) (λ _.
    cond_both (eqb o 59) (Some (Comment (take m rest), drop m rest)) _ P (λ h e. absurd cc) (λ _.
    cond_both (eqb o 40) (Some (Open, rest)) _ P (λ h e. absurd cc) (λ _.
    cond_both (eqb o 41) (Some (Close, rest)) _ P (λ h e. absurd cc) (λ _.
    cond_both (is_quote o) (quoted (take k rest) (drop k rest)) (Some (Plain (o ∷ take n rest), drop n rest)) P
    (λ h e. (eqb-true o 34 h, quoted_open rest (take k rest) (drop k rest) (cut_at k rest) (scan_found is_quote false rest).run e))
    (λ _ e. absurd cc))))))

-- ---- all pieces

before_found : (left : ℕ) (text : List ℕ) (r : Option (Piece × List ℕ)) (f : List ℕ → Lexed) → left ≡ length text
    → ((x : Piece × List ℕ) → r ≡ Some x → IsFirst text x × ArePieces (pieces_of (f x.1)) (f x.1).open_quote x.1)
    → (r ≡ None → (body : List ℕ) × (text ≡ 34 ∷ body) × Runs is_quote false body)
    → ArePieces (pieces_of (before left r f)) (before left r f).open_quote text
before_found left text None f size some none = let b = none refl in (b.0, b.1, b.2, size)
before_found left text (Some x) f size some none = let s = some x refl in (x.1, s.0.parts, s.0.stands, s.1)

within_found : (n : ℕ) (text : List ℕ) → length text ≤ n → ArePieces (pieces_of (lexed_within n text)) (lexed_within n text).open_quote text
unfolding lexed_within
within_found n [] h = refl
within_found zero (o ∷ rest) h = absurd (omega arith)
within_found (suc n) (o ∷ rest) h =
    before_found (suc (length rest)) (o ∷ rest) (piece_at o rest) (lexed_within n) refl
    (λ x e. let s = piece_shortens o rest x e in (piece_found o rest x e, within_found n x.1 (omega (arith, s))))
    (λ e. let q = piece_open o rest e in (rest, ap (λ (v : ℕ). v ∷ rest) q.0, q.1))

-- a text has a list of pieces: the one that is read
pub pieces_found : (text : List ℕ) → ArePieces (pieces_of (lexed text)) (lexed text).open_quote text
pieces_found text = within_found (length text) text (omega arith)
