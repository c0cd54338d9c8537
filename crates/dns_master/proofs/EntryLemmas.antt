-- The pieces of a text, one after the other, and what each does inside an entry.
use Rattle.std.proofs.Common.{◌≡◌, ℕ, zero, suc, ◌≤◌, Bool, true, false, eqb, List, [], ◌∷◌, length, take, drop, Option, Some, None, Result, Err, refl, sym, ap, subst, ◌∙◌, arith, length-drop, eqb-true}
use Rattle.std.proofs.lemmas.Bool.{cond_both}
use Rattle.dns_master.specs.declared.shape.ShapeFault.{ShapeFault}
use Rattle.dns_master.specs.declared.shape.ShapeFault.TheVariants.{QuoteOpen}
use Rattle.dns_master.specs.Pieces.{Piece, LineEnd, White, Comment, Open, Close, Quoted, Plain, Lexed, scan, line_len, ends_item, is_quote, is_white, quoted, piece_at, before, lexed_within, lexed}
use Rattle.dns_master.specs.Entries.{Split, is_white_piece, begins_white, ended, at_piece, split, from, white_first}

-- ---- one piece

-- the test of a chain, and what comes after it
abbrev Fits : List ℕ → Option (Piece × List ℕ) → Type 0
Fits rest r = (x : Piece × List ℕ) → r ≡ Some x → length x.1 ≤ length rest

fits_some : (rest : List ℕ) (p : Piece) (after : List ℕ) → length after ≤ length rest → Fits rest (Some (p, after))
fits_some rest p after h x e = let same : (p, after) ≡ x = cc in subst (λ (y : Piece × List ℕ). length y.1 ≤ length rest) same h

fits_quoted : (rest raw text : List ℕ) → length text ≤ length rest → Fits rest (quoted raw text)
fits_quoted rest raw [] h x e = absurd cc
fits_quoted rest raw (q ∷ after) h x e = fits_some rest (Quoted raw) after (omega arith) x e

-- less is left after a piece
pub piece_shortens : (o : ℕ) (rest : List ℕ) → Fits rest (piece_at o rest)
piece_shortens o rest =
    let n = scan ends_item (eqb o 92) rest in
    let k = scan is_quote false rest in
    let plain = fits_some rest (Plain (o ∷ take n rest)) (drop n rest) (omega (arith, length-drop n rest)) in
    let quote = fits_quoted rest (take k rest) (drop k rest) (omega (arith, length-drop k rest)) in
    let at_quote = cond_both (is_quote o) (quoted (take k rest) (drop k rest)) (Some (Plain (o ∷ take n rest), drop n rest)) (Fits rest) (λ _. quote) (λ _. plain) in
    let at_close = cond_both (eqb o 41) (Some (Close, rest)) _ (Fits rest) (λ _. fits_some rest Close rest (omega arith)) (λ _. at_quote) in
    let at_open = cond_both (eqb o 40) (Some (Open, rest)) _ (Fits rest) (λ _. fits_some rest Open rest (omega arith)) (λ _. at_close) in
    let at_comment = cond_both (eqb o 59) (Some (Comment (take (line_len rest) rest), drop (line_len rest) rest)) _ (Fits rest) (λ _. fits_some rest _ _ (omega (arith, length-drop (line_len rest) rest))) (λ _. at_open) in
    let at_white = cond_both (is_white o) (Some (White o, rest)) _ (Fits rest) (λ _. fits_some rest (White o) rest (omega arith)) (λ _. at_comment) in
    cond_both (eqb o 10) (Some (LineEnd, rest)) _ (Fits rest) (λ _. fits_some rest LineEnd rest (omega arith)) (λ _. at_white)

-- ---- all pieces

before_same : (left : ℕ) (r : Option (Piece × List ℕ)) (f g : List ℕ → Lexed) → ((x : Piece × List ℕ) → r ≡ Some x → f x.1 ≡ g x.1) → before left r f ≡ before left r g
before_same left None f g same = refl
before_same left (Some x) f g same = ap (λ (l : Lexed). record { pieces = (record { piece = x.0; left = left }) ∷ l.pieces; open_quote = l.open_quote }) (same x refl)

-- more fuel than octets changes nothing
within_agree : (m n : ℕ) (text : List ℕ) → length text ≤ m → length text ≤ n → lexed_within m text ≡ lexed_within n text
unfolding lexed_within
within_agree m n [] h k = refl
within_agree zero n (o ∷ rest) h k = absurd (omega arith)
within_agree (suc m) zero (o ∷ rest) h k = absurd (omega arith)
within_agree (suc m) (suc n) (o ∷ rest) h k =
    before_same (suc (length rest)) (piece_at o rest) (lexed_within m) (lexed_within n)
    (λ x e. let s = piece_shortens o rest x e in within_agree m n x.1 (omega (arith, s)) (omega (arith, s)))

abbrev pub then_lexed : ℕ → Piece → Lexed → Lexed
then_lexed left p l = record { pieces = (record { piece = p; left = left }) ∷ l.pieces; open_quote = l.open_quote }

pub lexed_step : (o : ℕ) (rest : List ℕ) (p : Piece) (after : List ℕ) → piece_at o rest ≡ Some (p, after) → lexed (o ∷ rest) ≡ then_lexed (suc (length rest)) p (lexed after)
unfolding lexed_within
lexed_step o rest p after e =
    let s : length after ≤ length rest = piece_shortens o rest (p, after) e in
    ap (λ (r : Option (Piece × List ℕ)). before (suc (length rest)) r (lexed_within (length rest))) e
    ∙ ap (then_lexed (suc (length rest)) p) (within_agree (length rest) (length after) after s (omega arith))

pub lexed_open : (o : ℕ) (rest : List ℕ) → piece_at o rest ≡ None → lexed (o ∷ rest) ≡ record { pieces = []; open_quote = Some (suc (length rest)) }
unfolding lexed_within
lexed_open o rest e = ap (λ (r : Option (Piece × List ℕ)). before (suc (length rest)) r (lexed_within (length rest))) e

-- ---- reading on

abbrev from_lexed : ℕ → ℕ → Lexed → Result Split ShapeFault
from_lexed depth outermost l = split l.open_quote l.pieces depth outermost

split_step : (depth outermost left : ℕ) (p : Piece) (l : Lexed) → from_lexed depth outermost (then_lexed left p l) ≡ at_piece p left depth outermost (begins_white l.pieces) (split l.open_quote l.pieces)
unfolding split
split_step depth outermost left p l = refl

pub from_step : (o : ℕ) (rest : List ℕ) (p : Piece) (after : List ℕ) (depth outermost : ℕ) → piece_at o rest ≡ Some (p, after)
    → from depth outermost (o ∷ rest) ≡ at_piece p (suc (length rest)) depth outermost (begins_white (lexed after).pieces) (λ d u. from d u after)
from_step o rest p after depth outermost e =
    ap (from_lexed depth outermost) (lexed_step o rest p after e) ∙ split_step depth outermost (suc (length rest)) p (lexed after)

pub from_open_quote : (o : ℕ) (rest : List ℕ) (depth outermost : ℕ) → piece_at o rest ≡ None → from depth outermost (o ∷ rest) ≡ Err (QuoteOpen (suc (length rest)))
unfolding split
from_open_quote o rest depth outermost e = ap (from_lexed depth outermost) (lexed_open o rest e)

pub from_end : (depth outermost : ℕ) → from depth outermost [] ≡ ended None depth outermost
unfolding lexed_within split
from_end depth outermost = refl

-- ---- white space at the beginning

abbrev white_of : Option (Piece × List ℕ) → Bool
white_of None = false
white_of (Some x) = is_white_piece x.0

white_before : (left : ℕ) (r : Option (Piece × List ℕ)) (f : List ℕ → Lexed) → begins_white (before left r f).pieces ≡ white_of r
white_before left None f = refl
white_before left (Some x) f = refl

white_quoted : (raw text : List ℕ) → white_of (quoted raw text) ≡ false
white_quoted raw [] = refl
white_quoted raw (q ∷ after) = refl

white_at : (o : ℕ) (rest : List ℕ) → white_of (piece_at o rest) ≡ is_white o
white_at o rest =
    let n = scan ends_item (eqb o 92) rest in
    let k = scan is_quote false rest in
    let P : Option (Piece × List ℕ) → Type 0 = λ r. white_of r ≡ is_white o in
    let known = λ (m : ℕ) (h : eqb o m ≡ true) (e : is_white m ≡ false). ap is_white (eqb-true o m h) ∙ e in
    cond_both (eqb o 10) (Some (LineEnd, rest)) _ P (λ h. sym (known 10 h refl)) (λ _.
    cond_both (is_white o) (Some (White o, rest)) _ P (λ h. sym h) (λ not_white.
    cond_both (eqb o 59) (Some (Comment (take (line_len rest) rest), drop (line_len rest) rest)) _ P (λ h. sym not_white) (λ _.
    cond_both (eqb o 40) (Some (Open, rest)) _ P (λ h. sym not_white) (λ _.
    cond_both (eqb o 41) (Some (Close, rest)) _ P (λ h. sym not_white) (λ _.
    cond_both (is_quote o) (quoted (take k rest) (drop k rest)) (Some (Plain (o ∷ take n rest), drop n rest)) P (λ h. white_quoted (take k rest) (drop k rest) ∙ sym not_white) (λ _. sym not_white))))))

pub white_begins : (text : List ℕ) → begins_white (lexed text).pieces ≡ white_first text
unfolding lexed_within
white_begins [] = refl
white_begins (o ∷ rest) = white_before (suc (length rest)) (piece_at o rest) (lexed_within (length rest)) ∙ white_at o rest

pub lexed_none : lexed [] ≡ record { pieces = []; open_quote = None }
unfolding lexed_within
lexed_none = refl
