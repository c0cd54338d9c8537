-- Where the pieces that are read stand in the text.
use Rattle.std.proofs.Common.{◌≡◌, ℕ, zero, suc, ◌≤◌, List, [], ◌∷◌, ◌++◌, length, Option, Some, None, refl, sym, ap, ◌∙◌, arith, append_assoc}
use Rattle.std.proofs.lemmas.List.{append-nil}
use Rattle.dns_master.specs.Pieces.{Piece, Placed, Lexed, piece_at, before, lexed_within, lexed}
use Rattle.dns_master.specs.Grammar.{spelled, pieces_text}
use Rattle.dns_master.proofs.EntryLemmas.{piece_shortens}
use Rattle.dns_master.proofs.FoundLaws.{piece_found}

-- a piece stands in a text after these, where its place says
pub record IsPlaced (text : List ℕ) (front : List Piece) (p : Placed) : Type 0 where
  pub after : List ℕ
  pub parts : text ≡ pieces_text front ++ (spelled p.piece ++ after)
  pub left : p.left ≡ length (spelled p.piece ++ after)

abbrev pub ArePlaced : List ℕ → List Piece → List Placed → Type 0
ArePlaced text front [] = Unit {0}
ArePlaced text front (p ∷ ps) = IsPlaced text front p × ArePlaced text (front ++ p.piece ∷ []) ps

pub pieces_text-more : (front : List Piece) (p : Piece) → pieces_text (front ++ p ∷ []) ≡ pieces_text front ++ spelled p
pieces_text-more [] p = append-nil (spelled p)
pieces_text-more (q ∷ front) p = ap (λ (t : List ℕ). spelled q ++ t) (pieces_text-more front p) ∙ sym (append_assoc (spelled q) (pieces_text front) (spelled p))

-- the text after one more piece
pub text_more : (text : List ℕ) (front : List Piece) (p : Piece) (after : List ℕ) → text ≡ pieces_text front ++ (spelled p ++ after) → text ≡ pieces_text (front ++ p ∷ []) ++ after
text_more text front p after e =
    e ∙ sym (append_assoc (pieces_text front) (spelled p) after) ∙ ap (λ (t : List ℕ). t ++ after) (sym (pieces_text-more front p))

module _ (text : List ℕ) where
  placed_before : (front : List Piece) (rest : List ℕ) (left : ℕ) (r : Option (Piece × List ℕ)) (f : List ℕ → Lexed) → text ≡ pieces_text front ++ rest → left ≡ length rest
      → ((x : Piece × List ℕ) → r ≡ Some x → (rest ≡ spelled x.0 ++ x.1) × ArePlaced text (front ++ x.0 ∷ []) (f x.1).pieces) → ArePlaced text front (before left r f).pieces
  placed_before front rest left None f e n h = tt
  placed_before front rest left (Some x) f e n h =
      let s = h x refl in
      (record { after = x.1; parts = e ∙ ap (λ (t : List ℕ). pieces_text front ++ t) s.0; left = n ∙ ap length s.0 }, s.1)

  within_placed : (n : ℕ) (front : List Piece) (rest : List ℕ) → length rest ≤ n → text ≡ pieces_text front ++ rest → ArePlaced text front (lexed_within n rest).pieces
  unfolding lexed_within
  within_placed n front [] h e = tt
  within_placed zero front (o ∷ rest) h e = absurd (omega arith)
  within_placed (suc n) front (o ∷ rest) h e =
      placed_before front (o ∷ rest) (suc (length rest)) (piece_at o rest) (lexed_within n) e refl
      (λ x is. let s = piece_shortens o rest x is in let p = piece_found o rest x is in
      (p.parts, within_placed n (front ++ x.0 ∷ []) x.1 (omega (arith, s)) (text_more text front x.0 x.1 (e ∙ ap (λ (t : List ℕ). pieces_text front ++ t) p.parts))))

pub pieces_placed : (text : List ℕ) → ArePlaced text [] (lexed text).pieces
pieces_placed text = within_placed text (length text) [] text (omega arith) refl
