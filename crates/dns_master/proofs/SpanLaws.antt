-- Tokens stand in the text at their places, in order.
use Rattle.std.proofs.Common.{◌≡◌, ℕ, zero, suc, ◌+◌, ◌≤◌, Bool, cond, eqb, List, [], ◌∷◌, ◌++◌, length, None, refl, sym, ap, subst, ◌∙◌, arith, length-append}
use Rattle.std.specs.Prelude.{All}
use Rattle.std.specs.List.{AllByRecursion}
use Rattle.dns_master.specs.Pieces.{Piece, LineEnd, White, Comment, Open, Close, Quoted, Plain}
use Rattle.dns_master.specs.Grammar.{spelled, pieces_text, ArePieces}
use Rattle.dns_master.specs.Lines.{line_ends}
use Rattle.dns_master.specs.Tokens.{TokenText, item_tokens, filled_behind, entry_behind, tokens_behind, AreTokens}
use Rattle.dns_master.specs.Spans.{IsSlice, AreInOrder}
use Rattle.dns_master.proofs.PlaceLemmas.{pieces_text-more, text_more}

-- the text that pieces make is theirs
pieces_make : (ps : List Piece) (text : List ℕ) → ArePieces ps None text → text ≡ pieces_text ps
pieces_make [] text h = h
pieces_make (p ∷ ps) text h = h.1 ∙ ap (λ (t : List ℕ). spelled p ++ t) (pieces_make ps h.0 h.3)

line_ends-quote : (text : List ℕ) → line_ends (text ++ 34 ∷ []) ≡ line_ends text
line_ends-quote [] = refl
line_ends-quote (o ∷ rest) = ap (λ (n : ℕ). cond (eqb o 10) (suc n) n) (line_ends-quote rest)

-- ---- slices

one_slice : (text : List ℕ) (front : List Piece) (entry : ℕ) (p : Piece) (after : List ℕ) (ts : List TokenText) → text ≡ pieces_text front ++ (spelled p ++ after)
    → AllByRecursion (IsSlice text) ts → AllByRecursion (IsSlice text) (item_tokens front entry p ++ ts)
one_slice text front entry LineEnd after ts e h = h
one_slice text front entry (White o) after ts e h = h
one_slice text front entry (Comment t) after ts e h = h
one_slice text front entry Open after ts e h = h
one_slice text front entry Close after ts e h = h
one_slice text front entry (Quoted raw) after ts e h =
    ((pieces_text front, after, e, length-append (pieces_text front) (34 ∷ []), ap (λ (n : ℕ). suc n) (line_ends-quote (pieces_text front))), h)
one_slice text front entry (Plain raw) after ts e h = ((pieces_text front, after, e, omega arith, refl), h)

behind_slices : (text : List ℕ) (front ps : List Piece) (entry : ℕ) (filled : Bool) → text ≡ pieces_text front ++ pieces_text ps → AllByRecursion (IsSlice text) (tokens_behind front entry filled ps)
behind_slices text front [] entry filled e = tt
behind_slices text front (p ∷ ps) entry filled e =
    one_slice text front entry p (pieces_text ps) _ e
    (behind_slices text (front ++ p ∷ []) ps (entry_behind front entry filled p) (filled_behind front filled p) (text_more text front p (pieces_text ps) e))

each_listed : {X : Type 0} (P : X → Type 0) (xs : List X) → AllByRecursion P xs → All P xs
each_listed P [] h k d n = absurd (omega arith)
each_listed P (x ∷ xs) h zero d n = h.0
each_listed P (x ∷ xs) h (suc k) d n = each_listed P xs h.1 k d (omega arith)

pub tokens_slices : (text : List ℕ) (ts : List TokenText) → AreTokens text ts → All (IsSlice text) ts
tokens_slices text ts h = subst (All (IsSlice text)) (sym h.3) (each_listed (IsSlice text) _ (behind_slices text [] h.0 0 _ (pieces_make h.0 text h.1)))

-- ---- order

earlier : (m n : ℕ) (ts : List TokenText) → m ≤ n → AreInOrder n ts → AreInOrder m ts
earlier m n [] h k = tt
earlier m n (t ∷ ts) h k = let begins = k.0 in (omega arith, k.1)

length_more : (front : List Piece) (p : Piece) → length (pieces_text (front ++ p ∷ [])) ≡ length (pieces_text front) + length (spelled p)
length_more front p = ap length (pieces_text-more front p) ∙ length-append (pieces_text front) (spelled p)

one_in_order : (front : List Piece) (entry : ℕ) (p : Piece) (ts : List TokenText) → AreInOrder (length (pieces_text (front ++ p ∷ []))) ts → AreInOrder (length (pieces_text front)) (item_tokens front entry p ++ ts)
one_in_order front entry LineEnd ts h = earlier _ _ ts (omega (arith, length_more front LineEnd)) h
one_in_order front entry (White o) ts h = earlier _ _ ts (omega (arith, length_more front (White o))) h
one_in_order front entry (Comment t) ts h = earlier _ _ ts (omega (arith, length_more front (Comment t))) h
one_in_order front entry Open ts h = earlier _ _ ts (omega (arith, length_more front Open)) h
one_in_order front entry Close ts h = earlier _ _ ts (omega (arith, length_more front Close)) h
one_in_order front entry (Quoted raw) ts h =
    let opened = length-append (pieces_text front) (34 ∷ []) in
    (omega (arith, opened), earlier _ _ ts (omega (arith, opened, length_more front (Quoted raw), length-append raw (34 ∷ []))) h)
one_in_order front entry (Plain raw) ts h = (omega arith, earlier _ _ ts (omega (arith, length_more front (Plain raw))) h)

behind_in_order : (front ps : List Piece) (entry : ℕ) (filled : Bool) → AreInOrder (length (pieces_text front)) (tokens_behind front entry filled ps)
behind_in_order front [] entry filled = tt
behind_in_order front (p ∷ ps) entry filled =
    one_in_order front entry p _ (behind_in_order (front ++ p ∷ []) ps (entry_behind front entry filled p) (filled_behind front filled p))

pub tokens_in_order : (text : List ℕ) (ts : List TokenText) → AreTokens text ts → AreInOrder 0 ts
tokens_in_order text ts h = subst (AreInOrder 0) (sym h.3) (behind_in_order [] h.0 0 _)
