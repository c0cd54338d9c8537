-- Which pieces a text is made of: each is spelled so, and goes on as far as it can (RFC 1035 section 5.1).
use Rattle.std.specs.Prelude.{◌≡◌, ℕ, List, [], ◌∷◌, ◌++◌, length, Bool, true, false, ◌==◌, Option, Some, None}
use Rattle.std.specs.List.{AllByRecursion}
use Rattle.dns_master.specs.Pieces.{Piece, LineEnd, White, Comment, Open, Close, Quoted, Plain, is_white, is_quote, ends_item}

-- octets none of which stops, but one that a backslash takes; taken says that the first is taken so
abbrev pub Runs : (ℕ → Bool) → Bool → List ℕ → Type 0
Runs stops taken [] = Unit {0}
Runs stops true (o ∷ rest) = Runs stops false rest
Runs stops false (o ∷ rest) = (stops o ≡ false) × Runs stops (o == 92) rest

-- whether the octet after these is taken by a backslash
abbrev pub taken_behind : Bool → List ℕ → Bool
taken_behind taken [] = taken
taken_behind true (o ∷ rest) = taken_behind false rest
taken_behind false (o ∷ rest) = taken_behind (o == 92) rest

-- the text ends here, or an octet that stops stands here
abbrev pub Ends : (ℕ → Bool) → Bool → List ℕ → Type 0
Ends stops taken [] = Unit {0}
Ends stops taken (o ∷ rest) = (taken ≡ false) × (stops o ≡ true)

-- the line ends here, or the text
abbrev pub EndsLine : List ℕ → Type 0
EndsLine [] = Unit {0}
EndsLine (o ∷ rest) = o ≡ 10

-- how a piece is spelled (RFC 1035 section 5.1)
abbrev pub spelled : Piece → List ℕ
spelled LineEnd = 10 ∷ []
spelled (White o) = o ∷ []
spelled (Comment text) = 59 ∷ text
spelled Open = 40 ∷ []
spelled Close = 41 ∷ []
spelled (Quoted raw) = 34 ∷ raw ++ 34 ∷ []
spelled (Plain raw) = raw

-- the text that pieces make
abbrev pub pieces_text : List Piece → List ℕ
pieces_text [] = []
pieces_text (p ∷ ps) = spelled p ++ pieces_text ps

-- A piece that may stand before this text: a comment goes to the line's end, an item in quotes to the next quote that no
-- backslash takes, and another item to an octet that ends it (RFC 1035 section 5.1).
abbrev pub Stands : Piece → List ℕ → Type 0
Stands LineEnd after = Unit {0}
Stands (White o) after = is_white o ≡ true
Stands (Comment text) after = AllByRecursion (λ o. (o == 10) ≡ false) text × EndsLine after
Stands Open after = Unit {0}
Stands Close after = Unit {0}
Stands (Quoted raw) after = Runs is_quote false raw × (taken_behind false raw ≡ false)
Stands (Plain []) after = ⊥
Stands (Plain (o ∷ raw)) after = Runs ends_item false (o ∷ raw) × Ends ends_item (taken_behind false (o ∷ raw)) after

-- what is left after all pieces: nothing, or a quote that stays open
abbrev pub Rests : Option ℕ → List ℕ → Type 0
Rests None text = text ≡ []
Rests (Some left) text = (body : List ℕ) × (text ≡ 34 ∷ body) × Runs is_quote false body × (left ≡ length text)

-- the pieces of a text, and how many octets are left where a quote stays open
abbrev pub ArePieces : List Piece → Option ℕ → List ℕ → Type 0
ArePieces [] open_quote text = Rests open_quote text
ArePieces (p ∷ ps) open_quote text = (after : List ℕ) × (text ≡ spelled p ++ after) × Stands p after × ArePieces ps open_quote after
