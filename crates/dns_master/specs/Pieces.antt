-- The pieces of which the text of a master file is made (RFC 1035 section 5.1).
use Rattle.std.specs.Prelude.{◌≡◌, ℕ, zero, suc, List, [], ◌∷◌, length, take, drop, Bool, true, false, ◌||◌, ◌==◌, if◌then◌else◌, Option, Some, None}

-- spaces and tabs stand between items, and so does a return, as at the end of a line in CRLF (RFC 1035 section 5.1)
abbrev pub is_white : ℕ → Bool
is_white o = o == 32 || o == 9 || o == 13

-- the quote at both ends of a character-string (RFC 1035 section 5.1)
abbrev pub is_quote : ℕ → Bool
is_quote o = o == 34

-- what ends an unquoted item: white space, a line end, `;`, `(`, `)` and `"` (RFC 1035 section 5.1)
abbrev pub ends_item : ℕ → Bool
ends_item o = o == 32 || o == 9 || o == 13 || o == 10 || o == 59 || o == 40 || o == 41 || o == 34

-- How many octets stand before the first that stops, where a backslash takes the special meaning from the next octet,
-- whatever it is (RFC 1035 section 5.1); taken says that the first octet is taken so.
abbrev pub scan : (ℕ → Bool) → Bool → List ℕ → ℕ
scan stops taken [] = 0
scan stops true (o ∷ rest) = suc (scan stops false rest)
scan stops false (o ∷ rest) = if stops o then 0 else suc (scan stops (o == 92) rest)

-- how many octets stand before the line's end, up to which a comment goes (RFC 1035 section 5.1)
abbrev pub line_len : List ℕ → ℕ
line_len [] = 0
line_len (o ∷ rest) = if o == 10 then 0 else suc (line_len rest)

-- an octet does not stand for itself in an unquoted item: it ends the item, or takes the next octet
abbrev pub is_special : ℕ → Bool
is_special o = ends_item o || o == 92

-- the text ends here, or such an octet stands here
abbrev pub Stopped : List ℕ → Type 0
Stopped [] = Unit {0}
Stopped (o ∷ rest) = is_special o ≡ true

-- a line end, an octet of white space, a comment without its `;`, a parenthesis, an item in quotes without them, or an
-- item that is not in quotes (RFC 1035 section 5.1)
pub data Piece : Type 0 where
  LineEnd : Piece
  White : ℕ → Piece
  Comment : List ℕ → Piece
  Open : Piece
  Close : Piece
  Quoted : List ℕ → Piece
  Plain : List ℕ → Piece

-- an item in quotes, whose closing quote stands first in the text after it
abbrev pub quoted : List ℕ → List ℕ → Option (Piece × List ℕ)
quoted raw [] = None
quoted raw (quote ∷ after) = Some (Quoted raw, after)

-- the first piece of a text that begins with this octet, and the text after it; none where a quote stays open
abbrev pub piece_at : ℕ → List ℕ → Option (Piece × List ℕ)
piece_at o rest =
    if o == 10 then Some (LineEnd, rest)
    else (if is_white o then Some (White o, rest)
    else (if o == 59 then Some (Comment (take (line_len rest) rest), drop (line_len rest) rest)
    else (if o == 40 then Some (Open, rest)
    else (if o == 41 then Some (Close, rest)
    else (if is_quote o then quoted (take (scan is_quote false rest) rest) (drop (scan is_quote false rest) rest)
    else Some (Plain (o ∷ take (scan ends_item (o == 92) rest) rest), drop (scan ends_item (o == 92) rest) rest))))))

-- a piece, and how many octets are left from its first on
pub record Placed : Type 0 where
  pub piece : Piece
  pub left : ℕ

-- the pieces of a text, and how many octets are left where a quote stays open
pub record Lexed : Type 0 where
  pub pieces : List Placed
  pub open_quote : Option ℕ

-- a piece before the others
abbrev pub before : ℕ → Option (Piece × List ℕ) → (List ℕ → Lexed) → Lexed
before left None others = record { pieces = []; open_quote = Some left }
before left (Some first) others =
    record { pieces = (record { piece = first.0; left = left }) ∷ (others first.1).pieces; open_quote = (others first.1).open_quote }

-- the pieces of a text of at most so many octets
unfoldable pub lexed_within : ℕ → List ℕ → Lexed
lexed_within n [] = record { pieces = []; open_quote = None }
lexed_within zero (o ∷ rest) = record { pieces = []; open_quote = None }
lexed_within (suc n) (o ∷ rest) = before (suc (length rest)) (piece_at o rest) (lexed_within n)

-- the pieces of a text
abbrev pub lexed : List ℕ → Lexed
lexed text = lexed_within (length text) text
