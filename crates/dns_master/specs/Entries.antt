-- The entries of a master file: the items between line ends outside parentheses and quotes (RFC 1035 section 5.1).
use Rattle.std.specs.Prelude.{ℕ, suc, ◌-◌, List, [], ◌∷◌, Bool, true, false, ◌==◌, if◌then◌else◌, Option, Some, None, Result, Ok, Err}
use Rattle.dns_data.specs.Items.{ItemText, plain, in_quotes}
use Rattle.dns_master.specs.declared.shape.ShapeFault.{ShapeFault}
use Rattle.dns_master.specs.declared.shape.ShapeFault.TheVariants.{ParenOpen, ParenClose, QuoteOpen}
use Rattle.dns_master.specs.Pieces.{Piece, LineEnd, White, Comment, Open, Close, Quoted, Plain, Placed, lexed, is_white}

-- the next step, unless there is a fault
infixl 10 ◌>>=◌
abbrev pub ◌>>=◌ : {A B : Type 0} → Result A ShapeFault → (A → Result B ShapeFault) → Result B ShapeFault
(Ok x) >>= f = f x
(Err e) >>= f = Err e

-- an item, and how many octets are left from the first of its own on, which is no quote around it
pub record Found : Type 0 where
  pub item : ItemText
  pub left : ℕ

-- an entry: whether it begins with white space, and its items (RFC 1035 section 5.1)
pub record Entry : Type 0 where
  pub white : Bool
  pub items : List Found

-- the items that are left of an entry, and the entries after it that are not blank
pub record Split : Type 0 where
  pub first : List Found
  pub others : List Entry

-- an entry before the others, unless it is blank (RFC 1035 section 5.1)
abbrev pub with_entry : Bool → List Found → List Entry → List Entry
with_entry white [] others = others
with_entry white (item ∷ items) others = (record { white = white; items = item ∷ items }) ∷ others

-- one more item before those that are left of an entry
abbrev pub add : Found → Split → Split
add item s = record { first = item ∷ s.first; others = s.others }

-- an entry's end, before an entry that begins with white space or not
abbrev pub end_of : Bool → Split → Split
end_of white s = record { first = []; others = with_entry white s.first s.others }

-- whether a piece is white space
abbrev pub is_white_piece : Piece → Bool
is_white_piece (White o) = true
is_white_piece piece = false

-- whether the first of these pieces is white space
abbrev pub begins_white : List Placed → Bool
begins_white [] = false
begins_white (p ∷ ps) = is_white_piece p.piece

-- the end of a text, where no parenthesis and no quote may be open (RFC 1035 section 5.1)
abbrev pub ended : Option ℕ → ℕ → ℕ → Result Split ShapeFault
ended (Some left) depth outermost = Err (QuoteOpen left)
ended None depth outermost = if depth == 0 then Ok (record { first = []; others = [] }) else Err (ParenOpen outermost)

-- What a piece does inside an entry, at this depth of parentheses: a line end ends the entry at depth 0, and is white space
-- inside parentheses (RFC 1035 section 5.1). Of the outermost parenthesis that is open it is said how many octets are left.
abbrev pub at_piece : Piece → ℕ → ℕ → ℕ → Bool → (ℕ → ℕ → Result Split ShapeFault) → Result Split ShapeFault
at_piece LineEnd left depth outermost white more = if depth == 0 then (more 0 outermost >>= λ s. Ok (end_of white s)) else more depth outermost
at_piece (White o) left depth outermost white more = more depth outermost
at_piece (Comment text) left depth outermost white more = more depth outermost
at_piece Open left depth outermost white more = more (suc depth) (if depth == 0 then left else outermost)
at_piece Close left depth outermost white more = if depth == 0 then Err (ParenClose left) else more (depth - 1) outermost
at_piece (Quoted raw) left depth outermost white more = more depth outermost >>= λ s. Ok (add (record { item = in_quotes raw; left = left - 1 }) s)
at_piece (Plain raw) left depth outermost white more = more depth outermost >>= λ s. Ok (add (record { item = plain raw; left = left }) s)

-- the pieces split at the line ends of depth 0 (RFC 1035 section 5.1)
unfoldable pub split : Option ℕ → List Placed → ℕ → ℕ → Result Split ShapeFault
split open_quote [] depth outermost = ended open_quote depth outermost
split open_quote (p ∷ ps) depth outermost = at_piece p.piece p.left depth outermost (begins_white ps) (split open_quote ps)

-- the rest of a text, read on at this depth
abbrev pub from : ℕ → ℕ → List ℕ → Result Split ShapeFault
from depth outermost text = split (lexed text).open_quote (lexed text).pieces depth outermost

-- whether a text begins with white space
abbrev pub white_first : List ℕ → Bool
white_first [] = false
white_first (o ∷ rest) = is_white o

-- the entries of a text that are not blank, or the first fault of its parentheses and quotes (RFC 1035 section 5.1)
abbrev pub entries : List ℕ → Result (List Entry) ShapeFault
entries text = from 0 0 text >>= λ s. Ok (with_entry (white_first text) s.first s.others)
