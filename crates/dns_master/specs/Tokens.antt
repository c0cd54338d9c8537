-- The tokens of a text: its items, each with its place, its line and the number of its entry (RFC 1035 section 5.1).
use Rattle.std.specs.Prelude.{◌≡◌, ℕ, suc, ◌-◌, List, [], ◌∷◌, ◌++◌, length, map, Bool, true, false, ◌&&◌, ◌==◌, if◌then◌else◌, None, Result, Ok}
use Rattle.dns_data.specs.Items.{ItemText, item_of, plain, in_quotes}
use Rattle.dns_master.specs.declared.master_fault.MasterFault.{MasterFault}
use Rattle.dns_master.specs.declared.shape.ShapeFault.{ShapeFault}
use Rattle.dns_master.specs.declared.token.Token.{Token}
use Rattle.dns_master.specs.Pieces.{Piece, LineEnd, Quoted, Plain}
use Rattle.dns_master.specs.Grammar.{pieces_text, ArePieces}
use Rattle.dns_master.specs.Lines.{line_ends, line_at}
use Rattle.dns_master.specs.Entries.{◌>>=◌, Found, Entry, entries}
use Rattle.dns_master.specs.Depth.{depth_behind, AreBalanced}
use Rattle.dns_master.specs.Faults.{on_lines}

-- an item, how many octets stand before the first of its own, the line there, and the number of its entry
pub record TokenText : Type 0 where
  pub item : ItemText
  pub start : ℕ
  pub line : ℕ
  pub entry : ℕ

-- a token of a call
abbrev pub token_of : Token → TokenText
token_of t = record { item = item_of t.item; start = t.start; line = t.line; entry = t.entry }

-- ---- by the pieces of the text

-- the token of an item whose own octets stand after this text
abbrev pub token_behind : List ℕ → ItemText → ℕ → TokenText
token_behind text item entry = record { item = item; start = length text; line = suc (line_ends text); entry = entry }

-- the token of a piece after these, if it is an item
abbrev pub item_tokens : List Piece → ℕ → Piece → List TokenText
item_tokens front entry (Quoted raw) = token_behind (pieces_text front ++ 34 ∷ []) (in_quotes raw) entry ∷ []
item_tokens front entry (Plain raw) = token_behind (pieces_text front) (plain raw) entry ∷ []
item_tokens front entry p = []

-- whether the entry that stands open after one more piece has items: none has where a line end of depth 0 ended the last
abbrev pub filled_behind : List Piece → Bool → Piece → Bool
filled_behind front filled LineEnd = if depth_behind front == 0 then false else filled
filled_behind front filled (Quoted raw) = true
filled_behind front filled (Plain raw) = true
filled_behind front filled p = filled

-- the number of that entry: only entries with items are counted
abbrev pub entry_behind : List Piece → ℕ → Bool → Piece → ℕ
entry_behind front entry filled LineEnd = if depth_behind front == 0 && filled then suc entry else entry
entry_behind front entry filled p = entry

-- the tokens of pieces after these, where the entry that stands open has this number, and has items or none
abbrev pub tokens_behind : List Piece → ℕ → Bool → List Piece → List TokenText
tokens_behind front entry filled [] = []
tokens_behind front entry filled (p ∷ ps) =
    item_tokens front entry p ++ tokens_behind (front ++ p ∷ []) (entry_behind front entry filled p) (filled_behind front filled p) ps

-- the tokens of a text of pieces in which no quote and no parenthesis stays open, and none is closed that is not open
abbrev pub AreTokens : List ℕ → List TokenText → Type 0
AreTokens text tokens = (ps : List Piece) × ArePieces ps None text × AreBalanced [] ps × (tokens ≡ tokens_behind [] 0 false ps)

-- ---- by its entries, or the first fault

-- the token of an item of which it is known how many octets are left
abbrev pub token_at : List ℕ → ℕ → Found → TokenText
token_at text entry f = record { item = f.item; start = length text - f.left; line = line_at text (length text - f.left); entry = entry }

-- the tokens of entries that are numbered from k on
abbrev pub tokens_from : List ℕ → ℕ → List Entry → List TokenText
tokens_from text k [] = []
tokens_from text k (e ∷ es) = map (token_at text k) e.items ++ tokens_from text (suc k) es

-- the tokens of a text, of which a fault says how many octets are left
abbrev pub placed_tokens : List ℕ → Result (List TokenText) ShapeFault
placed_tokens text = entries text >>= λ es. Ok (tokens_from text 0 es)

-- the tokens of a text, or the line of the first fault of its parentheses and quotes
abbrev pub tokens_of : List ℕ → Result (List TokenText) MasterFault
tokens_of text = on_lines text (placed_tokens text)
