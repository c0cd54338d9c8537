-- The entries of a text of pieces: the items between two line ends outside parentheses and quotes (RFC 1035 section 5.1).
use Rattle.std.specs.Prelude.{◌≡◌, ℕ, List, [], ◌∷◌, ◌++◌, Bool, false, ◌==◌, if◌then◌else◌, None}
use Rattle.dns_data.specs.Items.{ItemText, plain, in_quotes}
use Rattle.dns_master.specs.Pieces.{Piece, LineEnd, Quoted, Plain}
use Rattle.dns_master.specs.Grammar.{ArePieces}
use Rattle.dns_master.specs.Entries.{is_white_piece}
use Rattle.dns_master.specs.Depth.{depth_behind, AreBalanced}

-- an entry: whether it begins with white space, and its items (RFC 1035 section 5.1)
pub record EntryText : Type 0 where
  pub white : Bool
  pub items : List ItemText

-- the item that a piece is, if it is one
abbrev pub piece_items : Piece → List ItemText
piece_items (Quoted raw) = in_quotes raw ∷ []
piece_items (Plain raw) = plain raw ∷ []
piece_items p = []

-- whether the first of these pieces is white space
abbrev pub first_white : List Piece → Bool
first_white [] = false
first_white (p ∷ ps) = is_white_piece p

-- an entry before the others, unless it has no item
abbrev pub with_entry_text : Bool → List ItemText → List EntryText → List EntryText
with_entry_text white [] others = others
with_entry_text white (item ∷ items) others = (record { white = white; items = item ∷ items }) ∷ others

-- the items up to the first line end outside parentheses, and the entries after it that are not blank
pub record CutEntries : Type 0 where
  pub first : List ItemText
  pub others : List EntryText

-- a line end outside parentheses ends an entry, and the next begins after it
abbrev pub cut_line : Bool → Bool → CutEntries → CutEntries
cut_line outside white cut = if outside then record { first = []; others = with_entry_text white cut.first cut.others } else cut

abbrev pub cut_piece : List Piece → Piece → Bool → CutEntries → CutEntries
cut_piece front LineEnd white cut = cut_line (depth_behind front == 0) white cut
cut_piece front p white cut = record { first = piece_items p ++ cut.first; others = cut.others }

-- pieces after these, cut at the line ends outside parentheses
abbrev pub cut_behind : List Piece → List Piece → CutEntries
cut_behind front [] = record { first = []; others = [] }
cut_behind front (p ∷ ps) = cut_piece front p (first_white ps) (cut_behind (front ++ p ∷ []) ps)

-- the entries of a text of pieces in which no quote and no parenthesis stays open, and none is closed that is not open
abbrev pub AreEntries : List ℕ → List EntryText → Type 0
AreEntries text es =
    (ps : List Piece) × ArePieces ps None text × AreBalanced [] ps × (es ≡ with_entry_text (first_white ps) (cut_behind [] ps).first (cut_behind [] ps).others)
