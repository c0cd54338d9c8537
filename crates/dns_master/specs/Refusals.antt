-- Where the parentheses and quotes of a text are wrong (RFC 1035 section 5.1).
use Rattle.std.specs.Prelude.{◌≡◌, ℕ, suc, List, [], ◌∷◌, ◌++◌, Option, Some, None}
use Rattle.dns_master.specs.declared.master_fault.MasterFault.{MasterFault}
use Rattle.dns_master.specs.declared.master_fault.MasterFault.TheVariants.{ParenOpen, ParenClose, QuoteOpen, NoMemory}
use Rattle.dns_master.specs.Pieces.{Piece, Open, Close}
use Rattle.dns_master.specs.Grammar.{pieces_text, ArePieces}
use Rattle.dns_master.specs.Lines.{line_ends}
use Rattle.dns_master.specs.Depth.{depth_behind, AreOpened, StayOpen}

-- the line that goes on after pieces
abbrev pub line_behind : List Piece → ℕ
line_behind front = suc (line_ends (pieces_text front))

-- A parenthesis that closes where none is open, the first; else a quote that stays open; else the outermost parenthesis
-- that stays open, outside of which none is.
abbrev pub HasFault : List ℕ → MasterFault → Type 0
HasFault text (ParenClose line) =
    (front after : List Piece) × (open_quote : Option ℕ) × ArePieces (front ++ Close ∷ after) open_quote text × AreOpened [] front × (depth_behind front ≡ 0) × (line ≡ line_behind front)
HasFault text (QuoteOpen line) = (ps : List Piece) × (left : ℕ) × ArePieces ps (Some left) text × AreOpened [] ps × (line ≡ line_behind ps)
HasFault text (ParenOpen line) =
    (front after : List Piece) × ArePieces (front ++ Open ∷ after) None text × AreOpened [] (front ++ Open ∷ after) × (depth_behind front ≡ 0) × StayOpen (front ++ Open ∷ []) after × (line ≡ line_behind front)
HasFault text NoMemory = Unit {0}
HasFault text fault = ⊥
