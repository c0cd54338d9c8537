-- The depth at a piece, counted: the parentheses that open before it, less those that close (RFC 1035 section 5.1).
use Rattle.std.specs.Prelude.{◌≡◌, ℕ, ◌+◌, ◌-◌, ◌<◌, ◌≤◌, List, [], ◌∷◌, ◌++◌, Option, Result}
use Rattle.dns_master.specs.declared.shape.ShapeFault.{ShapeFault}
use Rattle.dns_master.specs.Pieces.{Piece, Open, Close, Placed}
use Rattle.dns_master.specs.Entries.{Split, ended, at_piece, begins_white}

-- how many parentheses a piece opens
abbrev pub opens : Piece → ℕ
opens Open = 1
opens p = 0

-- how many parentheses a piece closes
abbrev pub closes : Piece → ℕ
closes Close = 1
closes p = 0

-- a count over all pieces
abbrev pub sum_of : (Piece → ℕ) → List Piece → ℕ
sum_of count [] = 0
sum_of count (p ∷ ps) = count p + sum_of count ps

-- how many parentheses are open after pieces
abbrev pub depth_behind : List Piece → ℕ
depth_behind ps = sum_of opens ps - sum_of closes ps

-- after these pieces no parenthesis is closed that is not open, and none is open at the end (RFC 1035 section 5.1)
abbrev pub AreBalanced : List Piece → List Piece → Type 0
AreBalanced front [] = depth_behind front ≡ 0
AreBalanced front (p ∷ ps) = (closes p ≤ depth_behind front) × AreBalanced (front ++ p ∷ []) ps

-- after these pieces each parenthesis that closes has an open one
abbrev pub AreOpened : List Piece → List Piece → Type 0
AreOpened front [] = Unit {0}
AreOpened front (p ∷ ps) = (closes p ≤ depth_behind front) × AreOpened (front ++ p ∷ []) ps

-- after these pieces some parenthesis stays open
abbrev pub StayOpen : List Piece → List Piece → Type 0
StayOpen front [] = 0 < depth_behind front
StayOpen front (p ∷ ps) = (0 < depth_behind front) × StayOpen (front ++ p ∷ []) ps

-- the pieces after these, split at the line ends of depth 0 (RFC 1035 section 5.1)
abbrev pub split_behind : Option ℕ → List Piece → List Placed → ℕ → Result Split ShapeFault
split_behind open_quote front [] outermost = ended open_quote (depth_behind front) outermost
split_behind open_quote front (p ∷ ps) outermost = at_piece p.piece p.left (depth_behind front) outermost (begins_white ps) (λ _ u. split_behind open_quote (front ++ p.piece ∷ []) ps u)
