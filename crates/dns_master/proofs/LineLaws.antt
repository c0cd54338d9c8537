-- Lines of clean items: what they are split into.
use Rattle.std.proofs.Common.{◌≡◌, ℕ, ◌-◌, ◌<◌, Bool, true, false, cond, List, [], ◌∷◌, ◌++◌, length, map, Option, None, Result, Ok, refl, sym, ap, subst, ◌∙◌, arith, append_assoc}
use Rattle.std.specs.List.{AllByRecursion, flat_map}
use Rattle.dns_data.specs.Items.{ItemText, plain, in_quotes, item_text, items_text}
use Rattle.dns_master.specs.declared.shape.ShapeFault.{ShapeFault}
use Rattle.dns_master.specs.Pieces.{Piece, LineEnd, White, Quoted, Plain, Placed, is_quote, ends_item, lexed}
use Rattle.dns_master.specs.Grammar.{ArePieces}
use Rattle.dns_master.specs.Entries.{◌>>=◌, Found, Entry, Split, with_entry, add, end_of, is_white_piece, begins_white, at_piece, split, white_first, entries}
use Rattle.dns_master.specs.Reader.{text_of}
use Rattle.dns_master.proofs.EntryLemmas.{white_begins, from_end}
use Rattle.dns_master.proofs.GrammarLaws.{pieces_once}
use Rattle.dns_master.proofs.CleanLaws.{runs_are, CleanAt, Clean}

-- ---- the pieces of lines

abbrev pub piece_with : Bool → List ℕ → Piece
piece_with true raw = Quoted raw
piece_with false raw = Plain raw

abbrev pub item_piece : ItemText → Piece
item_piece item = piece_with item.quoted item.raw

-- items with a space before each, and a line end
abbrev behind_first : List ItemText → List Piece → List Piece
behind_first [] ps = LineEnd ∷ ps
behind_first (item ∷ items) ps = White 32 ∷ item_piece item ∷ behind_first items ps

abbrev line_pieces : List ItemText → List Piece → List Piece
line_pieces [] ps = LineEnd ∷ ps
line_pieces (item ∷ items) ps = item_piece item ∷ behind_first items ps

abbrev lines_pieces : List (List ItemText) → List Piece
lines_pieces [] = []
lines_pieces (line ∷ lines) = line_pieces line (lines_pieces lines)

-- a line with its end
abbrev pub line_text : List ItemText → List ℕ
line_text items = items_text items ++ 10 ∷ []

-- a clean item before a space or a line end
item_at : (quoted : Bool) (raw : List ℕ) (c : ℕ) (after : List ℕ) (ps : List Piece) → ends_item c ≡ true → CleanAt quoted raw → ArePieces ps None (c ∷ after) → ArePieces (piece_with quoted raw ∷ ps) None (cond quoted (34 ∷ raw ++ 34 ∷ []) raw ++ c ∷ after)
item_at true raw c after ps e h more = (c ∷ after, refl, runs_are is_quote false raw h, more)
item_at false [] c after ps e h more = absurd h
item_at false (o ∷ raw) c after ps e h more =
    let r = runs_are ends_item false (o ∷ raw) h in
    (c ∷ after, refl, (r.0, (r.1, e)), more)

-- items after the first
abbrev behind_text : List ItemText → List ℕ → List ℕ
behind_text [] rest = 10 ∷ rest
behind_text (item ∷ items) rest = 32 ∷ (item_text item ++ behind_text items rest)

behind_are : (items : List ItemText) (ps : List Piece) (rest : List ℕ) → AllByRecursion Clean items → ArePieces ps None rest → ArePieces (behind_first items ps) None (behind_text items rest)
behind_are [] ps rest h more = (rest, refl, tt, more)
behind_are (item ∷ []) ps rest h more =
    (item_text item ++ 10 ∷ rest, refl, refl, item_at item.quoted item.raw 10 rest (LineEnd ∷ ps) refl h.0 (rest, refl, tt, more))
behind_are (item ∷ next ∷ items) ps rest h more = (
  item_text item ++ 32 ∷ (item_text next ++ behind_text items rest),
  refl,
  refl,
  item_at item.quoted item.raw 32 (item_text next ++ behind_text items rest) (behind_first (next ∷ items) ps) refl h.0 (behind_are (next ∷ items) ps rest h.1 more),
)

text_behind : (item : ItemText) (items : List ItemText) (rest : List ℕ) → items_text (item ∷ items) ++ 10 ∷ rest ≡ item_text item ++ behind_text items rest
text_behind item [] rest = refl
text_behind item (next ∷ items) rest =
    append_assoc (item_text item) (32 ∷ items_text (next ∷ items)) (10 ∷ rest) ∙ ap (λ (t : List ℕ). item_text item ++ 32 ∷ t) (text_behind next items rest)

first_are : (item : ItemText) (items : List ItemText) (ps : List Piece) (rest : List ℕ) → AllByRecursion Clean (item ∷ items) → ArePieces ps None rest → ArePieces (line_pieces (item ∷ items) ps) None (item_text item ++ behind_text items rest)
first_are item [] ps rest h more = item_at item.quoted item.raw 10 rest (LineEnd ∷ ps) refl h.0 (rest, refl, tt, more)
first_are item (next ∷ items) ps rest h more =
    item_at item.quoted item.raw 32 (item_text next ++ behind_text items rest) (behind_first (next ∷ items) ps) refl h.0 (behind_are (next ∷ items) ps rest h.1 more)

-- a line that has an item, and clean ones alone
pub record CleanLine (line : List ItemText) : Type 0 where
  pub some : 0 < length line
  pub clean : AllByRecursion Clean line

line_are : (line : List ItemText) (ps : List Piece) (rest : List ℕ) → CleanLine line → ArePieces ps None rest → ArePieces (line_pieces line ps) None (line_text line ++ rest)
line_are [] ps rest h more = absurd (let some = h.some in omega arith)
line_are (item ∷ items) ps rest h more =
    subst (ArePieces (line_pieces (item ∷ items) ps) None) (sym (append_assoc (items_text (item ∷ items)) (10 ∷ []) rest ∙ text_behind item items rest)) (first_are item items ps rest h.clean more)

lines_are : (lines : List (List ItemText)) → AllByRecursion CleanLine lines → ArePieces (lines_pieces lines) None (flat_map line_text lines)
lines_are [] h = refl
lines_are (line ∷ lines) h = line_are line (lines_pieces lines) (flat_map line_text lines) h.0 (lines_are lines h.1)

-- ---- their entries

-- entries that have these items each, and begin with no white space
abbrev pub AreLines : List Entry → List (List ItemText) → Type 0
AreLines [] [] = Unit {0}
AreLines (e ∷ es) (line ∷ lines) = (e.white ≡ false) × (map text_of e.items ≡ line) × AreLines es lines
AreLines es lines = ⊥

-- the open entry has these items, and the others those
pub record SplitLines (items : List ItemText) (lines : List (List ItemText)) (r : Result Split ShapeFault) : Type 0 where
  pub found : Split
  pub read : r ≡ Ok found
  pub first : map text_of found.first ≡ items
  pub others : AreLines found.others lines

pub no_white : (quoted : Bool) (raw : List ℕ) → is_white_piece (piece_with quoted raw) ≡ false
no_white true raw = refl
no_white false raw = refl

starts : (ps : List Placed) (line : List ItemText) (more : List Piece) → 0 < length line → map (λ p. p.piece) ps ≡ line_pieces line more → begins_white ps ≡ false
starts ps [] more some e = absurd (omega arith)
starts [] (item ∷ items) more some e = absurd cc
starts (p ∷ ps) (item ∷ items) more some e =
    let same : p.piece ≡ item_piece item = cc in
    ap is_white_piece same ∙ no_white item.quoted item.raw

pub one_entry : (white : Bool) (founds : List Found) (es : List Entry) (line : List ItemText) (lines : List (List ItemText)) → white ≡ false → 0 < length line → map text_of founds ≡ line → AreLines es lines → AreLines (with_entry white founds es) (line ∷ lines)
one_entry white [] es line lines w some e h = absurd (let none = ap length e in omega arith)
one_entry white (f ∷ fs) es line lines w some e h = (w, e, h)

pub item_split : (quoted : Bool) (raw : List ℕ) (left d u : ℕ) (white : Bool) (more : ℕ → ℕ → Result Split ShapeFault) (items : List ItemText) (lines : List (List ItemText)) → SplitLines items lines (more d u)
    → SplitLines ((record { raw = raw; quoted = quoted }) ∷ items) lines (at_piece (piece_with quoted raw) left d u white more)
item_split true raw left d u white more items lines h = record {
  found = _;
  read = ap (λ (r : Result Split ShapeFault). r >>= λ s. Ok (add (record { item = in_quotes raw; left = left - 1 }) s)) h.read;
  first = ap (λ (l : List ItemText). in_quotes raw ∷ l) h.first;
  others = h.others;
}
item_split false raw left d u white more items lines h = record {
  found = _;
  read = ap (λ (r : Result Split ShapeFault). r >>= λ s. Ok (add (record { item = plain raw; left = left }) s)) h.read;
  first = ap (λ (l : List ItemText). plain raw ∷ l) h.first;
  others = h.others;
}

-- a piece that is this one
pub as_piece : (p q : Piece) (left u : ℕ) (white : Bool) (more : ℕ → ℕ → Result Split ShapeFault) (items : List ItemText) (lines : List (List ItemText)) → p ≡ q → SplitLines items lines (at_piece q left 0 u white more) → SplitLines items lines (at_piece p left 0 u white more)
as_piece p q left u white more items lines e h = subst (λ (x : Piece). SplitLines items lines (at_piece x left 0 u white more)) (sym e) h

-- a line end before a line
pub line_ends : (left u : ℕ) (white : Bool) (more : ℕ → ℕ → Result Split ShapeFault) (line : List ItemText) (lines : List (List ItemText)) → white ≡ false → 0 < length line → SplitLines line lines (more 0 u)
    → SplitLines [] (line ∷ lines) (at_piece LineEnd left 0 u white more)
line_ends left u white more line lines w some h = record {
  found = end_of white h.found;
  read = ap (λ (r : Result Split ShapeFault). r >>= λ s. Ok (end_of white s)) h.read;
  first = refl;
  others = one_entry white h.found.first h.found.others line lines w some h.first h.others;
}

-- items that follow, up to the line's end, and the lines after it
behind_split : (ps : List Placed) (u : ℕ) (items : List ItemText) (lines : List (List ItemText)) → AllByRecursion CleanLine lines → map (λ p. p.piece) ps ≡ behind_first items (lines_pieces lines) → SplitLines items lines (split None ps 0 u)
unfolding split
behind_split [] u [] lines h e = absurd cc
behind_split [] u (item ∷ items) lines h e = absurd cc
behind_split (p ∷ []) u [] [] h e =
    as_piece p.piece LineEnd p.left u false (split None []) [] [] (let same : p.piece ≡ LineEnd = cc in same) (record { found = record { first = []; others = [] }; read = refl; first = refl; others = tt })
behind_split (p ∷ q ∷ ps) u [] [] h e = absurd cc
behind_split (p ∷ []) u [] ([] ∷ lines) h e = absurd cc
behind_split (p ∷ []) u [] ((item ∷ items) ∷ lines) h e = absurd cc
behind_split (p ∷ q ∷ ps) u [] ([] ∷ lines) h e = absurd (let some = h.0.some in omega arith)
behind_split (p ∷ q ∷ ps) u [] ((item ∷ items) ∷ lines) h e =
    let end : p.piece ≡ LineEnd = cc in
    let rest : map (λ p. p.piece) (q ∷ ps) ≡ line_pieces (item ∷ items) (lines_pieces lines) = cc in
    let first : q.piece ≡ item_piece item = cc in
    let others : map (λ p. p.piece) ps ≡ behind_first items (lines_pieces lines) = cc in
    let line = as_piece q.piece (item_piece item) q.left u (begins_white ps) (split None ps) (item ∷ items) lines first (item_split item.quoted item.raw q.left 0 u (begins_white ps) (split None ps) items lines (behind_split ps u items lines h.1 others)) in
    let white = starts (q ∷ ps) (item ∷ items) (lines_pieces lines) h.0.some rest in
    as_piece p.piece LineEnd p.left u (begins_white (q ∷ ps)) (split None (q ∷ ps)) [] ((item ∷ items) ∷ lines) end
    (line_ends p.left u (begins_white (q ∷ ps)) (split None (q ∷ ps)) (item ∷ items) lines white h.0.some line)
behind_split (p ∷ []) u (item ∷ items) lines h e = absurd cc
behind_split (p ∷ q ∷ ps) u (item ∷ items) lines h e =
    let space : p.piece ≡ White 32 = cc in
    let first : q.piece ≡ item_piece item = cc in
    let others : map (λ p. p.piece) ps ≡ behind_first items (lines_pieces lines) = cc in
    as_piece p.piece (White 32) p.left u (begins_white (q ∷ ps)) (split None (q ∷ ps)) (item ∷ items) lines space
    (as_piece q.piece (item_piece item) q.left u (begins_white ps) (split None ps) (item ∷ items) lines first (item_split item.quoted item.raw q.left 0 u (begins_white ps) (split None ps) items lines (behind_split ps u items lines h others)))

line_split : (ps : List Placed) (line : List ItemText) (lines : List (List ItemText)) → CleanLine line → AllByRecursion CleanLine lines → map (λ p. p.piece) ps ≡ line_pieces line (lines_pieces lines) → SplitLines line lines (split None ps 0 0)
unfolding split
line_split ps [] lines some h e = absurd (let none = some.some in omega arith)
line_split [] (item ∷ items) lines some h e = absurd cc
line_split (p ∷ ps) (item ∷ items) lines some h e =
    let first : p.piece ≡ item_piece item = cc in
    let others : map (λ p. p.piece) ps ≡ behind_first items (lines_pieces lines) = cc in
    as_piece p.piece (item_piece item) p.left 0 (begins_white ps) (split None ps) (item ∷ items) lines first (item_split item.quoted item.raw p.left 0 0 (begins_white ps) (split None ps) items lines (behind_split ps 0 items lines h others))

-- the entries of clean lines are these
pub lines_read : (line : List ItemText) (lines : List (List ItemText)) → CleanLine line → AllByRecursion CleanLine lines → (es : List Entry) × (entries (flat_map line_text (line ∷ lines)) ≡ Ok es) × AreLines es (line ∷ lines)
lines_read line lines some h =
    let text = flat_map line_text (line ∷ lines) in
    let l = lexed text in
    let same = pieces_once (lines_pieces (line ∷ lines)) None text (lines_are (line ∷ lines) (some, h)) in
    let s = line_split l.pieces line lines some h same.pieces in
    let read : split l.open_quote l.pieces 0 0 ≡ Ok s.found = ap (λ (q : Option ℕ). split q l.pieces 0 0) same.at_end ∙ s.read in
    let white : white_first text ≡ false = sym (white_begins text) ∙ starts l.pieces line (lines_pieces lines) some.some same.pieces in (
      with_entry (white_first text) s.found.first s.found.others,
      ap (λ (r : Result Split ShapeFault). r >>= λ x. Ok (with_entry (white_first text) x.first x.others)) read,
      one_entry (white_first text) s.found.first s.found.others line lines white some.some s.first s.others,
    )

-- also of no lines
pub all_lines_read : (lines : List (List ItemText)) → AllByRecursion CleanLine lines → (es : List Entry) × (entries (flat_map line_text lines) ≡ Ok es) × AreLines es lines
all_lines_read [] h = ([], ap (λ (r : Result Split ShapeFault). r >>= λ s. Ok (with_entry false s.first s.others)) (from_end 0 0), tt)
all_lines_read (line ∷ lines) h = lines_read line lines h.0 h.1
