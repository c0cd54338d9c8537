-- Lines of clean items, some of which stand directly after the one before: what they are split into.
use Rattle.std.proofs.Common.{◌≡◌, ℕ, zero, suc, ◌<◌, ◌≤◌, Bool, true, false, cond, List, [], ◌∷◌, ◌++◌, length, map, Option, None, Result, Ok, refl, sym, ap, subst, ◌∙◌, arith, append_assoc}
use Rattle.std.proofs.lemmas.Bool.{and_parts}
use Rattle.std.specs.List.{AllByRecursion, flat_map}
use Rattle.dns_data.specs.Items.{ItemText, item_text, items_text}
use Rattle.dns_master.specs.declared.shape.ShapeFault.{ShapeFault}
use Rattle.dns_master.specs.Pieces.{Piece, LineEnd, White, Placed, is_quote, ends_item, lexed}
use Rattle.dns_master.specs.Grammar.{taken_behind, Ends, ArePieces}
use Rattle.dns_master.specs.Entries.{◌>>=◌, Entry, Split, with_entry, is_white_piece, begins_white, split, white_first, entries}
use Rattle.dns_master.specs.Joined.{Flagged, Line, apart, item_in, line_items, gap, flagged_text, joined_line, is_key, flagged}
use Rattle.dns_master.proofs.EntryLemmas.{white_begins}
use Rattle.dns_master.proofs.GrammarLaws.{pieces_once}
use Rattle.dns_master.proofs.CleanLaws.{runs_are, CleanAt, Clean}
use Rattle.dns_master.proofs.LineLaws.{piece_with, item_piece, AreLines, SplitLines, no_white, one_entry, item_split, as_piece, line_ends}

-- ---- the pieces of lines

abbrev gap_pieces : Bool → List Piece → List Piece
gap_pieces true ps = ps
gap_pieces false ps = White 32 ∷ ps

abbrev behind_pieces : List Flagged → List Piece → List Piece
behind_pieces [] ps = LineEnd ∷ ps
behind_pieces (f ∷ fs) ps = gap_pieces f.joined (item_piece f.item ∷ behind_pieces fs ps)

abbrev line_pieces : Line → List Piece → List Piece
line_pieces line ps = item_piece line.first ∷ behind_pieces line.others ps

abbrev lines_pieces : List Line → List Piece
lines_pieces [] = []
lines_pieces (line ∷ lines) = line_pieces line (lines_pieces lines)

-- a clean item, which is in quotes where it stands directly after another
pub record IsGood (f : Flagged) : Type 0 where
  pub clean : Clean f.item
  pub quoted : f.joined ≡ true → f.item.quoted ≡ true

pub record IsGoodLine (line : Line) : Type 0 where
  pub first : Clean line.first
  pub others : AllByRecursion IsGood line.others

-- a text whose first octet ends an item
abbrev Ender : List ℕ → Type 0
Ender text = (c : ℕ) × (after : List ℕ) × (text ≡ c ∷ after) × (ends_item c ≡ true)

ends_here : (raw text : List ℕ) → taken_behind false raw ≡ false → Ender text → Ends ends_item (taken_behind false raw) text
ends_here raw text e s = subst (Ends ends_item (taken_behind false raw)) (sym s.2) (e, s.3)

item_before : (quoted : Bool) (raw text : List ℕ) (ps : List Piece) → Ender text → CleanAt quoted raw → ArePieces ps None text → ArePieces (piece_with quoted raw ∷ ps) None (cond quoted (34 ∷ raw ++ 34 ∷ []) raw ++ text)
item_before true raw text ps s h more = (text, refl, runs_are is_quote false raw h, more)
item_before false [] text ps s h more = absurd h
item_before false (o ∷ raw) text ps s h more = let r = runs_are ends_item false (o ∷ raw) h in (text, refl, (r.0, ends_here (o ∷ raw) text r.1 s), more)

-- items after the first, before another text
abbrev behind_text : List Flagged → List ℕ → List ℕ
behind_text [] rest = 10 ∷ rest
behind_text (f ∷ fs) rest = gap f.joined (item_text f.item ++ behind_text fs rest)

gap_ender : (joined : Bool) (item : ItemText) (text : List ℕ) → (joined ≡ true → item.quoted ≡ true) → Ender (gap joined (item_text item ++ text))
gap_ender false item text q = (32, item_text item ++ text, refl, refl)
gap_ender true item text q = (34, (item.raw ++ 34 ∷ []) ++ text, ap (λ (b : Bool). cond b (34 ∷ item.raw ++ 34 ∷ []) item.raw ++ text) (q refl), refl)

behind_ender : (fs : List Flagged) (rest : List ℕ) → AllByRecursion IsGood fs → Ender (behind_text fs rest)
behind_ender [] rest h = (10, rest, refl, refl)
behind_ender (f ∷ fs) rest h = gap_ender f.joined f.item (behind_text fs rest) h.0.quoted

gap_are : (joined : Bool) (ps : List Piece) (text : List ℕ) → ArePieces ps None text → ArePieces (gap_pieces joined ps) None (gap joined text)
gap_are true ps text m = m
gap_are false ps text m = (text, refl, refl, m)

behind_are : (fs : List Flagged) (ps : List Piece) (rest : List ℕ) → AllByRecursion IsGood fs → ArePieces ps None rest → ArePieces (behind_pieces fs ps) None (behind_text fs rest)
behind_are [] ps rest h more = (rest, refl, tt, more)
behind_are (f ∷ fs) ps rest h more =
    gap_are f.joined (item_piece f.item ∷ behind_pieces fs ps) (item_text f.item ++ behind_text fs rest)
    (item_before f.item.quoted f.item.raw (behind_text fs rest) (behind_pieces fs ps) (behind_ender fs rest h.1) h.0.clean (behind_are fs ps rest h.1 more))

pub gap_both : (joined : Bool) (a b : List ℕ) → gap joined a ++ b ≡ gap joined (a ++ b)
gap_both true a b = refl
gap_both false a b = refl

text_behind : (fs : List Flagged) (rest : List ℕ) → flagged_text fs ++ rest ≡ behind_text fs rest
text_behind [] rest = refl
text_behind (f ∷ fs) rest =
    gap_both f.joined (item_text f.item ++ flagged_text fs) rest
    ∙ ap (gap f.joined) (append_assoc (item_text f.item) (flagged_text fs) rest ∙ ap (λ (t : List ℕ). item_text f.item ++ t) (text_behind fs rest))

line_are : (line : Line) (ps : List Piece) (rest : List ℕ) → IsGoodLine line → ArePieces ps None rest → ArePieces (line_pieces line ps) None (joined_line line ++ rest)
line_are line ps rest h more =
    subst (ArePieces (line_pieces line ps) None) (sym (append_assoc (item_text line.first) (flagged_text line.others) rest ∙ ap (λ (t : List ℕ). item_text line.first ++ t) (text_behind line.others rest)))
    (item_before line.first.quoted line.first.raw (behind_text line.others rest) (behind_pieces line.others ps) (behind_ender line.others rest h.others) h.first (behind_are line.others ps rest h.others more))

lines_are : (lines : List Line) → AllByRecursion IsGoodLine lines → ArePieces (lines_pieces lines) None (flat_map joined_line lines)
lines_are [] h = refl
lines_are (line ∷ lines) h = line_are line (lines_pieces lines) (flat_map joined_line lines) h.0 (lines_are lines h.1)

-- ---- their entries

no_gap : (joined : Bool) (p : Piece) (ps : List Piece) → [] ≡ gap_pieces joined (p ∷ ps) → ⊥
no_gap true p ps e = absurd cc
no_gap false p ps e = absurd cc

no_pieces : (fs : List Flagged) (ps : List Piece) → [] ≡ behind_pieces fs ps → ⊥
no_pieces [] ps e = absurd cc
no_pieces (f ∷ fs) ps e = no_gap f.joined (item_piece f.item) (behind_pieces fs ps) e

abbrev pub items_of : List Line → List (List ItemText)
items_of lines = map line_items lines

abbrev SplitsTo : List Placed → ℕ → List Flagged → List Line → Type 0
SplitsTo ps u fs lines = SplitLines (map item_in fs) (items_of lines) (split None ps 0 u)

-- an item that follows
gap_split : (joined : Bool) (n : ℕ) (p : Placed) (ps : List Placed) (u : ℕ) (item : ItemText) (fs : List Flagged) (lines : List Line) → length ps ≤ n → p.piece ∷ map (λ q. q.piece) ps ≡ gap_pieces joined (item_piece item ∷ behind_pieces fs (lines_pieces lines))
    → ((qs : List Placed) → length qs ≤ n → map (λ q. q.piece) qs ≡ behind_pieces fs (lines_pieces lines) → SplitsTo qs u fs lines) → SplitLines (item ∷ map item_in fs) (items_of lines) (split None (p ∷ ps) 0 u)
unfolding split
gap_split true n p ps u item fs lines l e more =
    let first : p.piece ≡ item_piece item = cc in
    let others : map (λ q. q.piece) ps ≡ behind_pieces fs (lines_pieces lines) = cc in
    as_piece p.piece (item_piece item) p.left u (begins_white ps) (split None ps) (item ∷ map item_in fs) (items_of lines) first
    (item_split item.quoted item.raw p.left 0 u (begins_white ps) (split None ps) (map item_in fs) (items_of lines) (more ps l others))
gap_split false n p [] u item fs lines l e more = absurd cc
gap_split false n p (q ∷ ps) u item fs lines l e more =
    let space : p.piece ≡ White 32 = cc in
    let first : q.piece ≡ item_piece item = cc in
    let others : map (λ x. x.piece) ps ≡ behind_pieces fs (lines_pieces lines) = cc in
    as_piece p.piece (White 32) p.left u (begins_white (q ∷ ps)) (split None (q ∷ ps)) (item ∷ map item_in fs) (items_of lines) space
    (as_piece q.piece (item_piece item) q.left u (begins_white ps) (split None ps) (item ∷ map item_in fs) (items_of lines) first
    (item_split item.quoted item.raw q.left 0 u (begins_white ps) (split None ps) (map item_in fs) (items_of lines) (more ps (omega arith) others)))

-- items that follow, up to the line's end, and the lines after it
behind_split : (n : ℕ) (ps : List Placed) (u : ℕ) (fs : List Flagged) (lines : List Line) → length ps ≤ n → map (λ q. q.piece) ps ≡ behind_pieces fs (lines_pieces lines) → SplitsTo ps u fs lines
unfolding split
behind_split n [] u fs lines l e = absurd (no_pieces fs (lines_pieces lines) e)
behind_split zero (p ∷ ps) u fs lines l e = absurd (omega arith)
behind_split (suc n) (p ∷ []) u [] [] l e =
    as_piece p.piece LineEnd p.left u false (split None []) [] [] (let same : p.piece ≡ LineEnd = cc in same) (record { found = record { first = []; others = [] }; read = refl; first = refl; others = tt })
behind_split (suc n) (p ∷ q ∷ ps) u [] [] l e = absurd cc
behind_split (suc n) (p ∷ []) u [] (line ∷ lines) l e = absurd cc
behind_split (suc n) (p ∷ q ∷ ps) u [] (line ∷ lines) l e =
    let end : p.piece ≡ LineEnd = cc in
    let first : q.piece ≡ item_piece line.first = cc in
    let others : map (λ x. x.piece) ps ≡ behind_pieces line.others (lines_pieces lines) = cc in
    let got = as_piece q.piece (item_piece line.first) q.left u (begins_white ps) (split None ps) (line_items line) (items_of lines) first
    (item_split line.first.quoted line.first.raw q.left 0 u (begins_white ps) (split None ps) (map item_in line.others) (items_of lines) (behind_split n ps u line.others lines (omega arith) others)) in
    let white : begins_white (q ∷ ps) ≡ false = ap is_white_piece first ∙ no_white line.first.quoted line.first.raw in
    let some : 0 < length (line_items line) = omega arith in
    as_piece p.piece LineEnd p.left u (begins_white (q ∷ ps)) (split None (q ∷ ps)) [] (items_of (line ∷ lines)) end
    (line_ends p.left u (begins_white (q ∷ ps)) (split None (q ∷ ps)) (line_items line) (items_of lines) white some got)
behind_split (suc n) (p ∷ ps) u (f ∷ fs) lines l e =
    gap_split f.joined n p ps u f.item fs lines (omega arith) e (λ qs m k. behind_split n qs u fs lines m k)

line_split : (ps : List Placed) (line : Line) (lines : List Line) → map (λ q. q.piece) ps ≡ line_pieces line (lines_pieces lines) → SplitLines (line_items line) (items_of lines) (split None ps 0 0)
unfolding split
line_split [] line lines e = absurd cc
line_split (p ∷ ps) line lines e =
    let first : p.piece ≡ item_piece line.first = cc in
    let others : map (λ q. q.piece) ps ≡ behind_pieces line.others (lines_pieces lines) = cc in
    as_piece p.piece (item_piece line.first) p.left 0 (begins_white ps) (split None ps) (line_items line) (items_of lines) first
    (item_split line.first.quoted line.first.raw p.left 0 0 (begins_white ps) (split None ps) (map item_in line.others) (items_of lines) (behind_split (length ps) ps 0 line.others lines (omega arith) others))

starts : (ps : List Placed) (line : Line) (more : List Piece) → map (λ q. q.piece) ps ≡ line_pieces line more → begins_white ps ≡ false
starts [] line more e = absurd cc
starts (p ∷ ps) line more e =
    let same : p.piece ≡ item_piece line.first = cc in
    ap is_white_piece same ∙ no_white line.first.quoted line.first.raw

-- the entries of good lines are these
pub joined_read : (line : Line) (lines : List Line) → IsGoodLine line → AllByRecursion IsGoodLine lines → (es : List Entry) × (entries (flat_map joined_line (line ∷ lines)) ≡ Ok es) × AreLines es (items_of (line ∷ lines))
joined_read line lines here h =
    let text = flat_map joined_line (line ∷ lines) in
    let l = lexed text in
    let same = pieces_once (lines_pieces (line ∷ lines)) None text (lines_are (line ∷ lines) (here, h)) in
    let s = line_split l.pieces line lines same.pieces in
    let read : split l.open_quote l.pieces 0 0 ≡ Ok s.found = ap (λ (q : Option ℕ). split q l.pieces 0 0) same.at_end ∙ s.read in
    let white : white_first text ≡ false = sym (white_begins text) ∙ starts l.pieces line (lines_pieces lines) same.pieces in
    let some : 0 < length (line_items line) = omega arith in (
      with_entry (white_first text) s.found.first s.found.others,
      ap (λ (r : Result Split ShapeFault). r >>= λ x. Ok (with_entry (white_first text) x.first x.others)) read,
      one_entry (white_first text) s.found.first s.found.others (line_items line) (items_of lines) white some s.first s.others,
    )

-- ---- flags

pub apart_items : (items : List ItemText) → map item_in (map apart items) ≡ items
apart_items [] = refl
apart_items (item ∷ items) = ap (λ (l : List ItemText). item ∷ l) (apart_items items)

pub flagged_items : (keys after : Bool) (items : List ItemText) → map item_in (flagged keys after items) ≡ items
flagged_items keys after [] = refl
flagged_items keys after (item ∷ items) = ap (λ (l : List ItemText). item ∷ l) (flagged_items keys (is_key keys item) items)

pub apart_good : (items : List ItemText) → AllByRecursion Clean items → AllByRecursion IsGood (map apart items)
apart_good [] h = tt
apart_good (item ∷ items) h = (record { clean = h.0; quoted = λ e. absurd cc }, apart_good items h.1)

pub flagged_good : (keys after : Bool) (items : List ItemText) → AllByRecursion Clean items → AllByRecursion IsGood (flagged keys after items)
flagged_good keys after [] h = tt
flagged_good keys after (item ∷ items) h = (record { clean = h.0; quoted = λ e. (and_parts item.quoted after e).0 }, flagged_good keys (is_key keys item) items h.1)

-- a line without any that stand so
pub apart_text : (first : ItemText) (items : List ItemText) → items_text (first ∷ items) ++ 10 ∷ [] ≡ item_text first ++ flagged_text (map apart items)
apart_text first [] = refl
apart_text first (item ∷ items) = append_assoc (item_text first) (32 ∷ items_text (item ∷ items)) (10 ∷ []) ∙ ap (λ (t : List ℕ). item_text first ++ 32 ∷ t) (apart_text item items)
