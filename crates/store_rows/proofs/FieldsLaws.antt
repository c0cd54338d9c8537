-- Clean items with one space between them are read as these items.
use Rattle.std.proofs.Common.{◌≡◌, ℕ, zero-le, Bool, true, false, cond, List, [], ◌∷◌, ◌++◌, map, None, Ok, refl, sym, ap, subst, ◌∙◌, arith, append-nil}
use Rattle.std.specs.List.{AllByRecursion}
use Rattle.dns_data.specs.declared.item.Item.{Item}
use Rattle.dns_data.specs.Items.{ItemText, item_of, plain, in_quotes, item_text, items_text}
use Rattle.dns_master.specs.declared.token.Token.{Token}
use Rattle.dns_master.specs.Pieces.{Piece, White, Quoted, Plain, is_quote, ends_item}
use Rattle.dns_master.specs.Depth.{opens, closes, sum_of, AreBalanced}
use Rattle.dns_master.specs.Grammar.{ArePieces}
use Rattle.dns_master.specs.Entries.{◌>>=◌, Found, Entry}
use Rattle.dns_master.specs.EntryTexts.{EntryText, first_white, with_entry_text, CutEntries, cut_piece, cut_behind, AreEntries}
use Rattle.dns_master.specs.Faults.{on_lines}
use Rattle.dns_master.specs.Reader.{text_of}
use Rattle.dns_master.specs.Tokens.{token_of, token_at, tokens_from, tokens_of}
use Rattle.dns_master.proofs.CleanLaws.{runs_are, CleanAt, Clean}
use Rattle.dns_master.proofs.CutLaws.{view, entries_read}
use Rattle.dns_master.proofs.LineLaws.{CleanLine}
use Rattle.store_rows.specs.RowReading.{fields_in, fields_of}

-- ---- the pieces of the text

abbrev piece_with : Bool → List ℕ → Piece
piece_with true raw = Quoted raw
piece_with false raw = Plain raw

abbrev item_piece : ItemText → Piece
item_piece item = piece_with item.quoted item.raw

-- items with a space before each
abbrev behind : List ItemText → List Piece
behind [] = []
behind (item ∷ items) = White 32 ∷ item_piece item ∷ behind items

abbrev behind_text : List ItemText → List ℕ
behind_text [] = []
behind_text (item ∷ items) = 32 ∷ (item_text item ++ behind_text items)

-- a clean item before the end, or before a space
item_last : (quoted : Bool) (raw : List ℕ) → CleanAt quoted raw → ArePieces (piece_with quoted raw ∷ []) None (cond quoted (34 ∷ raw ++ 34 ∷ []) raw ++ [])
item_last true raw h = ([], refl, runs_are is_quote false raw h, refl)
item_last false [] h = absurd h
item_last false (o ∷ raw) h = let r = runs_are ends_item false (o ∷ raw) h in ([], refl, (r.0, tt), refl)

item_first : (quoted : Bool) (raw after : List ℕ) (ps : List Piece) → CleanAt quoted raw → ArePieces ps None (32 ∷ after) → ArePieces (piece_with quoted raw ∷ ps) None (cond quoted (34 ∷ raw ++ 34 ∷ []) raw ++ 32 ∷ after)
item_first true raw after ps h more = (32 ∷ after, refl, runs_are is_quote false raw h, more)
item_first false [] after ps h more = absurd h
item_first false (o ∷ raw) after ps h more = let r = runs_are ends_item false (o ∷ raw) h in (32 ∷ after, refl, (r.0, (r.1, refl)), more)

-- an item and those after it
items_are : (item : ItemText) (items : List ItemText) → AllByRecursion Clean (item ∷ items) → ArePieces (item_piece item ∷ behind items) None (item_text item ++ behind_text items)
items_are item [] h = item_last item.quoted item.raw h.0
items_are item (next ∷ items) h =
    item_first item.quoted item.raw (item_text next ++ behind_text items) (behind (next ∷ items)) h.0
    (item_text next ++ behind_text items, refl, refl, items_are next items h.1)

text_is : (item : ItemText) (items : List ItemText) → items_text (item ∷ items) ≡ item_text item ++ behind_text items
text_is item [] = sym (append-nil (item_text item))
text_is item (next ∷ items) = ap (λ (t : List ℕ). item_text item ++ 32 ∷ t) (text_is next items)

-- ---- no parenthesis is among them

closes_none : (quoted : Bool) (raw : List ℕ) → closes (piece_with quoted raw) ≡ 0
closes_none true raw = refl
closes_none false raw = refl

opens_none : (quoted : Bool) (raw : List ℕ) → opens (piece_with quoted raw) ≡ 0
opens_none true raw = refl
opens_none false raw = refl

opens_more : (front : List Piece) (p : Piece) → sum_of opens front ≡ 0 → opens p ≡ 0 → sum_of opens (front ++ p ∷ []) ≡ 0
opens_more [] p e f = omega (arith, f)
opens_more (q ∷ front) p e f =
    let first : opens q ≡ 0 = omega (arith, e) in
    let others : sum_of opens front ≡ 0 = omega (arith, e) in
    omega (arith, first, opens_more front p others f)

balanced : (front : List Piece) (items : List ItemText) → sum_of opens front ≡ 0 → AreBalanced front (behind items)
balanced front [] e = omega (arith, e)
balanced front (item ∷ items) e =
    let space = opens_more front (White 32) e refl in
    let here = opens_more (front ++ White 32 ∷ []) (item_piece item) space (opens_none item.quoted item.raw) in
    (zero-le, (rw (closes_none item.quoted item.raw) zero-le, balanced ((front ++ White 32 ∷ []) ++ item_piece item ∷ []) items here))

-- ---- they are one entry

-- what is cut has these items, and there is no other entry
record IsCut (items : List ItemText) (cut : CutEntries) : Type 0 where
  first : cut.first ≡ items
  others : cut.others ≡ []

item_cut : (quoted : Bool) (raw : List ℕ) (front : List Piece) (white : Bool) (cut : CutEntries) (items : List ItemText) → IsCut items cut → IsCut ((record { raw = raw; quoted = quoted }) ∷ items) (cut_piece front (piece_with quoted raw) white cut)
item_cut true raw front white cut items h = record { first = ap (λ (l : List ItemText). in_quotes raw ∷ l) h.first; others = h.others }
item_cut false raw front white cut items h = record { first = ap (λ (l : List ItemText). plain raw ∷ l) h.first; others = h.others }

behind_cut : (front : List Piece) (items : List ItemText) → IsCut items (cut_behind front (behind items))
behind_cut front [] = record { first = refl; others = refl }
behind_cut front (item ∷ items) =
    let here = front ++ White 32 ∷ [] in
    let c = item_cut item.quoted item.raw here (first_white (behind items)) (cut_behind (here ++ item_piece item ∷ []) (behind items)) items (behind_cut (here ++ item_piece item ∷ []) items) in
    record { first = c.first; others = c.others }

-- the entry of the text
entry_is : (item : ItemText) (items : List ItemText) → AllByRecursion Clean (item ∷ items)
    → AreEntries (items_text (item ∷ items)) (record { white = first_white (item_piece item ∷ behind items); items = item ∷ items } ∷ [])
entry_is item items h =
    let ps = item_piece item ∷ behind items in
    let c = item_cut item.quoted item.raw [] (first_white (behind items)) (cut_behind (item_piece item ∷ []) (behind items)) items (behind_cut (item_piece item ∷ []) items) in (
      ps,
      subst (ArePieces ps None) (sym (text_is item items)) (items_are item items h),
      (rw (closes_none item.quoted item.raw) zero-le, balanced (item_piece item ∷ []) items (opens_more [] (item_piece item) refl (opens_none item.quoted item.raw))),
      sym (ap (λ (l : List ItemText). with_entry_text (first_white ps) l (cut_behind [] ps).others) c.first ∙ ap (with_entry_text (first_white ps) (item ∷ items)) c.others),
    )

-- ---- the items of its tokens

items_of_tokens : (text : List ℕ) (fs : List Found) → map (λ t. t.item) (map (token_at text 0) fs ++ []) ≡ map text_of fs
items_of_tokens text [] = refl
items_of_tokens text (f ∷ fs) = ap (λ (l : List ItemText). f.item ∷ l) (items_of_tokens text fs)

of_entry : (text : List ℕ) (es : List Entry) (white : Bool) (items : List ItemText) → map view es ≡ record { white = white; items = items } ∷ [] → map (λ t. t.item) (tokens_from text 0 es) ≡ items
of_entry text [] white items e = absurd cc
of_entry text (d ∷ []) white items e = items_of_tokens text d.items ∙ (let same : view d ≡ record { white = white; items = items } = cc in ap (λ (x : EntryText). x.items) same)
of_entry text (d ∷ f ∷ es) white items e = absurd cc

pub fields_read : (items : List ItemText) → CleanLine items → fields_of (items_text items) ≡ Ok items
fields_read [] h = absurd (let none = h.some in omega arith)
fields_read (item ∷ items) h =
    let text = items_text (item ∷ items) in
    let white = first_white (item_piece item ∷ behind items) in
    let read = entries_read text (record { white = white; items = item ∷ items } ∷ []) (entry_is item items h.clean) in
    ap (λ r. fields_in (on_lines text (r >>= λ es. Ok (tokens_from text 0 es)))) read.1
    ∙ ap (λ (l : List ItemText). Ok l) (of_entry text read.0 white (item ∷ items) read.2)

-- ---- what calls tell

items_same : (ts : List Token) → map item_of (map (λ t. t.item) ts) ≡ map (λ t. t.item) (map token_of ts)
items_same [] = refl
items_same (t ∷ ts) = ap (λ (l : List ItemText). item_of t.item ∷ l) (items_same ts)

-- the items of the tokens that a call told
pub fields_found : (text seen : List ℕ) (ts held : List Token) (items : List Item) → seen ≡ text → tokens_of seen ≡ Ok (map token_of ts) → held ≡ ts → items ≡ map (λ t. t.item) held → fields_of text ≡ Ok (map item_of items)
fields_found text seen ts held items e read same are =
    ap fields_of (sym e) ∙ ap fields_in read ∙ ap (λ (l : List ItemText). Ok l) (sym (items_same ts)) ∙ ap (λ (l : List Item). Ok (map item_of l)) (sym (are ∙ ap (map (λ t. t.item)) same))
