-- The text of data says the data.
use Rattle.std.proofs.Common.{◌≡◌, ℕ, zero-le, Bool, true, false, cond, List, [], ◌∷◌, ◌++◌, length, map, None, refl, sym, ap, subst, arith, append-nil, ◌<◌}
use Rattle.std.specs.List.{AllByRecursion}
use Rattle.dns_data.specs.declared.rdata.Data.{Data}
use Rattle.dns_data.specs.Items.{ItemText, plain, in_quotes, item_text, items_text}
use Rattle.dns_data.specs.Rdata.{IsRdata}
use Rattle.dns_data.specs.Text.{data_items, data_text}
use Rattle.dns_data.specs.Grammar.{IsData}
use Rattle.dns_data.proofs.DataLaws.{data_spells, some_items}
use Rattle.dns_master.specs.Pieces.{Piece, White, Quoted, Plain, is_quote, ends_item}
use Rattle.dns_master.specs.Depth.{opens, closes, sum_of, AreBalanced}
use Rattle.dns_master.specs.Grammar.{ArePieces}
use Rattle.dns_master.specs.Tokens.{TokenText, tokens_behind, AreTokens}
use Rattle.dns_master.proofs.CleanLaws.{runs_are, CleanAt, Clean, data_clean}
use Rattle.wire_json.specs.Bodies.{SpellsData}

-- ---- the pieces of clean items with one space between them

abbrev piece_with : Bool → List ℕ → Piece
piece_with true raw = Quoted raw
piece_with false raw = Plain raw

abbrev item_piece : ItemText → Piece
item_piece item = piece_with item.quoted item.raw

-- items with a space before each
abbrev behind : List ItemText → List Piece
behind [] = []
behind (item ∷ items) = White 32 ∷ item_piece item ∷ behind items

abbrev behind_text : List ItemText → List ℕ
behind_text [] = []
behind_text (item ∷ items) = 32 ∷ (item_text item ++ behind_text items)

-- a clean item before the end, or before a space
item_last : (quoted : Bool) (raw : List ℕ) → CleanAt quoted raw → ArePieces (piece_with quoted raw ∷ []) None (cond quoted (34 ∷ raw ++ 34 ∷ []) raw ++ [])
item_last true raw h = ([], refl, runs_are is_quote false raw h, refl)
item_last false [] h = absurd h
item_last false (o ∷ raw) h = let r = runs_are ends_item false (o ∷ raw) h in ([], refl, (r.0, tt), refl)

item_first : (quoted : Bool) (raw after : List ℕ) (ps : List Piece) → CleanAt quoted raw → ArePieces ps None (32 ∷ after) → ArePieces (piece_with quoted raw ∷ ps) None (cond quoted (34 ∷ raw ++ 34 ∷ []) raw ++ 32 ∷ after)
item_first true raw after ps h more = (32 ∷ after, refl, runs_are is_quote false raw h, more)
item_first false [] after ps h more = absurd h
item_first false (o ∷ raw) after ps h more = let r = runs_are ends_item false (o ∷ raw) h in (32 ∷ after, refl, (r.0, (r.1, refl)), more)

items_are : (item : ItemText) (items : List ItemText) → AllByRecursion Clean (item ∷ items) → ArePieces (item_piece item ∷ behind items) None (item_text item ++ behind_text items)
items_are item [] h = item_last item.quoted item.raw h.0
items_are item (next ∷ items) h =
    item_first item.quoted item.raw (item_text next ++ behind_text items) (behind (next ∷ items)) h.0
    (item_text next ++ behind_text items, refl, refl, items_are next items h.1)

text_is : (item : ItemText) (items : List ItemText) → items_text (item ∷ items) ≡ item_text item ++ behind_text items
text_is item [] = sym (append-nil (item_text item))
text_is item (next ∷ items) = ap (λ (t : List ℕ). item_text item ++ 32 ∷ t) (text_is next items)

-- ---- no parenthesis is among them

closes_none : (quoted : Bool) (raw : List ℕ) → closes (piece_with quoted raw) ≡ 0
closes_none true raw = refl
closes_none false raw = refl

opens_none : (quoted : Bool) (raw : List ℕ) → opens (piece_with quoted raw) ≡ 0
opens_none true raw = refl
opens_none false raw = refl

opens_more : (front : List Piece) (p : Piece) → sum_of opens front ≡ 0 → opens p ≡ 0 → sum_of opens (front ++ p ∷ []) ≡ 0
opens_more [] p e f = omega (arith, f)
opens_more (q ∷ front) p e f =
    let first : opens q ≡ 0 = omega (arith, e) in
    let others : sum_of opens front ≡ 0 = omega (arith, e) in
    omega (arith, first, opens_more front p others f)

balanced : (front : List Piece) (items : List ItemText) → sum_of opens front ≡ 0 → AreBalanced front (behind items)
balanced front [] e = omega (arith, e)
balanced front (item ∷ items) e =
    let space = opens_more front (White 32) e refl in
    let here = opens_more (front ++ White 32 ∷ []) (item_piece item) space (opens_none item.quoted item.raw) in
    (zero-le, (rw (closes_none item.quoted item.raw) zero-le, balanced ((front ++ White 32 ∷ []) ++ item_piece item ∷ []) items here))

-- ---- their tokens

-- the tokens of the first entry with these items
record AreFirst (items : List ItemText) (ts : List TokenText) : Type 0 where
  same : map (λ t. t.item) ts ≡ items
  first : AllByRecursion (λ t. t.entry ≡ 0) ts

item_more : (quoted : Bool) (raw : List ℕ) (front : List Piece) (filled : Bool) (ps : List Piece) (items : List ItemText)
    → ((full : Bool) → AreFirst items (tokens_behind (front ++ piece_with quoted raw ∷ []) 0 full ps))
    → AreFirst ((record { raw = raw; quoted = quoted }) ∷ items) (tokens_behind front 0 filled (piece_with quoted raw ∷ ps))
item_more true raw front filled ps items more = let h = more true in record { same = ap (λ (l : List ItemText). in_quotes raw ∷ l) h.same; first = (refl, h.first) }
item_more false raw front filled ps items more = let h = more true in record { same = ap (λ (l : List ItemText). plain raw ∷ l) h.same; first = (refl, h.first) }

behind_tokens : (front : List Piece) (filled : Bool) (items : List ItemText) → AreFirst items (tokens_behind front 0 filled (behind items))
behind_tokens front filled [] = record { same = refl; first = tt }
behind_tokens front filled (item ∷ items) =
    let here = front ++ White 32 ∷ [] in
    item_more item.quoted item.raw here filled (behind items) items (λ full. behind_tokens (here ++ item_piece item ∷ []) full items)

-- the tokens of the text
tokens_are : (items : List ItemText) → 0 < length items → AllByRecursion Clean items → (ts : List TokenText) × AreTokens (items_text items) ts × AreFirst items ts
tokens_are [] some h = absurd (omega arith)
tokens_are (item ∷ items) some h =
    let ps = item_piece item ∷ behind items in (
      tokens_behind [] 0 false ps,
      (
        ps,
        subst (ArePieces ps None) (sym (text_is item items)) (items_are item items h),
        (rw (closes_none item.quoted item.raw) zero-le, balanced (item_piece item ∷ []) items (opens_more [] (item_piece item) refl (opens_none item.quoted item.raw))),
        refl,
      ),
      item_more item.quoted item.raw [] false (behind items) items (λ full. behind_tokens (item_piece item ∷ []) full items),
    )

pub data_said : (rdata : Data) → IsRdata rdata → SpellsData rdata (data_text rdata)
data_said rdata is =
    let found = tokens_are (data_items rdata) (some_items rdata is) (data_clean rdata is) in
    (found.0, found.1, found.2.first, subst (IsData None rdata) (sym found.2.same) (data_spells rdata is))
