-- The items of a text of octets are octets.
use Rattle.std.proofs.Common.{◌≡◌, ℕ, ◌<◌, eqb, Bool, List, [], ◌∷◌, map, Option, Some, None, Result, Ok, Err, subst}
use Rattle.std.proofs.lemmas.Bool.{cond_both}
use Rattle.std.specs.Prelude.{IfOk}
use Rattle.std.specs.List.{AllByRecursion}
use Rattle.dns_names.proofs.SymbolLaws.{IsBytes, All-parts}
use Rattle.dns_data.proofs.FieldLaws.{AreBytes}
use Rattle.dns_master.specs.declared.shape.ShapeFault.{ShapeFault}
use Rattle.dns_master.specs.Pieces.{Piece, LineEnd, White, Comment, Open, Close, Quoted, Plain, Placed, lexed}
use Rattle.dns_master.specs.Grammar.{spelled, ArePieces}
use Rattle.dns_master.specs.Entries.{◌>>=◌, Found, Entry, Split, with_entry, end_of, begins_white, ended, at_piece, split, from, white_first, entries}
use Rattle.dns_master.specs.Reader.{text_of}
use Rattle.dns_master.proofs.FoundLaws.{pieces_found}

-- the octets of an item are octets
abbrev PieceBytes : Piece → Type 0
PieceBytes (Quoted raw) = IsBytes raw
PieceBytes (Plain raw) = IsBytes raw
PieceBytes p = Unit {0}

spelled_bytes : (p : Piece) → IsBytes (spelled p) → PieceBytes p
spelled_bytes LineEnd h = tt
spelled_bytes (White o) h = tt
spelled_bytes (Comment t) h = tt
spelled_bytes Open h = tt
spelled_bytes Close h = tt
spelled_bytes (Quoted raw) h = (All-parts (λ o. o < 256) raw (34 ∷ []) h.1).0
spelled_bytes (Plain raw) h = h

abbrev ArePieceBytes : List Placed → Type 0
ArePieceBytes ps = AllByRecursion (λ p. PieceBytes p.piece) ps

pieces_bytes : (ps : List Placed) (open_quote : Option ℕ) (text : List ℕ) → ArePieces (map (λ p. p.piece) ps) open_quote text → IsBytes text → ArePieceBytes ps
pieces_bytes [] open_quote text h bytes = tt
pieces_bytes (p ∷ ps) open_quote text h bytes =
    let parts = All-parts (λ o. o < 256) (spelled p.piece) h.0 (subst IsBytes h.1 bytes) in
    (spelled_bytes p.piece parts.0, pieces_bytes ps open_quote h.0 h.3 parts.1)

-- ---- entries

abbrev pub AreEntryBytes : List Entry → Type 0
AreEntryBytes es = AllByRecursion (λ e. AreBytes (map text_of e.items)) es

record SplitBytes (s : Split) : Type 0 where
  first : AreBytes (map text_of s.first)
  others : AreEntryBytes s.others

with_entry_bytes : (white : Bool) (founds : List Found) (es : List Entry) → AreBytes (map text_of founds) → AreEntryBytes es → AreEntryBytes (with_entry white founds es)
with_entry_bytes white [] es h k = k
with_entry_bytes white (f ∷ fs) es h k = (h, k)

pub bound : {X Y : Type 0} (P : X → Type 0) (Q : Y → Type 0) (r : Result X ShapeFault) (f : X → Y) → IfOk r P → ((x : X) → P x → Q (f x)) → IfOk (r >>= λ x. Ok (f x)) Q
bound P Q (Ok x) f h k = k x h
bound P Q (Err e) f h k = tt

piece_bytes : (p : Piece) (left d u : ℕ) (white : Bool) (more : ℕ → ℕ → Result Split ShapeFault) → PieceBytes p → ((e v : ℕ) → IfOk (more e v) SplitBytes) → IfOk (at_piece p left d u white more) SplitBytes
piece_bytes LineEnd left d u white more p h =
    cond_both (eqb d 0) (more 0 u >>= λ s. Ok (end_of white s)) (more d u) (λ (r : Result Split ShapeFault). IfOk r SplitBytes)
    (λ _. bound SplitBytes SplitBytes (more 0 u) (end_of white) (h 0 u) (λ s b. record { first = tt; others = with_entry_bytes white s.first s.others b.first b.others })) (λ _. h d u)
piece_bytes (White o) left d u white more p h = h d u
piece_bytes (Comment t) left d u white more p h = h d u
piece_bytes Open left d u white more p h = h _ _
piece_bytes Close left d u white more p h = cond_both (eqb d 0) _ (more _ u) (λ (r : Result Split ShapeFault). IfOk r SplitBytes) (λ _. tt) (λ _. h _ u)
piece_bytes (Quoted raw) left d u white more p h = bound SplitBytes SplitBytes (more d u) _ (h d u) (λ s b. record { first = (p, b.first); others = b.others })
piece_bytes (Plain raw) left d u white more p h = bound SplitBytes SplitBytes (more d u) _ (h d u) (λ s b. record { first = (p, b.first); others = b.others })

ended_bytes : (open_quote : Option ℕ) (d u : ℕ) → IfOk (ended open_quote d u) SplitBytes
ended_bytes (Some left) d u = tt
ended_bytes None d u = cond_both (eqb d 0) (Ok (record { first = []; others = [] })) _ (λ (r : Result Split ShapeFault). IfOk r SplitBytes) (λ _. record { first = tt; others = tt }) (λ _. tt)

split_bytes : (open_quote : Option ℕ) (ps : List Placed) (d u : ℕ) → ArePieceBytes ps → IfOk (split open_quote ps d u) SplitBytes
unfolding split
split_bytes open_quote [] d u h = ended_bytes open_quote d u
split_bytes open_quote (p ∷ ps) d u h = piece_bytes p.piece p.left d u (begins_white ps) (split open_quote ps) h.0 (λ e v. split_bytes open_quote ps e v h.1)

pub ok_of : {X : Type 0} (P : X → Type 0) (r : Result X ShapeFault) (x : X) → IfOk r P → r ≡ Ok x → P x
ok_of P (Ok y) x h e = let same : y ≡ x = cc in subst P same h
ok_of P (Err f) x h e = absurd cc

pub entries_bytes : (text : List ℕ) (es : List Entry) → IsBytes text → entries text ≡ Ok es → AreEntryBytes es
entries_bytes text es bytes e =
    let pieces = pieces_bytes (lexed text).pieces (lexed text).open_quote text (pieces_found text) bytes in
    ok_of AreEntryBytes (entries text) es
    (bound SplitBytes AreEntryBytes (from 0 0 text) (λ s. with_entry (white_first text) s.first s.others) (split_bytes (lexed text).open_quote (lexed text).pieces 0 0 pieces)
    (λ s b. with_entry_bytes (white_first text) s.first s.others b.first b.others)) e
