-- The entries that are read are those of the pieces.
use Rattle.std.proofs.Common.{◌≡◌, ℕ, ◌-◌, ◌≤◌, Bool, true, false, eqb, List, [], ◌∷◌, ◌++◌, map, Option, None, Result, Ok, refl, sym, ap, subst, ◌∙◌, arith, eqb-true}
use Rattle.dns_data.specs.Items.{ItemText, plain, in_quotes}
use Rattle.dns_master.specs.declared.shape.ShapeFault.{ShapeFault}
use Rattle.dns_master.specs.Pieces.{Piece, LineEnd, White, Comment, Open, Close, Quoted, Plain, Placed, lexed}
use Rattle.dns_master.specs.Grammar.{ArePieces}
use Rattle.dns_master.specs.Entries.{◌>>=◌, Found, Entry, Split, with_entry, add, end_of, begins_white, at_piece, from, white_first, entries}
use Rattle.dns_master.specs.Depth.{depth_behind, closes, AreBalanced, split_behind}
use Rattle.dns_master.specs.Reader.{text_of}
use Rattle.dns_master.specs.Tokens.{tokens_from}
use Rattle.dns_master.specs.EntryTexts.{EntryText, first_white, with_entry_text, CutEntries, cut_line, cut_piece, cut_behind, AreEntries}
use Rattle.dns_master.proofs.EntryLemmas.{white_begins}
use Rattle.dns_master.proofs.DepthLaws.{from_counts}
use Rattle.dns_master.proofs.GrammarLaws.{pieces_of, pieces_once}
use Rattle.dns_master.proofs.WalkLaws.{tokens_found}

-- an entry without the places of its items
abbrev pub view : Entry → EntryText
view e = record { white = e.white; items = map text_of e.items }

with_viewed : (white : Bool) (founds : List Found) (es : List Entry) → map view (with_entry white founds es) ≡ with_entry_text white (map text_of founds) (map view es)
with_viewed white [] es = refl
with_viewed white (f ∷ fs) es = refl

with_same : (white : Bool) (items others : List ItemText) (es fs : List EntryText) → items ≡ others → es ≡ fs → with_entry_text white items es ≡ with_entry_text white others fs
with_same white items others es fs e f = ap (λ (l : List ItemText). with_entry_text white l es) e ∙ ap (with_entry_text white others) f

-- what is split is what is cut
record IsCut (cut : CutEntries) (r : Result Split ShapeFault) : Type 0 where
  found : Split
  read : r ≡ Ok found
  first : map text_of found.first ≡ cut.first
  others : map view found.others ≡ cut.others

pub by_bool : {X : Type 0} (b : Bool) → (b ≡ true → X) → (b ≡ false → X) → X
by_bool true t f = t refl
by_bool false t f = f refl

one_line : (left d u : ℕ) (white : Bool) (cut : CutEntries) (more : ℕ → ℕ → Result Split ShapeFault) → IsCut cut (more 0 u) → IsCut cut (more d u) → IsCut (cut_line (eqb d 0) white cut) (at_piece LineEnd left d u white more)
one_line left d u white cut more h k =
    by_bool (eqb d 0)
    (λ e. let here : IsCut (cut_line true white cut) (more 0 u >>= λ s. Ok (end_of white s)) = record {
      found = end_of white h.found;
      read = ap (λ (r : Result Split ShapeFault). r >>= λ s. Ok (end_of white s)) h.read;
      first = refl;
      others = with_viewed white h.found.first h.found.others ∙ with_same white (map text_of h.found.first) cut.first (map view h.found.others) cut.others h.first h.others;
    } in rw e here)
    (λ e. rw e k)

white_same : (ps : List Placed) → begins_white ps ≡ first_white (map (λ p. p.piece) ps)
white_same [] = refl
white_same (p ∷ ps) = refl

one_piece : (front : List Piece) (p : Piece) (left u : ℕ) (white : Bool) (cut : CutEntries) (more : ℕ → Result Split ShapeFault) → closes p ≤ depth_behind front → ((v : ℕ) → IsCut cut (more v)) → IsCut (cut_piece front p white cut) (at_piece p left (depth_behind front) u white (λ _ v. more v))
one_piece front LineEnd left u white cut more c h = one_line left (depth_behind front) u white cut (λ _ v. more v) (h u) (h u)
one_piece front (White o) left u white cut more c h = h u
one_piece front (Comment t) left u white cut more c h = h u
one_piece front Open left u white cut more c h = h _
one_piece front Close left u white cut more c h =
    by_bool (eqb (depth_behind front) 0) (λ e. absurd (let none = eqb-true (depth_behind front) 0 e in omega arith)) (λ e. rw e (h u))
one_piece front (Quoted raw) left u white cut more c h = let k = h u in record {
  found = add (record { item = in_quotes raw; left = left - 1 }) k.found;
  read = ap (λ (r : Result Split ShapeFault). r >>= λ s. Ok (add (record { item = in_quotes raw; left = left - 1 }) s)) k.read;
  first = ap (λ (l : List ItemText). in_quotes raw ∷ l) k.first;
  others = k.others;
}
one_piece front (Plain raw) left u white cut more c h = let k = h u in record {
  found = add (record { item = plain raw; left = left }) k.found;
  read = ap (λ (r : Result Split ShapeFault). r >>= λ s. Ok (add (record { item = plain raw; left = left }) s)) k.read;
  first = ap (λ (l : List ItemText). plain raw ∷ l) k.first;
  others = k.others;
}

cut_split : (front : List Piece) (ps : List Placed) (u : ℕ) → AreBalanced front (map (λ p. p.piece) ps) → IsCut (cut_behind front (map (λ p. p.piece) ps)) (split_behind None front ps u)
cut_split front [] u h = record { found = record { first = []; others = [] }; read = rw h refl; first = refl; others = refl }
cut_split front (p ∷ ps) u h =
    subst (λ (w : Bool). IsCut (cut_behind front (p.piece ∷ map (λ q. q.piece) ps)) (at_piece p.piece p.left (depth_behind front) u w (λ _ v. split_behind None (front ++ p.piece ∷ []) ps v))) (sym (white_same ps))
    (one_piece front p.piece p.left u (first_white (map (λ q. q.piece) ps)) (cut_behind (front ++ p.piece ∷ []) (map (λ q. q.piece) ps)) (split_behind None (front ++ p.piece ∷ []) ps) h.0
    (λ v. cut_split (front ++ p.piece ∷ []) ps v h.1))

-- the entries of a text of these pieces
of_pieces : (text : List ℕ) (ps : List Piece) → ArePieces ps None text → AreBalanced [] ps → (es : List Entry) × (entries text ≡ Ok es) × (map view es ≡ with_entry_text (first_white ps) (cut_behind [] ps).first (cut_behind [] ps).others)
of_pieces text ps pieces balanced =
    let l = lexed text in
    let same = pieces_once ps None text pieces in
    let c = cut_split [] l.pieces 0 (subst (AreBalanced []) (sym same.pieces) balanced) in
    let read : from 0 0 text ≡ Ok c.found = from_counts text ∙ ap (λ (q : Option ℕ). split_behind q [] l.pieces 0) same.at_end ∙ c.read in
    let white : white_first text ≡ first_white ps = sym (white_begins text) ∙ white_same l.pieces ∙ ap first_white same.pieces in
    let es = with_entry (white_first text) c.found.first c.found.others in (
      es,
      ap (λ (r : Result Split ShapeFault). r >>= λ s. Ok (with_entry (white_first text) s.first s.others)) read,
      with_viewed (white_first text) c.found.first c.found.others
          ∙ with_same (white_first text) (map text_of c.found.first) (cut_behind [] (pieces_of l)).first (map view c.found.others) (cut_behind [] (pieces_of l)).others c.first c.others
          ∙ ap (λ (w : Bool). with_entry_text w (cut_behind [] (pieces_of l)).first (cut_behind [] (pieces_of l)).others) white
          ∙ ap (λ (qs : List Piece). with_entry_text (first_white ps) (cut_behind [] qs).first (cut_behind [] qs).others) same.pieces,
    )

ok_is : (a b : List Entry) → ◌≡◌ {A = Result (List Entry) ShapeFault} (Ok a) (Ok b) → a ≡ b
ok_is a b e = cc

-- the entries that are read are the text's
pub entries_are : (text : List ℕ) (es : List Entry) → entries text ≡ Ok es → AreEntries text (map view es)
entries_are text es e =
    let t = tokens_found text (tokens_from text 0 es) (ap (λ (r : Result (List Entry) ShapeFault). r >>= λ all. Ok (tokens_from text 0 all)) e) in
    let o = of_pieces text t.0 t.1 t.2 in
    let same : es ≡ o.0 = ok_is es o.0 (sym e ∙ o.1) in
    (t.0, t.1, t.2, ap (map view) same ∙ o.2)

-- and the text's entries are read
pub entries_read : (text : List ℕ) (texts : List EntryText) → AreEntries text texts → (es : List Entry) × (entries text ≡ Ok es) × (map view es ≡ texts)
entries_read text texts h = let o = of_pieces text h.0 h.1 h.2 in (o.0, o.1, o.2 ∙ sym h.3)
