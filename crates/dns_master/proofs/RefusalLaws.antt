-- What a text is refused with is a fault of it.
use Rattle.std.proofs.Common.{◌≡◌, ℕ, zero, suc, ◌-◌, ◌<◌, ◌≤◌, Bool, false, cond, eqb, List, [], ◌∷◌, ◌++◌, length, take, map, Option, Some, None, Result, Ok, Err, refl, sym, ap, subst, ◌∙◌, arith, eqb-true, append_assoc, length-append}
use Rattle.std.proofs.lemmas.Bool.{cond_both}
use Rattle.std.proofs.lemmas.List.{append-nil}
use Rattle.std.specs.Prelude.{IfErr}
use Rattle.dns_data.specs.Items.{plain, in_quotes}
use Rattle.dns_master.specs.declared.shape.ShapeFault.{ShapeFault}
use Rattle.dns_master.specs.declared.shape.ShapeFault.TheVariants as shapes
use Rattle.dns_master.specs.Pieces.{Piece, LineEnd, White, Comment, Open, Close, Quoted, Plain, Placed, lexed}
use Rattle.dns_master.specs.Grammar.{spelled, pieces_text, ArePieces}
use Rattle.dns_master.specs.Lines.{line_ends, line_at}
use Rattle.dns_master.specs.Faults.{on_line}
use Rattle.dns_master.specs.Entries.{◌>>=◌, Split, add, end_of, begins_white, ended, at_piece}
use Rattle.dns_master.specs.Depth.{opens, closes, depth_behind, AreOpened, StayOpen, split_behind}
use Rattle.dns_master.specs.Reader.{RefusesAt}
use Rattle.dns_master.specs.Refusals.{line_behind, HasFault}
use Rattle.dns_master.specs.Tokens.{placed_tokens, tokens_from}
use Rattle.dns_master.proofs.GrammarLaws.{front_taken, pieces_of}
use Rattle.dns_master.proofs.FoundLaws.{pieces_found}
use Rattle.dns_master.proofs.DepthLaws.{sum_more}
use Rattle.dns_master.proofs.PlaceLemmas.{IsPlaced, ArePlaced, pieces_placed}
use Rattle.dns_master.proofs.WalkLaws.{split_of, entries_in, tokens_split}

-- ---- one piece more

line_placed : (text front rest : List ℕ) (left : ℕ) → text ≡ front ++ rest → left ≡ length rest → line_at text (length text - left) ≡ suc (line_ends front)
line_placed text front rest left e n =
    let at : length text - left ≡ length front = omega (arith, n, ap length e ∙ length-append front rest) in
    let before : take (length front) text ≡ front = ap (take (length front)) e ∙ front_taken front rest in
    rw (at, before) refl

opened_more : (front ps : List Piece) (p : Piece) → AreOpened front ps → closes p ≤ depth_behind (front ++ ps) → AreOpened front (ps ++ p ∷ [])
opened_more front [] p h c = (subst (λ (qs : List Piece). closes p ≤ depth_behind qs) (append-nil front) c, tt)
opened_more front (q ∷ ps) p h c =
    (h.0, opened_more (front ++ q ∷ []) ps p h.1 (subst (λ (qs : List Piece). closes p ≤ depth_behind qs) (sym (append_assoc front (q ∷ []) ps)) c))

stay_more : (front ps : List Piece) (p : Piece) → StayOpen front ps → 0 < depth_behind (front ++ (ps ++ p ∷ [])) → StayOpen front (ps ++ p ∷ [])
stay_more front [] p h c = (h, c)
stay_more front (q ∷ ps) p h c =
    (h.0, stay_more (front ++ q ∷ []) ps p h.1 (subst (λ (qs : List Piece). 0 < depth_behind qs) (sym (append_assoc front (q ∷ []) (ps ++ p ∷ []))) c))

-- the outermost parenthesis that is open after these pieces, and its line
pub record IsOutermost (text : List ℕ) (front : List Piece) (left : ℕ) : Type 0 where
  pub outside : List Piece
  pub inside : List Piece
  pub parts : front ≡ outside ++ Open ∷ inside
  pub none : depth_behind outside ≡ 0
  pub stays : StayOpen (outside ++ Open ∷ []) inside
  pub line : line_at text (length text - left) ≡ line_behind outside

abbrev Outer : List ℕ → List Piece → ℕ → Type 0
Outer text front left = 0 < depth_behind front → IsOutermost text front left

module _ (text : List ℕ) where
  outer_more : (front : List Piece) (p : Piece) (u : ℕ) → IsOutermost text front u → 0 < depth_behind (front ++ p ∷ []) → IsOutermost text (front ++ p ∷ []) u
  outer_more front p u o c =
      let parts : front ++ p ∷ [] ≡ o.outside ++ Open ∷ (o.inside ++ p ∷ []) = ap (λ (qs : List Piece). qs ++ p ∷ []) o.parts ∙ append_assoc o.outside (Open ∷ o.inside) (p ∷ []) in
      let whole : front ++ p ∷ [] ≡ (o.outside ++ Open ∷ []) ++ (o.inside ++ p ∷ []) = parts ∙ sym (append_assoc o.outside (Open ∷ []) (o.inside ++ p ∷ [])) in
      record {
        outside = o.outside;
        inside = o.inside ++ p ∷ [];
        parts = parts;
        none = o.none;
        stays = stay_more (o.outside ++ Open ∷ []) o.inside p o.stays (subst (λ (qs : List Piece). 0 < depth_behind qs) whole c);
        line = o.line;
      }

  -- where a piece opens nothing, the outermost stays
  outer_same : (front : List Piece) (p : Piece) (u : ℕ) → opens p ≡ 0 → Outer text front u → Outer text (front ++ p ∷ []) u
  outer_same front p u none h = λ c.
      let before : 0 < depth_behind front = omega (arith, c, none, sum_more opens front p, sum_more closes front p) in
      outer_more front p u (h before) c

  outer_open : (front : List Piece) (left u : ℕ) → line_at text (length text - left) ≡ line_behind front → Outer text front u → Outer text (front ++ Open ∷ []) (cond (eqb (depth_behind front) 0) left u)
  outer_open front left u line h =
      cond_both (eqb (depth_behind front) 0) left u (Outer text (front ++ Open ∷ []))
      (λ first c. record { outside = front; inside = []; parts = refl; none = eqb-true (depth_behind front) 0 first; stays = c; line = line })
      (λ more c. outer_more front Open u (h (above (depth_behind front) more)) c)
    where
      above : (d : ℕ) → eqb d 0 ≡ false → 0 < d
      above zero e = absurd cc
      above (suc d) e = omega arith

-- ---- faults

abbrev IsFault : List ℕ → ShapeFault → Type 0
IsFault text fault = HasFault text (on_line text fault)

if_err : {X Y : Type 0} (Q : ShapeFault → Type 0) (r : Result X ShapeFault) (f : X → Y) → IfErr r Q → IfErr (r >>= λ x. Ok (f x)) Q
if_err Q (Ok x) f h = tt
if_err Q (Err e) f h = h

positive : (d : ℕ) → eqb d 0 ≡ false → 0 < d
positive zero e = absurd cc
positive (suc d) e = omega arith

-- what is left after the pieces where a quote stays open
rest_left : (ps : List Piece) (left : ℕ) (text : List ℕ) → ArePieces ps (Some left) text → (rest : List ℕ) × (text ≡ pieces_text ps ++ rest) × (left ≡ length rest)
rest_left [] left text h = (text, refl, h.3)
rest_left (p ∷ ps) left text h =
    let r = rest_left ps left h.0 h.3 in
    (r.0, h.1 ∙ ap (λ (t : List ℕ). spelled p ++ t) r.1 ∙ sym (append_assoc (spelled p) (pieces_text ps) r.0), r.2)

fault_at_end : (text : List ℕ) (open_quote : Option ℕ) (front : List Piece) (u : ℕ) → ArePieces front open_quote text → AreOpened [] front → Outer text front u → IfErr (ended open_quote (depth_behind front) u) (IsFault text)
fault_at_end text (Some left) front u pieces o w =
    let r = rest_left front left text pieces in
    (front, left, pieces, o, line_placed text (pieces_text front) r.0 left r.1 r.2)
fault_at_end text None front u pieces o w =
    cond_both (eqb (depth_behind front) 0) (Ok (record { first = []; others = [] })) (Err (shapes.ParenOpen u)) (λ (r : Result Split ShapeFault). IfErr r (IsFault text)) (λ _. tt)
    (λ some. let x = w (positive (depth_behind front) some) in
    (x.outside, x.inside, subst (λ (qs : List Piece). ArePieces qs None text) x.parts pieces, subst (AreOpened []) x.parts o, x.none, x.stays, x.line))

module _ (text : List ℕ) (open_quote : Option ℕ) (all : List Piece) (pieces : ArePieces all open_quote text) where
  fault_on : (front : List Piece) (p : Piece) (left u : ℕ) (white : Bool) (ps : List Piece) (more : ℕ → Result Split ShapeFault)
      → IsPlaced text front (record { piece = p; left = left }) → all ≡ front ++ (p ∷ ps) → AreOpened [] front → Outer text front u
      → ((v : ℕ) → AreOpened [] (front ++ p ∷ []) → Outer text (front ++ p ∷ []) v → IfErr (more v) (IsFault text))
      → IfErr (at_piece p left (depth_behind front) u white (λ _ v. more v)) (IsFault text)
  fault_on front LineEnd left u white ps more at e o w h =
      let next = h u (opened_more [] front LineEnd o (omega arith)) (outer_same text front LineEnd u refl w) in
      cond_both (eqb (depth_behind front) 0) (more u >>= λ s. Ok (end_of white s)) (more u) (λ (r : Result Split ShapeFault). IfErr r (IsFault text))
      (λ _. if_err (IsFault text) (more u) (end_of white) next) (λ _. next)
  fault_on front (White c) left u white ps more at e o w h = h u (opened_more [] front (White c) o (omega arith)) (outer_same text front (White c) u refl w)
  fault_on front (Comment t) left u white ps more at e o w h = h u (opened_more [] front (Comment t) o (omega arith)) (outer_same text front (Comment t) u refl w)
  fault_on front Open left u white ps more at e o w h =
      h _ (opened_more [] front Open o (omega arith)) (outer_open text front left u (line_placed text (pieces_text front) (40 ∷ at.after) left at.parts at.left) w)
  fault_on front Close left u white ps more at e o w h =
      cond_both (eqb (depth_behind front) 0) (Err (shapes.ParenClose left)) (more u) (λ (r : Result Split ShapeFault). IfErr r (IsFault text))
      (λ none. (front, ps, open_quote, subst (λ (qs : List Piece). ArePieces qs open_quote text) e pieces, o, eqb-true (depth_behind front) 0 none, line_placed text (pieces_text front) (41 ∷ at.after) left at.parts at.left))
      (λ some. h u (opened_more [] front Close o (positive (depth_behind front) some)) (outer_same text front Close u refl w))
  fault_on front (Quoted raw) left u white ps more at e o w h =
      if_err (IsFault text) (more u) (add (record { item = in_quotes raw; left = left - 1 })) (h u (opened_more [] front (Quoted raw) o (omega arith)) (outer_same text front (Quoted raw) u refl w))
  fault_on front (Plain raw) left u white ps more at e o w h =
      if_err (IsFault text) (more u) (add (record { item = plain raw; left = left })) (h u (opened_more [] front (Plain raw) o (omega arith)) (outer_same text front (Plain raw) u refl w))

  faults_behind : (front : List Piece) (ps : List Placed) (u : ℕ) → ArePlaced text front ps → all ≡ front ++ map (λ p. p.piece) ps → AreOpened [] front → Outer text front u
      → IfErr (split_behind open_quote front ps u) (IsFault text)
  faults_behind front [] u at e o w = fault_at_end text open_quote front u (subst (λ (qs : List Piece). ArePieces qs open_quote text) (e ∙ append-nil front) pieces) o w
  faults_behind front (p ∷ ps) u at e o w =
      fault_on front p.piece p.left u (begins_white ps) (map (λ q. q.piece) ps) (split_behind open_quote (front ++ p.piece ∷ []) ps) at.0 e o w
      (λ v opened outer. faults_behind (front ++ p.piece ∷ []) ps v at.1 (e ∙ sym (append_assoc front (p.piece ∷ []) (map (λ q. q.piece) ps))) opened outer)

text_faults : (text : List ℕ) → IfErr (split_of text) (IsFault text)
text_faults text =
    faults_behind text (lexed text).open_quote (pieces_of (lexed text)) (pieces_found text) [] (lexed text).pieces 0 (pieces_placed text) refl tt (λ c. absurd (omega arith))

fault_told : (text : List ℕ) (r : Result Split ShapeFault) (fault : ShapeFault) → IfErr r (IsFault text) → ((r >>= λ s. Ok (entries_in text s)) >>= λ es. Ok (tokens_from text 0 es)) ≡ Err fault → IsFault text fault
fault_told text (Ok s) fault h e = absurd cc
fault_told text (Err f) fault h e = let same : f ≡ fault = cc in subst (IsFault text) same h

-- what a text is refused with is a fault of it
pub refusal_is_fault : (text : List ℕ) (fault : ShapeFault) → RefusesAt fault (placed_tokens text) → HasFault text (on_line text fault)
refusal_is_fault text (shapes.ParenOpen left) r = fault_told text (split_of text) _ (text_faults text) (sym (tokens_split text) ∙ r)
refusal_is_fault text (shapes.ParenClose left) r = fault_told text (split_of text) _ (text_faults text) (sym (tokens_split text) ∙ r)
refusal_is_fault text (shapes.QuoteOpen left) r = fault_told text (split_of text) _ (text_faults text) (sym (tokens_split text) ∙ r)
refusal_is_fault text shapes.NoMemory r = tt
