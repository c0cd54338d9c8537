-- The tokens of the entries are those of the pieces.
use Rattle.std.proofs.Common.{◌≡◌, ℕ, zero, suc, ◌-◌, ◌≤◌, Bool, true, false, cond, eqb, ◌||◌, List, [], ◌∷◌, ◌++◌, length, take, map, Option, Some, None, Result, Ok, Err, refl, sym, ap, subst, ◌∙◌, arith, eqb-true, append_assoc, length-append}
use Rattle.std.proofs.lemmas.Bool.{cond_both}
use Rattle.std.specs.Prelude.{IfOk}
use Rattle.dns_data.specs.Items.{ItemText, plain, in_quotes}
use Rattle.dns_master.specs.declared.shape.ShapeFault.{ShapeFault}
use Rattle.dns_master.specs.declared.shape.ShapeFault.TheVariants as shapes
use Rattle.dns_master.specs.Pieces.{Piece, LineEnd, White, Comment, Open, Close, Quoted, Plain, Placed, lexed}
use Rattle.dns_master.specs.Grammar.{pieces_text, ArePieces}
use Rattle.dns_master.specs.Entries.{◌>>=◌, Found, Entry, Split, with_entry, add, end_of, begins_white, ended, at_piece, white_first}
use Rattle.dns_master.specs.Depth.{closes, depth_behind, AreBalanced, split_behind}
use Rattle.dns_master.specs.Faults.{Refuses, on_line}
use Rattle.dns_master.specs.Reader.{RefusesAt}
use Rattle.dns_master.specs.Tokens.{TokenText, token_behind, tokens_behind, AreTokens, token_at, tokens_from, placed_tokens}
use Rattle.dns_master.proofs.GrammarLaws.{front_taken, pieces_of, pieces_once}
use Rattle.dns_master.proofs.FoundLaws.{pieces_found}
use Rattle.dns_master.proofs.DepthLaws.{from_counts}
use Rattle.dns_master.proofs.PlaceLemmas.{IsPlaced, ArePlaced, pieces_placed}
use Rattle.dns_master.proofs.TokenLemmas.{is_filled}

-- ---- one token

token_here : (text front rest : List ℕ) (item : ItemText) (entry left : ℕ) → text ≡ front ++ rest → left ≡ length rest → token_at text entry (record { item = item; left = left }) ≡ token_behind front item entry
token_here text front rest item entry left e n =
    let at : length text - left ≡ length front = omega (arith, n, ap length e ∙ length-append front rest) in
    let before : take (length front) text ≡ front = ap (take (length front)) e ∙ front_taken front rest in
    rw (at, before) refl

-- an entry that has ended, before the others
entry_first : (text : List ℕ) (white : Bool) (k : ℕ) (items : List Found) (others : List Entry) →
    tokens_from text k (with_entry white items others) ≡ map (token_at text k) items ++ tokens_from text (cond (is_filled items) (suc k) k) others
entry_first text white k [] others = refl
entry_first text white k (f ∷ fs) others = refl

or_false : (b : Bool) → (b || false) ≡ b
or_false true = refl
or_false false = refl

or_true : (b : Bool) → (b || true) ≡ true
or_true true = refl
or_true false = refl

bound : {X Y : Type 0} (P : X → Type 0) (Q : Y → Type 0) (r : Result X ShapeFault) (f : X → Y) → IfOk r P → ((x : X) → P x → Q (f x)) → IfOk (r >>= λ x. Ok (f x)) Q
bound P Q (Ok x) f h k = k x h
bound P Q (Err e) f h k = tt

-- ---- what is split is what the pieces say

-- the split of pieces after these, where the entry that stands open has this number, and has items or none
pub record IsWalked (text : List ℕ) (open_quote : Option ℕ) (front : List Piece) (entry : ℕ) (filled : Bool) (ps : List Piece) (s : Split) : Type 0 where
  pub quote : open_quote ≡ None
  pub balanced : AreBalanced front ps
  pub tokens : tokens_behind front entry filled ps ≡ map (token_at text entry) s.first ++ tokens_from text (cond (filled || is_filled s.first) (suc entry) entry) s.others

if_ok : {X : Type 0} (P Q : X → Type 0) (r : Result X ShapeFault) → IfOk r P → ((x : X) → P x → Q x) → IfOk r Q
if_ok P Q (Ok x) h k = k x h
if_ok P Q (Err e) h k = tt

positive : (d : ℕ) → eqb d 0 ≡ false → 1 ≤ d
positive zero e = absurd cc
positive (suc d) e = omega arith

module _ (text : List ℕ) (open_quote : Option ℕ) where
  on_piece : (front : List Piece) (p : Piece) (left u entry : ℕ) (filled white : Bool) (ps : List Piece) (more : ℕ → Result Split ShapeFault)
      → IsPlaced text front (record { piece = p; left = left })
      → ((k v : ℕ) (b : Bool) → IfOk (more v) (IsWalked text open_quote (front ++ p ∷ []) k b ps))
      → IfOk (at_piece p left (depth_behind front) u white (λ _ v. more v)) (IsWalked text open_quote front entry filled (p ∷ ps))
  on_piece front LineEnd left u entry filled white ps more at h =
      let k = cond filled (suc entry) entry in
      let Q = IsWalked text open_quote front entry filled (LineEnd ∷ ps) in
      cond_both (eqb (depth_behind front) 0) (more u >>= λ s. Ok (end_of white s)) (more u) (λ (r : Result Split ShapeFault). IfOk r Q)
      (λ here. bound (IsWalked text open_quote (front ++ LineEnd ∷ []) k false ps) Q (more u) (end_of white) (h k u false)
      (λ s w. record { quote = w.quote; balanced = (omega arith, w.balanced); tokens = rw (here, or_false filled) (w.tokens ∙ sym (entry_first text white k s.first s.others)) }))
      (λ inside. if_ok (IsWalked text open_quote (front ++ LineEnd ∷ []) entry filled ps) Q (more u) (h entry u filled)
      (λ s w. record { quote = w.quote; balanced = (omega arith, w.balanced); tokens = rw inside w.tokens }))
  on_piece front (White o) left u entry filled white ps more at h =
      if_ok _ _ (more u) (h entry u filled) (λ s w. record { quote = w.quote; balanced = (omega arith, w.balanced); tokens = w.tokens })
  on_piece front (Comment t) left u entry filled white ps more at h =
      if_ok _ _ (more u) (h entry u filled) (λ s w. record { quote = w.quote; balanced = (omega arith, w.balanced); tokens = w.tokens })
  on_piece front Open left u entry filled white ps more at h =
      if_ok _ _ (more _) (h entry _ filled) (λ s w. record { quote = w.quote; balanced = (omega arith, w.balanced); tokens = w.tokens })
  on_piece front Close left u entry filled white ps more at h =
      let Q = IsWalked text open_quote front entry filled (Close ∷ ps) in
      cond_both (eqb (depth_behind front) 0) _ (more u) (λ (r : Result Split ShapeFault). IfOk r Q) (λ here. tt)
      (λ inside. if_ok (IsWalked text open_quote (front ++ Close ∷ []) entry filled ps) Q (more u) (h entry u filled)
      (λ s w. record { quote = w.quote; balanced = (positive (depth_behind front) inside, w.balanced); tokens = w.tokens }))
  on_piece front (Quoted raw) left u entry filled white ps more at h =
      let parts : text ≡ (pieces_text front ++ 34 ∷ []) ++ (raw ++ 34 ∷ at.after) =
      at.parts ∙ ap (λ (t : List ℕ). pieces_text front ++ 34 ∷ t) (append_assoc raw (34 ∷ []) at.after) ∙ sym (append_assoc (pieces_text front) (34 ∷ []) (raw ++ 34 ∷ at.after)) in
      let size : left - 1 ≡ length (raw ++ 34 ∷ at.after) = omega (arith, at.left, ap length (append_assoc raw (34 ∷ []) at.after)) in
      let token = token_here text (pieces_text front ++ 34 ∷ []) (raw ++ 34 ∷ at.after) (in_quotes raw) entry (left - 1) parts size in
      let f : Found = record { item = in_quotes raw; left = left - 1 } in
      bound (IsWalked text open_quote (front ++ Quoted raw ∷ []) entry true ps) (IsWalked text open_quote front entry filled (Quoted raw ∷ ps)) (more u) (add f) (h entry u true)
      (λ s w. record {
        quote = w.quote;
        balanced = (omega arith, w.balanced);
        tokens = rw (or_true filled) (ap (λ (t : TokenText). t ∷ tokens_behind (front ++ Quoted raw ∷ []) entry true ps) (sym token) ∙ ap (λ (ts : List TokenText). token_at text entry f ∷ ts) w.tokens);
      })
  on_piece front (Plain raw) left u entry filled white ps more at h =
      let token = token_here text (pieces_text front) (raw ++ at.after) (plain raw) entry left at.parts at.left in
      let f : Found = record { item = plain raw; left = left } in
      bound (IsWalked text open_quote (front ++ Plain raw ∷ []) entry true ps) (IsWalked text open_quote front entry filled (Plain raw ∷ ps)) (more u) (add f) (h entry u true)
      (λ s w. record {
        quote = w.quote;
        balanced = (omega arith, w.balanced);
        tokens = rw (or_true filled) (ap (λ (t : TokenText). t ∷ tokens_behind (front ++ Plain raw ∷ []) entry true ps) (sym token) ∙ ap (λ (ts : List TokenText). token_at text entry f ∷ ts) w.tokens);
      })

  at_the_end : (open_quote' : Option ℕ) (d u : ℕ) (Q : Split → Type 0) → (open_quote' ≡ None → d ≡ 0 → Q (record { first = []; others = [] })) → IfOk (ended open_quote' d u) Q
  at_the_end (Some left) d u Q h = tt
  at_the_end None d u Q h = cond_both (eqb d 0) (Ok (record { first = []; others = [] })) _ (λ (r : Result Split ShapeFault). IfOk r Q) (λ e. h refl (eqb-true d 0 e)) (λ _. tt)

  walked : (front : List Piece) (ps : List Placed) (entry u : ℕ) (filled : Bool) → ArePlaced text front ps
      → IfOk (split_behind open_quote front ps u) (IsWalked text open_quote front entry filled (map (λ p. p.piece) ps))
  walked front [] entry u filled h =
      at_the_end open_quote (depth_behind front) u (IsWalked text open_quote front entry filled []) (λ q d. record { quote = q; balanced = d; tokens = refl })
  walked front (p ∷ ps) entry u filled h =
      on_piece front p.piece p.left u entry filled (begins_white ps) (map (λ q. q.piece) ps) (split_behind open_quote (front ++ p.piece ∷ []) ps) h.0
      (λ k v b. walked (front ++ p.piece ∷ []) ps k v b h.1)

-- ---- pieces that are balanced are split

abbrev IsRead : Result Split ShapeFault → Type 0
IsRead r = (s : Split) × (r ≡ Ok s)

read_on : (r : Result Split ShapeFault) (f : Split → Split) → IsRead r → IsRead (r >>= λ s. Ok (f s))
read_on r f h = (f h.0, ap (λ (x : Result Split ShapeFault). x >>= λ s. Ok (f s)) h.1)

read_piece : (p : Piece) (left d u : ℕ) (white : Bool) (more : ℕ → Result Split ShapeFault) → closes p ≤ d → ((v : ℕ) → IsRead (more v)) → IsRead (at_piece p left d u white (λ _ v. more v))
read_piece LineEnd left d u white more c h = cond_both (eqb d 0) _ (more u) IsRead (λ _. read_on (more u) (end_of white) (h u)) (λ _. h u)
read_piece (White o) left d u white more c h = h u
read_piece (Comment t) left d u white more c h = h u
read_piece Open left d u white more c h = h _
read_piece Close left d u white more c h = cond_both (eqb d 0) _ (more u) IsRead (λ e. absurd (let none = eqb-true d 0 e in omega arith)) (λ _. h u)
read_piece (Quoted raw) left d u white more c h = read_on (more u) _ (h u)
read_piece (Plain raw) left d u white more c h = read_on (more u) _ (h u)

balanced_read : (front : List Piece) (ps : List Placed) (u : ℕ) → AreBalanced front (map (λ p. p.piece) ps) → IsRead (split_behind None front ps u)
balanced_read front [] u h = (record { first = []; others = [] }, rw h refl)
balanced_read front (p ∷ ps) u h =
    read_piece p.piece p.left (depth_behind front) u (begins_white ps) (split_behind None (front ++ p.piece ∷ []) ps) h.0 (λ v. balanced_read (front ++ p.piece ∷ []) ps v h.1)

-- ---- texts

-- what is split of a text
abbrev pub split_of : List ℕ → Result Split ShapeFault
split_of text = split_behind (lexed text).open_quote [] (lexed text).pieces 0

abbrev pub entries_in : List ℕ → Split → List Entry
entries_in text s = with_entry (white_first text) s.first s.others

text_walked : (text : List ℕ) → IfOk (split_of text) (IsWalked text (lexed text).open_quote [] 0 false (pieces_of (lexed text)))
text_walked text = walked text (lexed text).open_quote [] (lexed text).pieces 0 0 false (pieces_placed text)

pub tokens_split : (text : List ℕ) → placed_tokens text ≡ ((split_of text >>= λ s. Ok (entries_in text s)) >>= λ es. Ok (tokens_from text 0 es))
tokens_split text = ap (λ (r : Result Split ShapeFault). (r >>= λ s. Ok (entries_in text s)) >>= λ es. Ok (tokens_from text 0 es)) (from_counts text)

-- what is read of a text whose pieces are split so
abbrev Tells : List ℕ → Split → Type 0
Tells text s = AreTokens text (tokens_from text 0 (entries_in text s))

walked_tells : (text : List ℕ) (s : Split) → IsWalked text (lexed text).open_quote [] 0 false (pieces_of (lexed text)) s → Tells text s
walked_tells text s w =
    let pieces = subst (λ (q : Option ℕ). ArePieces (pieces_of (lexed text)) q text) w.quote (pieces_found text) in
    (pieces_of (lexed text), pieces, w.balanced, entry_first text (white_first text) 0 s.first s.others ∙ sym w.tokens)

told : (text : List ℕ) (r : Result Split ShapeFault) (ts : List TokenText) → IfOk r (Tells text) → ((r >>= λ s. Ok (entries_in text s)) >>= λ es. Ok (tokens_from text 0 es)) ≡ Ok ts → AreTokens text ts
told text (Ok s) ts h e = let same : tokens_from text 0 (entries_in text s) ≡ ts = cc in subst (AreTokens text) same h
told text (Err f) ts h e = absurd cc

-- what is read of a text are its tokens
pub tokens_found : (text : List ℕ) (ts : List TokenText) → placed_tokens text ≡ Ok ts → AreTokens text ts
tokens_found text ts e =
    told text (split_of text) ts (if_ok _ (Tells text) (split_of text) (text_walked text) (walked_tells text)) (sym (tokens_split text) ∙ e)

-- the tokens of a text are read
pub tokens_read : (text : List ℕ) (ts : List TokenText) → AreTokens text ts → placed_tokens text ≡ Ok ts
tokens_read text ts h =
    let same = pieces_once h.0 None text h.1 in
    let balanced = subst (AreBalanced []) (sym same.pieces) h.2 in
    let r : IsRead (split_of text) = rw same.at_end (balanced_read [] (lexed text).pieces 0 balanced) in
    let walk : IsWalked text (lexed text).open_quote [] 0 false (pieces_of (lexed text)) r.0 =
    subst (λ (x : Result Split ShapeFault). IfOk x (IsWalked text (lexed text).open_quote [] 0 false (pieces_of (lexed text)))) r.1 (text_walked text) in
    let here : tokens_from text 0 (entries_in text r.0) ≡ ts =
    entry_first text (white_first text) 0 r.0.first r.0.others ∙ sym walk.tokens ∙ ap (tokens_behind [] 0 false) same.pieces ∙ sym h.3 in
    tokens_split text ∙ ap (λ (x : Result Split ShapeFault). (x >>= λ s. Ok (entries_in text s)) >>= λ es. Ok (tokens_from text 0 es)) r.1
    ∙ ap (λ (x : List TokenText). Ok x) here

-- a text with tokens has no fault
pub tokens_or_memory : (text : List ℕ) (fault : ShapeFault) (ts : List TokenText) → RefusesAt fault (placed_tokens text) → AreTokens text ts → Refuses {Y = List TokenText} (on_line text fault) (Ok ts)
tokens_or_memory text (shapes.ParenOpen left) ts r h = absurd (let no = sym r ∙ tokens_read text ts h in cc)
tokens_or_memory text (shapes.ParenClose left) ts r h = absurd (let no = sym r ∙ tokens_read text ts h in cc)
tokens_or_memory text (shapes.QuoteOpen left) ts r h = absurd (let no = sym r ∙ tokens_read text ts h in cc)
tokens_or_memory text shapes.NoMemory ts r h = tt
