-- The depth that is carried is the depth that is counted.
use Rattle.std.proofs.Common.{◌≡◌, ℕ, zero, suc, ◌+◌, ◌-◌, Bool, false, eqb, List, [], ◌∷◌, ◌++◌, Option, Result, Ok, refl, ap, ◌∙◌, arith, ne_eqb}
use Rattle.dns_data.specs.Items.{plain, in_quotes}
use Rattle.dns_master.specs.declared.shape.ShapeFault.{ShapeFault}
use Rattle.dns_master.specs.Pieces.{Piece, LineEnd, White, Comment, Open, Close, Quoted, Plain, Placed, lexed}
use Rattle.dns_master.specs.Entries.{◌>>=◌, Split, add, end_of, ended, at_piece, begins_white, split, from}
use Rattle.dns_master.specs.Depth.{opens, closes, sum_of, depth_behind, split_behind}

pub sum_more : (count : Piece → ℕ) (front : List Piece) (p : Piece) → sum_of count (front ++ p ∷ []) ≡ sum_of count front + count p
sum_more count [] p = omega arith
sum_more count (q ∷ front) p = omega (arith, sum_more count front p)

-- this is the depth after these pieces, and it never fell below 0
abbrev IsDepth : List Piece → ℕ → Type 0
IsDepth front d = sum_of opens front ≡ sum_of closes front + d

depth_more : (front : List Piece) (p : Piece) (d n : ℕ) → IsDepth front d → d + opens p ≡ n + closes p → IsDepth (front ++ p ∷ []) n
depth_more front p d n h e = omega (arith, h, e, sum_more opens front p, sum_more closes front p)

module _ (left u : ℕ) (white : Bool) (more : ℕ → ℕ → Result Split ShapeFault) (next : ℕ → Result Split ShapeFault) where
  on_line : (d : ℕ) → ((v : ℕ) → more d v ≡ next v) → at_piece LineEnd left d u white more ≡ at_piece LineEnd left d u white (λ _ v. next v)
  on_line zero h = ap (λ (r : Result Split ShapeFault). r >>= λ s. Ok (end_of white s)) (h u)
  on_line (suc d) h = let above : eqb (suc d) 0 ≡ false = ne_eqb (suc d) 0 (λ e. omega arith) in rw above (h u)

  on_close : (d : ℕ) → ((n : ℕ) → suc n ≡ d → (v : ℕ) → more n v ≡ next v) → at_piece Close left d u white more ≡ at_piece Close left d u white (λ _ v. next v)
  on_close zero h = refl
  on_close (suc d) h = let above : eqb (suc d) 0 ≡ false = ne_eqb (suc d) 0 (λ e. omega arith) in rw above (h (suc d - 1) (omega arith) u)

  on_piece : (front : List Piece) (p : Piece) (d : ℕ) → IsDepth front d → ((n v : ℕ) → IsDepth (front ++ p ∷ []) n → more n v ≡ next v) → at_piece p left d u white more ≡ at_piece p left d u white (λ _ v. next v)
  on_piece front LineEnd d e h = on_line d (λ v. h d v (depth_more front LineEnd d d e refl))
  on_piece front (White o) d e h = h d u (depth_more front (White o) d d e refl)
  on_piece front (Comment t) d e h = h d u (depth_more front (Comment t) d d e refl)
  on_piece front Open d e h = h (suc d) _ (depth_more front Open d (suc d) e (omega arith))
  on_piece front Close d e h = on_close d (λ n is v. h n v (depth_more front Close d n e (omega (arith, is))))
  on_piece front (Quoted raw) d e h = ap (λ (r : Result Split ShapeFault). r >>= λ s. Ok (add (record { item = in_quotes raw; left = left - 1 }) s)) (h d u (depth_more front (Quoted raw) d d e refl))
  on_piece front (Plain raw) d e h = ap (λ (r : Result Split ShapeFault). r >>= λ s. Ok (add (record { item = plain raw; left = left }) s)) (h d u (depth_more front (Plain raw) d d e refl))

pub split_counts : (open_quote : Option ℕ) (front : List Piece) (ps : List Placed) (d u : ℕ) → IsDepth front d → split open_quote ps d u ≡ split_behind open_quote front ps u
unfolding split
split_counts open_quote front [] d u e = let same : d ≡ depth_behind front = omega (arith, e) in ap (λ (n : ℕ). ended open_quote n u) same
split_counts open_quote front (p ∷ ps) d u e =
    let same : d ≡ depth_behind front = omega (arith, e) in
    on_piece p.left u (begins_white ps) (split open_quote ps) (split_behind open_quote (front ++ p.piece ∷ []) ps) front p.piece d e (λ n v h. split_counts open_quote (front ++ p.piece ∷ []) ps n v h)
    ∙ ap (λ (n : ℕ). at_piece p.piece p.left n u (begins_white ps) (λ _ v. split_behind open_quote (front ++ p.piece ∷ []) ps v)) same

pub from_counts : (text : List ℕ) → from 0 0 text ≡ split_behind (lexed text).open_quote [] (lexed text).pieces 0
from_counts text = split_counts (lexed text).open_quote [] (lexed text).pieces 0 0 refl
