-- What the octet at the front of a text does, at any depth.
use Rattle.std.proofs.Common.{◌≡◌, ℕ, suc, ◌+◌, ◌-◌, Bool, false, eqb, List, [], ◌∷◌, length, take, drop, Option, Some, None, Result, Ok, Err, refl, sym, ap, ◌∙◌, arith, length-drop, length-take-le, ne_eqb}
use Rattle.dns_data.specs.Items.{plain, in_quotes}
use Rattle.dns_master.specs.declared.shape.ShapeFault.{ShapeFault}
use Rattle.dns_master.specs.declared.shape.ShapeFault.TheVariants.{ParenOpen, ParenClose, QuoteOpen}
use Rattle.dns_master.specs.Pieces.{Piece, LineEnd, White, Comment, Open, Close, Quoted, Plain, Placed, scan, line_len, ends_item, is_quote, piece_at, lexed}
use Rattle.dns_master.specs.Entries.{◌>>=◌, Split, add, end_of, begins_white, ended, at_piece, split, from, white_first}
use Rattle.dns_master.proofs.ScanLemmas.{scan_within}
use Rattle.dns_master.proofs.EntryLemmas.{from_step, from_open_quote, from_end, white_begins}

-- ---- at depth 0 the outermost parenthesis says nothing

outer_piece : (p : Piece) (left u : ℕ) (white : Bool) (more : ℕ → ℕ → Result Split ShapeFault) → more 0 u ≡ more 0 0 → at_piece p left 0 u white more ≡ at_piece p left 0 0 white more
outer_piece LineEnd left u white more h = ap (λ (r : Result Split ShapeFault). r >>= λ s. Ok (end_of white s)) h
outer_piece (White o) left u white more h = h
outer_piece (Comment text) left u white more h = h
outer_piece Open left u white more h = refl
outer_piece Close left u white more h = refl
outer_piece (Quoted raw) left u white more h = ap (λ (r : Result Split ShapeFault). r >>= λ s. Ok (add (record { item = in_quotes raw; left = left - 1 }) s)) h
outer_piece (Plain raw) left u white more h = ap (λ (r : Result Split ShapeFault). r >>= λ s. Ok (add (record { item = plain raw; left = left }) s)) h

outer_end : (open_quote : Option ℕ) (u : ℕ) → ended open_quote 0 u ≡ ended open_quote 0 0
outer_end None u = refl
outer_end (Some left) u = refl

outer_split : (open_quote : Option ℕ) (ps : List Placed) (u : ℕ) → split open_quote ps 0 u ≡ split open_quote ps 0 0
unfolding split
outer_split open_quote [] u = outer_end open_quote u
outer_split open_quote (p ∷ ps) u = outer_piece p.piece p.left u (begins_white ps) (split open_quote ps) (outer_split open_quote ps u)

pub zero_outer : (u : ℕ) (text : List ℕ) → from 0 u text ≡ from 0 0 text
zero_outer u text = outer_split _ _ u

-- ---- one octet

module _ (text after : List ℕ) (o d u : ℕ) (e : text ≡ o ∷ after) where
  step : (p : Piece) (rest : List ℕ) → piece_at o after ≡ Some (p, rest) → from d u text ≡ at_piece p (suc (length after)) d u (begins_white (lexed rest).pieces) (λ x y. from x y rest)
  step p rest h = ap (from d u) e ∙ from_step o after p rest d u h

  all : length text ≡ suc (length after)
  all = ap length e

  pub at_line : o ≡ 10 → (d ≡ 0 → ⊥) → from d u text ≡ from d u after
  at_line h k =
      let s = step LineEnd after (rw h refl) in
      s ∙ rw (ne_eqb d 0 k) refl

  pub at_entry_end : o ≡ 10 → d ≡ 0 → from d u text ≡ (from 0 0 after >>= λ s. Ok (end_of (white_first after) s))
  at_entry_end h k =
      let s = step LineEnd after (rw h refl) in
      let t : at_piece LineEnd (suc (length after)) d u (begins_white (lexed after).pieces) (λ x y. from x y after) ≡ (from 0 u after >>= λ s. Ok (end_of (begins_white (lexed after).pieces) s)) = rw k refl in
      s ∙ t ∙ ap (λ (r : Result Split ShapeFault). r >>= λ s. Ok (end_of (begins_white (lexed after).pieces) s)) (zero_outer u after)
      ∙ ap (λ (w : Bool). from 0 0 after >>= λ s. Ok (end_of w s)) (white_begins after)

  pub at_space : o ≡ 32 → from d u text ≡ from d u after
  at_space h = step (White 32) after (rw h refl)

  pub at_tab : o ≡ 9 → from d u text ≡ from d u after
  at_tab h = step (White 9) after (rw h refl)

  pub at_return : o ≡ 13 → from d u text ≡ from d u after
  at_return h = step (White 13) after (rw h refl)

  pub at_comment : o ≡ 59 → from d u text ≡ from d u (drop (line_len after) after)
  at_comment h = step (Comment (take (line_len after) after)) (drop (line_len after) after) (rw h refl)

  pub at_first_open : o ≡ 40 → d ≡ 0 → from d u text ≡ from 1 (length text) after
  at_first_open h k =
      let t : at_piece Open (suc (length after)) d u (begins_white (lexed after).pieces) (λ x y. from x y after) ≡ from 1 (suc (length after)) after = rw k refl in
      step Open after (rw h refl) ∙ t ∙ ap (λ (n : ℕ). from 1 n after) (sym all)

  pub at_open : o ≡ 40 → (d ≡ 0 → ⊥) → from d u text ≡ from (d + 1) u after
  at_open h k =
      let t : at_piece Open (suc (length after)) d u (begins_white (lexed after).pieces) (λ x y. from x y after) ≡ from (suc d) u after = rw (ne_eqb d 0 k) refl in
      let one : suc d ≡ d + 1 = omega arith in
      step Open after (rw h refl) ∙ t ∙ ap (λ (n : ℕ). from n u after) one

  pub at_last_close : o ≡ 41 → d ≡ 0 → from d u text ≡ Err (ParenClose (length text))
  at_last_close h k =
      let t : at_piece Close (suc (length after)) d u (begins_white (lexed after).pieces) (λ x y. from x y after) ≡ Err (ParenClose (suc (length after))) = rw k refl in
      step Close after (rw h refl) ∙ t ∙ ap (λ (n : ℕ). Err (ParenClose n)) (sym all)

  pub at_close : o ≡ 41 → (d ≡ 0 → ⊥) → from d u text ≡ from (d - 1) u after
  at_close h k =
      let t : at_piece Close (suc (length after)) d u (begins_white (lexed after).pieces) (λ x y. from x y after) ≡ from (d - 1) u after = rw (ne_eqb d 0 k) refl in
      step Close after (rw h refl) ∙ t

  -- an item in quotes
  pub at_quoted : o ≡ 34 → (n q : ℕ) (raw end further : List ℕ) → n ≡ scan is_quote false after → raw ≡ take n after → end ≡ drop n after → end ≡ q ∷ further
      → from d u text ≡ (from d u further >>= λ s. Ok (add (record { item = in_quotes raw; left = suc (length raw + length further) }) s))
  at_quoted h n q raw end further count front back closed =
      let rest : drop (scan is_quote false after) after ≡ q ∷ further = ap (λ (k : ℕ). drop k after) (sym count) ∙ sym back ∙ closed in
      let raw_is : take (scan is_quote false after) after ≡ raw = ap (λ (k : ℕ). take k after) (sym count) ∙ sym front in
      let p : piece_at o after ≡ Some (Quoted raw, further) = rw h (rw (rest, raw_is) refl) in
      let within = scan_within is_quote false after in
      let left : suc (length after) - 1 ≡ suc (length raw + length further) =
      omega (arith, within, ap length raw_is, ap length rest, length-drop (scan is_quote false after) after, length-take-le (scan is_quote false after) after within) in
      step (Quoted raw) further p ∙ ap (λ (k : ℕ). from d u further >>= λ s. Ok (add (record { item = in_quotes raw; left = k }) s)) left

  pub at_open_quote : o ≡ 34 → (n : ℕ) (end : List ℕ) → n ≡ scan is_quote false after → end ≡ drop n after → end ≡ [] → from d u text ≡ Err (QuoteOpen (length text))
  at_open_quote h n end count back closed =
      let rest : drop (scan is_quote false after) after ≡ [] = ap (λ (k : ℕ). drop k after) (sym count) ∙ sym back ∙ closed in
      let p : piece_at o after ≡ None = rw h (rw rest refl) in
      ap (from d u) e ∙ from_open_quote o after d u p ∙ ap (λ (k : ℕ). Err (QuoteOpen k)) (sym all)

  -- an unquoted item
  pub at_plain : (o ≡ 10 → ⊥) → (o ≡ 32 → ⊥) → (o ≡ 9 → ⊥) → (o ≡ 13 → ⊥) → (o ≡ 59 → ⊥) → (o ≡ 40 → ⊥) → (o ≡ 41 → ⊥) → (o ≡ 34 → ⊥)
      → (n : ℕ) (raw end : List ℕ) → n ≡ scan ends_item false text → raw ≡ take n text → end ≡ drop n text
      → from d u text ≡ (from d u end >>= λ s. Ok (add (record { item = plain raw; left = length raw + length end }) s))
  at_plain n10 n32 n9 n13 n59 n40 n41 n34 n raw end count front back =
      let k = scan ends_item (eqb o 92) after in
      let one : scan ends_item false (o ∷ after) ≡ suc k = rw (ne_eqb o 10 n10, ne_eqb o 32 n32, ne_eqb o 9 n9, ne_eqb o 13 n13, ne_eqb o 59 n59, ne_eqb o 40 n40, ne_eqb o 41 n41, ne_eqb o 34 n34) refl in
      let p : piece_at o after ≡ Some (Plain (o ∷ take k after), drop k after) = rw (ne_eqb o 10 n10, ne_eqb o 32 n32, ne_eqb o 9 n9, ne_eqb o 13 n13, ne_eqb o 59 n59, ne_eqb o 40 n40, ne_eqb o 41 n41, ne_eqb o 34 n34) refl in
      let size : n ≡ suc k = count ∙ ap (scan ends_item false) e ∙ one in
      let raw_is : raw ≡ o ∷ take k after = rw (front, size, e) refl in
      let end_is : end ≡ drop k after = rw (back, size, e) refl in
      let within = scan_within ends_item (eqb o 92) after in
      let left : suc (length after) ≡ length raw + length end = omega (arith, within, ap length raw_is, ap length end_is, length-drop k after, length-take-le k after within) in
      step (Plain (o ∷ take k after)) (drop k after) p
      ∙ ap (λ (m : ℕ). from d u (drop k after) >>= λ s. Ok (add (record { item = plain (o ∷ take k after); left = m }) s)) left
      ∙ ap (λ (r : List ℕ). from d u (drop k after) >>= λ s. Ok (add (record { item = plain r; left = length raw + length end }) s)) (sym raw_is)
      ∙ ap (λ (t : List ℕ). from d u t >>= λ s. Ok (add (record { item = plain raw; left = length raw + length end }) s)) (sym end_is)

-- ---- the end of a text

pub at_end : (text : List ℕ) (d u : ℕ) → text ≡ [] → d ≡ 0 → from d u text ≡ (from 0 0 text >>= λ s. Ok (end_of (white_first text) s))
at_end text d u e k =
    let here : from d u text ≡ Ok (record { first = []; others = [] }) = rw (e, k) (from_end 0 u) in
    let base : (from 0 0 text >>= λ s. Ok (end_of (white_first text) s)) ≡ Ok (record { first = []; others = [] }) = rw e (ap (λ (r : Result Split ShapeFault). r >>= λ s. Ok (end_of false s)) (from_end 0 0)) in
    here ∙ sym base

pub at_end_inside : (text : List ℕ) (d u : ℕ) → text ≡ [] → (d ≡ 0 → ⊥) → from d u text ≡ Err (ParenOpen u)
at_end_inside text d u e k = rw e (from_end d u ∙ rw (ne_eqb d 0 k) refl)
