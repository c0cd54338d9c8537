-- No entry that is read is blank.
use Rattle.std.proofs.Common.{◌≡◌, ℕ, ◌<◌, eqb, Bool, List, [], ◌∷◌, length, Option, Some, None, Result, Ok, Err, subst, arith}
use Rattle.std.proofs.lemmas.Bool.{cond_both}
use Rattle.std.specs.Prelude.{IfOk}
use Rattle.std.specs.List.{AllByRecursion}
use Rattle.dns_master.specs.declared.shape.ShapeFault.{ShapeFault}
use Rattle.dns_master.specs.Pieces.{Piece, LineEnd, White, Comment, Open, Close, Quoted, Plain, Placed, lexed}
use Rattle.dns_master.specs.Entries.{◌>>=◌, Found, Entry, Split, with_entry, end_of, begins_white, ended, at_piece, split, from, white_first, entries}

-- each of these entries has an item
abbrev pub AreFilled : List Entry → Type 0
AreFilled es = AllByRecursion (λ e. 0 < length e.items) es

abbrev OthersFilled : Split → Type 0
OthersFilled s = AreFilled s.others

with_entry_filled : (white : Bool) (founds : List Found) (es : List Entry) → AreFilled es → AreFilled (with_entry white founds es)
with_entry_filled white [] es h = h
with_entry_filled white (f ∷ fs) es h = (omega arith, h)

bound : {X Y : Type 0} (P : X → Type 0) (Q : Y → Type 0) (r : Result X ShapeFault) (f : X → Y) → IfOk r P → ((x : X) → P x → Q (f x)) → IfOk (r >>= λ x. Ok (f x)) Q
bound P Q (Ok x) f h k = k x h
bound P Q (Err e) f h k = tt

piece_filled : (p : Piece) (left d u : ℕ) (white : Bool) (more : ℕ → ℕ → Result Split ShapeFault) → ((e v : ℕ) → IfOk (more e v) OthersFilled) → IfOk (at_piece p left d u white more) OthersFilled
piece_filled LineEnd left d u white more h =
    cond_both (eqb d 0) (more 0 u >>= λ s. Ok (end_of white s)) (more d u) (λ (r : Result Split ShapeFault). IfOk r OthersFilled)
    (λ _. bound OthersFilled OthersFilled (more 0 u) (end_of white) (h 0 u) (λ s b. with_entry_filled white s.first s.others b)) (λ _. h d u)
piece_filled (White o) left d u white more h = h d u
piece_filled (Comment t) left d u white more h = h d u
piece_filled Open left d u white more h = h _ _
piece_filled Close left d u white more h = cond_both (eqb d 0) _ (more _ u) (λ (r : Result Split ShapeFault). IfOk r OthersFilled) (λ _. tt) (λ _. h _ u)
piece_filled (Quoted raw) left d u white more h = bound OthersFilled OthersFilled (more d u) _ (h d u) (λ s b. b)
piece_filled (Plain raw) left d u white more h = bound OthersFilled OthersFilled (more d u) _ (h d u) (λ s b. b)

ended_filled : (open_quote : Option ℕ) (d u : ℕ) → IfOk (ended open_quote d u) OthersFilled
ended_filled (Some left) d u = tt
ended_filled None d u = cond_both (eqb d 0) (Ok (record { first = []; others = [] })) _ (λ (r : Result Split ShapeFault). IfOk r OthersFilled) (λ _. tt) (λ _. tt)

split_filled : (open_quote : Option ℕ) (ps : List Placed) (d u : ℕ) → IfOk (split open_quote ps d u) OthersFilled
unfolding split
split_filled open_quote [] d u = ended_filled open_quote d u
split_filled open_quote (p ∷ ps) d u = piece_filled p.piece p.left d u (begins_white ps) (split open_quote ps) (λ e v. split_filled open_quote ps e v)

ok_of : {X : Type 0} (P : X → Type 0) (r : Result X ShapeFault) (x : X) → IfOk r P → r ≡ Ok x → P x
ok_of P (Ok y) x h e = let same : y ≡ x = cc in subst P same h
ok_of P (Err f) x h e = absurd cc

pub entries_filled : (text : List ℕ) (es : List Entry) → entries text ≡ Ok es → AreFilled es
entries_filled text es e =
    ok_of AreFilled (entries text) es
    (bound OthersFilled AreFilled (from 0 0 text) (λ s. with_entry (white_first text) s.first s.others) (split_filled (lexed text).open_quote (lexed text).pieces 0 0)
    (λ s b. with_entry_filled (white_first text) s.first s.others b)) e
