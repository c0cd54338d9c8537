-- A text has one list of pieces: the one that is read.
use Rattle.std.proofs.Common.{◌≡◌, ℕ, suc, Bool, true, false, eqb, List, [], ◌∷◌, ◌++◌, length, take, drop, map, Option, Some, None, refl, sym, ap, ◌∙◌, append_assoc, ne_eqb}
use Rattle.std.proofs.lemmas.List.{append-nil}
use Rattle.std.specs.List.{AllByRecursion}
use Rattle.dns_master.specs.Pieces.{Piece, LineEnd, White, Comment, Open, Close, Quoted, Plain, Lexed, scan, line_len, ends_item, is_quote, is_white, piece_at, lexed}
use Rattle.dns_master.specs.Grammar.{Runs, taken_behind, Ends, EndsLine, spelled, Stands, Rests, ArePieces}
use Rattle.dns_master.proofs.EntryLemmas.{then_lexed, lexed_step, lexed_open, lexed_none}

-- ---- fronts

pub front_taken : (front after : List ℕ) → take (length front) (front ++ after) ≡ front
front_taken [] after = refl
front_taken (o ∷ front) after = ap (λ (t : List ℕ). o ∷ t) (front_taken front after)

pub front_dropped : (front after : List ℕ) → drop (length front) (front ++ after) ≡ after
front_dropped [] after = refl
front_dropped (o ∷ front) after = front_dropped front after

-- ---- a scan goes as far as a run

module _ (stops : ℕ → Bool) where
  pub scan_run : (taken : Bool) (raw after : List ℕ) → Runs stops taken raw → Ends stops (taken_behind taken raw) after → scan stops taken (raw ++ after) ≡ length raw
  scan_run true [] [] h e = refl
  scan_run false [] [] h e = refl
  scan_run true [] (o ∷ after) h e = absurd (let no = e.0 in cc)
  scan_run false [] (o ∷ after) h e = rw e.1 refl
  scan_run true (o ∷ raw) after h e = ap (λ (n : ℕ). suc n) (scan_run false raw after h e)
  scan_run false (o ∷ raw) after h e = rw h.0 (ap (λ (n : ℕ). suc n) (scan_run (eqb o 92) raw after h.1 e))

  -- a body that nothing stops goes to the end
  pub scan_all : (taken : Bool) (body : List ℕ) → Runs stops taken body → scan stops taken body ≡ length body
  scan_all true [] h = refl
  scan_all false [] h = refl
  scan_all true (o ∷ body) h = ap (λ (n : ℕ). suc n) (scan_all false body h)
  scan_all false (o ∷ body) h = rw h.0 (ap (λ (n : ℕ). suc n) (scan_all (eqb o 92) body h.1))

line_run : (text after : List ℕ) → AllByRecursion (λ o. eqb o 10 ≡ false) text → EndsLine after → line_len (text ++ after) ≡ length text
line_run [] [] h e = refl
line_run [] (o ∷ after) h e = rw e refl
line_run (o ∷ text) after h e = rw h.0 (ap (λ (n : ℕ). suc n) (line_run text after h.1 e))

-- ---- one piece

apart : (o m : ℕ) → ends_item m ≡ true → ends_item o ≡ false → o ≡ m → ⊥
apart o m e h same = let a : ends_item o ≡ true = ap ends_item same ∙ e in cc

white_piece : (o : ℕ) (after : List ℕ) → is_white o ≡ true → piece_at o after ≡ Some (White o, after)
white_piece o after h =
    let n10 : o ≡ 10 → ⊥ = λ e. (let a : is_white 10 ≡ true = ap is_white (sym e) ∙ h in cc) in
    rw (ne_eqb o 10 n10, h) refl

-- a piece that stands before a text is the one that is read there
pub piece_read : (p : Piece) (after : List ℕ) → Stands p after → (o : ℕ) × (rest : List ℕ) × (spelled p ++ after ≡ o ∷ rest) × (piece_at o rest ≡ Some (p, after))
piece_read LineEnd after h = (10, after, refl, refl)
piece_read (White o) after h = (o, after, refl, white_piece o after h)
piece_read (Comment text) after h =
    let n = line_run text after h.0 h.1 in
    (59, text ++ after, refl, rw (n, front_taken text after, front_dropped text after) refl)
piece_read Open after h = (40, after, refl, refl)
piece_read Close after h = (41, after, refl, refl)
piece_read (Quoted raw) after h =
    let e : (raw ++ 34 ∷ []) ++ after ≡ raw ++ 34 ∷ after = append_assoc raw (34 ∷ []) after in
    let n = scan_run is_quote false raw (34 ∷ after) h.0 (h.1, refl) in
    (34, raw ++ 34 ∷ after, ap (λ (t : List ℕ). 34 ∷ t) e, rw (n, front_taken raw (34 ∷ after), front_dropped raw (34 ∷ after)) refl)
piece_read (Plain []) after h = absurd h
piece_read (Plain (o ∷ raw)) after h =
    let s : ends_item o ≡ false = h.0.0 in
    let n = scan_run ends_item (eqb o 92) raw after h.0.1 h.1 in (
      o,
      raw ++ after,
      refl,
      rw (ne_eqb o 10 (apart o 10 refl s), ne_eqb o 32 (apart o 32 refl s), ne_eqb o 9 (apart o 9 refl s), ne_eqb o 13 (apart o 13 refl s), ne_eqb o 59 (apart o 59 refl s), ne_eqb o 40 (apart o 40 refl s), ne_eqb o 41 (apart o 41 refl s), ne_eqb o 34 (apart o 34 refl s), n, front_taken raw after, front_dropped raw after) refl,
    )

-- ---- all pieces

abbrev pub pieces_of : Lexed → List Piece
pieces_of l = map (λ p. p.piece) l.pieces

-- what is read of a text with these pieces
pub record IsRead (ps : List Piece) (open_quote : Option ℕ) (l : Lexed) : Type 0 where
  pub pieces : pieces_of l ≡ ps
  pub at_end : l.open_quote ≡ open_quote

rest_read : (open_quote : Option ℕ) (text : List ℕ) → Rests open_quote text → IsRead [] open_quote (lexed text)
rest_read None text e = rw (e, lexed_none) (record { pieces = refl; at_end = refl })
rest_read (Some left) text h =
    let body = h.0 in
    let n = scan_all is_quote false body h.2 in
    let d : drop (length body) body ≡ [] = sym (ap (λ (t : List ℕ). drop (length body) t) (append-nil body)) ∙ front_dropped body [] in
    let p : piece_at 34 body ≡ None = rw (n, d) refl in
    let l = lexed_open 34 body p in
    let size : suc (length body) ≡ left = sym (h.3 ∙ ap length h.1) in
    rw (h.1, l) (record { pieces = refl; at_end = ap (λ (m : ℕ). Some m) size })

-- a text has at most one list of pieces, the one that is read
pub pieces_once : (ps : List Piece) (open_quote : Option ℕ) (text : List ℕ) → ArePieces ps open_quote text → IsRead ps open_quote (lexed text)
pieces_once [] open_quote text h = rest_read open_quote text h
pieces_once (p ∷ ps) open_quote text h =
    let r = piece_read p h.0 h.2 in
    let more = pieces_once ps open_quote h.0 h.3 in
    let l = lexed_step r.0 r.1 p h.0 r.3 in
    let e : lexed text ≡ then_lexed (suc (length r.1)) p (lexed h.0) = ap lexed (h.1 ∙ r.2) ∙ l in
    rw e (record { pieces = ap (λ (qs : List Piece). p ∷ qs) more.pieces; at_end = more.at_end })
