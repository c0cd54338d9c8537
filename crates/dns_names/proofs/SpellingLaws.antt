-- Texts cut at their dots: the pieces are spelled by the text, and the pieces that a text spells are cut from it.
use Rattle.std.proofs.Common.{◌≡◌, ℕ, zero, suc, ◌<◌, ◌≤◌, ◌⊎◌, inl, inr, List, [], ◌∷◌, ◌++◌, length, Result, Ok, Err, refl, sym, ap, subst, ◌∙◌, append_assoc, append-nil, arith}
use Rattle.std.specs.Char.{to_ascii_lowercase}
use Rattle.dns_names.specs.declared.name_fault.NameFault.{NameFault}
use Rattle.dns_names.specs.declared.symbol.Symbol.{Symbol}
use Rattle.dns_names.specs.declared.symbol.Symbol.TheVariants.{Dot, Octet}
use Rattle.dns_names.specs.Spelling.{SpellsOctet, SpellsLabel, SpellsLabels}
use Rattle.dns_names.specs.Reading.{◌>>=◌, symbol_at, symbols_within, symbols, Pieces, before_first, pieces, cut}
use Rattle.dns_names.proofs.SymbolLaws.{IsBytes, IsByteSymbol, SpellsSymbol, Spelled-some, bind_ok, ok_is, symbol_splits, symbol_shortens, symbol_bytes, symbol_again, symbols_cons, symbols_fails}

-- pieces by their parts
abbrev pub made : List (List ℕ) → List ℕ → Pieces
made ended last = record { ended = ended; last = last }

-- a symbol put before pieces
abbrev pub with_symbol : Symbol → Pieces → Pieces
with_symbol Dot p = made ([] ∷ p.ended) p.last
with_symbol (Octet octet) p = before_first (to_ascii_lowercase octet) p.ended p.last

-- the pieces of symbols, by the first
pub pieces_cons : (s : Symbol) (rest : List Symbol) → pieces (s ∷ rest) ≡ with_symbol s (pieces rest)
pieces_cons Dot rest = refl
pieces_cons (Octet octet) rest = refl

-- a step failed or did not
result_cases : {A : Type 0} (r : Result A NameFault) → ((x : A) × (r ≡ Ok x)) ⊎ ((f : NameFault) × (r ≡ Err f))
result_cases (Ok x) = inl (x, refl)
result_cases (Err f) = inr (f, refl)

-- ---- cutting, symbol by symbol

-- nothing, and a dot alone
pub cut_nil : cut [] ≡ Ok (made [] [])
unfolding symbols_within
cut_nil = refl

pub cut_dot_alone : cut (46 ∷ []) ≡ Ok (made ([] ∷ []) [])
unfolding symbols_within
cut_dot_alone = refl

-- pieces of what stands after the first symbol give those of the text
pub cut_cons : (octet : ℕ) (rest : List ℕ) (s : Symbol) (after : List ℕ) (p : Pieces) → symbol_at (octet ∷ rest) ≡ Ok (s, after) → cut after ≡ Ok p → cut (octet ∷ rest) ≡ Ok (with_symbol s p)
cut_cons octet rest s after p e h =
    let b = bind_ok (symbols after) (λ all. Ok (pieces all)) p h in
    let all : symbols (octet ∷ rest) ≡ Ok (s ∷ b.0) = symbols_cons octet rest s after e ∙ ap (λ (r : Result (List Symbol) NameFault). r >>= λ others. Ok (s ∷ others)) b.1 in
    let made_of : pieces (s ∷ b.0) ≡ with_symbol s p = pieces_cons s b.0 ∙ ap (with_symbol s) (ok_is (pieces b.0) p b.2) in
    ap (λ (r : Result (List Symbol) NameFault). r >>= λ all. Ok (pieces all)) all ∙ ap (λ (q : Pieces). Ok q) made_of

-- a text that was cut, by its first symbol and what stands after it
pub record CutFirst (octet : ℕ) (rest : List ℕ) (p : Pieces) : Type 0 where
  pub first : Symbol
  pub after : List ℕ
  pub others : Pieces
  pub read : symbol_at (octet ∷ rest) ≡ Ok (first, after)
  pub cut_after : cut after ≡ Ok others
  pub whole : with_symbol first others ≡ p

-- the first symbol of a text that was cut
cut_after_symbol : (octet : ℕ) (rest : List ℕ) (s : Symbol) (after : List ℕ) (p : Pieces) → symbol_at (octet ∷ rest) ≡ Ok (s, after) → cut (octet ∷ rest) ≡ Ok p → CutFirst octet rest p
cut_after_symbol octet rest s after p e h =
    let b = bind_ok (symbols (octet ∷ rest)) (λ all. Ok (pieces all)) p h in
    let o = bind_ok (symbols after) (λ others. Ok (s ∷ others)) b.0 (sym (symbols_cons octet rest s after e) ∙ b.1) in
    record {
      first = s;
      after = after;
      others = pieces o.0;
      read = e;
      cut_after = ap (λ (r : Result (List Symbol) NameFault). r >>= λ all. Ok (pieces all)) o.1;
      whole = sym (pieces_cons s o.0) ∙ ap pieces (ok_is (s ∷ o.0) b.0 o.2) ∙ ok_is (pieces b.0) p b.2;
    }

-- a text that was cut has a first symbol
pub cut_first : (octet : ℕ) (rest : List ℕ) (p : Pieces) → cut (octet ∷ rest) ≡ Ok p → CutFirst octet rest p
cut_first octet rest p h =
    elim (result_cases (symbol_at (octet ∷ rest))) [
      | inl x ↦ cut_after_symbol octet rest x.0.0 x.0.1 p x.1 h
      | inr f ↦ absurd (let e : Err f.0 ≡ Ok p = ap (λ (r : Result (List Symbol) NameFault). r >>= λ all. Ok (pieces all)) (sym (symbols_fails octet rest f.0 f.1)) ∙ h in cc)
    ]

-- ---- what is cut is spelled

pub record SpellsPieces (p : Pieces) (text : List ℕ) : Type 0 where
  pub front : List ℕ
  pub back : List ℕ
  pub parts : text ≡ front ++ back
  pub labels : SpellsLabels p.ended front
  pub last : SpellsLabel p.last back

-- a dot before what spells pieces
dot_spells : (p : Pieces) (text : List ℕ) → SpellsPieces p text → SpellsPieces (with_symbol Dot p) (46 ∷ text)
dot_spells p text h = record {
  front = 46 ∷ h.front;
  back = h.back;
  parts = ap (λ (t : List ℕ). 46 ∷ t) h.parts;
  labels = ([], h.front, refl, refl, h.labels);
  last = h.last;
}

-- an octet before it
octet_spells : (octet : ℕ) (here text : List ℕ) (ended : List (List ℕ)) (last : List ℕ) → octet < 256 → SpellsOctet octet here → SpellsPieces (made ended last) text → SpellsPieces (before_first (to_ascii_lowercase octet) ended last) (here ++ text)
octet_spells octet here text [] last byte spelled h = record {
  front = [];
  back = here ++ h.back;
  parts = ap (λ (t : List ℕ). here ++ t) (h.parts ∙ ap (λ (t : List ℕ). t ++ h.back) h.labels);
  labels = refl;
  last = (here, h.back, refl, (octet, byte, refl, spelled), h.last);
}
octet_spells octet here text (label ∷ labels) last byte spelled h = record {
  front = here ++ h.front;
  back = h.back;
  parts = ap (λ (t : List ℕ). here ++ t) h.parts ∙ sym (append_assoc here h.front h.back);
  labels = (here ++ h.labels.0, h.labels.1, ap (λ (t : List ℕ). here ++ t) h.labels.2 ∙ sym (append_assoc here h.labels.0 (46 ∷ h.labels.1)), (here, h.labels.0, refl, (octet, byte, refl, spelled), h.labels.3), h.labels.4);
  last = h.last;
}

-- a symbol before it
symbol_spells : (s : Symbol) (here text : List ℕ) (p : Pieces) → IsByteSymbol s → SpellsSymbol s here → SpellsPieces p text → SpellsPieces (with_symbol s p) (here ++ text)
symbol_spells Dot here text p byte spelled h = subst (λ (t : List ℕ). SpellsPieces (with_symbol Dot p) (t ++ text)) (sym spelled) (dot_spells p text h)
symbol_spells (Octet octet) here text p byte spelled h = octet_spells octet here text p.ended p.last byte spelled h

-- no octets spell no pieces
nothing_spells : SpellsPieces (made [] []) []
nothing_spells = record { front = []; back = []; parts = refl; labels = refl; last = refl }

-- by the number of octets
cut_spells_within : (n : ℕ) (text : List ℕ) (p : Pieces) → length text ≤ n → IsBytes text → cut text ≡ Ok p → SpellsPieces p text
cut_spells_within n [] p fuel bytes h = subst (λ (q : Pieces). SpellsPieces q []) (ok_is (made [] []) p (sym cut_nil ∙ h)) nothing_spells
cut_spells_within zero (octet ∷ rest) p fuel bytes h = absurd (omega arith)
cut_spells_within (suc n) (octet ∷ rest) p fuel bytes h =
    let c = cut_first octet rest p h in
    let s = symbol_splits octet rest (c.first, c.after) c.read in
    let b = symbol_bytes octet rest c.first c.after bytes c.read in
    let l = symbol_shortens octet rest c.first c.after c.read in
    let more = cut_spells_within n c.after c.others (omega arith) b.0 c.cut_after in
    let whole = symbol_spells c.first s.front c.after c.others b.1 s.spelled more in
    subst (λ (t : List ℕ). SpellsPieces p t) (sym s.parts) (subst (λ (q : Pieces). SpellsPieces q (s.front ++ c.after)) c.whole whole)

-- the pieces that are cut from octets are spelled by them
pub cut_spells : (text : List ℕ) (p : Pieces) → IsBytes text → cut text ≡ Ok p → SpellsPieces p text
cut_spells text p bytes h = cut_spells_within (length text) text p (omega arith) bytes h

-- ---- what is spelled is cut

-- a symbol before what is cut
cut_symbol : (s : Symbol) (here rest : List ℕ) (p : Pieces) → SpellsSymbol s here → cut rest ≡ Ok p → cut (here ++ rest) ≡ Ok (with_symbol s p)
cut_symbol s [] rest p spelled h = let some = Spelled-some s [] spelled in absurd (omega arith)
cut_symbol s (octet ∷ here) rest p spelled h = cut_cons octet (here ++ rest) s rest p (symbol_again s (octet ∷ here) rest spelled) h

-- the octets of a label before a piece that a dot ends
cut_label : (label front rest first : List ℕ) (ended : List (List ℕ)) (last : List ℕ) → SpellsLabel label front → cut rest ≡ Ok (made (first ∷ ended) last) → cut (front ++ rest) ≡ Ok (made ((label ++ first) ∷ ended) last)
cut_label [] front rest first ended last e h = rw e h
cut_label (octet ∷ octets) front rest first ended last (here, there, parts, (raw, byte, folded, spelled), more) h =
    let others = cut_label octets there rest first ended last more h in
    let step = cut_symbol (Octet raw) here (there ++ rest) (made ((octets ++ first) ∷ ended) last) spelled others in
    ap (λ (t : List ℕ). cut (t ++ rest)) parts ∙ ap cut (append_assoc here there rest) ∙ step ∙ ap (λ (o : ℕ). Ok (made ((o ∷ octets ++ first) ∷ ended) last)) folded

-- the octets of a label at the end
cut_last : (label front rest first : List ℕ) → SpellsLabel label front → cut rest ≡ Ok (made [] first) → cut (front ++ rest) ≡ Ok (made [] (label ++ first))
cut_last [] front rest first e h = rw e h
cut_last (octet ∷ octets) front rest first (here, there, parts, (raw, byte, folded, spelled), more) h =
    let others = cut_last octets there rest first more h in
    let step = cut_symbol (Octet raw) here (there ++ rest) (made [] (octets ++ first)) spelled others in
    ap (λ (t : List ℕ). cut (t ++ rest)) parts ∙ ap cut (append_assoc here there rest) ∙ step ∙ ap (λ (o : ℕ). Ok (made [] (o ∷ octets ++ first))) folded

-- labels with their dots before pieces
cut_labels : (labels : List (List ℕ)) (front rest : List ℕ) (ended : List (List ℕ)) (last : List ℕ) → SpellsLabels labels front → cut rest ≡ Ok (made ended last) → cut (front ++ rest) ≡ Ok (made (labels ++ ended) last)
cut_labels [] front rest ended last e h = rw e h
cut_labels (label ∷ labels) front rest ended last (here, there, parts, spelled, more) h =
    let others = cut_labels labels there rest ended last more h in
    let dot = cut_symbol Dot (46 ∷ []) (there ++ rest) (made (labels ++ ended) last) refl others in
    let step = cut_label label here (46 ∷ (there ++ rest)) [] (labels ++ ended) last spelled dot in
    ap (λ (t : List ℕ). cut (t ++ rest)) parts ∙ ap cut (append_assoc here (46 ∷ there) rest) ∙ step ∙ ap (λ (l : List ℕ). Ok (made (l ∷ labels ++ ended) last)) (append-nil label)

-- a text that spells labels and a last one is cut into them
pub cut_spelled : (labels : List (List ℕ)) (last front back : List ℕ) → SpellsLabels labels front → SpellsLabel last back → cut (front ++ back) ≡ Ok (made labels last)
cut_spelled labels last front back h k =
    let end : cut back ≡ Ok (made [] last) = ap cut (sym (append-nil back)) ∙ cut_last last back [] [] k cut_nil ∙ ap (λ (l : List ℕ). Ok (made [] l)) (append-nil last) in
    cut_labels labels front back [] last h end ∙ ap (λ (ls : List (List ℕ)). Ok (made ls last)) (append-nil labels)
