-- Cutting a text at its dots, one symbol after another.
use Rattle.std.proofs.Common.{◌≡◌, ℕ, ◌<◌, List, [], ◌∷◌, ◌++◌, length, Result, Ok, Err, refl, sym, ap, ◌∙◌, append_assoc, arith}
use Rattle.std.specs.List.{AllByRecursion}
use Rattle.std.specs.Char.{to_ascii_lowercase}
use Rattle.std.proofs.lemmas.List.{append-nil}
use Rattle.dns_names.specs.declared.name_fault.NameFault.{NameFault}
use Rattle.dns_names.specs.declared.name_fault.NameFault.TheVariants as faults
use Rattle.dns_names.specs.declared.symbol.Symbol.{Symbol}
use Rattle.dns_names.specs.declared.symbol.Symbol.TheVariants.{Dot, Octet}
use Rattle.dns_names.specs.Faults.{Refuses}
use Rattle.dns_names.specs.Reading.{◌>>=◌, Pieces, symbol_at, symbols_within, symbols, pieces, before_first, cut}
use Rattle.dns_names.proofs.SymbolLaws.{symbols_cons, symbols_fails, symbol_shortens}

-- the pieces before, the last of them still open, and those of the rest of the text
abbrev pub joined_at : List (List ℕ) → List ℕ → List (List ℕ) → List ℕ → Pieces
joined_at front open_label [] last = record { ended = front; last = open_label ++ last }
joined_at front open_label (label ∷ labels) last = record { ended = front ++ (open_label ++ label) ∷ labels; last = last }

abbrev pub joined : List (List ℕ) → List ℕ → List Symbol → Pieces
joined front open_label rest = joined_at front open_label (pieces rest).ended (pieces rest).last

-- what the text is cut into, where these are the pieces so far and this is the text that is left
abbrev pub continued : List (List ℕ) → List ℕ → List ℕ → Result Pieces NameFault
continued front open_label rest = symbols rest >>= λ more. Ok (joined front open_label more)

-- ---- an octet

join_octet : (front : List (List ℕ)) (open_label : List ℕ) (o : ℕ) (labels : List (List ℕ)) (last : List ℕ) → joined_at front open_label (before_first o labels last).ended (before_first o labels last).last ≡ joined_at front (open_label ++ o ∷ []) labels last
join_octet front open_label o [] last = ap (λ (l : List ℕ). record { ended = front; last = l }) (sym (append_assoc open_label (o ∷ []) last))
join_octet front open_label o (label ∷ labels) last = ap (λ (l : List ℕ). record { ended = front ++ l ∷ labels; last = last }) (sym (append_assoc open_label (o ∷ []) label))

on_octet : (front : List (List ℕ)) (open_label : List ℕ) (o : ℕ) (r : Result (List Symbol) NameFault) → ((r >>= λ others. Ok ((Octet o) ∷ others)) >>= λ more. Ok (joined front open_label more)) ≡ (r >>= λ more. Ok (joined front (open_label ++ to_ascii_lowercase o ∷ []) more))
on_octet front open_label o (Ok rest) = ap (λ (p : Pieces). Ok p) (join_octet front open_label (to_ascii_lowercase o) (pieces rest).ended (pieces rest).last)
on_octet front open_label o (Err f) = refl

-- ---- a dot

join_dot : (front : List (List ℕ)) (open_label : List ℕ) (labels : List (List ℕ)) (last : List ℕ) → joined_at front open_label ([] ∷ labels) last ≡ joined_at (front ++ open_label ∷ []) [] labels last
join_dot front open_label [] last = ap (λ (l : List ℕ). record { ended = front ++ l ∷ []; last = last }) (append-nil open_label)
join_dot front open_label (label ∷ labels) last =
    ap (λ (l : List ℕ). record { ended = front ++ l ∷ label ∷ labels; last = last }) (append-nil open_label) ∙ ap (λ (ls : List (List ℕ)). record { ended = ls; last = last }) (sym (append_assoc front (open_label ∷ []) (label ∷ labels)))

on_dot : (front : List (List ℕ)) (open_label : List ℕ) (r : Result (List Symbol) NameFault) → ((r >>= λ others. Ok (Dot ∷ others)) >>= λ more. Ok (joined front open_label more)) ≡ (r >>= λ more. Ok (joined (front ++ open_label ∷ []) [] more))
on_dot front open_label (Ok rest) = ap (λ (p : Pieces). Ok p) (join_dot front open_label (pieces rest).ended (pieces rest).last)
on_dot front open_label (Err f) = refl

-- ---- a symbol at the front of a text

symbols_step : (text : List ℕ) (s : Symbol) (after : List ℕ) → symbol_at text ≡ Ok (s, after) → symbols text ≡ (symbols after >>= λ others. Ok (s ∷ others))
symbols_step [] s after e = absurd cc
symbols_step (octet ∷ rest) s after e = symbols_cons octet rest s after e

pub text_shortens : (text : List ℕ) (s : Symbol) (after : List ℕ) → symbol_at text ≡ Ok (s, after) → length after < length text
text_shortens [] s after e = absurd cc
text_shortens (octet ∷ rest) s after e = omega (arith, symbol_shortens octet rest s after e)

symbols_stop : (text : List ℕ) (f : NameFault) → 0 < length text → symbol_at text ≡ Err f → symbols text ≡ Err f
symbols_stop [] f more e = absurd (omega arith)
symbols_stop (octet ∷ rest) f more e = symbols_fails octet rest f e

-- ---- the state after a symbol

pub after_octet : (front : List (List ℕ)) (open_label text : List ℕ) (o : ℕ) (after : List ℕ) (total : Result Pieces NameFault) → symbol_at text ≡ Ok (Octet o, after)
    → continued front open_label text ≡ total → continued front (open_label ++ to_ascii_lowercase o ∷ []) after ≡ total
after_octet front open_label text o after total e so_far =
    let step = ap (λ (r : Result (List Symbol) NameFault). r >>= λ more. Ok (joined front open_label more)) (symbols_step text (Octet o) after e) in
    sym (on_octet front open_label o (symbols after)) ∙ sym step ∙ so_far

pub after_dot : (front : List (List ℕ)) (open_label text after : List ℕ) (total : Result Pieces NameFault) → symbol_at text ≡ Ok (Dot, after)
    → continued front open_label text ≡ total → continued (front ++ open_label ∷ []) [] after ≡ total
after_dot front open_label text after total e so_far =
    let step = ap (λ (r : Result (List Symbol) NameFault). r >>= λ more. Ok (joined front open_label more)) (symbols_step text Dot after e) in
    sym (on_dot front open_label (symbols after)) ∙ sym step ∙ so_far

pub stops : (front : List (List ℕ)) (open_label text : List ℕ) (f : NameFault) (total : Result Pieces NameFault) → 0 < length text → symbol_at text ≡ Err f → continued front open_label text ≡ total → total ≡ Err f
stops front open_label text f total more e so_far =
    sym so_far ∙ ap (λ (r : Result (List Symbol) NameFault). r >>= λ more. Ok (joined front open_label more)) (symbols_stop text f more e)

symbols_none : symbols [] ≡ Ok []
unfolding symbols_within
symbols_none = refl

abbrev all_read : List (List ℕ) → List ℕ → Result Pieces NameFault
all_read front last = Ok (record { ended = front; last = last })

pub ends : (front : List (List ℕ)) (open_label text : List ℕ) (total : Result Pieces NameFault) → length text ≡ 0 → continued front open_label text ≡ total → total ≡ Ok (record { ended = front; last = open_label })
ends front open_label [] total none so_far = sym so_far ∙ ap (λ (r : Result (List Symbol) NameFault). r >>= λ more. Ok (joined front open_label more)) symbols_none ∙ ap (all_read front) (append-nil open_label)
ends front open_label (o ∷ text) total none so_far = absurd (omega arith)

whole_text : (r : Result (List Symbol) NameFault) → (r >>= λ more. Ok (joined [] [] more)) ≡ (r >>= λ all. Ok (pieces all))
whole_text (Err f) = refl
whole_text (Ok rest) = ap (λ (p : Pieces). Ok p) (by_pieces (pieces rest).ended (pieces rest).last)
  where
    by_pieces : (labels : List (List ℕ)) (last : List ℕ) → joined_at [] [] labels last ≡ record { ended = labels; last = last }
    by_pieces [] last = refl
    by_pieces (label ∷ labels) last = refl

pub begins : (text : List ℕ) → continued [] [] text ≡ cut text
begins text = whole_text (symbols text)

-- a refusal of one definition is a refusal of another
pub refuses_on : {A B : Type 0} (e : NameFault) (r : Result A NameFault) (total : Result B NameFault) → Refuses e r → ((f : NameFault) → r ≡ Err f → total ≡ Err f) → Refuses e total
refuses_on faults.NoMemory r total h on = tt
refuses_on fault r total h on = on fault h

pub AllByRecursion-push : {A : Type 0} (P : A → Type 0) (xs : List A) (x : A) → AllByRecursion P xs → P x → AllByRecursion P (xs ++ x ∷ [])
AllByRecursion-push P [] x all one = (one, tt)
AllByRecursion-push P (y ∷ xs) x all one = (all.0, AllByRecursion-push P xs x all.1 one)
