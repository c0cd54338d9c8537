-- Reading character-strings, one symbol after another.
use Rattle.std.proofs.Common.{◌≡◌, ℕ, ◌<◌, List, [], ◌∷◌, ◌++◌, length, map, Result, Ok, Err, refl, sym, ap, ◌∙◌, append_assoc, arith}
use Rattle.std.proofs.lemmas.List.{append-nil}
use Rattle.dns_names.specs.declared.name_fault.NameFault.{NameFault}
use Rattle.dns_names.specs.declared.name_fault.NameFault.TheVariants as names
use Rattle.dns_names.specs.declared.symbol.Symbol.{Symbol}
use Rattle.dns_names.specs.Faults.{Refuses as RefusesName}
use Rattle.dns_names.specs.Reading.{symbols, symbols_within, symbol_at, ◌>>=◌ as bind_names}
use Rattle.dns_names.proofs.SymbolLaws.{symbols_cons, symbols_fails}
use Rattle.dns_data.specs.declared.data_fault.DataFault.{DataFault}
use Rattle.dns_data.specs.Faults.{Refuses, of_name, of_names, ◌>>=◌}
use Rattle.dns_data.specs.Strings.{symbol_octet}

-- the octets that a text stands for
abbrev pub octets_in : List ℕ → Result (List ℕ) DataFault
octets_in text = of_names (symbols text) >>= λ all. Ok (map symbol_octet all)

-- the same, where these are the octets so far and this is the text that is left
abbrev pub continued : List ℕ → List ℕ → Result (List ℕ) DataFault
continued front rest = of_names (symbols rest) >>= λ more. Ok (front ++ map symbol_octet more)

abbrev with_first : Symbol → Result (List Symbol) NameFault → Result (List Symbol) NameFault
with_first s (Ok others) = Ok (s ∷ others)
with_first s (Err f) = Err f

-- the bind of names, as it is written there
same_first : (s : Symbol) (r : Result (List Symbol) NameFault) → bind_names r (λ others. Ok (s ∷ others)) ≡ with_first s r
same_first s (Ok others) = refl
same_first s (Err f) = refl

symbols_step : (text : List ℕ) (s : Symbol) (after : List ℕ) → symbol_at text ≡ Ok (s, after) → symbols text ≡ with_first s (symbols after)
symbols_step [] s after e = absurd cc
symbols_step (octet ∷ rest) s after e = symbols_cons octet rest s after e ∙ same_first s (symbols after)

on_symbol : (front : List ℕ) (s : Symbol) (r : Result (List Symbol) NameFault)
    → (of_names (with_first s r) >>= λ more. Ok (front ++ map symbol_octet more)) ≡ (of_names r >>= λ more. Ok ((front ++ symbol_octet s ∷ []) ++ map symbol_octet more))
on_symbol front s (Ok others) = ap (λ (l : List ℕ). Ok l) (sym (append_assoc front (symbol_octet s ∷ []) (map symbol_octet others)))
on_symbol front s (Err f) = refl

pub after_symbol : (front text : List ℕ) (s : Symbol) (after : List ℕ) (total : Result (List ℕ) DataFault) → symbol_at text ≡ Ok (s, after) → continued front text ≡ total → continued (front ++ symbol_octet s ∷ []) after ≡ total
after_symbol front text s after total e so_far =
    sym (on_symbol front s (symbols after)) ∙ sym (ap (λ (r : Result (List Symbol) NameFault). of_names r >>= λ more. Ok (front ++ map symbol_octet more)) (symbols_step text s after e)) ∙ so_far

stops : (front text : List ℕ) (f : NameFault) (total : Result (List ℕ) DataFault) → 0 < length text → symbol_at text ≡ Err f → continued front text ≡ total → total ≡ Err (of_name f)
stops front [] f total more e so_far = absurd (omega arith)
stops front (octet ∷ rest) f total more e so_far = sym so_far ∙ ap (λ (r : Result (List Symbol) NameFault). of_names r >>= λ more. Ok (front ++ map symbol_octet more)) (symbols_fails octet rest f e)

-- a bad symbol refuses the text
pub refuses_on : (front text : List ℕ) (f : NameFault) (total : Result (List ℕ) DataFault) → 0 < length text → RefusesName f (symbol_at text) → continued front text ≡ total → Refuses (of_name f) total
refuses_on front text names.NoMemory total more h so_far = tt
refuses_on front text fault total more h so_far = stops front text fault total more h so_far

symbols_none : symbols [] ≡ Ok []
unfolding symbols_within
symbols_none = refl

pub ends : (front text : List ℕ) (total : Result (List ℕ) DataFault) → length text ≡ 0 → continued front text ≡ total → total ≡ Ok front
ends front [] total none so_far =
    sym so_far ∙ ap (λ (r : Result (List Symbol) NameFault). of_names r >>= λ more. Ok (front ++ map symbol_octet more)) symbols_none ∙ ap (λ (l : List ℕ). Ok l) (append-nil front)
ends front (o ∷ text) total none so_far = absurd (omega arith)
