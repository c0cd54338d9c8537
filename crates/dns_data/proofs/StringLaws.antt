-- The laws of character-strings: what is read is spelled so, what is spelled so is read, and so is what is printed.
use Rattle.std.proofs.Common.{◌≡◌, ◌≢◌, ℕ, zero, suc, ◌<◌, ◌≤◌, inl, inr, false, true, cond, ltb, leb, eqb, ◌&&◌, ◌||◌, List, [], ◌∷◌, ◌++◌, length, map, Result, Ok, Err, refl, sym, ap, subst, ◌∙◌, arith, ltb-false, le-ltb}
use Rattle.std.proofs.lemmas.Bool.{cond_both, cases_eq, or_parts, eqb-false}
use Rattle.std.specs.List.{AllByRecursion}
use Rattle.std.specs.Char.{is_ascii_digit}
use Rattle.dns_names.specs.declared.name_fault.NameFault.{NameFault}
use Rattle.dns_names.specs.declared.symbol.Symbol.{Symbol}
use Rattle.dns_names.specs.declared.symbol.Symbol.TheVariants.{Dot, Octet}
use Rattle.dns_names.specs.Spelling.{three_digits}
use Rattle.dns_names.specs.Spelling as names
use Rattle.dns_names.specs.Reading.{◌>>=◌, symbol_at, symbols_within, symbols}
use Rattle.dns_names.proofs.SymbolLaws.{IsBytes, IsByteSymbol, SpellsSymbol, Spelled-some, symbol_splits, symbol_shortens, symbol_bytes, symbol_again, symbols_cons, symbols_fails}
use Rattle.dns_names.proofs.SymbolLaws as steps
use Rattle.dns_data.specs.declared.data_fault.DataFault.TheVariants.{StringTooLong}
use Rattle.dns_data.specs.Faults.{of_names}
use Rattle.dns_data.specs.Strings.{IsString, SpellsOctet, SpellsString, symbol_octet, short_string, string_of, octet_text, string_text}
use Rattle.dns_data.proofs.StepLaws.{bind_ok, guard_ok, of_names_ok, of_names_again}

-- ---- octets and symbols

-- what spells an octet of a name spells it in a string
name_octet_spelled : (o : ℕ) (text : List ℕ) → names.SpellsOctet o text → SpellsOctet o text
name_octet_spelled o text (inl h) = inl (h.1, h.2)
name_octet_spelled o text (inr h) = inr h

-- a dot is no backslash
dot_no_backslash : ◌≢◌ {A = ℕ} 46 92
dot_no_backslash = λ e. omega arith

-- what spells a symbol of a name spells its octet
octet_spelled : (s : Symbol) (text : List ℕ) → SpellsSymbol s text → SpellsOctet (symbol_octet s) text
octet_spelled Dot text h = inl (dot_no_backslash, h)
octet_spelled (Octet o) text h = name_octet_spelled o text h

-- and it is an octet
octet_below : (s : Symbol) → IsByteSymbol s → symbol_octet s < 256
octet_below Dot h = omega arith
octet_below (Octet o) h = h

-- a symbol for an octet
pub record SymbolOf (octet : ℕ) (text : List ℕ) : Type 0 where
  pub symbol : Symbol
  pub same : symbol_octet symbol ≡ octet
  pub spelled : SpellsSymbol symbol text

-- what spells an octet spells a symbol for it
pub symbol_of : (octet : ℕ) (text : List ℕ) → SpellsOctet octet text → SymbolOf octet text
symbol_of octet text (inl h) =
    elim (cases_eq octet 46) [
      | inl dot ↦ record { symbol = Dot; same = sym dot; spelled = h.1 ∙ ap (λ (o : ℕ). o ∷ []) dot }
      | inr other ↦ record { symbol = Octet octet; same = refl; spelled = inl (other, h.0, h.1) }
    ]
symbol_of octet text (inr (inl h)) = record { symbol = Octet octet; same = refl; spelled = inr (inl h) }
symbol_of octet text (inr (inr h)) = record { symbol = Octet octet; same = refl; spelled = inr (inr h) }

-- ---- what is read is spelled

-- no octets have no symbols
symbols_nil : symbols [] ≡ Ok []
unfolding symbols_within
symbols_nil = refl

-- octets that are spelled by a text
pub record Spelled (octets text : List ℕ) : Type 0 where
  pub below : AllByRecursion (λ o. o < 256) octets
  pub spelled : SpellsString octets text

-- none by none
nothing_spelled : Spelled [] []
nothing_spelled = record { below = tt; spelled = refl }

-- one more before them
symbol_spelled : (s : Symbol) (front rest octets : List ℕ) → IsByteSymbol s → SpellsSymbol s front → Spelled octets rest → Spelled (symbol_octet s ∷ octets) (front ++ rest)
symbol_spelled s front rest octets byte spelled h = record { below = (octet_below s byte, h.below); spelled = (front, rest, refl, octet_spelled s front spelled, h.spelled) }

-- symbols of a text, by the first of them
pub record ReadFirst (octet : ℕ) (rest : List ℕ) (all : List Symbol) : Type 0 where
  pub first : Symbol
  pub after : List ℕ
  pub others : List Symbol
  pub read : symbol_at (octet ∷ rest) ≡ Ok (first, after)
  pub read_after : symbols after ≡ Ok others
  pub whole : first ∷ others ≡ all

-- where the first symbol of a text is known
read_from : (octet : ℕ) (rest : List ℕ) (all : List Symbol) (s : Symbol) (after : List ℕ) → symbols (octet ∷ rest) ≡ Ok all → symbol_at (octet ∷ rest) ≡ Ok (s, after) → ReadFirst octet rest all
read_from octet rest all s after e f =
    let b = steps.bind_ok (symbols after) (λ others. Ok (s ∷ others)) all (sym (symbols_cons octet rest s after f) ∙ e) in
    record { first = s; after = after; others = b.0; read = f; read_after = b.1; whole = steps.ok_is (s ∷ b.0) all b.2 }

-- whatever its first symbol is
read_by : (octet : ℕ) (rest : List ℕ) (all : List Symbol) (r : Result (Symbol × List ℕ) NameFault) → symbols (octet ∷ rest) ≡ Ok all → symbol_at (octet ∷ rest) ≡ r → ReadFirst octet rest all
read_by octet rest all (Ok x) e f = read_from octet rest all x.0 x.1 e f
read_by octet rest all (Err d) e f = absurd (let no : Err d ≡ Ok all = sym (symbols_fails octet rest d f) ∙ e in cc)

-- by the number of octets
symbols_spelled : (n : ℕ) (text : List ℕ) (all : List Symbol) → length text ≤ n → IsBytes text → symbols text ≡ Ok all → Spelled (map symbol_octet all) text
symbols_spelled n [] all fuel bytes e = subst (λ (ss : List Symbol). Spelled (map symbol_octet ss) []) (steps.ok_is [] all (sym symbols_nil ∙ e)) nothing_spelled
symbols_spelled zero (octet ∷ rest) all fuel bytes e = absurd (omega arith)
symbols_spelled (suc n) (octet ∷ rest) all fuel bytes e =
    let r = read_by octet rest all (symbol_at (octet ∷ rest)) e refl in
    let s = symbol_splits octet rest (r.first, r.after) r.read in
    let b = symbol_bytes octet rest r.first r.after bytes r.read in
    let l = symbol_shortens octet rest r.first r.after r.read in
    let more = symbols_spelled n r.after r.others (omega arith) b.0 r.read_after in
    let whole = symbol_spelled r.first s.front r.after (map symbol_octet r.others) b.1 s.spelled more in
    subst (λ (t : List ℕ). Spelled (map symbol_octet all) t) (sym s.parts) (subst (λ (ss : List Symbol). Spelled (map symbol_octet ss) (s.front ++ r.after)) r.whole whole)

-- a string that is short
short_ok : (octets string : List ℕ) → short_string octets ≡ Ok string → (octets ≡ string) × (length octets ≤ 255)
short_ok octets string e =
    let g = guard_ok (ltb 255 (length octets)) StringTooLong octets string e in
    (g.1, ltb-false 255 (length octets) g.0)

-- and one that is short is found to be so
short_again : (string : List ℕ) → length string ≤ 255 → short_string string ≡ Ok string
short_again string h = rw (le-ltb 255 (length string) h) refl

-- a string that is read is spelled
pub string_found : (raw string : List ℕ) → IsBytes raw → string_of raw ≡ Ok string → IsString string × SpellsString string raw
string_found raw string bytes e =
    let b = bind_ok (of_names (symbols raw)) (λ all. short_string (map symbol_octet all)) string e in
    let s = symbols_spelled (length raw) raw b.0 (omega arith) bytes (of_names_ok (symbols raw) b.0 b.1) in
    let g = short_ok (map symbol_octet b.0) string b.2 in
    subst (λ (o : List ℕ). IsString o × SpellsString o raw) g.0 (record { octets = s.below; short = g.1 }, s.spelled)

-- ---- what is spelled is read

-- symbols for octets
pub record SymbolsOf (octets text : List ℕ) : Type 0 where
  pub all : List Symbol
  pub same : map symbol_octet all ≡ octets
  pub read : symbols text ≡ Ok all

-- a symbol before symbols
symbol_before : (octet : ℕ) (octets front rest : List ℕ) → SymbolOf octet front → SymbolsOf octets rest → SymbolsOf (octet ∷ octets) (front ++ rest)
symbol_before octet octets [] rest s h = let some = Spelled-some s.symbol [] s.spelled in absurd (omega arith)
symbol_before octet octets (first ∷ front) rest s h =
    let read = symbol_again s.symbol (first ∷ front) rest s.spelled in
    let head = s.same in
    let tail = h.same in
    record {
      all = s.symbol ∷ h.all;
      same = cc;
      read = symbols_cons first (front ++ rest) s.symbol rest read ∙ ap (λ (r : Result (List Symbol) NameFault). r >>= λ others. Ok (s.symbol ∷ others)) h.read;
    }

-- the symbols of a text that spells a string
symbols_of : (string raw : List ℕ) → SpellsString string raw → SymbolsOf string raw
symbols_of [] raw h = record { all = []; same = refl; read = ap symbols h ∙ symbols_nil }
symbols_of (octet ∷ octets) raw (front, rest, parts, spelled, more) = subst (SymbolsOf (octet ∷ octets)) (sym parts) (symbol_before octet octets front rest (symbol_of octet front spelled) (symbols_of octets rest more))

-- what spells a string is read as it
pub string_only : (string raw : List ℕ) → IsString string → SpellsString string raw → string_of raw ≡ Ok string
string_only string raw is h =
    let s = symbols_of string raw h in
    rw (of_names_again (symbols raw) s.all s.read, s.same) (short_again string is.short)

-- ---- what is printed

-- a quote and a backslash are no digits
marked_no_digit : (o : ℕ) → eqb o 34 || eqb o 92 ≡ true → is_ascii_digit o ≡ false
marked_no_digit o h = grind arith

-- the printed octet spells it
pub octet_text_spells : (o : ℕ) → o < 256 → SpellsOctet o (octet_text o)
octet_text_spells o h =
    cond_both (eqb o 34 || eqb o 92) (92 ∷ o ∷ []) (cond (leb 32 o && leb o 126) (o ∷ []) (92 ∷ three_digits o)) (SpellsOctet o)
    (λ s. inr (inl (marked_no_digit o s, refl)))
    (λ s. cond_both (leb 32 o && leb o 126) (o ∷ []) (92 ∷ three_digits o) (SpellsOctet o)
    (λ p. inl (eqb-false o 92 (or_parts (eqb o 34) (eqb o 92) s).1, refl))
    (λ p. inr (inr (h, refl))))

-- the printed octets spell a string
octets_spell : (string : List ℕ) → AllByRecursion (λ o. o < 256) string → SpellsString string (string_text string)
octets_spell [] h = refl
octets_spell (octet ∷ octets) h = (octet_text octet, string_text octets, refl, octet_text_spells octet h.0, octets_spell octets h.1)

-- the printed string spells it
pub string_spells : (string : List ℕ) → IsString string → SpellsString string (string_text string)
string_spells string is = octets_spell string is.octets

-- what is printed is read again
pub string_again : (string : List ℕ) → IsString string → string_of (string_text string) ≡ Ok string
string_again string is = string_only string (string_text string) is (string_spells string is)
