-- The symbols of a text: what is read at its front is spelled there, and what is spelled there is read.
use Rattle.std.proofs.Common.{◌≡◌, ℕ, zero, suc, ◌+◌, ◌-◌, ◌*◌, ◌/◌, ◌%◌, ◌<◌, ◌≤◌, inl, inr, Bool, true, false, cond, leb, eqb, ◌&&◌, List, [], ◌∷◌, ◌++◌, length, length-append, Result, Ok, Err, refl, sym, ap, subst, ◌∙◌, arith, eqb-true, ne_eqb, leb-true, le-leb}
use Rattle.std.proofs.lemmas.Bool.{cond_both, and_parts, and_from, eqb-false}
use Rattle.std.specs.List.{AllByRecursion}
use Rattle.std.specs.Char.{is_ascii_digit}
use Rattle.dns_names.specs.declared.name_fault.NameFault.{NameFault}
use Rattle.dns_names.specs.declared.name_fault.NameFault.TheVariants.{BadEscape}
use Rattle.dns_names.specs.declared.symbol.Symbol.{Symbol}
use Rattle.dns_names.specs.declared.symbol.Symbol.TheVariants.{Dot, Octet}
use Rattle.dns_names.specs.Spelling.{three_digits, SpellsOctet}
use Rattle.dns_names.specs.Reading.{◌>>=◌, numbered, escaped, symbol_at, symbols_within, symbols}

-- the elements are octets
abbrev pub IsBytes : List ℕ → Type 0
IsBytes text = AllByRecursion (λ o. o < 256) text

-- ---- lists

-- what holds of each element of two lists, and of them in a row
pub All-both : {X : Type 0} (P : X → Type 0) (xs ys : List X) → AllByRecursion P xs → AllByRecursion P ys → AllByRecursion P (xs ++ ys)
All-both P [] ys h k = k
All-both P (x ∷ xs) ys h k = (h.0, All-both P xs ys h.1 k)

-- and of each of the two
pub All-parts : {X : Type 0} (P : X → Type 0) (xs ys : List X) → AllByRecursion P (xs ++ ys) → AllByRecursion P xs × AllByRecursion P ys
All-parts P [] ys h = (tt, h)
All-parts P (x ∷ xs) ys h = let p = All-parts P xs ys h.1 in ((h.0, p.0), p.1)

-- ---- steps that may fail

-- the value of a step that did not fail
pub bind_ok : {A B : Type 0} (r : Result A NameFault) (f : A → Result B NameFault) (y : B) → (r >>= f) ≡ Ok y → (x : A) × (r ≡ Ok x) × (f x ≡ Ok y)
bind_ok (Ok x) f y e = (x, refl, e)
bind_ok (Err d) f y e = absurd cc

-- two continuations that agree at the value of a step
pub bind_same : {A B : Type 0} (r : Result A NameFault) (f g : A → Result B NameFault) → ((x : A) → r ≡ Ok x → f x ≡ g x) → (r >>= f) ≡ (r >>= g)
bind_same (Ok x) f g same = same x refl
bind_same (Err d) f g same = refl

-- a test that did not fail
pub guard_ok : {A : Type 0} (b : Bool) (d : NameFault) (x y : A) → cond b (Err d) (Ok x) ≡ Ok y → (b ≡ false) × (x ≡ y)
guard_ok true d x y e = absurd cc
guard_ok false d x y e = (refl, cc)

-- a test that had to hold
pub needed_ok : {A : Type 0} (b : Bool) (d : NameFault) (x y : A) → cond b (Ok x) (Err d) ≡ Ok y → (b ≡ true) × (x ≡ y)
needed_ok true d x y e = (refl, cc)
needed_ok false d x y e = absurd cc

-- a result with a value
abbrev done : {A : Type 0} → A → Result A NameFault
done x = Ok x

-- the value of a result
pub ok_is : {A : Type 0} (x y : A) → done x ≡ done y → x ≡ y
ok_is x y e = cc

-- ---- digits

-- a digit is an octet from 48 to 57
digit_is : (a : ℕ) → is_ascii_digit a ≡ true → (48 ≤ a) × (a ≤ 57)
digit_is a h = let p = and_parts (leb 48 a) (leb a 57) h in (leb-true 48 a p.0, leb-true a 57 p.1)

-- and such an octet is a digit
is_digit : (a : ℕ) → 48 ≤ a → a ≤ 57 → is_ascii_digit a ≡ true
is_digit a low high = and_from (leb 48 a) (leb a 57) (le-leb 48 a low) (le-leb a 57 high)

-- the three digits of a number are those that make it
digits_are : (a b c o : ℕ) → (48 ≤ a) × (a ≤ 57) → (48 ≤ b) × (b ≤ 57) → (48 ≤ c) × (c ≤ 57) → 100 * (a - 48) + 10 * (b - 48) + (c - 48) ≡ o → (48 + o / 100 ≡ a) × (48 + o / 10 % 10 ≡ b) × (48 + o % 10 ≡ c)
digits_are a b c o ha hb hc e = (omega arith, omega arith, omega arith)

-- three elements, each the same
same_three : (a b c x y z : ℕ) → a ≡ x → b ≡ y → c ≡ z → ◌≡◌ {A = List ℕ} (a ∷ b ∷ c ∷ []) (x ∷ y ∷ z ∷ [])
same_three a b c x y z p q r = cc

-- the number of `\DDD` is an octet, and those are its digits
numbered_is : (a b c o : ℕ) → is_ascii_digit a ≡ true → numbered a b c ≡ Ok o → (o < 256) × (three_digits o ≡ a ∷ b ∷ c ∷ [])
numbered_is a b c o h e =
    let g = needed_ok (is_ascii_digit b && is_ascii_digit c && leb (100 * (a - 48) + 10 * (b - 48) + (c - 48)) 255) BadEscape (100 * (a - 48) + 10 * (b - 48) + (c - 48)) o e in
    let p = and_parts (is_ascii_digit b && is_ascii_digit c) (leb (100 * (a - 48) + 10 * (b - 48) + (c - 48)) 255) g.0 in
    let q = and_parts (is_ascii_digit b) (is_ascii_digit c) p.0 in
    let small = leb-true (100 * (a - 48) + 10 * (b - 48) + (c - 48)) 255 p.1 in
    let d = digits_are a b c o (digit_is a h) (digit_is b q.0) (digit_is c q.1) g.1 in
    (omega (arith, small, g.1), same_three _ _ _ a b c d.0 d.1 d.2)

-- the digits of an octet are read as it
number_of : (o : ℕ) → o < 256 → 100 * (48 + o / 100 - 48) + 10 * (48 + o / 10 % 10 - 48) + (48 + o % 10 - 48) ≡ o
number_of o h = omega arith

-- the first of them is a digit
first_digit : (o : ℕ) → o < 256 → is_ascii_digit (48 + o / 100) ≡ true
first_digit o h = is_digit (48 + o / 100) (omega arith) (omega arith)

-- the three digits of an octet make it
numbered_again : (o : ℕ) → o < 256 → numbered (48 + o / 100) (48 + o / 10 % 10) (48 + o % 10) ≡ Ok o
numbered_again o h =
    let b = is_digit (48 + o / 10 % 10) (omega arith) (omega arith) in
    let c = is_digit (48 + o % 10) (omega arith) (omega arith) in
    let n = number_of o h in
    let small : leb o 255 ≡ true = le-leb o 255 (omega arith) in
    rw (b, c, n, small) refl

-- ---- the first symbol

-- the text of a symbol
abbrev pub SpellsSymbol : Symbol → List ℕ → Type 0
SpellsSymbol Dot text = text ≡ 46 ∷ []
SpellsSymbol (Octet octet) text = SpellsOctet octet text

-- a text that begins with a symbol, and goes on as it goes on after it
pub record Splits (text : List ℕ) (x : Symbol × List ℕ) : Type 0 where
  pub front : List ℕ
  pub parts : text ≡ front ++ x.1
  pub spelled : SpellsSymbol x.0 front

-- `\X`
plain_escape : (a : ℕ) (rest : List ℕ) → is_ascii_digit a ≡ false → Splits (92 ∷ a ∷ rest) (Octet a, rest)
plain_escape a rest h = record { front = 92 ∷ a ∷ []; parts = refl; spelled = inr (inl (h, refl)) }

-- `\DDD`
number_escape : (a b c : ℕ) (rest : List ℕ) (x : Symbol × List ℕ) → is_ascii_digit a ≡ true → (numbered a b c >>= λ octet. Ok (Octet octet, rest)) ≡ Ok x → Splits (92 ∷ a ∷ b ∷ c ∷ rest) x
number_escape a b c rest x h e =
    let n = bind_ok (numbered a b c) (λ octet. Ok (Octet octet, rest)) x e in
    let d = numbered_is a b c n.0 h n.1 in
    let spelled : SpellsOctet n.0 (92 ∷ a ∷ b ∷ c ∷ []) = inr (inr (d.0, ap (λ (t : List ℕ). 92 ∷ t) (sym d.1))) in
    subst (Splits (92 ∷ a ∷ b ∷ c ∷ rest)) (ok_is (Octet n.0, rest) x n.2) (record { front = 92 ∷ a ∷ b ∷ c ∷ []; parts = refl; spelled = spelled })

-- an escape
escaped_splits : (text : List ℕ) (x : Symbol × List ℕ) → escaped text ≡ Ok x → Splits (92 ∷ text) x
escaped_splits [] x e = absurd cc
escaped_splits (a ∷ []) x e =
    let g = guard_ok (is_ascii_digit a) BadEscape (Octet a, []) x e in
    subst (Splits (92 ∷ a ∷ [])) g.1 (plain_escape a [] g.0)
escaped_splits (a ∷ b ∷ []) x e =
    let g = guard_ok (is_ascii_digit a) BadEscape (Octet a, b ∷ []) x e in
    subst (Splits (92 ∷ a ∷ b ∷ [])) g.1 (plain_escape a (b ∷ []) g.0)
escaped_splits (a ∷ b ∷ c ∷ rest) x e =
    cond_both (is_ascii_digit a) (numbered a b c >>= λ octet. Ok (Octet octet, rest)) (Ok (Octet a, b ∷ c ∷ rest)) (λ r. r ≡ Ok x → Splits (92 ∷ a ∷ b ∷ c ∷ rest) x)
    (λ h f. number_escape a b c rest x h f)
    (λ h f. subst (Splits (92 ∷ a ∷ b ∷ c ∷ rest)) (ok_is (Octet a, b ∷ c ∷ rest) x f) (plain_escape a (b ∷ c ∷ rest) h))
    e

-- an octet that stands for itself
itself_splits : (o : ℕ) (rest : List ℕ) → (o ≡ 46 → ⊥) → (o ≡ 92 → ⊥) → Splits (o ∷ rest) (Octet o, rest)
itself_splits o rest h k = record { front = o ∷ []; parts = refl; spelled = inl (h, k, refl) }

-- the first symbol that is read is spelled at the front
pub symbol_splits : (octet : ℕ) (rest : List ℕ) (x : Symbol × List ℕ) → symbol_at (octet ∷ rest) ≡ Ok x → Splits (octet ∷ rest) x
symbol_splits octet rest x e =
    cond_both (eqb octet 46) (Ok (Dot, rest)) (cond (eqb octet 92) (escaped rest) (Ok (Octet octet, rest))) (λ r. r ≡ Ok x → Splits (octet ∷ rest) x)
    (λ h f. subst (Splits (octet ∷ rest)) (ok_is (Dot, rest) x f) (record { front = 46 ∷ []; parts = ap (λ (o : ℕ). o ∷ rest) (eqb-true octet 46 h); spelled = refl }))
    (λ h. cond_both (eqb octet 92) (escaped rest) (Ok (Octet octet, rest)) (λ r. r ≡ Ok x → Splits (octet ∷ rest) x)
    (λ k f. subst (λ (o : ℕ). Splits (o ∷ rest) x) (sym (eqb-true octet 92 k)) (escaped_splits rest x f))
    (λ k f. subst (Splits (octet ∷ rest)) (ok_is (Octet octet, rest) x f) (itself_splits octet rest (eqb-false octet 46 h) (eqb-false octet 92 k))))
    e

-- a symbol takes at least one octet
pub Spelled-some : (s : Symbol) (front : List ℕ) → SpellsSymbol s front → 0 < length front
Spelled-some Dot front e = rw e (omega arith)
Spelled-some (Octet o) front (inl h) = rw h.2 (omega arith)
Spelled-some (Octet o) front (inr (inl h)) = rw h.1 (omega arith)
Spelled-some (Octet o) front (inr (inr h)) = rw h.1 (omega arith)

-- so less is left after it
pub symbol_shortens : (octet : ℕ) (rest : List ℕ) (s : Symbol) (after : List ℕ) → symbol_at (octet ∷ rest) ≡ Ok (s, after) → length after ≤ length rest
symbol_shortens octet rest s after e =
    let p = symbol_splits octet rest (s, after) e in
    let some = Spelled-some s p.front p.spelled in
    let len : suc (length rest) ≡ length (p.front ++ after) = ap length p.parts in
    omega (arith, len, length-append p.front after, some)

-- ---- bytes

-- what a symbol says of the octets of the text around it
abbrev pub IsByteSymbol : Symbol → Type 0
IsByteSymbol Dot = Unit {0}
IsByteSymbol (Octet octet) = octet < 256

-- a symbol of octets is an octet
Spelled-byte : (s : Symbol) (front : List ℕ) → IsBytes front → SpellsSymbol s front → IsByteSymbol s
Spelled-byte Dot front bytes e = tt
Spelled-byte (Octet o) front bytes (inl h) = (subst IsBytes h.2 bytes).0
Spelled-byte (Octet o) front bytes (inr (inl h)) = (subst IsBytes h.1 bytes).1.0
Spelled-byte (Octet o) front bytes (inr (inr h)) = h.0

-- and so is what is left
pub symbol_bytes : (octet : ℕ) (rest : List ℕ) (s : Symbol) (after : List ℕ) → IsBytes (octet ∷ rest) → symbol_at (octet ∷ rest) ≡ Ok (s, after) → IsBytes after × IsByteSymbol s
symbol_bytes octet rest s after bytes e =
    let p = symbol_splits octet rest (s, after) e in
    let b = All-parts (λ o. o < 256) p.front after (subst IsBytes p.parts bytes) in
    (b.1, Spelled-byte s p.front b.0 p.spelled)

-- ---- all symbols

-- more fuel than octets changes nothing
within_agree : (m n : ℕ) (text : List ℕ) → length text ≤ m → length text ≤ n → symbols_within m text ≡ symbols_within n text
unfolding symbols_within
within_agree m n [] h k = refl
within_agree zero n (o ∷ rest) h k = absurd (omega arith)
within_agree (suc m) zero (o ∷ rest) h k = absurd (omega arith)
within_agree (suc m) (suc n) (o ∷ rest) h k =
    bind_same (symbol_at (o ∷ rest)) _ _ (λ x e. let l = symbol_shortens o rest x.0 x.1 e in ap (λ (r : Result (List Symbol) NameFault). r >>= λ others. Ok (x.0 ∷ others)) (within_agree m n x.1 (omega arith) (omega arith)))

-- the symbols of a text are its first and those after it
pub symbols_cons : (octet : ℕ) (rest : List ℕ) (s : Symbol) (after : List ℕ) → symbol_at (octet ∷ rest) ≡ Ok (s, after) → symbols (octet ∷ rest) ≡ (symbols after >>= λ others. Ok (s ∷ others))
unfolding symbols_within
symbols_cons octet rest s after e =
    let l = symbol_shortens octet rest s after e in
    let step : symbols (octet ∷ rest) ≡ (symbols_within (length rest) after >>= λ others. Ok (s ∷ others)) = ap (λ (r : Result (Symbol × List ℕ) NameFault). r >>= λ first. symbols_within (length rest) first.1 >>= λ others. Ok (first.0 ∷ others)) e in
    step ∙ ap (λ (r : Result (List Symbol) NameFault). r >>= λ others. Ok (s ∷ others)) (within_agree (length rest) (length after) after l (omega arith))

-- and a text whose first is refused is refused
pub symbols_fails : (octet : ℕ) (rest : List ℕ) (f : NameFault) → symbol_at (octet ∷ rest) ≡ Err f → symbols (octet ∷ rest) ≡ Err f
unfolding symbols_within
symbols_fails octet rest f e = ap (λ (r : Result (Symbol × List ℕ) NameFault). r >>= λ first. symbols_within (length rest) first.1 >>= λ others. Ok (first.0 ∷ others)) e

-- ---- what is spelled is read

-- `\X` is read as X
escaped_itself : (a : ℕ) (rest : List ℕ) → is_ascii_digit a ≡ false → escaped (a ∷ rest) ≡ Ok (Octet a, rest)
escaped_itself a [] h = rw h refl
escaped_itself a (b ∷ []) h = rw h refl
escaped_itself a (b ∷ c ∷ rest) h = rw h refl

-- `\DDD` is read as its number
escaped_number : (o : ℕ) (rest : List ℕ) → o < 256 → escaped (three_digits o ++ rest) ≡ Ok (Octet o, rest)
escaped_number o rest h = rw (first_digit o h, numbered_again o h) refl

-- what spells a symbol is read as that symbol, whatever follows
pub symbol_again : (s : Symbol) (front rest : List ℕ) → SpellsSymbol s front → symbol_at (front ++ rest) ≡ Ok (s, rest)
symbol_again Dot front rest e = rw e refl
symbol_again (Octet o) front rest (inl h) = rw (h.2, ne_eqb o 46 h.0, ne_eqb o 92 h.1) refl
symbol_again (Octet o) front rest (inr (inl h)) = rw h.1 (escaped_itself o rest h.0)
symbol_again (Octet o) front rest (inr (inr h)) = rw h.1 (escaped_number o rest h.0)
