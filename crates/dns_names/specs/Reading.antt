-- What the text of a name says, with the refusal that comes first: an empty text, a bad escape, an empty label, a label
-- that is too long, a text that is not absolute where it has to be, a name that is too long.
use Rattle.std.specs.Prelude.{ℕ, zero, suc, ◌+◌, ◌-◌, ◌*◌, List, [], ◌∷◌, ◌++◌, length, Bool, ◌||◌, ◌&&◌, nat_lt, nat_le, ◌==◌, if◌then◌else◌, Result, Ok, Err}
use Rattle.std.specs.List.{list_any}
use Rattle.std.specs.Char.{to_ascii_lowercase, is_ascii_digit}
use Rattle.dns_names.specs.declared.name_fault.NameFault.{NameFault}
use Rattle.dns_names.specs.declared.name_fault.NameFault.TheVariants.{EmptyLabel, LabelTooLong, NameTooLong, BadEscape, NotAbsolute, Empty}
use Rattle.dns_names.specs.declared.symbol.Symbol.{Symbol}
use Rattle.dns_names.specs.declared.symbol.Symbol.TheVariants.{Dot, Octet}
use Rattle.dns_names.specs.Labels.{wire_len}

infixl 10 ◌>>=◌
abbrev pub ◌>>=◌ : {A B : Type 0} → Result A NameFault → (A → Result B NameFault) → Result B NameFault
(Ok x) >>= f = f x
(Err e) >>= f = Err e

-- ---- symbols

-- the octet of `\DDD`, from the three digits
abbrev pub numbered : ℕ → ℕ → ℕ → Result ℕ NameFault
numbered a b c =
    let number = 100 * (a - 48) + 10 * (b - 48) + (c - 48) in
    if is_ascii_digit b && is_ascii_digit c && nat_le number 255 then Ok number else Err BadEscape

-- the octet that an escape stands for, from the text after the backslash, and the text after the escape
abbrev pub escaped : List ℕ → Result (Symbol × List ℕ) NameFault
escaped [] = Err BadEscape
escaped (a ∷ []) = if is_ascii_digit a then Err BadEscape else Ok (Octet a, [])
escaped (a ∷ b ∷ []) = if is_ascii_digit a then Err BadEscape else Ok (Octet a, b ∷ [])
escaped (a ∷ b ∷ c ∷ rest) =
    if is_ascii_digit a then (numbered a b c >>= λ octet. Ok (Octet octet, rest)) else Ok (Octet a, b ∷ c ∷ rest)

-- the first symbol of a text: a dot, an escape, or an octet that stands for itself
abbrev pub symbol_at : List ℕ → Result (Symbol × List ℕ) NameFault
symbol_at [] = Err Empty
symbol_at (octet ∷ rest) = if octet == 46 then Ok (Dot, rest) else (if octet == 92 then escaped rest else Ok (Octet octet, rest))

-- all symbols of a text of at most so many octets, one after the other
unfoldable pub symbols_within : ℕ → List ℕ → Result (List Symbol) NameFault
symbols_within n [] = Ok []
symbols_within zero (octet ∷ rest) = Ok []
symbols_within (suc n) (octet ∷ rest) = do
  first ← symbol_at (octet ∷ rest)
  others ← symbols_within n first.1
  Ok (first.0 ∷ others)

abbrev pub symbols : List ℕ → Result (List Symbol) NameFault
symbols text = symbols_within (length text) text

-- ---- labels

-- the labels that dots end, and what stands after the last dot
pub record Pieces : Type 0 where
  pub ended : List (List ℕ)
  pub last : List ℕ

-- an octet, folded, put before the first of the pieces
abbrev pub before_first : ℕ → List (List ℕ) → List ℕ → Pieces
before_first octet [] last = record { ended = []; last = octet ∷ last }
before_first octet (label ∷ labels) last = record { ended = (octet ∷ label) ∷ labels; last = last }

-- symbols cut at the dots
abbrev pub pieces : List Symbol → Pieces
pieces [] = record { ended = []; last = [] }
pieces (Dot ∷ rest) = record { ended = [] ∷ (pieces rest).ended; last = (pieces rest).last }
pieces ((Octet octet) ∷ rest) = before_first (to_ascii_lowercase octet) (pieces rest).ended (pieces rest).last

abbrev pub is_empty : List ℕ → Bool
is_empty label = length label == 0

abbrev pub is_long : List ℕ → Bool
is_long label = nat_lt 63 (length label)

-- the pieces, unless one that a dot ends is empty, or one is too long
abbrev pub checked : Pieces → Result Pieces NameFault
checked p =
    if list_any is_empty p.ended then Err EmptyLabel
    else (if list_any is_long p.ended || is_long p.last then Err LabelTooLong else Ok p)

-- a text, cut at its dots
abbrev pub cut : List ℕ → Result Pieces NameFault
cut text = symbols text >>= λ all. Ok (pieces all)

-- the pieces of a text that is not empty and not the root's
abbrev pub pieces_of : List ℕ → Result Pieces NameFault
pieces_of text = cut text >>= checked

abbrev pub fitting : List (List ℕ) → Result (List (List ℕ)) NameFault
fitting name = if nat_lt 255 (wire_len name) then Err NameTooLong else Ok name

-- ---- names

-- of a text that is not empty and not `.`
abbrev pub ended : Pieces → Result (List (List ℕ)) NameFault
ended p = if is_empty p.last then fitting p.ended else Err NotAbsolute

abbrev pub ended_name : List ℕ → Result (List (List ℕ)) NameFault
ended_name text = do
  p ← pieces_of text
  ended p

-- the name of an absolute text
abbrev pub absolute_name : List ℕ → Result (List (List ℕ)) NameFault
absolute_name [] = Err Empty
absolute_name (octet ∷ rest) = if octet == 46 && is_empty rest then Ok [] else ended_name (octet ∷ rest)

-- the labels of the pieces, and after a last one that no dot ends those of the origin
abbrev pub placed : List (List ℕ) → Pieces → List (List ℕ)
placed origin p = if is_empty p.last then p.ended else p.ended ++ p.last ∷ origin

abbrev pub placed_name : List (List ℕ) → List ℕ → Result (List (List ℕ)) NameFault
placed_name origin text = do
  p ← pieces_of text
  fitting (placed origin p)

-- the name of a text relative to an origin
abbrev pub relative_name : List (List ℕ) → List ℕ → Result (List (List ℕ)) NameFault
relative_name origin [] = Err Empty
relative_name origin (octet ∷ rest) =
    if octet == 46 && is_empty rest then Ok []
    else (if octet == 64 && is_empty rest then Ok origin else placed_name origin (octet ∷ rest))
