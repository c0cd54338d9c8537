-- A text before and after its first slash.
use Rattle.std.proofs.Common.{◌≡◌, ℕ, suc, ◌+◌, ◌<◌, Bool, true, false, List, [], ◌∷◌, length, take, drop, Option, Some, None, refl, ap, ◌∙◌, arith}
use Rattle.std.specs.Prelude.{◌==◌, nat_lt, cond}
use Rattle.std.specs.List.{position, position_or_len}
use Rattle.std.proofs.lemmas.List.{take_all, drop_all}
use Rattle.office_wire.specs.Parts.{before_slash, behind_slash}

abbrev is_slash : ℕ → Bool
is_slash o = o == 47

abbrev at : List ℕ → ℕ
at text = position_or_len is_slash text

by_head : (o : ℕ) (text : List ℕ) (b : Bool) → is_slash o ≡ b → (before_slash text ≡ take (at text) text) × (behind_slash text ≡ drop (at text + 1) text)
    → (before_slash (o ∷ text) ≡ take (at (o ∷ text)) (o ∷ text)) × (behind_slash (o ∷ text) ≡ drop (at (o ∷ text) + 1) (o ∷ text))
by_head o text true e rest = rw e (refl, refl)
by_head o text false e rest =
    let one : 1 + at text ≡ suc (at text) = omega arith in
    let two : 1 + at text + 1 ≡ suc (at text + 1) = omega arith in
    rw (e, two, one) (ap (λ (l : List ℕ). o ∷ l) rest.0, rest.1)

-- how the first slash cuts a text
cut_at : (text : List ℕ) → (before_slash text ≡ take (at text) text) × (behind_slash text ≡ drop (at text + 1) text)
cut_at [] = (refl, refl)
cut_at (o ∷ text) = by_head o text (is_slash o) refl (cut_at text)

some_of : (b : Bool) (n i : ℕ) → cond b (Some n) None ≡ Some i → (b ≡ true) × (n ≡ i)
some_of true n i e = (refl, cc)
some_of false n i e = absurd cc

none_of : (b : Bool) (n : ℕ) → (let o : Option ℕ = None in cond b (Some n) None ≡ o) → b ≡ false
none_of true n e = absurd cc
none_of false n e = refl

-- a text whose first slash stands there
pub cut_some : (text : List ℕ) (i : ℕ) → position is_slash text ≡ Some i → (before_slash text ≡ take i text) × (behind_slash text ≡ drop (i + 1) text) × (i < length text)
cut_some text i e =
    let h = some_of (nat_lt (at text) (length text)) (at text) i e in
    let cut = cut_at text in
    (cut.0 ∙ ap (λ (n : ℕ). take n text) h.1, cut.1 ∙ ap (λ (n : ℕ). drop (n + 1) text) h.1, grind (arith, h.0, h.1))

-- a text without a slash
pub cut_none : (text : List ℕ) → (let o : Option ℕ = None in position is_slash text ≡ o) → (before_slash text ≡ text) × (behind_slash text ≡ [])
cut_none text e =
    let long = none_of (nat_lt (at text) (length text)) (at text) e in
    let cut = cut_at text in
    (cut.0 ∙ take_all (at text) text (grind (arith, long)), cut.1 ∙ drop_all (at text + 1) text (grind (arith, long)))
