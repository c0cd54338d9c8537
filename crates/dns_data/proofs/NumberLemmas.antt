-- Reading numbers, one octet after another.
use Rattle.std.proofs.Common.{◌≡◌, ℕ, zero, suc, ◌+◌, ◌-◌, ◌*◌, ◌<◌, ◌≤◌, min, Bool, true, false, cond, ltb, leb, eqb, List, [], ◌∷◌, length, get_or, drop, Option, Some, None, refl, sym, ap, ◌∙◌, ◌⊎◌, inl, inr, arith}
use Rattle.std.specs.Prelude.{option_and_then, unwrap_or, ◌&&◌}
use Rattle.std.specs.List.{list_all}
use Rattle.std.specs.Option.{option_map, is_some}
use Rattle.std.specs.Char.{digit_value, is_ascii_digit}
use Rattle.std.specs.Str.Parse.{digits_value, digits_value_after}
use Rattle.std.proofs.Math.Nat.{le-mul_of_pos_right}
use Rattle.std.proofs.lemmas.Bool.{lt-leb, cases_lt, ne_eqb}
use Rattle.std.proofs.lemmas.Bool.Decides.{nat_tests}
use Rattle.std.proofs.lemmas.List.{at_drop_more, at_drop_all}
use Rattle.std.proofs.lemmas.List.Sums.{AllPass-from_list_all}
use Rattle.dns_data.specs.Numbers.{is_number, unit_seconds, groups_after}

-- ---- digits

grows : (n : ℕ) (ds : List ℕ) → n ≤ digits_value_after 10 n ds
grows n [] = omega arith
grows n (d ∷ ds) = omega (arith, grows (n * 10 + digit_value d) ds)

-- a number whose digits so far are too large is too large
pub past_most : (text : List ℕ) (i value most : ℕ) → i < length text → digits_value_after 10 value (drop i text) ≡ digits_value 10 text → most < value * 10 + digit_value (get_or text i 0)
    → None ≡ cond (leb (digits_value 10 text) most) (Some (digits_value 10 text)) None
past_most text i value most lt so_far over =
    let step : digits_value_after 10 value (drop i text) ≡ digits_value_after 10 (value * 10 + digit_value (get_or text i 0)) (drop (i + 1) text) = at_drop_more (digits_value_after 10 value) text i 0 lt in
    let large : most < digits_value 10 text = omega (arith, step, so_far, grows (value * 10 + digit_value (get_or text i 0)) (drop (i + 1) text)) in
    rw (lt-leb (digits_value 10 text) most large) refl

second_of : (a b : Bool) → (a && b) ≡ true → b ≡ true
second_of true b e = e
second_of false b e = absurd cc

value_of_digit : (c : ℕ) → is_ascii_digit c ≡ true → digit_value c + 48 ≡ c
value_of_digit c e = grind (arith, nat_tests)

pub digit_at : (text : List ℕ) (i : ℕ) → is_number text ≡ true → i < length text → digit_value (get_or text i 0) + 48 ≡ get_or text i 0
digit_at text i e lt = value_of_digit (get_or text i 0) (AllPass-from_list_all is_ascii_digit text (second_of (ltb 0 (length text)) (list_all is_ascii_digit text) e) i 0 lt)

-- ---- groups, summed up to a limit

-- two numbers that are one up to a limit
abbrev Alike : ℕ → ℕ → ℕ → Type 0
Alike limit a b = (a ≡ b) ⊎ ((limit ≤ a) × (limit ≤ b))

abbrev AlikeSums : ℕ → Option ℕ → Option ℕ → Type 0
AlikeSums limit None None = Unit {0}
AlikeSums limit None (Some b) = ⊥
AlikeSums limit (Some a) None = ⊥
AlikeSums limit (Some a) (Some b) = Alike limit a b

-- what is summed from here, with the sum so far, up to a limit
abbrev pub capped : ℕ → ℕ → Option ℕ → List ℕ → Option ℕ
capped limit total number rest = option_map (λ (later : ℕ). min (total + later) limit) (groups_after number rest)

times_grows : (limit a u : ℕ) → limit ≤ a → 1 ≤ u → limit ≤ a * u
times_grows limit a u le one = omega (arith, le-mul_of_pos_right {m = u} a one)

alike_times : (limit a b u : ℕ) → Alike limit a b → Alike limit (a * u) (b * u)
alike_times limit a b u (inl e) = inl (ap (λ (k : ℕ). k * u) e)
alike_times limit a b zero (inr h) = inl (omega arith)
alike_times limit a b (suc u) (inr h) = inr (times_grows limit a (suc u) h.0 (omega arith), times_grows limit b (suc u) h.1 (omega arith))

alike_plus : (limit a b k : ℕ) → Alike limit a b → Alike limit (a + k) (b + k)
alike_plus limit a b k (inl e) = inl (ap (λ (n : ℕ). n + k) e)
alike_plus limit a b k (inr h) = inr (omega arith, omega arith)

alike_min : (limit a b total : ℕ) → Alike limit a b → min (total + a) limit ≡ min (total + b) limit
alike_min limit a b total (inl e) = ap (λ (k : ℕ). min (total + k) limit) e
alike_min limit a b total (inr h) = omega arith

-- after an octet that is no digit
unit_alike : (limit a b : ℕ) (unit later : Option ℕ) → Alike limit a b
    → AlikeSums limit (option_and_then (λ u. option_map (λ (l : ℕ). a * u + l) later) unit) (option_and_then (λ u. option_map (λ (l : ℕ). b * u + l) later) unit)
unit_alike limit a b None later h = tt
unit_alike limit a b (Some u) None h = tt
unit_alike limit a b (Some u) (Some l) h = alike_plus limit (a * u) (b * u) l (alike_times limit a b u h)

either_alike : (limit : ℕ) (t : Bool) (a b c d : Option ℕ) → AlikeSums limit a b → AlikeSums limit c d → AlikeSums limit (cond t a c) (cond t b d)
either_alike limit true a b c d h k = h
either_alike limit false a b c d h k = k

alike_after : (limit a b : ℕ) (rest : List ℕ) → Alike limit a b → AlikeSums limit (groups_after (Some a) rest) (groups_after (Some b) rest)
unfolding groups_after
alike_after limit a b [] h = tt
alike_after limit a b (o ∷ rest) h =
    either_alike limit (is_ascii_digit o) _ _ _ _
    (alike_after limit (a * 10 + (o - 48)) (b * 10 + (o - 48)) rest (alike_plus limit (a * 10) (b * 10) (o - 48) (alike_times limit a b 10 h)))
    (unit_alike limit a b (unit_seconds o) (groups_after None rest) h)

same_min : (limit total : ℕ) (a b : Option ℕ) → AlikeSums limit a b → option_map (λ (later : ℕ). min (total + later) limit) a ≡ option_map (λ (later : ℕ). min (total + later) limit) b
same_min limit total None None h = refl
same_min limit total None (Some b) h = absurd h
same_min limit total (Some a) None h = absurd h
same_min limit total (Some a) (Some b) h = ap (λ (k : ℕ). Some k) (alike_min limit a b total h)

-- what is wanted of the whole text
abbrev pub wanted : ℕ → List ℕ → Option ℕ
wanted limit text = option_map (λ (n : ℕ). min n limit) (groups_after None text)

at_digit : (number : Option ℕ) (o : ℕ) (rest : List ℕ) → is_ascii_digit o ≡ true → groups_after number (o ∷ rest) ≡ groups_after (Some (unwrap_or number 0 * 10 + (o - 48))) rest
unfolding groups_after
at_digit None o rest e = rw e
at_digit (Some n) o rest e = rw e

abbrev unit_sum : ℕ → Option ℕ → Option ℕ → Option ℕ
unit_sum n unit later = option_and_then (λ u. option_map (λ (l : ℕ). n * u + l) later) unit

at_unit : (n o : ℕ) (rest : List ℕ) → is_ascii_digit o ≡ false → groups_after (Some n) (o ∷ rest) ≡ unit_sum n (unit_seconds o) (groups_after None rest)
unfolding groups_after
at_unit n o rest e = rw e

at_no_number : (o : ℕ) (rest : List ℕ) → is_ascii_digit o ≡ false → groups_after None (o ∷ rest) ≡ None
unfolding groups_after
at_no_number o rest e = rw e

at_end : (number : Option ℕ) → groups_after number [] ≡ elim number [ None ↦ Some 0 | Some n ↦ None ]
unfolding groups_after
at_end None = refl
at_end (Some n) = refl

alike_digit : (limit a d product n : ℕ) → product ≡ min (a * 10) limit → n ≡ min (product + d) limit → Alike limit (a * 10 + d) n
alike_digit limit a d product n e f =
    elim (cases_lt (a * 10 + d) limit) [
      | inl lt ↦ inl (omega arith)
      | inr le ↦ inr (omega arith, omega arith)
    ]

module _ (limit total : ℕ) (text : List ℕ) (i : ℕ) (whole : Option ℕ) (lt : i < length text) where
  pub after_digit : (number : Option ℕ) (product n : ℕ) → is_ascii_digit (get_or text i 0) ≡ true → product ≡ min (unwrap_or number 0 * 10) limit → n ≡ min (product + (get_or text i 0 - 48)) limit
      → capped limit total number (drop i text) ≡ whole → capped limit total (Some n) (drop (i + 1) text) ≡ whole
  after_digit number product n digit e f so_far =
      let o : ℕ = get_or text i 0 in
      let rest : List ℕ = drop (i + 1) text in
      let step : capped limit total number (drop i text) ≡ capped limit total number (o ∷ rest) = at_drop_more (capped limit total number) text i 0 lt in
      let read = ap (option_map (λ (later : ℕ). min (total + later) limit)) (at_digit number o rest digit) in
      let alike = alike_after limit (unwrap_or number 0 * 10 + (o - 48)) n rest (alike_digit limit (unwrap_or number 0) (o - 48) product n e f) in
      sym (same_min limit total _ _ alike) ∙ sym read ∙ sym step ∙ so_far

  pub after_unit : (n u seconds sum : ℕ) → is_ascii_digit (get_or text i 0) ≡ false → unit_seconds (get_or text i 0) ≡ Some u → seconds ≡ min (n * u) limit → sum ≡ min (total + seconds) limit
      → capped limit total (Some n) (drop i text) ≡ whole → capped limit sum None (drop (i + 1) text) ≡ whole
  after_unit n u seconds sum no_digit unit e f so_far =
      let o : ℕ = get_or text i 0 in
      let rest : List ℕ = drop (i + 1) text in
      let step : capped limit total (Some n) (drop i text) ≡ capped limit total (Some n) (o ∷ rest) = at_drop_more (capped limit total (Some n)) text i 0 lt in
      let read : groups_after (Some n) (o ∷ rest) ≡ unit_sum n (Some u) (groups_after None rest) = at_unit n o rest no_digit ∙ ap (λ (k : Option ℕ). unit_sum n k (groups_after None rest)) unit in
      by_later (groups_after None rest) ∙ sym (ap (option_map (λ (later : ℕ). min (total + later) limit)) read) ∙ sym step ∙ so_far
    where
      by_later : (later : Option ℕ) → option_map (λ (l : ℕ). min (sum + l) limit) later ≡ option_map (λ (l : ℕ). min (total + l) limit) (unit_sum n (Some u) later)
      by_later None = refl
      by_later (Some l) = ap (λ (k : ℕ). Some k) (omega arith)

  pub no_unit : (n : ℕ) → is_ascii_digit (get_or text i 0) ≡ false → unit_seconds (get_or text i 0) ≡ None → capped limit total (Some n) (drop i text) ≡ whole → whole ≡ None
  no_unit n no_digit unit so_far =
      let o : ℕ = get_or text i 0 in
      let rest : List ℕ = drop (i + 1) text in
      let step : capped limit total (Some n) (drop i text) ≡ capped limit total (Some n) (o ∷ rest) = at_drop_more (capped limit total (Some n)) text i 0 lt in
      let read : groups_after (Some n) (o ∷ rest) ≡ None = at_unit n o rest no_digit ∙ ap (λ (k : Option ℕ). unit_sum n k (groups_after None rest)) unit in
      sym so_far ∙ step ∙ ap (option_map (λ (later : ℕ). min (total + later) limit)) read

  pub no_number : is_ascii_digit (get_or text i 0) ≡ false → capped limit total None (drop i text) ≡ whole → whole ≡ None
  no_number no_digit so_far =
      let o : ℕ = get_or text i 0 in
      let rest : List ℕ = drop (i + 1) text in
      let step : capped limit total None (drop i text) ≡ capped limit total None (o ∷ rest) = at_drop_more (capped limit total None) text i 0 lt in
      sym so_far ∙ step ∙ ap (option_map (λ (later : ℕ). min (total + later) limit)) (at_no_number o rest no_digit)

pub ends_open : (limit total : ℕ) (number : Option ℕ) (text : List ℕ) (i : ℕ) (whole : Option ℕ) → length text ≤ i → is_some number ≡ true → capped limit total number (drop i text) ≡ whole → whole ≡ None
ends_open limit total None text i whole le open_number so_far = absurd cc
ends_open limit total (Some n) text i whole le open_number so_far =
    sym so_far ∙ at_drop_all (capped limit total (Some n)) text i le ∙ ap (option_map (λ (later : ℕ). min (total + later) limit)) (at_end (Some n))

pub ends : (limit total : ℕ) (number : Option ℕ) (text : List ℕ) (i : ℕ) (whole : Option ℕ) → length text ≤ i → is_some number ≡ false → total ≤ limit → capped limit total number (drop i text) ≡ whole → whole ≡ Some total
ends limit total (Some n) text i whole le no_number fits so_far = absurd cc
ends limit total None text i whole le no_number fits so_far =
    sym so_far ∙ at_drop_all (capped limit total None) text i le ∙ ap (option_map (λ (later : ℕ). min (total + later) limit)) (at_end None) ∙ ap (λ (k : ℕ). Some k) (omega arith)

-- of a text that is not empty
pub of_some : (text : List ℕ) (found whole : Option ℕ) → 0 < length text → whole ≡ found → found ≡ cond (eqb (length text) 0) None whole
of_some text found whole more e = rw (ne_eqb (length text) 0 (λ (z : length text ≡ 0). absurd (omega arith))) (sym e)
