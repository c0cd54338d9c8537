-- Pairs of a type and an action as bits.
use Rattle.std.proofs.Common.{◌≡◌, ◌≢◌, ◌⊎◌, inl, inr, ℕ, zero, suc, ◌+◌, ◌-◌, ◌*◌, ◌/◌, ◌%◌, ◌^◌, ◌<◌, ◌≤◌, Bool, true, false, ◌&&◌, ◌||◌, not, eqb, ltb, min, max, get_or, refl, sym, ap, ◌∙◌, ⊎_elim, arith, lit<, lit≤, bit_and, bit_or, w64}
use Rattle.std.specs.Int.{bit_at, trailing_zeros}
use Rattle.std.proofs.lemmas.Bool.{both_ways, false≢true, false_from_ne_true, cases_lt, cases_eq, and_parts, and_from, and_left, and_right, eq-eqb, eqb-true, lt-ltb, le-ltb}
use Rattle.std.proofs.lemmas.Nat.{or_lt, and_le_l, pow_pos}
use Rattle.std.proofs.lemmas.Nat.Bits.{bit_at_and, bit_at_or, bit_at_not, bit_at-lt, bit_at-zero, bit_at_above, bit_at_set_same, bit_at_set_other, bit_at-trailing_zeros}
use Rattle.std.proofs.Math.Nat.{pow-suc, mod-le}
use Rattle.std.proofs.Math.Pow.{pow_mono}
use Rattle.dns_data.specs.declared.record_type.RecordType.{RecordType}
use Rattle.dns_data.specs.declared.record_type.RecordType.TheVariants.{A}
use Rattle.dns_data.specs.Types.{kept_types, place_of}
use Rattle.dns_data.proofs.KeptLaws.{place_is_low, place_of_type, type_at_place}
use Rattle.grant_policy.specs.declared.action.Action.{Action}
use Rattle.grant_policy.specs.declared.action.Action.TheVariants as actions
use Rattle.grant_policy.specs.Words.{action_place, all_actions}
use Rattle.policy_tools.specs.Points.{pairs, pair_number, type_at, action_at, has_point, Meet, IsInBoth, Differ}

-- ---- places

action_low : (a : Action) → action_place a < 5
action_low actions.List = lit< tt
action_low actions.Check = lit< tt
action_low actions.Add = lit< tt
action_low actions.Delete = lit< tt
action_low actions.Delegate = lit< tt

action_there : (a : Action) → get_or all_actions (action_place a) actions.List ≡ a
action_there actions.List = refl
action_there actions.Check = refl
action_there actions.Add = refl
action_there actions.Delete = refl
action_there actions.Delegate = refl

action_placed : (n : ℕ) → n < 5 → action_place (get_or all_actions n actions.List) ≡ n
action_placed zero lt = refl
action_placed (suc zero) lt = refl
action_placed (suc (suc zero)) lt = refl
action_placed (suc (suc (suc zero))) lt = refl
action_placed (suc (suc (suc (suc zero)))) lt = refl
action_placed (suc (suc (suc (suc (suc n))))) lt = absurd (omega (arith, lt))

-- ---- pairs

pub pair_low : (t : RecordType) (a : Action) → pair_number t a < pairs
pair_low t a = omega (arith, place_is_low t, action_low a)

-- the pair of the number of a pair is that pair
pub type_of_pair : (t : RecordType) (a : Action) → type_at (pair_number t a) ≡ t
type_of_pair t a =
    let e : pair_number t a / 5 ≡ place_of t = omega (arith, action_low a) in
    ap (λ (n : ℕ). get_or kept_types n A) e ∙ type_at_place t

pub action_of_pair : (t : RecordType) (a : Action) → action_at (pair_number t a) ≡ a
action_of_pair t a =
    let e : pair_number t a % 5 ≡ action_place a = omega (arith, action_low a) in
    ap (λ (n : ℕ). get_or all_actions n actions.List) e ∙ action_there a

-- and the number of the pair of a number is that number
pub number_of_pair : (n : ℕ) → n < pairs → pair_number (type_at n) (action_at n) ≡ n
number_of_pair n lt = omega (arith, place_of_type (n / 5) (omega (arith, lt)), action_placed (n % 5) (omega arith))

-- ---- sets

or_two : (p q : ℕ) → p < 2 → q < 2 → eqb (max p q) 1 ≡ (eqb p 1 || eqb q 1)
or_two zero zero h k = refl
or_two zero (suc zero) h k = refl
or_two (suc zero) zero h k = refl
or_two (suc zero) (suc zero) h k = refl
or_two zero (suc (suc q)) h k = absurd (omega (arith, k))
or_two (suc zero) (suc (suc q)) h k = absurd (omega (arith, k))
or_two (suc (suc p)) q h k = absurd (omega (arith, h))

and_two : (p q : ℕ) → p < 2 → q < 2 → eqb (min p q) 1 ≡ (eqb p 1 && eqb q 1)
and_two zero zero h k = refl
and_two zero (suc zero) h k = refl
and_two (suc zero) zero h k = refl
and_two (suc zero) (suc zero) h k = refl
and_two zero (suc (suc q)) h k = absurd (omega (arith, k))
and_two (suc zero) (suc (suc q)) h k = absurd (omega (arith, k))
and_two (suc (suc p)) q h k = absurd (omega (arith, h))

not_two : (p : ℕ) → p < 2 → eqb (1 - p) 1 ≡ not (eqb p 1)
not_two zero h = refl
not_two (suc zero) h = refl
not_two (suc (suc p)) h = absurd (omega (arith, h))

or_bit : (x y i : ℕ) → eqb (bit_at (bit_or x y) i) 1 ≡ (eqb (bit_at x i) 1 || eqb (bit_at y i) 1)
or_bit x y i = ap (λ (n : ℕ). eqb n 1) (bit_at_or x y i) ∙ or_two (bit_at x i) (bit_at y i) (bit_at-lt x i) (bit_at-lt y i)

and_bit : (x y i : ℕ) → eqb (bit_at (bit_and x y) i) 1 ≡ (eqb (bit_at x i) 1 && eqb (bit_at y i) 1)
and_bit x y i = ap (λ (n : ℕ). eqb n 1) (bit_at_and x y i) ∙ and_two (bit_at x i) (bit_at y i) (bit_at-lt x i) (bit_at-lt y i)

not_bit : (y i : ℕ) → y < 2 ^ 64 → i < 64 → eqb (bit_at (18446744073709551615 - y) i) 1 ≡ not (eqb (bit_at y i) 1)
not_bit y i small lt = ap (λ (n : ℕ). eqb n 1) (bit_at_not w64 y i small lt) ∙ not_two (bit_at y i) (bit_at-lt y i)

-- the pairs fit into a word
pairs_fit : pairs ≤ 64
pairs_fit = lit≤ tt

fits_word : (y : ℕ) → y < 2 ^ pairs → y < 2 ^ 64
fits_word y small = omega (arith, small, pow_mono {i = pairs} {j = 64} pairs_fit)

pub with_points : (x y : ℕ) (t : RecordType) (a : Action) → has_point (bit_or x y) t a ≡ (has_point x t a || has_point y t a)
with_points x y t a = or_bit x y (pair_number t a)

pub without_points : (x y : ℕ) → y < 2 ^ pairs → (t : RecordType) (a : Action) → has_point (bit_and x (18446744073709551615 - y)) t a ≡ (has_point x t a && not (has_point y t a))
without_points x y small t a =
    and_bit x (18446744073709551615 - y) (pair_number t a)
    ∙ ap (λ (b : Bool). has_point x t a && b) (not_bit y (pair_number t a) (fits_word y small) (omega (arith, pair_low t a, pairs_fit)))

-- ---- some pair

pub same_bools : (b c : Bool) → (b ≡ true → c ≡ true) → (c ≡ true → b ≡ true) → b ≡ c
same_bools true c f g = sym (f refl)
same_bools false true f g = g refl
same_bools false false f g = refl

-- the lowest pair of both sets
pub first_pair : (x y : ℕ) → x < 2 ^ pairs → (bit_and x y ≡ 0 → ⊥) → (trailing_zeros w64 (bit_and x y) < pairs) × IsInBoth x y (type_at (trailing_zeros w64 (bit_and x y))) (action_at (trailing_zeros w64 (bit_and x y)))
first_pair x y small some =
    let z = bit_and x y in
    let low : z < 2 ^ pairs = omega (arith, and_le_l x y, small) in
    let first = bit_at-trailing_zeros w64 z (omega (arith, some)) (fits_word z low) in
    let k = trailing_zeros w64 z in
    let within : k < pairs =
    ⊎_elim (λ (lt : k < pairs). lt) (λ (le : pairs ≤ k). absurd (omega (arith, first.1, bit_at_above z pairs k low le))) (cases_lt k pairs)
    in
    let e : bit_at z (pair_number (type_at k) (action_at k)) ≡ 1 = ap (λ (n : ℕ). bit_at z n) (number_of_pair k within) ∙ first.1 in
    let both = and_parts (has_point x (type_at k) (action_at k)) (has_point y (type_at k) (action_at k)) (sym (and_bit x y (pair_number (type_at k) (action_at k))) ∙ eq-eqb (bit_at z (pair_number (type_at k) (action_at k))) 1 e) in
    (within, record { in_one = both.0; in_other = both.1 })

pub some_pair : (x y : ℕ) → x < 2 ^ pairs → (bit_and x y ≡ 0 → ⊥) → Meet x y
some_pair x y small some =
    let k = trailing_zeros w64 (bit_and x y) in
    let both = (first_pair x y small some).1 in
    record { record_type = type_at k; action = action_at k; in_one = both.in_one; in_other = both.in_other }

pub not_none : (x y : ℕ) → Meet x y → bit_and x y ≡ 0 → ⊥
not_none x y m none =
    let n = pair_number m.record_type m.action in
    let has = and_bit x y n ∙ and_from (has_point x m.record_type m.action) (has_point y m.record_type m.action) m.in_one m.in_other in
    let one : bit_at (bit_and x y) n ≡ 1 = eqb-true (bit_at (bit_and x y) n) 1 has in
    let zero' : bit_at (bit_and x y) n ≡ 0 = ap (λ (z : ℕ). bit_at z n) none ∙ bit_at-zero n in
    omega (arith, one, zero')

-- ---- the pairs that pass a test

pub record AreBits (test : RecordType → Action → Bool) (n bits : ℕ) : Type 0 where
  pub few : bits < 2 ^ n
  pub pairs : (t : RecordType) (a : Action) → has_point bits t a ≡ (ltb (pair_number t a) n && test t a)

pub no_bits : (test : RecordType → Action → Bool) → AreBits test 0 0
no_bits test = record {
  few = lit< tt;
  pairs = λ t a. ap (λ (n : ℕ). eqb n 1) (bit_at-zero (pair_number t a)) ∙ sym (and_left (ltb (pair_number t a) 0) (test t a) (le-ltb (pair_number t a) 0 (omega arith)));
}

named_at : (test : RecordType → Action → Bool) (n : ℕ) (b : Bool) → test (type_at n) (action_at n) ≡ b → (t : RecordType) (a : Action) → pair_number t a ≡ n → test t a ≡ b
named_at test n b says t a e =
    let tn : type_at n ≡ t = ap type_at (sym e) ∙ type_of_pair t a in
    let an : action_at n ≡ a = ap action_at (sym e) ∙ action_of_pair t a in
    sym (ap (λ (u : RecordType). test u a) tn) ∙ sym (ap (λ (b' : Action). test (type_at n) b') an) ∙ says

below_next : (m n : ℕ) → (m ≡ n → ⊥) → ltb m n ≡ ltb m (n + 1)
below_next m n other =
    ⊎_elim
    (λ (lt : m < n). lt-ltb m n lt ∙ sym (lt-ltb m (n + 1) (omega (arith, lt))))
    (λ (le : n ≤ m). le-ltb m n le ∙ sym (le-ltb m (n + 1) (omega (arith, le, other))))
    (cases_lt m n)

twice : (n : ℕ) → 2 ^ (n + 1) ≡ 2 ^ n + 2 ^ n
twice n =
    let e : n + 1 ≡ suc n = omega arith in
    let d : 2 ^ n * 2 ≡ 2 ^ n + 2 ^ n = omega arith in
    ap (λ (k : ℕ). 2 ^ k) e ∙ pow-suc 2 n ∙ d

pub one_bit : (test : RecordType → Action → Bool) (n bits : ℕ) → n < pairs → AreBits test n bits → test (type_at n) (action_at n) ≡ true → AreBits test (n + 1) (bit_or bits (1 * 2 ^ n % 2 ^ 64))
one_bit test n bits lt are says = record {
  few = or_lt (n + 1) bits (1 * 2 ^ n % 2 ^ 64) (omega (arith, are.few, twice n)) (omega (arith, bit, twice n, pow_pos n));
  pairs = λ t a. by t a (cases_eq (pair_number t a) n);
}
  where
    bit : 1 * 2 ^ n % 2 ^ 64 ≤ 2 ^ n
    bit = omega (arith, mod-le (1 * 2 ^ n) (2 ^ 64))

    by : (t : RecordType) (a : Action) → (pair_number t a ≡ n) ⊎ (pair_number t a ≡ n → ⊥) → has_point (bit_or bits (1 * 2 ^ n % 2 ^ 64)) t a ≡ (ltb (pair_number t a) (n + 1) && test t a)
    by t a (inl e) =
        let set : bit_at (bit_or bits (1 * 2 ^ n % 2 ^ 64)) (pair_number t a) ≡ 1 = ap (λ (k : ℕ). bit_at (bit_or bits (1 * 2 ^ n % 2 ^ 64)) k) e ∙ bit_at_set_same w64 bits n (omega (arith, lt, pairs_fit)) in
        eq-eqb (bit_at (bit_or bits (1 * 2 ^ n % 2 ^ 64)) (pair_number t a)) 1 set
        ∙ sym (and_from (ltb (pair_number t a) (n + 1)) (test t a) (lt-ltb (pair_number t a) (n + 1) (omega (arith, e))) (named_at test n true says t a e))
    by t a (inr other) =
        ap (λ (k : ℕ). eqb k 1) (bit_at_set_other w64 bits n (omega (arith, lt, pairs_fit)) (pair_number t a) other)
        ∙ are.pairs t a
        ∙ ap (λ (b : Bool). b && test t a) (below_next (pair_number t a) n other)

pub same_bits : (test : RecordType → Action → Bool) (n bits : ℕ) → n < pairs → AreBits test n bits → test (type_at n) (action_at n) ≡ false → AreBits test (n + 1) bits
same_bits test n bits lt are says = record {
  few = omega (arith, are.few, twice n);
  pairs = λ t a. by t a (cases_eq (pair_number t a) n);
}
  where
    by : (t : RecordType) (a : Action) → (pair_number t a ≡ n) ⊎ (pair_number t a ≡ n → ⊥) → has_point bits t a ≡ (ltb (pair_number t a) (n + 1) && test t a)
    by t a (inl e) =
        are.pairs t a
        ∙ and_right (ltb (pair_number t a) n) (test t a) (named_at test n false says t a e)
        ∙ sym (and_right (ltb (pair_number t a) (n + 1)) (test t a) (named_at test n false says t a e))
    by t a (inr other) = are.pairs t a ∙ ap (λ (b : Bool). b && test t a) (below_next (pair_number t a) n other)

pub all_bits : (test : RecordType → Action → Bool) (n bits : ℕ) → n ≡ pairs → AreBits test n bits → (t : RecordType) (a : Action) → has_point bits t a ≡ test t a
all_bits test n bits e are t a = are.pairs t a ∙ ap (λ (b : Bool). b && test t a) (lt-ltb (pair_number t a) n (omega (arith, e, pair_low t a)))

-- ---- no pair

-- a set has no pair where it does not meet itself
pub empty_from : (x : ℕ) (b : Bool) → (b ≡ true → Meet x x) → (Meet x x → b ≡ true) → (not b ≡ true → (t : RecordType) (a : Action) → has_point x t a ≡ false) × (((t : RecordType) (a : Action) → has_point x t a ≡ false) → not b ≡ true)
empty_from x true there back = (λ e. absurd (false≢true e), λ none. let m = there refl in absurd (both_ways (has_point x m.record_type m.action) (none m.record_type m.action) m.in_one))
empty_from x false there back = (λ e t a. false_from_ne_true (has_point x t a) (λ has. absurd (false≢true (back (record { record_type = t; action = a; in_one = has; in_other = has })))), λ none. refl)

-- ---- sets that differ

apart_here : (p q : Bool) → ((p && not q) || (q && not p)) ≡ true → p ≢ q
apart_here true true e same = false≢true e
apart_here true false e same = false≢true (sym same)
apart_here false true e same = false≢true same
apart_here false false e same = false≢true e

same_here : (p q : Bool) → ((p && not q) || (q && not p)) ≡ false → p ≡ q
same_here true true e = refl
same_here true false e = absurd (false≢true (sym e))
same_here false true e = absurd (false≢true (sym e))
same_here false false e = refl

-- the pairs of one set that are not in the other, of both sets
abbrev pub AreApart : ℕ → ℕ → ℕ → Type 0
AreApart x y apart = (t : RecordType) (a : Action) → has_point apart t a ≡ ((has_point x t a && not (has_point y t a)) || (has_point y t a && not (has_point x t a)))

pub differ_from : (x y apart : ℕ) → AreApart x y apart → Meet apart apart → Differ x y
differ_from x y apart are m = record { record_type = m.record_type; action = m.action; differ = apart_here (has_point x m.record_type m.action) (has_point y m.record_type m.action) (sym (are m.record_type m.action) ∙ m.in_one) }

pub same_from : (x y apart : ℕ) → AreApart x y apart → (Meet apart apart → ⊥) → (t : RecordType) (a : Action) → has_point x t a ≡ has_point y t a
same_from x y apart are none t a =
    same_here (has_point x t a) (has_point y t a)
    (sym (are t a) ∙ false_from_ne_true (has_point apart t a) (λ has. none (record { record_type = t; action = a; in_one = has; in_other = has })))

pub both_parts : (x y less more apart : ℕ)
    → ((t : RecordType) (a : Action) → has_point less t a ≡ (has_point x t a && not (has_point y t a)))
    → ((t : RecordType) (a : Action) → has_point more t a ≡ (has_point y t a && not (has_point x t a)))
    → ((t : RecordType) (a : Action) → has_point apart t a ≡ (has_point less t a || has_point more t a))
    → AreApart x y apart
both_parts x y less more apart one other both t a =
    both t a
    ∙ ap (λ (b : Bool). b || has_point more t a) (one t a)
    ∙ ap (λ (b : Bool). (has_point x t a && not (has_point y t a)) || b) (other t a)
