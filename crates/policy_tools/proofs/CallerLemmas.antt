-- A caller of a kind: one that is named, or one that no rule names.
use Rattle.std.proofs.Common.{◌≡◌, ℕ, zero, suc, ◌/◌, ◌%◌, ◌<◌, ◌≤◌, ◌⊎◌, inl, inr, Bool, true, false, cond, List, [], ◌∷◌, ◌+◌, ◌*◌, length, Some, None, refl, sym, ap, ◌∙◌, subst, ⊎_elim, arith}
use Rattle.std.specs.Prelude.{bytes_eq}
use Rattle.std.specs.List.{Contains, list_all, list_any}
use Rattle.std.proofs.lemmas.Bool.{cases_Bool, cases_lt, false≢true, and_from}
use Rattle.std.proofs.lemmas.Bool.Decides.{nat_tests}
use Rattle.std.proofs.lemmas.List.Folds.{Any-from_list_any, list_any_at}
use Rattle.std.proofs.lemmas.Slice.Eq.{bytes_eq-Decides}
use Rattle.grant_policy.specs.declared.callers.Callers.{Callers}
use Rattle.grant_policy.specs.declared.callers.Callers.TheVariants.{Every, One}
use Rattle.grant_policy.specs.declared.rule.Rule.{Rule}
use Rattle.grant_policy.specs.Identifiers.{IsIdentifier, is_identifier_octet}
use Rattle.grant_policy.specs.Rules.{is_of}
use Rattle.policy_tools.specs.FreeNames.{letter_of}
use Rattle.policy_tools.specs.Taking.{AreCallers, shared_of, is_every, includes}
use Rattle.policy_tools.proofs.FreeNameLemmas.{at_least, HasNumber, rank, rank-letter_of}

-- ---- an identifier that no rule names

letter_octet : (n : ℕ) → n < 36 → is_identifier_octet (letter_of n) ≡ true
letter_octet n h = grind (arith, nat_tests)

-- how many identifiers of so many letters and digits there are
abbrev power : ℕ → ℕ
power zero = 1
power (suc k) = 36 * power k

-- the identifier of a number, so many letters and digits
abbrev letters_of : ℕ → ℕ → List ℕ
letters_of zero n = []
letters_of (suc k) n = letter_of (n % 36) ∷ letters_of k (n / 36)

abbrev number_of : List ℕ → ℕ
number_of [] = 0
number_of (a ∷ rest) = rank a + 36 * number_of rest

number_of-letters_of : (k n : ℕ) → n < power k → number_of (letters_of k n) ≡ n
number_of-letters_of zero n h = omega (arith, h)
number_of-letters_of (suc k) n h = omega (arith, rank-letter_of (n % 36) (omega arith), number_of-letters_of k (n / 36) (omega (arith, h)))

letters_octets : (k n : ℕ) → list_all is_identifier_octet (letters_of k n) ≡ true
letters_octets zero n = refl
letters_octets (suc k) n =
    and_from (is_identifier_octet (letter_of (n % 36))) (list_all is_identifier_octet (letters_of k (n / 36))) (letter_octet (n % 36) (omega arith)) (letters_octets k (n / 36))

letters_length : (k n : ℕ) → length (letters_of k n) ≡ k
letters_length zero n = refl
letters_length (suc k) n = ap suc (letters_length k (n / 36))

-- that of 13, which are more than memory has octets
abbrev free_of : ℕ → List ℕ
free_of n = letters_of 13 n

free_bound : (n : ℕ) → n < 36893488147419103232 → n < power 13
free_bound n h = let e : power 13 ≡ 170581728179578208256 = refl in omega (arith, h, e)

free_is : (n : ℕ) → n < 36893488147419103232 → IsIdentifier (free_of n)
free_is n h = record { octets = letters_octets 13 n; not_empty = omega (arith, letters_length 13 n); short = omega (arith, letters_length 13 n) }

-- the identifier that callers are, where it is one
abbrev pub names : List ℕ → Callers → Bool
names identifier Every = false
names identifier (One other) = bytes_eq other identifier

abbrev number_by : Callers → ℕ
number_by Every = 0
number_by (One identifier) = number_of identifier

named_number : (callers : Callers) (n : ℕ) → n < power 13 → names (free_of n) callers ≡ true → number_by callers ≡ n
named_number Every n h e = absurd (false≢true e)
named_number (One identifier) n h e = ap number_of ((bytes_eq-Decides identifier (free_of n)).0 e) ∙ number_of-letters_of 13 n h

search_to : (p : ℕ → Bool) (n : ℕ) → ((k : ℕ) × (k < n) × (p k ≡ false)) ⊎ ((k : ℕ) → k < n → p k ≡ true)
search_to p zero = inr (λ k lt. absurd (omega arith))
search_to p (suc n) =
    ⊎_elim
    (λ (found : (k : ℕ) × (k < n) × (p k ≡ false)). inl (found.0, omega (arith, found.1), found.2))
    (λ (all : (k : ℕ) → k < n → p k ≡ true). ⊎_elim
    (λ (yes' : p n ≡ true). inr (λ k lt. ⊎_elim (λ (below : k < n). all k below) (λ (upto : n ≤ k). let e : n ≡ k = omega arith in subst (λ (m : ℕ). p m ≡ true) e yes') (cases_lt k n)))
    (λ (no' : p n ≡ false). inl (n, omega arith, no'))
    (cases_Bool (p n)))
    (search_to p n)

-- whether one of these speaks of the identifier of this number alone
abbrev is_named : {X : Type 0} → (X → Callers) → List X → ℕ → Bool
is_named of xs n = list_any (λ x. names (free_of n) (of x)) xs

has_number : {X : Type 0} (of : X → Callers) (xs : List X) (n : ℕ) → n < power 13 → is_named of xs n ≡ true → HasNumber (λ (x : X). number_by (of x)) xs n
has_number {X} of xs n h e =
    let a = Any-from_list_any (λ (x : X). names (free_of n) (of x)) xs e in
    (a.1, (a.0, a.2, a.3), named_number (of a.1) n h a.4)

unnamed_below : {X : Type 0} (of : X → Callers) (xs : List X) (many : ℕ) → many ≡ length xs + 1 → many ≤ 36893488147419103232 → (n : ℕ) × (n < many) × (is_named of xs n ≡ false)
unnamed_below {X} of xs many e few =
    ⊎_elim
    (λ (found : (n : ℕ) × (n < many) × (is_named of xs n ≡ false)). found)
    (λ (all : (n : ℕ) → n < many → is_named of xs n ≡ true). absurd (omega (arith, e, at_least (λ (x : X). number_by (of x)) xs many (λ n lt. has_number of xs n (free_bound n (omega (arith, lt, few))) (all n lt)))))
    (search_to (is_named of xs) many)

unnamed : {X : Type 0} (of : X → Callers) (xs : List X) → length xs < 36893488147419103232 → (n : ℕ) × (n < 36893488147419103232) × (is_named of xs n ≡ false)
unnamed of xs few =
    let found = unnamed_below of xs (length xs + 1) refl (omega (arith, few)) in
    (found.0, omega (arith, found.1, few), found.2)

-- ---- a caller of a kind

-- a caller of whom a rule speaks exactly where it speaks of all of these
pub record RepresentsAll (rules : List Rule) (callers : Callers) (caller : List ℕ) : Type 0 where
  pub identifier : IsIdentifier caller
  pub alike : (rule : Rule) → Contains rules rule → is_of rule.callers caller ≡ includes rule.callers callers

pub not_named : (own : Callers) (identifier : List ℕ) → names identifier own ≡ false → is_of own identifier ≡ is_every own
not_named Every identifier e = refl
not_named (One other) identifier e = e

passes_not : {X : Type 0} (p : X → Bool) (xs : List X) (x : X) → list_any p xs ≡ false → Contains xs x → p x ≡ false
passes_not {X} p xs x none (k, lt, is) =
    ⊎_elim
    (λ (yes' : p x ≡ true). absurd (false≢true (sym none ∙ list_any_at p xs k x lt (subst (λ (y : X). p y ≡ true) (sym is) yes'))))
    (λ (no' : p x ≡ false). no')
    (cases_Bool (p x))

pub represented : (rules : List Rule) (callers : Callers) → length rules ≤ 1024 → AreCallers callers → (caller : List ℕ) × RepresentsAll rules callers caller
represented rules (One identifier) few are = (identifier, record { identifier = are; alike = λ rule in'. refl })
represented rules Every few are =
    let free = unnamed (λ (rule : Rule). rule.callers) rules (omega arith) in (
      free_of free.0,
      record {
        identifier = free_is free.0 free.1;
        alike = λ rule in'. not_named rule.callers (free_of free.0) (passes_not (λ (r : Rule). names (free_of free.0) r.callers) rules rule free.2 in');
      },
    )

-- an identifier of which none of these speaks alone
pub free_identifier : (all : List Callers) → length all < 36893488147419103232 → (identifier : List ℕ) × IsIdentifier identifier × ((callers : Callers) → Contains all callers → names identifier callers ≡ false)
free_identifier all few =
    let free = unnamed (λ (callers : Callers). callers) all few in
    (free_of free.0, free_is free.0 free.1, λ callers in'. passes_not (names (free_of free.0)) all callers free.2 in')

-- ---- callers of whom two rules speak

pub record IsShared (one other callers : Callers) (caller : List ℕ) : Type 0 where
  pub is : shared_of one other ≡ Some callers
  pub among : (own : Callers) → includes own callers ≡ true → is_of own caller ≡ true

pub every_is_of : (own : Callers) (caller : List ℕ) → is_every own ≡ true → is_of own caller ≡ true
every_is_of Every caller e = refl
every_is_of (One identifier) caller e = absurd (false≢true e)

pub same_among : (identifier caller : List ℕ) → bytes_eq identifier caller ≡ true → (own : Callers) → is_of own identifier ≡ true → is_of own caller ≡ true
same_among identifier caller e own i = subst (λ (c : List ℕ). is_of own c ≡ true) ((bytes_eq-Decides identifier caller).0 e) i

-- a caller of whom both speak is one of those that they share
pub sharing : (one other : Callers) (caller : List ℕ) → is_of one caller ≡ true → is_of other caller ≡ true → (callers : Callers) × IsShared one other callers caller
sharing Every Every caller e f = (Every, record { is = refl; among = λ own i. every_is_of own caller i })
sharing Every (One identifier) caller e f = (One identifier, record { is = refl; among = same_among identifier caller f })
sharing (One identifier) Every caller e f = (One identifier, record { is = refl; among = same_among identifier caller e })
sharing (One own) (One other) caller e f =
    let same : other ≡ own = (bytes_eq-Decides other caller).0 f ∙ sym ((bytes_eq-Decides own caller).0 e) in
    (One own, record { is = ap (λ (b : Bool). cond b (Some (One own)) None) ((bytes_eq-Decides other own).1 same); among = same_among own caller e })

-- both rules speak of all whom they share
pub shared_by : (one other callers : Callers) → shared_of one other ≡ Some callers → (includes one callers ≡ true) × (includes other callers ≡ true)
shared_by Every other callers e = let same : other ≡ callers = some_same other callers e in subst (λ (c : Callers). (includes Every c ≡ true) × (includes other c ≡ true)) same (by_every other, by_self other)
  where
    some_same : (a b : Callers) → Some a ≡ Some b → a ≡ b
    some_same a b h = cc

    by_every : (c : Callers) → includes Every c ≡ true
    by_every Every = refl
    by_every (One identifier) = refl

    by_self : (c : Callers) → includes c c ≡ true
    by_self Every = refl
    by_self (One identifier) = (bytes_eq-Decides identifier identifier).1 refl
shared_by (One own) Every callers e =
    let same : One own ≡ callers = some_same (One own) callers e in
    subst (λ (c : Callers). (includes (One own) c ≡ true) × (includes Every c ≡ true)) same ((bytes_eq-Decides own own).1 refl, refl)
  where
    some_same : (a b : Callers) → Some a ≡ Some b → a ≡ b
    some_same a b h = cc
shared_by (One own) (One other) callers e = by (bytes_eq other own) refl e
  where
    some_same : (a b : Callers) → Some a ≡ Some b → a ≡ b
    some_same a b h = cc

    none_some : (b : Callers) → None ≡ Some b → ⊥
    none_some b h = cc

    by : (t : Bool) → bytes_eq other own ≡ t → cond t (Some (One own)) None ≡ Some callers → (includes (One own) callers ≡ true) × (includes (One other) callers ≡ true)
    by true same is =
        subst (λ (c : Callers). (includes (One own) c ≡ true) × (includes (One other) c ≡ true)) (some_same (One own) callers is) ((bytes_eq-Decides own own).1 refl, same)
    by false same is = absurd (none_some callers is)
