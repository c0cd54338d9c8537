-- What the entries of rows say of rules.
use Rattle.std.proofs.Common.{◌≡◌, ◌⊎◌, ◌↔◌, inl, inr, ℕ, zero, suc, ◌+◌, ◌<◌, ◌≤◌, Bool, true, false, ◌&&◌, ◌||◌, not, cond, eqb, List, [], ◌∷◌, ◌++◌, length, map, get_or, set, take, Option, Some, None, Bor, refl, sym, ap, ◌∙◌, subst, ⊎_elim, arith, length-take}
use Rattle.std.specs.Prelude.{slice_get, bytes_eq, is_some}
use Rattle.std.specs.Option.{option_copied}
use Rattle.std.specs.List.{All, Contains, list_any}
use Rattle.std.specs.List.Sorted.{IsStrictlyIncreasing}
use Rattle.std.proofs.lemmas.Bool.{cases_lt, cases_eq, both_ways, false≢true, false_from_ne_true, not-true, not_from_false, and_from, eqb-true, eq-eqb}
use Rattle.std.proofs.lemmas.List.{get_or-take, get_or-map, get_or_default, get_or-set_same, get_or-set_other, length-map, length-set, map_push, take-map, take_all, take_more}
use Rattle.std.proofs.lemmas.List.Elements.{All-push, All-take, All-contains, Contains-get_or, Contains-push, Contains-push_cases, Contains-append_left}
use Rattle.std.proofs.lemmas.List.Folds.{Any-from_list_any, list_any_at, list_any_more}
use Rattle.std.proofs.lemmas.Option.{slice_get_within, slice_get_read, get_or_from_slice_get}
use Rattle.std.proofs.lemmas.Slice.Eq.{bytes_eq-Decides}
use Rattle.dns_names.specs.Labels.{IsName}
use Rattle.dns_data.specs.declared.record_type.RecordType.{RecordType}
use Rattle.grant_policy.specs.declared.action.Action.{Action}
use Rattle.grant_policy.specs.declared.callers.Callers.{Callers}
use Rattle.grant_policy.specs.declared.callers.Callers.TheVariants.{Every, One}
use Rattle.grant_policy.specs.declared.rule.Rule.{Rule}
use Rattle.grant_policy.specs.Scopes.{covers}
use Rattle.grant_policy.specs.Rules.{Matches}
use Rattle.grant_policy.proofs.DecisionLaws.{same_Some}
use Rattle.policy_tools.specs.declared.claims.Claim.{Claim}
use Rattle.policy_tools.specs.declared.claims.Entry.{Entry}
use Rattle.policy_tools.specs.declared.claims.Coverage.{Coverage}
use Rattle.policy_tools.specs.Idle.{Takes, AreTakers}
use Rattle.policy_tools.specs.Representatives.{AreAlike, Represent}
use Rattle.policy_tools.specs.Points.{has_point, names_point}
use Rattle.policy_tools.specs.Taking.{AreCallers, shared_of, includes, speaks}
use Rattle.policy_tools.specs.Claims.{AreBelow, HasPairs, rules_of, is_taken, is_decided, CoversAt, IsEntry, AreEntries, IsRow, TakesBehind, Hits, TakesIn}
use Rattle.policy_tools.proofs.CallerLemmas.{sharing}
use Rattle.policy_tools.proofs.PointLemmas.{same_bools}
use Rattle.policy_tools.proofs.TakeLemmas.{fst, snd, at_place, before_place, passes_before, taken_at, still_free, spoken}
use Rattle.policy_tools.proofs.IdleLemmas.{more_yes, more_no}

-- ---- lists

contains_more : {X : Type 0} (x y : X) (xs : List X) → Contains xs x → Contains (y ∷ xs) x
contains_more x y xs (k, lt, is) = (suc k, omega (arith, lt), is)

-- what is among images is the image of something
pub from_map : {X Y : Type 0} (f : X → Y) (xs : List X) (y : Y) → Contains (map f xs) y → (x : X) × Contains xs x × (f x ≡ y)
from_map f [] y (q, lt, is) = absurd (omega (arith, lt))
from_map f (x ∷ xs) y (zero, lt, is) = (x, (0, omega arith, refl), is)
from_map f (x ∷ xs) y (suc q, lt, is) =
    let r = from_map f xs y (q, omega (arith, lt), is) in
    (r.0, contains_more r.0 x xs r.1, r.2)

pub in_map : {X Y : Type 0} (f : X → Y) (xs : List X) (x : X) → Contains xs x → Contains (map f xs) (f x)
in_map {X} {Y} f xs x (k, lt, is) = (k, omega (arith, lt, length-map xs f), get_or-map f xs k x (f x) lt ∙ ap f is)

pub place_of : {X : Type 0} (xs : List X) (x : X) → Contains xs x → (p : ℕ) × (slice_get xs p ≡ Some x)
place_of xs x (k, lt, is) = (k, slice_get_read xs (length xs) k x refl lt (sym is))

pub among : {X : Type 0} (xs : List X) (p : ℕ) (x : X) → slice_get xs p ≡ Some x → Contains xs x
among xs p x at = (p, slice_get_within xs p x at, get_or_from_slice_get xs p x x at)

-- ---- numbers in order

rising : (xs : List ℕ) → IsStrictlyIncreasing xs → (i j : ℕ) → i < j → j < length xs → get_or xs i 0 < get_or xs j 0
rising xs ordered i zero lt within = absurd (omega (arith, lt))
rising xs ordered i (suc j) lt within =
    let e : j + 1 ≡ suc j = omega arith in
    let next : get_or xs j 0 < get_or xs (suc j) 0 = subst (λ (k : ℕ). get_or xs j 0 < get_or xs k 0) e (ordered j (omega (arith, within))) in
    ⊎_elim
    (λ (below : i < j). omega (arith, rising xs ordered i j below (omega (arith, within)), next))
    (λ (le : j ≤ i). let same : j ≡ i = omega (arith, lt, le) in subst (λ (k : ℕ). get_or xs k 0 < get_or xs (suc j) 0) same next)
    (cases_lt i j)

below_take : (P : ℕ → Type 0) (n : ℕ) (xs : List ℕ) (p : ℕ) → p < length xs → AreBelow P n xs → AreBelow P (get_or xs p 0) (take p xs)
below_take P n xs p within are = record { each = λ k. (there k, back k); ordered = ordered }
  where
    long : length (take p xs) ≡ p
    long = omega (arith, length-take p xs, within)

    there : (k : ℕ) → Contains (take p xs) k → (k < get_or xs p 0) × P k
    there k (q, lt, is) =
        let near : q < p = omega (arith, lt, long) in
        let at : get_or xs q k ≡ k = sym (get_or-take p xs q k near) ∙ is in
        let same : get_or xs q k ≡ get_or xs q 0 = get_or_default xs q k 0 (omega (arith, near, within)) in
        (omega (arith, rising xs are.ordered q p near within, at, same), ((are.each k).0 (q, omega (arith, near, within), at)).1)

    last : get_or xs p 0 < n
    last = ((are.each (get_or xs p 0)).0 (Contains-get_or xs p 0 within)).0

    back : (k : ℕ) → (k < get_or xs p 0) × P k → Contains (take p xs) k
    back k h =
        let found = (are.each k).1 (omega (arith, h.0, last), h.1) in
        let q = found.0 in
        let at : get_or xs q 0 ≡ k = get_or_default xs q 0 k found.1 ∙ found.2 in
        let near : q < p = ⊎_elim (λ (lt : q < p). lt) (λ (le : p ≤ q). ⊎_elim (λ (less : p < q). absurd (omega (arith, rising xs are.ordered p q less found.1, at, h.0))) (λ (up : q ≤ p). let e : p ≡ q = omega (arith, le, up) in absurd (omega (arith, ap (λ (m : ℕ). get_or xs m 0) e, at, h.0))) (cases_lt p q)) (cases_lt q p) in
        (q, omega (arith, near, long), get_or-take p xs q k near ∙ found.2)

    ordered : IsStrictlyIncreasing (take p xs)
    ordered k lt =
        let a = get_or-take p xs k 0 (omega (arith, lt, long)) in
        let b = get_or-take p xs (k + 1) 0 (omega (arith, lt, long)) in
        omega (arith, a, b, are.ordered k (omega (arith, lt, long, within)))

-- ---- entries

number_at : (entries : List Entry) (p : ℕ) (e : Entry) → slice_get entries p ≡ Some e → get_or (map (λ (x : Entry). x.number) entries) p 0 ≡ e.number
number_at entries p e at =
    get_or-map (λ (x : Entry). x.number) entries p e 0 (slice_get_within entries p e at)
    ∙ ap (λ (x : Entry). x.number) (get_or_from_slice_get entries p e e at)

-- the entries before one are those of the rules before its rule
pub entries_before : (rules : List Rule) (name : List (List ℕ)) (n : ℕ) (entries : List Entry) → AreEntries rules name n entries → (p : ℕ) (e : Entry) → slice_get entries p ≡ Some e → AreEntries rules name e.number (take p entries)
entries_before rules name n entries are p e at =
    let f : Entry → ℕ = λ (x : Entry). x.number in
    let within = slice_get_within entries p e at in
    let taken = below_take (CoversAt rules name) n (map f entries) p (omega (arith, within, length-map entries f)) are.numbers in
    record {
      numbers = subst (λ (m : ℕ). AreBelow (CoversAt rules name) m (map f (take p entries))) (number_at entries p e at) (subst (AreBelow (CoversAt rules name) (get_or (map f entries) p 0)) (take-map f p entries) taken);
      each = All-take (IsEntry rules name) p entries are.each;
    }

pub entry_at : (rules : List Rule) (name : List (List ℕ)) (n : ℕ) (entries : List Entry) → AreEntries rules name n entries → (e : Entry) → Contains entries e → IsEntry rules name e × CoversAt rules name e.number × (e.number < n)
entry_at rules name n entries are e in' =
    let covered = (are.numbers.each e.number).0 (in_map (λ (x : Entry). x.number) entries e in') in
    (All-contains (IsEntry rules name) entries e are.each in', covered.1, covered.0)

pub covering : (rules : List Rule) (name : List (List ℕ)) (j : ℕ) (rule : Rule) → slice_get rules j ≡ Some rule → CoversAt rules name j → covers rule.scope rule.at name ≡ true
covering rules name j rule at (other, there, yes') = subst (λ (r : Rule). covers r.scope r.at name ≡ true) (same_Some other rule (sym there ∙ at)) yes'

-- what is decided by the entries of the first rules is taken by these rules
pub before_same : (rules : List Rule) (name : List (List ℕ)) (j : ℕ) (entries : List Entry) → AreEntries rules name j entries → (callers : Callers) (t : RecordType) (a : Action) → is_decided entries callers t a ≡ is_taken (take j rules) name callers t a
before_same rules name j entries are callers t a = same_bools (is_decided entries callers t a) (is_taken (take j rules) name callers t a) there back
  where
    there : is_decided entries callers t a ≡ true → is_taken (take j rules) name callers t a ≡ true
    there yes' =
        let found = Any-from_list_any (λ (e : Entry). includes e.claim.rule.now.callers callers && has_point e.claim.points.bits t a) entries yes' in
        let e = found.1 in
        let rule = e.claim.rule.now in
        let is = entry_at rules name j entries are e (found.0, found.2, found.3) in
        let includes' = fst (includes rule.callers callers) (has_point e.claim.points.bits t a) found.4 in
        let says = sym (is.0.pairs t a) ∙ snd (includes rule.callers callers) (has_point e.claim.points.bits t a) found.4 in
        passes_before (λ (r : Rule). includes r.callers callers && speaks r name t a) rules j e.number rule is.2 is.0.rule
        (and_from (includes rule.callers callers) (speaks rule name t a) includes' (and_from (covers rule.scope rule.at name) (names_point rule t a) (covering rules name e.number rule is.0.rule is.1) says))

    back : is_taken (take j rules) name callers t a ≡ true → is_decided entries callers t a ≡ true
    back yes' =
        let found = Any-from_list_any (λ (r : Rule). includes r.callers callers && speaks r name t a) (take j rules) yes' in
        let rule = found.1 in
        let place = before_place rules j found.0 rule found.2 found.3 in
        let includes' = fst (includes rule.callers callers) (speaks rule name t a) found.4 in
        let says = snd (includes rule.callers callers) (speaks rule name t a) found.4 in
        let covers' = fst (covers rule.scope rule.at name) (names_point rule t a) says in
        let named = snd (covers rule.scope rule.at name) (names_point rule t a) says in
        let entry = from_map (λ (e : Entry). e.number) entries found.0 ((are.numbers.each found.0).1 (place.0, (rule, place.1, covers'))) in
        let e = entry.0 in
        let is = (entry_at rules name j entries are e entry.1).0 in
        let same : rule ≡ e.claim.rule.now = same_Some rule e.claim.rule.now (sym place.1 ∙ sym (ap (λ (k : ℕ). slice_get rules k) entry.2) ∙ is.rule) in
        let i2 = subst (λ (r : Rule). includes r.callers callers ≡ true) same includes' in
        let n2 = is.pairs t a ∙ subst (λ (r : Rule). names_point r t a ≡ true) same named in
        let passes = and_from (includes e.claim.rule.now.callers callers) (has_point e.claim.points.bits t a) i2 n2 in
        list_any_at (λ (x : Entry). includes x.claim.rule.now.callers callers && has_point x.claim.points.bits t a) entries entry.1.0 e entry.1.1
        (subst (λ (x : Entry). (includes x.claim.rule.now.callers callers && has_point x.claim.points.bits t a) ≡ true) (sym entry.1.2) passes)

-- ---- one entry more

pub rule_at : (claims : List Claim) (n : ℕ) (c : Claim) → n < length claims → c ≡ get_or claims n c → slice_get (rules_of claims) n ≡ Some c.rule.now
rule_at claims n c lt is =
    let f : Claim → Rule = λ (x : Claim). x.rule.now in
    slice_get_read (map f claims) (length (map f claims)) n c.rule.now refl (omega (arith, lt, length-map claims f)) (ap f is ∙ sym (get_or-map f claims n c c.rule.now lt))

pub one_entry : (rules : List Rule) (name : List (List ℕ)) (n : ℕ) (entries : List Entry) (e : Entry) → AreEntries rules name n entries → e.number ≡ n → slice_get rules n ≡ Some e.claim.rule.now → HasPairs e.claim
    → covers e.claim.rule.now.scope e.claim.rule.now.at name ≡ true
    → ((t : RecordType) (a : Action) → has_point e.left.bits t a ≡ (has_point e.claim.points.bits t a && not (is_decided entries e.claim.rule.now.callers t a)))
    → AreEntries rules name (n + 1) (entries ++ e ∷ [])
one_entry rules name n entries e are number at pairs covered left = record {
  numbers = subst (AreBelow (CoversAt rules name) (n + 1)) (ap (λ (k : ℕ). map (λ (x : Entry). x.number) entries ++ k ∷ []) (sym number) ∙ sym (map_push (λ (x : Entry). x.number) entries e)) (more_yes (CoversAt rules name) n (map (λ (x : Entry). x.number) entries) (e.claim.rule.now, at, covered) are.numbers);
  each = All-push (IsEntry rules name) entries e are.each (record {
    rule = ap (λ (k : ℕ). slice_get rules k) number ∙ at;
    pairs = pairs;
    left = λ t a.
        left t a
        ∙ ap (λ (b : Bool). b && not (is_decided entries e.claim.rule.now.callers t a)) (pairs t a)
        ∙ ap (λ (b : Bool). names_point e.claim.rule.now t a && not b) (before_same rules name n entries are e.claim.rule.now.callers t a ∙ ap (λ (k : ℕ). is_taken (take k rules) name e.claim.rule.now.callers t a) (sym number));
  });
}

-- the same by the claim that the entry was made of
pub claim_entry : (rules : List Rule) (name : List (List ℕ)) (n : ℕ) (entries : List Entry) (e : Entry) (c : Claim) → AreEntries rules name n entries → e.number ≡ n → e.claim ≡ c → slice_get rules n ≡ Some c.rule.now → HasPairs c
    → covers c.rule.now.scope c.rule.now.at name ≡ true
    → ((t : RecordType) (a : Action) → has_point e.left.bits t a ≡ (has_point c.points.bits t a && not (is_decided entries c.rule.now.callers t a)))
    → AreEntries rules name (n + 1) (entries ++ e ∷ [])
claim_entry rules name n entries e c are number is at pairs covered left =
    one_entry rules name n entries e are number
    (subst (λ (x : Claim). slice_get rules n ≡ Some x.rule.now) (sym is) at)
    (subst (λ (x : Claim). HasPairs x) (sym is) pairs)
    (subst (λ (x : Claim). covers x.rule.now.scope x.rule.now.at name ≡ true) (sym is) covered)
    (subst (λ (x : Claim). (t : RecordType) (a : Action) → has_point e.left.bits t a ≡ (has_point x.points.bits t a && not (is_decided entries x.rule.now.callers t a))) (sym is) left)

pub no_entry : (rules : List Rule) (name : List (List ℕ)) (n : ℕ) (entries : List Entry) (rule : Rule) → AreEntries rules name n entries → slice_get rules n ≡ Some rule → covers rule.scope rule.at name ≡ false → AreEntries rules name (n + 1) entries
no_entry rules name n entries rule are at uncovered = record {
  numbers = more_no (CoversAt rules name) n (map (λ (x : Entry). x.number) entries) (λ c. both_ways (covers rule.scope rule.at name) uncovered (covering rules name n rule at c)) are.numbers;
  each = are.each;
}

-- ---- callers of whom both speak

none_some : (c : Callers) → None ≡ Some c → ⊥
none_some c h = cc

one_of_two : (own other c : Callers) (t : Bool) → cond t (Some own) None ≡ Some c → (c ≡ own) ⊎ (c ≡ other)
one_of_two own other c true e = inl (sym (same_Some own c e))
one_of_two own other c false e = absurd (none_some c e)

pub shared_one : (x y c : Callers) → shared_of x y ≡ Some c → (c ≡ x) ⊎ (c ≡ y)
shared_one Every y c e = inr (sym (same_Some y c e))
shared_one (One own) Every c e = inl (sym (same_Some (One own) c e))
shared_one (One own) (One other) c e = one_of_two (One own) (One other) c (bytes_eq other own) e

-- whoever has one of two among them has those of whom both speak

every_includes : (own other : Callers) → includes own Every ≡ true → includes own other ≡ true
every_includes Every Every e = refl
every_includes Every (One identifier) e = refl
every_includes (One identifier) other e = absurd (false≢true e)

same_includes : (own : Callers) (a b : List ℕ) (c : Callers) (t : Bool) → bytes_eq b a ≡ t → cond t (Some (One a)) None ≡ Some c → (includes own (One a) ≡ true → includes own c ≡ true) × (includes own (One b) ≡ true → includes own c ≡ true)
same_includes own a b c true same e =
    let is : One a ≡ c = same_Some (One a) c e in
    let ab : b ≡ a = (bytes_eq-Decides b a).0 same in (
      λ h. subst (λ (x : Callers). includes own x ≡ true) is h,
      λ h. subst (λ (x : Callers). includes own x ≡ true) (ap One ab ∙ is) h,
    )
same_includes own a b c false same e = absurd (none_some c e)

pub wider : (own x y c : Callers) → shared_of x y ≡ Some c → (includes own x ≡ true → includes own c ≡ true) × (includes own y ≡ true → includes own c ≡ true)
wider own Every y c e =
    let is : y ≡ c = same_Some y c e in (
      λ h. every_includes own c h,
      λ h. subst (λ (z : Callers). includes own z ≡ true) is h,
    )
wider own (One a) Every c e =
    let is : One a ≡ c = same_Some (One a) c e in (
      λ h. subst (λ (z : Callers). includes own z ≡ true) is h,
      λ h. every_includes own c h,
    )
wider own (One a) (One b) c e = same_includes own a b c (bytes_eq b a) refl e

-- what neither takes nor the other is not taken from those that they share, and the other way round

pub taken_from : (rules : List Rule) (name : List (List ℕ)) (x c : Callers) (t : RecordType) (a : Action) → ((own : Callers) → includes own x ≡ true → includes own c ≡ true) → is_taken rules name x t a ≡ true → is_taken rules name c t a ≡ true
taken_from rules name x c t a more yes' =
    let found = Any-from_list_any (λ (r : Rule). includes r.callers x && speaks r name t a) rules yes' in
    let rule = found.1 in
    let i = more rule.callers (fst (includes rule.callers x) (speaks rule name t a) found.4) in
    let s = snd (includes rule.callers x) (speaks rule name t a) found.4 in
    list_any_at (λ (r : Rule). includes r.callers c && speaks r name t a) rules found.0 rule found.2
    (subst (λ (r : Rule). (includes r.callers c && speaks r name t a) ≡ true) (sym found.3) (and_from (includes rule.callers c) (speaks rule name t a) i s))

pub open_shared : (rules : List Rule) (name : List (List ℕ)) (x y c : Callers) (t : RecordType) (a : Action) → shared_of x y ≡ Some c → is_taken rules name x t a ≡ false → is_taken rules name y t a ≡ false → is_taken rules name c t a ≡ false
open_shared rules name x y c t a e no_x no_y =
    ⊎_elim
    (λ (is : c ≡ x). subst (λ (z : Callers). is_taken rules name z t a ≡ false) (sym is) no_x)
    (λ (is : c ≡ y). subst (λ (z : Callers). is_taken rules name z t a ≡ false) (sym is) no_y)
    (shared_one x y c e)

pub open_both : (rules : List Rule) (name : List (List ℕ)) (x y c : Callers) (t : RecordType) (a : Action) → shared_of x y ≡ Some c → is_taken rules name c t a ≡ false → (is_taken rules name x t a ≡ false) × (is_taken rules name y t a ≡ false)
open_both rules name x y c t a e left = (
  false_from_ne_true (is_taken rules name x t a) (λ yes'. both_ways (is_taken rules name c t a) left (taken_from rules name x c t a (λ own. (wider own x y c e).0) yes')),
  false_from_ne_true (is_taken rules name y t a) (λ yes'. both_ways (is_taken rules name c t a) left (taken_from rules name y c t a (λ own. (wider own x y c e).1) yes')),
)

-- ---- callers by reference

pub shared_some : (o : Option (Bor Callers)) (s : Option Callers) → option_copied o ≡ s → is_some o ≡ true → (c : Callers) × (s ≡ Some c)
shared_some None s e yes' = absurd (false≢true yes')
shared_some (Some c) s e yes' = (c.now, sym e)

pub some_shared : (o : Option (Bor Callers)) (s : Option Callers) (c : Callers) → option_copied o ≡ s → s ≡ Some c → is_some o ≡ true
some_shared None s c e is = absurd (none_some c (e ∙ is))
some_shared (Some b) s c e is = refl

-- ---- marks

pub all_below : (rules : List Rule) (name : List (List ℕ)) (n : ℕ) (entries : List Entry) → AreEntries rules name n entries → All (λ e. e.number < n) entries
all_below rules name n entries are = λ k d lt. (entry_at rules name n entries are (get_or entries k d) (Contains-get_or entries k d lt)).2

or_none : (b : Bool) → b ≡ (b || false)
or_none true = refl
or_none false = refl

decided_more : (entries : List Entry) (n : ℕ) (e : Entry) (callers : Callers) (t : RecordType) (a : Action) → n < length entries → e ≡ get_or entries n e
    → is_decided (take (n + 1) entries) callers t a ≡ (is_decided (take n entries) callers t a || (includes e.claim.rule.now.callers callers && has_point e.claim.points.bits t a))
decided_more entries n e callers t a lt is =
    list_any_more (λ (x : Entry). includes x.claim.rule.now.callers callers && has_point x.claim.points.bits t a) entries n e lt
    ∙ ap (λ (x : Entry). is_decided (take n entries) callers t a || (includes x.claim.rule.now.callers callers && has_point x.claim.points.bits t a)) (sym is)

pub decided_yes : (entries : List Entry) (n : ℕ) (e : Entry) (callers : Callers) (t : RecordType) (a : Action) → n < length entries → e ≡ get_or entries n e → includes e.claim.rule.now.callers callers ≡ true
    → (is_decided (take n entries) callers t a || has_point e.claim.points.bits t a) ≡ is_decided (take (n + 1) entries) callers t a
decided_yes entries n e callers t a lt is yes' =
    ap (λ (b : Bool). is_decided (take n entries) callers t a || (b && has_point e.claim.points.bits t a)) (sym yes')
    ∙ sym (decided_more entries n e callers t a lt is)

pub decided_no : (entries : List Entry) (n : ℕ) (e : Entry) (callers : Callers) (t : RecordType) (a : Action) → n < length entries → e ≡ get_or entries n e → includes e.claim.rule.now.callers callers ≡ false
    → is_decided (take n entries) callers t a ≡ is_decided (take (n + 1) entries) callers t a
decided_no entries n e callers t a lt is no' =
    or_none (is_decided (take n entries) callers t a)
    ∙ ap (λ (b : Bool). is_decided (take n entries) callers t a || (b && has_point e.claim.points.bits t a)) (sym no')
    ∙ sym (decided_more entries n e callers t a lt is)

-- which places are marked, where these were before
abbrev pub Marks : List Bool → List Bool → Claim → List Entry → ℕ → Type 0
Marks init found c entries n = (j : ℕ) → j < length found → (get_or found j false ≡ true) ↔ ((get_or init j false ≡ true) ⊎ Hits c entries n j)

hit_later : (c : Claim) (entries : List Entry) (n j : ℕ) → Hits c entries n j → Hits c entries (n + 1) j
hit_later c entries n j h = record { place = h.place; below = omega (arith, h.below); entry = h.entry; at = h.at; number = h.number; takes = h.takes }

hit_at : (c : Claim) (entries : List Entry) (n j : ℕ) (e : Entry) → slice_get entries n ≡ Some e → Hits c entries (n + 1) j → Hits c entries n j ⊎ ((e.number ≡ j) × TakesBehind c (take n entries) e)
hit_at c entries n j e at h =
    ⊎_elim
    (λ (lt : h.place < n). inl (record { place = h.place; below = lt; entry = h.entry; at = h.at; number = h.number; takes = h.takes }))
    (λ (le : n ≤ h.place).
    let same : h.place ≡ n = omega (arith, le, h.below) in
    let entry : h.entry ≡ e = same_Some h.entry e (sym h.at ∙ ap (λ (k : ℕ). slice_get entries k) same ∙ at) in
    inr (sym (ap (λ (x : Entry). x.number) entry) ∙ h.number, subst (λ (x : Entry). TakesBehind c (take n entries) x) entry (subst (λ (k : ℕ). TakesBehind c (take k entries) h.entry) same h.takes)))
    (cases_lt h.place n)

pub mark_yes : (init found : List Bool) (c : Claim) (entries : List Entry) (n : ℕ) (e : Entry) → slice_get entries n ≡ Some e → e.number < length found → TakesBehind c (take n entries) e → Marks init found c entries n → Marks init (set found e.number true) c entries (n + 1)
mark_yes init found c entries n e at within takes marks j lt = by (cases_eq j e.number)
  where
    here : Hits c entries (n + 1) e.number
    here = record { place = n; below = omega arith; entry = e; at = at; number = refl; takes = takes }

    long : j < length found
    long = omega (arith, lt, length-set found e.number true)

    by : (j ≡ e.number) ⊎ (j ≡ e.number → ⊥) → (get_or (set found e.number true) j false ≡ true) ↔ ((get_or init j false ≡ true) ⊎ Hits c entries (n + 1) j)
    by (inl is) = (
      λ yes'. inr (subst (Hits c entries (n + 1)) (sym is) here),
      λ any. ap (λ (k : ℕ). get_or (set found e.number true) k false) is ∙ get_or-set_same found e.number true false within,
    )
    by (inr other) =
        let same = get_or-set_other found e.number j true false other in (
          λ yes'. ⊎_elim (λ (old : get_or init j false ≡ true). inl old) (λ (h : Hits c entries n j). inr (hit_later c entries n j h)) ((marks j long).0 (sym same ∙ yes')),
          λ any. same ∙ (marks j long).1 (⊎_elim
              (λ (old : get_or init j false ≡ true). inl old)
              (λ (h : Hits c entries (n + 1) j). ⊎_elim
              (λ (below : Hits c entries n j). inr below)
              (λ (at' : (e.number ≡ j) × TakesBehind c (take n entries) e). absurd (other (sym at'.0)))
              (hit_at c entries n j e at h))
              any),
        )

pub mark_no : (init found : List Bool) (c : Claim) (entries : List Entry) (n : ℕ) (e : Entry) → slice_get entries n ≡ Some e → ¬ TakesBehind c (take n entries) e → Marks init found c entries n → Marks init found c entries (n + 1)
mark_no init found c entries n e at not' marks j lt = (
  λ yes'. ⊎_elim (λ (old : get_or init j false ≡ true). inl old) (λ (h : Hits c entries n j). inr (hit_later c entries n j h)) ((marks j lt).0 yes'),
  λ any. (marks j lt).1 (⊎_elim
      (λ (old : get_or init j false ≡ true). inl old)
      (λ (h : Hits c entries (n + 1) j). ⊎_elim
      (λ (below : Hits c entries n j). inr below)
      (λ (at' : (e.number ≡ j) × TakesBehind c (take n entries) e). absurd (not' at'.1))
      (hit_at c entries n j e at h))
      any),
)

pub as_many : (claims : List Claim) (rules : List Rule) → rules_of claims ≡ rules → length claims ≡ length rules
as_many claims rules e = sym (length-map claims (λ (c : Claim). c.rule.now)) ∙ ap (length {A = Rule}) e

pub few_claims : (claims : List Claim) (rules : List Rule) → rules_of claims ≡ rules → length rules ≤ 1024 → length claims ≤ 1024
few_claims claims rules e few = omega (arith, as_many claims rules e)

pub hits_first : (init : List Bool) (c : Claim) (entries : List Entry) → Marks init init c entries 0
hits_first init c entries j lt = (
  λ yes'. inl yes',
  λ any. ⊎_elim (λ (old : get_or init j false ≡ true). old) (λ (h : Hits c entries 0 j). absurd (omega (arith, h.below))) any,
)

pub hits_done : (init found : List Bool) (c : Claim) (entries : List Entry) (n : ℕ) → length entries ≤ n → n ≤ length entries → Marks init found c entries n → Marks init found c entries (length entries)
hits_done init found c entries n past upto marks = let end' : n ≡ length entries = omega arith in subst (Marks init found c entries) end' marks

pub item_at : {X : Type 0} (xs : List X) (n : ℕ) (x : X) → n < length xs → x ≡ get_or xs n x → slice_get xs n ≡ Some x
item_at xs n x lt is = slice_get_read xs (length xs) n x refl lt is

-- ---- rows

pub own_from : (entries : List Entry) (i : ℕ) → list_any (λ e. eqb e.number i) entries ≡ true → Contains (map (λ (e : Entry). e.number) entries) i
own_from entries i yes' =
    let found = Any-from_list_any (λ (e : Entry). eqb e.number i) entries yes' in
    subst (Contains (map (λ (e : Entry). e.number) entries)) (eqb-true found.1.number i found.4) (in_map (λ (e : Entry). e.number) entries found.1 (found.0, found.2, found.3))

pub own_to : (entries : List Entry) (i : ℕ) → Contains (map (λ (e : Entry). e.number) entries) i → list_any (λ e. eqb e.number i) entries ≡ true
own_to entries i in' =
    let found = from_map (λ (e : Entry). e.number) entries i in' in
    list_any_at (λ (e : Entry). eqb e.number i) entries found.1.0 found.0 found.1.1
    (subst (λ (e : Entry). eqb e.number i ≡ true) (sym found.1.2) (eq-eqb found.0.number i found.2))

pub more_rows : (c : Claim) (i : ℕ) (rows : List Coverage) (n : ℕ) (row : Coverage) (j : ℕ) → n < length rows → row ≡ get_or rows n row → TakesIn c i (take (n + 1) rows) j → TakesIn c i (take n rows) j ⊎ (Contains (map (λ (e : Entry). e.number) row.entries.items) i × Hits c row.entries.items (length row.entries.items) j)
more_rows c i rows n row j lt is t =
    let e : take (n + 1) rows ≡ take n rows ++ row ∷ [] = take_more rows n row lt ∙ ap (λ (r : Coverage). take n rows ++ r ∷ []) (sym is) in
    ⊎_elim
    (λ (old : Contains (take n rows) t.row). inl (record { row = t.row; among = old; own = t.own; hits = t.hits }))
    (λ (new : row ≡ t.row). inr (
      subst (λ (r : Coverage). Contains (map (λ (x : Entry). x.number) r.entries.items) i) (sym new) t.own,
      subst (λ (r : Coverage). Hits c r.entries.items (length r.entries.items) j) (sym new) t.hits,
    ))
    (Contains-push_cases (take n rows) row t.row (subst (λ (l : List Coverage). Contains l t.row) e t.among))

pub rows_kept : (c : Claim) (i : ℕ) (rows : List Coverage) (n : ℕ) (row : Coverage) (j : ℕ) → n < length rows → row ≡ get_or rows n row → TakesIn c i (take n rows) j → TakesIn c i (take (n + 1) rows) j
rows_kept c i rows n row j lt is t =
    let e : take (n + 1) rows ≡ take n rows ++ row ∷ [] = take_more rows n row lt ∙ ap (λ (r : Coverage). take n rows ++ r ∷ []) (sym is) in
    record { row = t.row; among = subst (λ (l : List Coverage). Contains l t.row) (sym e) (Contains-append_left (take n rows) (row ∷ []) t.row t.among); own = t.own; hits = t.hits }

pub row_new : (c : Claim) (i : ℕ) (rows : List Coverage) (n : ℕ) (row : Coverage) (j : ℕ) → n < length rows → row ≡ get_or rows n row → Contains (map (λ (e : Entry). e.number) row.entries.items) i → Hits c row.entries.items (length row.entries.items) j → TakesIn c i (take (n + 1) rows) j
row_new c i rows n row j lt is own hits =
    let e : take (n + 1) rows ≡ take n rows ++ row ∷ [] = take_more rows n row lt ∙ ap (λ (r : Coverage). take n rows ++ r ∷ []) (sym is) in
    record { row = row; among = subst (λ (l : List Coverage). Contains l row) (sym e) (Contains-push (take n rows) row); own = own; hits = hits }

-- which places are marked after the first n rows
abbrev pub MarksIn : List Bool → List Bool → Claim → ℕ → List Coverage → ℕ → Type 0
MarksIn init found c i rows n = (j : ℕ) → j < length found → (get_or found j false ≡ true) ↔ ((get_or init j false ≡ true) ⊎ TakesIn c i (take n rows) j)

pub rows_first : (init : List Bool) (c : Claim) (i : ℕ) (rows : List Coverage) → MarksIn init init c i rows 0
rows_first init c i rows j lt = (
  λ yes'. inl yes',
  λ any. ⊎_elim (λ (old : get_or init j false ≡ true). old) (λ (t : TakesIn c i [] j). absurd (omega (arith, t.among.1))) any,
)

pub row_yes : (init old new : List Bool) (c : Claim) (i : ℕ) (rows : List Coverage) (n : ℕ) (row : Coverage) → n < length rows → row ≡ get_or rows n row → length new ≡ length old → list_any (λ e. eqb e.number i) row.entries.items ≡ true
    → ((j : ℕ) → j < length old → (get_or new j false ≡ true) ↔ ((get_or old j false ≡ true) ⊎ Hits c row.entries.items (length row.entries.items) j))
    → MarksIn init old c i rows n → MarksIn init new c i rows (n + 1)
row_yes init old new c i rows n row lt is long own marked marks j below = (
  λ yes'. ⊎_elim
      (λ (before : get_or old j false ≡ true). ⊎_elim
      (λ (first : get_or init j false ≡ true). inl first)
      (λ (t : TakesIn c i (take n rows) j). inr (rows_kept c i rows n row j lt is t))
      ((marks j within).0 before))
      (λ (h : Hits c row.entries.items (length row.entries.items) j). inr (row_new c i rows n row j lt is (own_from row.entries.items i own) h))
      ((marked j within).0 yes'),
  λ any. (marked j within).1 (⊎_elim
      (λ (first : get_or init j false ≡ true). inl ((marks j within).1 (inl first)))
      (λ (t : TakesIn c i (take (n + 1) rows) j). ⊎_elim
      (λ (before : TakesIn c i (take n rows) j). inl ((marks j within).1 (inr before)))
      (λ (h : Contains (map (λ (e : Entry). e.number) row.entries.items) i × Hits c row.entries.items (length row.entries.items) j). inr h.1)
      (more_rows c i rows n row j lt is t))
      any),
)
  where
    within : j < length old
    within = omega (arith, below, long)

pub row_no : (init found : List Bool) (c : Claim) (i : ℕ) (rows : List Coverage) (n : ℕ) (row : Coverage) → n < length rows → row ≡ get_or rows n row → list_any (λ e. eqb e.number i) row.entries.items ≡ false → MarksIn init found c i rows n → MarksIn init found c i rows (n + 1)
row_no init found c i rows n row lt is none marks j below = (
  λ yes'. ⊎_elim
      (λ (first : get_or init j false ≡ true). inl first)
      (λ (t : TakesIn c i (take n rows) j). inr (rows_kept c i rows n row j lt is t))
      ((marks j below).0 yes'),
  λ any. (marks j below).1 (⊎_elim
      (λ (first : get_or init j false ≡ true). inl first)
      (λ (t : TakesIn c i (take (n + 1) rows) j). ⊎_elim
      (λ (before : TakesIn c i (take n rows) j). inr before)
      (λ (h : Contains (map (λ (e : Entry). e.number) row.entries.items) i × Hits c row.entries.items (length row.entries.items) j). absurd (both_ways (list_any (λ e. eqb e.number i) row.entries.items) none (own_to row.entries.items i h.0)))
      (more_rows c i rows n row j lt is t))
      any),
)

pub rows_done : (init found : List Bool) (c : Claim) (i : ℕ) (rows : List Coverage) (n : ℕ) → length rows ≤ n → MarksIn init found c i rows n → (j : ℕ) → j < length found → (get_or found j false ≡ true) ↔ ((get_or init j false ≡ true) ⊎ TakesIn c i rows j)
rows_done init found c i rows n past marks =
    subst (λ (l : List Coverage). (j : ℕ) → j < length found → (get_or found j false ≡ true) ↔ ((get_or init j false ≡ true) ⊎ TakesIn c i l j)) (take_all n rows past) marks

-- ---- the rules that take questions

module _ (rules : List Rule) (few : length rules ≤ 1024) (rows : List Coverage) (all : All (IsRow rules) rows) (represent : Represent rules (map (λ (r : Coverage). r.name.now) rows)) (are : All (λ (r : Rule). AreCallers r.callers) rules) (i : ℕ) (c : Claim) (at : slice_get rules i ≡ Some c.rule.now) (pairs : HasPairs c) where
  callers_at : (k : ℕ) (r : Rule) → slice_get rules k ≡ Some r → AreCallers r.callers
  callers_at k r there = All-contains (λ (x : Rule). AreCallers x.callers) rules r are (at_place rules k r there)

  pub from_row : (j : ℕ) → TakesIn c i rows j → Takes rules i j
  from_row j takes =
      let row = takes.row in
      let name = row.name.now in
      let entries = row.entries.items in
      let is = All-contains (IsRow rules) rows row all takes.among in
      let named = All-contains IsName (map (λ (r : Coverage). r.name.now) rows) name represent.valid (in_map (λ (r : Coverage). r.name.now) rows row takes.among) in
      let covered = covering rules name i c.rule.now at ((is.numbers.each i).0 takes.own).1 in
      let h = takes.hits in
      let e = h.entry in
      let taker = e.claim.rule.now in
      let entry = entry_at rules name (length rules) entries is e (among entries h.place e h.at) in
      let taker_covers = covering rules name e.number taker entry.0.rule entry.1 in
      let before = entries_before rules name (length rules) entries is h.place e h.at in
      let b = h.takes in
      let t = b.record_type in
      let a = b.action in
      let left = sym (entry.0.left t a) ∙ b.left in
      let none_taker = not-true (is_taken (take e.number rules) name taker.callers t a) (snd (names_point taker t a) (not (is_taken (take e.number rules) name taker.callers t a)) left) in
      let none_own = sym (before_same rules name e.number (take h.place entries) before c.rule.now.callers t a) ∙ b.undecided in
      let none = open_shared (take e.number rules) name c.rule.now.callers taker.callers b.callers t a b.shared none_own none_taker in
      let known : AreCallers b.callers = ⊎_elim
      (λ (x : b.callers ≡ c.rule.now.callers). subst AreCallers (sym x) (callers_at i c.rule.now at))
      (λ (y : b.callers ≡ taker.callers). subst AreCallers (sym y) (callers_at e.number taker entry.0.rule))
      (shared_one c.rule.now.callers taker.callers b.callers b.shared)
      in
      subst (Takes rules i) h.number
      (taken_at rules few i e.number c.rule.now taker at entry.0.rule b.callers known b.shared name named t a
      (and_from (covers c.rule.now.scope c.rule.now.at name) (names_point c.rule.now t a) covered (sym (pairs t a) ∙ b.own))
      (and_from (covers taker.scope taker.at name) (names_point taker t a) taker_covers (fst (names_point taker t a) (not (is_taken (take e.number rules) name taker.callers t a)) left))
      none)

  pub to_row : (j : ℕ) → Takes rules i j → TakesIn c i rows j
  to_row j takes =
      let asked = takes.asked in
      let t = asked.record_type in
      let a = asked.action in
      let like = represent.each asked.name takes.can.name in
      let found = from_map (λ (r : Coverage). r.name.now) rows like.0 like.1 in
      let row = found.0 in
      let name = row.name.now in
      let entries = row.entries.items in
      let is = All-contains (IsRow rules) rows row all found.1 in
      let alike = subst (λ (n : List (List ℕ)). AreAlike rules asked.name n) (sym found.2) like.2 in
      let same : takes.rule ≡ c.rule.now = same_Some takes.rule c.rule.now (sym takes.at ∙ at) in
      let taker = takes.taker in
      let one = spoken rules asked c.rule.now name (at_place rules i c.rule.now at) alike (subst (Matches asked) same takes.matching) in
      let two = spoken rules asked taker name (at_place rules j taker takes.first.at) alike takes.first.matching in
      let shares = sharing c.rule.now.callers taker.callers asked.caller one.0 two.0 in
      let none = still_free rules few i j c.rule.now taker at takes.first.at asked takes.first shares.0 shares.1 name alike in
      let clear = open_both (take j rules) name c.rule.now.callers taker.callers shares.0 t a shares.1.is none in
      let own = (is.numbers.each i).1 (slice_get_within rules i c.rule.now at, (c.rule.now, at, one.1)) in
      let there = from_map (λ (e : Entry). e.number) entries j ((is.numbers.each j).1 (slice_get_within rules j taker takes.first.at, (taker, takes.first.at, two.1))) in
      let e = there.0 in
      let place = place_of entries e there.1 in
      let entry = (entry_at rules name (length rules) entries is e there.1).0 in
      let before = entries_before rules name (length rules) entries is place.0 e place.1 in
      let rule_is : taker ≡ e.claim.rule.now = same_Some taker e.claim.rule.now (sym takes.first.at ∙ sym (ap (λ (k : ℕ). slice_get rules k) there.2) ∙ entry.rule) in
      let at_number : (x : Callers) → is_taken (take j rules) name x t a ≡ false → is_taken (take e.number rules) name x t a ≡ false = λ x f. ap (λ (k : ℕ). is_taken (take k rules) name x t a) there.2 ∙ f in
      let none_taker = at_number e.claim.rule.now.callers (subst (λ (r : Rule). is_taken (take j rules) name r.callers t a ≡ false) rule_is clear.1) in
      record {
        row = row;
        among = found.1;
        own = own;
        hits = record {
          place = place.0;
          below = slice_get_within entries place.0 e place.1;
          entry = e;
          at = place.1;
          number = there.2;
          takes = record {
            record_type = t;
            action = a;
            callers = shares.0;
            own = pairs t a ∙ one.2;
            left = entry.left t a ∙ and_from (names_point e.claim.rule.now t a) (not (is_taken (take e.number rules) name e.claim.rule.now.callers t a)) (subst (λ (r : Rule). names_point r t a ≡ true) rule_is two.2) (not_from_false (is_taken (take e.number rules) name e.claim.rule.now.callers t a) none_taker);
            undecided = before_same rules name e.number (take place.0 entries) before c.rule.now.callers t a ∙ at_number c.rule.now.callers clear.0;
            shared = subst (λ (r : Rule). shared_of c.rule.now.callers r.callers ≡ Some shares.0) rule_is shares.1.is;
          };
        };
      }

  pub takers_are : (init found : List Bool) (xs : List ℕ) → length found ≡ length rules → ((j : ℕ) → j < length found → get_or init j false ≡ false)
      → ((j : ℕ) → j < length found → (get_or found j false ≡ true) ↔ ((get_or init j false ≡ true) ⊎ TakesIn c i rows j)) → AreBelow (λ j. get_or found j false ≡ true) (length found) xs → AreTakers rules i xs
  takers_are init found xs long clear marks below = record {
    each = λ j. (
      λ in'. let h = (below.each j).0 in' in ⊎_elim
          (λ (first : get_or init j false ≡ true). absurd (both_ways (get_or init j false) (clear j h.0) first))
          (λ (t : TakesIn c i rows j). from_row j t)
          ((marks j h.0).0 h.1),
      λ takes. let within = slice_get_within rules j takes.taker takes.first.at in
          (below.each j).1 (omega (arith, within, long), (marks j (omega (arith, within, long))).1 (inr (to_row j takes))),
    );
    ordered = below.ordered;
  }

-- ---- rules among their takers

pub number_from : (xs : List ℕ) (n : ℕ) → list_any (λ k. eqb k n) xs ≡ true → Contains xs n
number_from xs n yes' =
    let found = Any-from_list_any (λ (k : ℕ). eqb k n) xs yes' in
    subst (Contains xs) (eqb-true found.1 n found.4) (found.0, found.2, found.3)

pub number_to : (xs : List ℕ) (n : ℕ) → Contains xs n → list_any (λ k. eqb k n) xs ≡ true
number_to xs n (k, lt, is) = list_any_at (λ (m : ℕ). eqb m n) xs k n lt (eq-eqb (get_or xs k n) n is)
