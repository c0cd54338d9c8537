-- The least rule that matches, and how many rules are at the names above a name.
use Rattle.std.proofs.Common.{◌≡◌, ℕ, zero, suc, ◌+◌, ◌-◌, ◌<◌, ◌≤◌, ◌⊎◌, Bool, true, false, ◌&&◌, cond, ltb, ltb-true, List, [], ◌∷◌, ◌++◌, length, take, drop, get_or, Option, Some, None, refl, sym, ap, ◌∙◌, subst, inl, inr, ⊎_elim, arith, count_by, length-append, length-drop}
use Rattle.std.specs.Option.{option_eq}
use Rattle.std.specs.Prelude.{bytes_eq}
use Rattle.std.specs.List.{All, sum_by}
use Rattle.std.proofs.lemmas.Bool.{cases_lt, cases_Bool, false≢true, lt-ltb, le-ltb, le-leb}
use Rattle.std.proofs.lemmas.List.{take-append-drop, get_or_read}
use Rattle.std.proofs.lemmas.List.Sums.{sum_by-cons, sum_by-le-sum_by}
use Rattle.std.proofs.lemmas.Slice.Eq.{bytes_eq-Decides}
use Rattle.dns_names.specs.Labels.{IsWithin, is_within, wire_len}
use Rattle.dns_names.specs.Keys.{key_of, ancestor_key, IsKeyOfOne}
use Rattle.grant_policy.specs.declared.callers.Callers.{Callers}
use Rattle.grant_policy.specs.declared.callers.Callers.TheVariants.{Every, One}
use Rattle.grant_policy.specs.declared.rule.Rule.{Rule}
use Rattle.grant_policy.specs.declared.scope.Scope.{Scope}
use Rattle.grant_policy.specs.declared.scope.Scope.TheVariants.{Name, Subtree, Below}
use Rattle.grant_policy.specs.declared.deciding.Found.{Found}
use Rattle.grant_policy.specs.Scopes.{Covers}
use Rattle.grant_policy.specs.Rules.{Question, is_of, matches}
use Rattle.grant_policy.specs.Decisions.{Verdict, denied, decided, decision, concerns}
use Rattle.grant_policy.specs.Index.{RowOf, is_at, one_of, place_of}
use Rattle.grant_policy.specs.Found.{IsFound, bound_of, is_before}
use Rattle.grant_policy.proofs.ScopeLemmas.{is_within-Decides}
use Rattle.grant_policy.proofs.RuleLemmas.{matches-Decides}

-- ---- the decision

-- what was found, told
abbrev pub found_verdict : Option Found → Verdict
found_verdict None = denied None
found_verdict (Some found) = decided found.rule.now

-- without a lesser rule that matches, the scan goes on to that rule, or to the end
none_of : (p : Question) (rules : List Rule) → ((i : ℕ) (d : Rule) → i < length rules → matches p (get_or rules i d) ≡ true → length rules ≤ i) → decision p rules ≡ denied None
none_of p [] least = refl
none_of p (rule ∷ rules) least =
    ⊎_elim
    (λ (yes' : matches p rule ≡ true). absurd (omega (arith, least 0 rule (omega arith) yes')))
    (λ (no' : matches p rule ≡ false). ap (λ b. cond b (decided rule) (decision p rules)) no' ∙ none_of p rules (λ i d lt m. omega (arith, least (suc i) d (omega arith) m)))
    (cases_Bool (matches p rule))

one_of_them : (p : Question) (rules : List Rule) (number : ℕ) (found : Rule) → number < length rules → ((d : Rule) → found ≡ get_or rules number d) → matches p found ≡ true → ((i : ℕ) (d : Rule) → i < length rules → matches p (get_or rules i d) ≡ true → number ≤ i) → decision p rules ≡ decided found
one_of_them p [] number found lt is m least = absurd (omega arith)
one_of_them p (rule ∷ rules) zero found lt is m least =
    let same : found ≡ rule = is rule in
    ap (λ b. cond b (decided rule) (decision p rules)) (subst (λ (r : Rule). matches p r ≡ true) same m) ∙ ap decided (sym same)
one_of_them p (rule ∷ rules) (suc number) found lt is m least =
    ⊎_elim
    (λ (yes' : matches p rule ≡ true). absurd (omega (arith, least 0 rule (omega arith) yes')))
    (λ (no' : matches p rule ≡ false). ap (λ b. cond b (decided rule) (decision p rules)) no' ∙ one_of_them p rules number found (omega arith) is m (λ i d l h. omega (arith, least (suc i) d (omega arith) h)))
    (cases_Bool (matches p rule))

pub decision_is : (p : Question) (rules : List Rule) (found : Option Found) → IsFound p rules found → ((i : ℕ) (d : Rule) → i < length rules → matches p (get_or rules i d) ≡ true → bound_of rules found ≤ i) → decision p rules ≡ found_verdict found
decision_is p rules None is least = none_of p rules least
decision_is p rules (Some found) is least = one_of_them p rules found.number found.rule.now is.below is.is is.matching least

-- ---- names above a name

and_first : (a b : Bool) → (a && b) ≡ true → a ≡ true
and_first true b e = refl
and_first false b e = e

and_second : (a b : Bool) → (a && b) ≡ true → b ≡ true
and_second true b e = e
and_second false b e = absurd (false≢true e)

-- a name has fewer labels than octets
pub count_fits : (name : List (List ℕ)) → length name + 1 ≤ wire_len name
count_fits [] = omega arith
count_fits (label ∷ labels) = omega (arith, count_fits labels)

-- the last n labels
abbrev pub above : List (List ℕ) → ℕ → List (List ℕ)
above name n = drop (length name - n) name

length_above : (name : List (List ℕ)) (n : ℕ) → n ≤ length name → length (above name n) ≡ n
length_above name n le = omega (arith, length-drop (length name - n) name)

above_within : (name : List (List ℕ)) (n : ℕ) → IsWithin name (above name n)
above_within name n = (take (length name - n) name, sym (take-append-drop (length name - n) name))

drop_front : (front at : List (List ℕ)) → drop (length front) (front ++ at) ≡ at
drop_front [] at = refl
drop_front (x ∷ front) at = drop_front front at

-- a name that another is within is its last labels
pub within_is_above : (name at : List (List ℕ)) → IsWithin name at → (length at ≤ length name) × (at ≡ above name (length at))
within_is_above name at (front, is) =
    let long : length name ≡ length front + length at = ap (length {A = List ℕ}) is ∙ length-append front at in
    let n : length front ≡ length name - length at = omega arith in
    (omega arith, sym (drop_front front at) ∙ ap (drop (length front)) (sym is) ∙ ap (λ k. drop k name) n)

-- the key of the last n labels
pub ancestor_is : (name : List (List ℕ)) (n : ℕ) (key : List ℕ) → n ≤ length name → Some key ≡ ancestor_key name n → key ≡ key_of (above name n)
ancestor_is name n key le e = let f = rw (le-leb n (length name) le) at e in cc

pub ancestor_none : (name : List (List ℕ)) (n : ℕ) → n ≤ length name → None ≡ ancestor_key name n → ⊥
ancestor_none name n le e = let f = rw (le-leb n (length name) le) at e in cc

covers_within : (scope : Scope) (at name : List (List ℕ)) → Covers scope at name → IsWithin name at
covers_within Name at name e = ([], e)
covers_within Subtree at name w = w
covers_within Below at name b = b.0

pub match_within : (p : Question) (rule : Rule) → matches p rule ≡ true → IsWithin p.name rule.at
match_within p rule m = covers_within rule.scope rule.at p.name ((matches-Decides p rule).0 m).scope

callers_are : (callers : Callers) (caller : List ℕ) → is_of callers caller ≡ true → (one_of callers ≡ None) ⊎ (one_of callers ≡ Some caller)
callers_are Every caller e = inl refl
callers_are (One identifier) caller e = inr (ap Some ((bytes_eq-Decides identifier caller).0 e))

pub caller_found : (p : Question) (rule : Rule) → matches p rule ≡ true → (one_of rule.callers ≡ None) ⊎ (one_of rule.callers ≡ Some p.caller)
caller_found p rule m = callers_are rule.callers p.caller (and_first _ _ m)

-- ---- cost

-- a rule that concerns the caller at one of the names of fewer than n labels
abbrev pub reached : List ℕ → List (List ℕ) → ℕ → Rule → Bool
reached caller name n rule = concerns caller name rule && ltb (length rule.at) n

core : (same within below next : Bool) → (same ≡ true → (within ≡ true) × (below ≡ false) × (next ≡ true)) → (below ≡ true → next ≡ true) → cond same 1 0 + cond (within && below) 1 0 ≤ cond (within && next) 1 0
core false false below next h k = omega arith
core false true false next h k = omega arith
core false true true next h k = let e = k refl in rw e (omega arith)
core true within below next h k = let e = h refl in rw (e.0, e.1, e.2) (omega arith)

core_fits : (f same within below next : Bool) → (same ≡ true → (within ≡ true) × (below ≡ false) × (next ≡ true)) → (below ≡ true → next ≡ true) → cond (f && same) 1 0 + cond ((f && within) && below) 1 0 ≤ cond ((f && within) && next) 1 0
core_fits false same within below next h k = omega arith
core_fits true same within below next h k = core same within below next h k

by_own : (own : Callers) (caller : List ℕ) (same within below next : Bool) → (same ≡ true → (within ≡ true) × (below ≡ false) × (next ≡ true)) → (below ≡ true → next ≡ true) → cond (option_eq bytes_eq (one_of own) None && same) 1 0 + cond (option_eq bytes_eq (one_of own) (Some caller) && same) 1 0 + cond ((is_of own caller && within) && below) 1 0 ≤ cond ((is_of own caller && within) && next) 1 0
by_own Every caller same within below next h k = omega (arith, core same within below next h k)
by_own (One identifier) caller same within below next h k = omega (arith, core_fits (bytes_eq identifier caller) same within below next h k)

step_one : (caller : List ℕ) (name : List (List ℕ)) (n : ℕ) (le : n ≤ length name) (rule : Rule) → IsKeyOfOne rule.at → cond (is_at None (key_of (above name n)) rule) 1 0 + cond (is_at (Some caller) (key_of (above name n)) rule) 1 0 + cond (reached caller name n rule) 1 0 ≤ cond (reached caller name (n + 1) rule) 1 0
step_one caller name n le rule one = by_own rule.callers caller (bytes_eq (key_of rule.at) (key_of (above name n))) (is_within name rule.at) (ltb (length rule.at) n) (ltb (length rule.at) (n + 1))
    (λ e. let same : above name n ≡ rule.at = one (above name n) (sym ((bytes_eq-Decides (key_of rule.at) (key_of (above name n))).0 e)) in
    let long : length rule.at ≡ n = ap (length {A = List ℕ}) (sym same) ∙ length_above name n le in
    ((is_within-Decides name rule.at).1 (subst (IsWithin name) same (above_within name n)), le-ltb _ _ (omega (arith, long)), lt-ltb _ _ (omega (arith, long))))
    (λ e. lt-ltb _ _ (omega (arith, ltb-true (length rule.at) n e)))

sum_steps : (P : Rule → Type 0) (f g h k : Rule → ℕ) → ((r : Rule) → P r → f r + g r + h r ≤ k r) → (rules : List Rule) → All P rules → sum_by f rules + sum_by g rules + sum_by h rules ≤ sum_by k rules
sum_steps P f g h k each [] all = omega arith
sum_steps P f g h k each (r ∷ rules) all =
    omega (arith, each r (all 0 r (omega arith)), sum_steps P f g h k each rules (λ i d lt. all (suc i) d (omega arith)), sum_by-cons f r rules, sum_by-cons g r rules, sum_by-cons h r rules, sum_by-cons k r rules)

pub count_step : (caller : List ℕ) (name : List (List ℕ)) (n : ℕ) → n ≤ length name → (rules : List Rule) → All (λ rule. IsKeyOfOne rule.at) rules → count_by (is_at None (key_of (above name n))) rules + count_by (is_at (Some caller) (key_of (above name n))) rules + count_by (reached caller name n) rules ≤ count_by (reached caller name (n + 1)) rules
count_step caller name n le =
    let key = key_of (above name n) in
    sum_steps (λ rule. IsKeyOfOne rule.at) (λ r. cond (is_at None key r) 1 0) (λ r. cond (is_at (Some caller) key r) 1 0) (λ r. cond (reached caller name n r) 1 0) (λ r. cond (reached caller name (n + 1) r) 1 0) (step_one caller name n le)

pub reached_le : (caller : List ℕ) (name : List (List ℕ)) (n : ℕ) (rules : List Rule) → count_by (reached caller name n) rules ≤ count_by (concerns caller name) rules
reached_le caller name n rules = sum_by-le-sum_by (λ r. cond (reached caller name n r) 1 0) (λ r. cond (concerns caller name r) 1 0) rules (λ r. fewer (concerns caller name r) (ltb (length r.at) n))
  where
    fewer : (a b : Bool) → cond (a && b) 1 0 ≤ cond a 1 0
    fewer false b = omega arith
    fewer true false = omega arith
    fewer true true = omega arith

-- ---- the least rule

-- a rule that matches at one name more is not below what the two calls there answered
pub least_step : (p : Question) (rules : List Rule) (n old mid new : ℕ) → n ≤ length p.name → mid ≤ old → new ≤ mid
    → ((i : ℕ) (d : Rule) → i < length rules → length (get_or rules i d).at < n → matches p (get_or rules i d) ≡ true → old ≤ i)
    → ((i : ℕ) (d : Rule) → i < length rules → place_of (get_or rules i d) ≡ record { caller = None; key = key_of (above p.name n) } → matches p (get_or rules i d) ≡ true → mid ≤ i)
    → ((i : ℕ) (d : Rule) → i < length rules → place_of (get_or rules i d) ≡ record { caller = Some p.caller; key = key_of (above p.name n) } → matches p (get_or rules i d) ≡ true → new ≤ i)
    → (i : ℕ) (d : Rule) → i < length rules → length (get_or rules i d).at < n + 1 → matches p (get_or rules i d) ≡ true → new ≤ i
least_step p rules n old mid new le mid_le new_le before all any i d lt below m =
    let rule = get_or rules i d in
    let within = within_is_above p.name rule.at (match_within p rule m) in
    ⊎_elim
    (λ (b : length rule.at < n). omega (arith, before i d lt b m))
    (λ (from : n ≤ length rule.at).
    let here : key_of rule.at ≡ key_of (above p.name n) = ap key_of (within.1 ∙ (let same : length rule.at ≡ n = omega arith in ap (above p.name) same)) in
    ⊎_elim
    (λ (o : one_of rule.callers ≡ None). omega (arith, all i d lt (ap (λ (c : Option (List ℕ)). record { caller = c; key = key_of rule.at }) o ∙ ap (λ (k : List ℕ). record { caller = None; key = k }) here) m))
    (λ (o : one_of rule.callers ≡ Some p.caller). any i d lt (ap (λ (c : Option (List ℕ)). record { caller = c; key = key_of rule.at }) o ∙ ap (λ (k : List ℕ). record { caller = Some p.caller; key = k }) here) m)
    (caller_found p rule m))
    (cases_lt (length rule.at) n)

-- past the name itself no rule that matches is left
pub least_end : (p : Question) (rules : List Rule) (n number : ℕ) → n ≡ length p.name + 1 → ((i : ℕ) (d : Rule) → i < length rules → length (get_or rules i d).at < n → matches p (get_or rules i d) ≡ true → number ≤ i) → (i : ℕ) (d : Rule) → i < length rules → matches p (get_or rules i d) ≡ true → number ≤ i
least_end p rules n number e least i d lt m =
    let rule = get_or rules i d in
    let within = within_is_above p.name rule.at (match_within p rule m) in
    least i d lt (omega (arith, within.0)) m

-- ---- the least rule of rows

pub less_than : (rules : List Rule) (number : ℕ) (found : Option Found) → is_before number found ≡ true → number < length rules → number ≤ bound_of rules found
less_than rules number None e lt = omega arith
less_than rules number (Some found) e lt = omega (arith, ltb-true number found.number e)

pub not_less_than : (rules : List Rule) (number : ℕ) (found : Option Found) → is_before number found ≡ false → bound_of rules found ≤ number
not_less_than rules number None e = absurd cc
not_less_than rules number (Some found) e =
    ⊎_elim
    (λ (less : number < found.number). absurd (false≢true (sym e ∙ lt-ltb number found.number less)))
    (λ (more : found.number ≤ number). more)
    (cases_lt number found.number)

-- one row more
pub row_more : (p : Question) (rules : List Rule) (rows : List RowOf) (n : ℕ) (row : RowOf) (old new : ℕ) → n < length rows → row ≡ get_or rows n row → new ≤ old
    → ((k : ℕ) (e : RowOf) (d : Rule) → k < n → matches p (get_or rules (get_or rows k e).number d) ≡ true → old ≤ (get_or rows k e).number)
    → ((d : Rule) → matches p (get_or rules row.number d) ≡ true → new ≤ row.number)
    → (k : ℕ) (e : RowOf) (d : Rule) → k < n + 1 → matches p (get_or rules (get_or rows k e).number d) ≡ true → new ≤ (get_or rows k e).number
row_more p rules rows n row old new lt is le all here k e d below m =
    ⊎_elim
    (λ (before : k < n). omega (arith, all k e d before m, le))
    (λ (from : n ≤ k).
    let same : n ≡ k = omega arith in
    let at : row ≡ get_or rows k e = get_or_read rows n row lt is e ∙ ap (λ (i : ℕ). get_or rows i e) same in
    subst (λ (r : RowOf). new ≤ r.number) at (here d (subst (λ (r : RowOf). matches p (get_or rules r.number d) ≡ true) (sym at) m)))
    (cases_lt k n)
