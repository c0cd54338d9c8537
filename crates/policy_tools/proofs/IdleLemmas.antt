-- Which rules are idle, and lists of numbers in order.
use Rattle.std.proofs.Common.{◌≡◌, ◌↔◌, ℕ, ◌+◌, ◌<◌, ◌≤◌, List, [], ◌∷◌, ◌++◌, Vec, Global, map, length, get_or, sym, subst, ⊎_elim, arith}
use Rattle.std.specs.List.{All, Contains}
use Rattle.std.proofs.lemmas.Bool.{cases_lt}
use Rattle.std.proofs.lemmas.List.{get_or_append_left, get_or_push, length_push, map_push}
use Rattle.std.proofs.lemmas.List.Elements.{All-push, Contains-push, Contains-push_cases, Contains-append_left, Contains-get_or}
use Rattle.policy_tools.specs.declared.idle.IdleRule.{IdleRule}
use Rattle.grant_policy.specs.declared.rule.Rule.{Rule}
use Rattle.policy_tools.specs.Idle.{IsIdle, Takes, AreTakers, PushesIdle}
use Rattle.policy_tools.specs.Claims.{AreBelow}

-- a rule is idle where it does not decide what it matches itself
pub idle_from : (rules : List Rule) (i : ℕ) → ¬ Takes rules i i → IsIdle rules i
idle_from rules i not asked rule can first = not (record { asked = asked; can = can; rule = rule; at = first.at; matching = first.matching; taker = rule; first = first })

pub not_idle : (rules : List Rule) (i : ℕ) → Takes rules i i → ¬ IsIdle rules i
not_idle rules i takes idle = idle takes.asked takes.taker takes.can takes.first

-- a rule after another never decides what that one matches
pub upto : (rules : List Rule) (i j : ℕ) → Takes rules i j → j ≤ i
upto rules i j takes =
    ⊎_elim
    (λ (behind : i < j). absurd (takes.first.first i takes.rule behind takes.at takes.matching))
    (λ (before : j ≤ i). before)
    (cases_lt i j)

-- ---- numbers in order

pub none_below : (P : ℕ → Type 0) → AreBelow P 0 []
none_below P = record { each = λ k. (λ c. absurd (omega (arith, c.1)), λ h. absurd (omega (arith, h.0))); ordered = λ k lt. absurd (omega arith) }

pub more_no : (P : ℕ → Type 0) (n : ℕ) (xs : List ℕ) → ¬ P n → AreBelow P n xs → AreBelow P (n + 1) xs
more_no P n xs no' are = record {
  each = λ k. (
    λ c. let h = (are.each k).0 c in (omega (arith, h.0), h.1),
    λ h. ⊎_elim
        (λ (below : k < n). (are.each k).1 (below, h.1))
        (λ (from : n ≤ k). let e : k ≡ n = omega (arith, h.0) in absurd (no' (subst P e h.1)))
        (cases_lt k n),
  );
  ordered = are.ordered;
}

pub more_yes : (P : ℕ → Type 0) (n : ℕ) (xs : List ℕ) → P n → AreBelow P n xs → AreBelow P (n + 1) (xs ++ n ∷ [])
more_yes P n xs yes' are = record {
  each = λ k. (
    λ c. ⊎_elim
        (λ (old : Contains xs k). let h = (are.each k).0 old in (omega (arith, h.0), h.1))
        (λ (new : n ≡ k). (omega arith, subst P new yes'))
        (Contains-push_cases xs n k c),
    λ h. ⊎_elim
        (λ (below : k < n). Contains-append_left xs (n ∷ []) k ((are.each k).1 (below, h.1)))
        (λ (from : n ≤ k). let e : n ≡ k = omega (arith, h.0) in subst (λ (m : ℕ). Contains (xs ++ n ∷ []) m) e (Contains-push xs n))
        (cases_lt k n),
  );
  ordered = λ k lt. in_order k (omega (arith, lt, length_push xs n));
}
  where
    last : (k : ℕ) → k + 1 ≡ length xs → get_or (xs ++ n ∷ []) k 0 < get_or (xs ++ n ∷ []) (k + 1) 0
    last k e =
        let at = get_or xs k 0 in
        let below = ((are.each at).0 (Contains-get_or xs k 0 (omega arith))).0 in
        omega (arith, below, get_or_append_left xs (n ∷ []) 0 k (omega arith), get_or_push xs n 0 (k + 1) (sym e))

    in_order : (k : ℕ) → k + 1 ≤ length xs → get_or (xs ++ n ∷ []) k 0 < get_or (xs ++ n ∷ []) (k + 1) 0
    in_order k le =
        ⊎_elim
        (λ (inside : k + 1 < length xs). omega (arith, are.ordered k inside, get_or_append_left xs (n ∷ []) 0 k (omega arith), get_or_append_left xs (n ∷ []) 0 (k + 1) inside))
        (λ (end : length xs ≤ k + 1). last k (omega arith))
        (cases_lt (k + 1) (length xs))

pub same_to : (P : ℕ → Type 0) (n : ℕ) (xs : List ℕ) → ((k : ℕ) → P k → k < n) → AreBelow P n xs → (k : ℕ) → Contains xs k ↔ P k
same_to P n xs all are k = (λ c. ((are.each k).0 c).1, λ p. (are.each k).1 (all k p, p))

-- one rule more
pub idle_more : (rules : List Rule) (n : ℕ) (old new : List IdleRule) (takers : Vec ℕ Global) → AreTakers rules n takers.items → PushesIdle (record { rule = n; takers = takers }) old new
    → AreBelow (λ i. ¬ Takes rules i i) n (map (λ r. r.rule) old) → All (λ r. AreTakers rules r.rule r.takers.items) old
    → record { idle : AreBelow (λ i. ¬ Takes rules i i) (n + 1) (map (λ r. r.rule) new); takers : All (λ r. AreTakers rules r.rule r.takers.items) new }
idle_more rules n old new takers are pushes below all =
    let P : ℕ → Type 0 = λ (i : ℕ). ¬ Takes rules i i in
    let row : IdleRule = record { rule = n; takers = takers } in
    let xs = map (λ (r : IdleRule). r.rule) old in
    ⊎_elim
    (λ (kept : (new ≡ old) × Contains takers.items n). rw kept.0 (record { idle = more_no P n xs (λ none. none ((are.each n).0 kept.1)) below; takers = all }))
    (λ (added : (new ≡ old ++ row ∷ []) × (¬ Contains takers.items n)). rw added.0 (record {
      idle = subst (AreBelow P (n + 1)) (sym (map_push (λ (r : IdleRule). r.rule) old row)) (more_yes P n xs (λ takes. added.1 ((are.each n).1 takes)) below);
      takers = All-push (λ (r : IdleRule). AreTakers rules r.rule r.takers.items) old row all are;
    }))
    pushes

-- the rules that do not take their own questions are the idle ones
pub idle_are : (rules : List Rule) (n : ℕ) (xs : List ℕ) → n ≡ length rules → AreBelow (λ i. ¬ Takes rules i i) n xs → (i : ℕ) → Contains xs i ↔ ((i < length rules) × IsIdle rules i)
idle_are rules n xs e are i = (
  λ c. let h = (are.each i).0 c in (omega (arith, h.0), idle_from rules i h.1),
  λ h. (are.each i).1 (omega (arith, h.0), λ takes. not_idle rules i takes h.1),
)
