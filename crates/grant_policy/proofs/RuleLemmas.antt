-- Whether a rule matches.
use Rattle.std.proofs.Common.{◌≡◌, ℕ, zero, suc, ◌⊎◌, inl, inr, Bool, List, [], ◌∷◌, Option, Some, None, refl, arith}
use Rattle.std.specs.Bool.{Decides}
use Rattle.std.specs.List.{Contains, list_any}
use Rattle.std.proofs.lemmas.Bool.Decides.{Decides-and, Decides-or, Decides-like}
use Rattle.std.proofs.lemmas.Slice.Eq.{bytes_eq-Decides}
use Rattle.grant_policy.specs.declared.callers.Callers.{Callers}
use Rattle.grant_policy.specs.declared.callers.Callers.TheVariants.{Every, One}
use Rattle.grant_policy.specs.declared.rule.Rule.{Rule}
use Rattle.grant_policy.specs.Rules.{Question, IsOf, Has, Matches, is_of, has, same_type, same_action, matches}
use Rattle.grant_policy.proofs.WordLemmas.{same_type-Decides, same_action-Decides}
use Rattle.grant_policy.proofs.ScopeLemmas.{covers-Decides}

module _ {X : Type 0} (same : X → X → Bool) (tells : (a b : X) → Decides (same a b) (a ≡ b)) where
  here_or_later : (y : X) (ys : List X) (x : X) → Contains (y ∷ ys) x → (y ≡ x) ⊎ Contains ys x
  here_or_later y ys x (zero, lt, is) = inl is
  here_or_later y ys x (suc k, lt, is) = inr (k, omega arith, is)

  contained : (y : X) (ys : List X) (x : X) → (y ≡ x) ⊎ Contains ys x → Contains (y ∷ ys) x
  contained y ys x (inl e) = (0, omega arith, e)
  contained y ys x (inr c) = (suc c.0, omega (arith, c.1), c.2)

  pub list_any-Decides : (x : X) (xs : List X) → Decides (list_any (λ y. same y x) xs) (Contains xs x)
  list_any-Decides x [] = (λ e. absurd cc, λ c. absurd (omega (arith, c.1)))
  list_any-Decides x (y ∷ ys) = Decides-like _ (contained y ys x) (here_or_later y ys x) (Decides-or _ _ (tells y x) (list_any-Decides x ys))

  pub has-Decides : (o : Option (List X)) (x : X) → Decides (has same o x) (Has o x)
  has-Decides None x = (λ _. tt, λ _. refl)
  has-Decides (Some xs) x = list_any-Decides x xs

pub is_of-Decides : (callers : Callers) (caller : List ℕ) → Decides (is_of callers caller) (IsOf callers caller)
is_of-Decides Every caller = (λ _. tt, λ _. refl)
is_of-Decides (One identifier) caller = bytes_eq-Decides identifier caller

pub matches-Decides : (asked : Question) (rule : Rule) → Decides (matches asked rule) (Matches asked rule)
matches-Decides asked rule =
    Decides-like _
    (λ h. record { callers = h.0; scope = h.1.0; types = h.1.1.0; actions = h.1.1.1 })
    (λ m. (m.callers, (m.scope, (m.types, m.actions))))
    (Decides-and _ _ (is_of-Decides rule.callers asked.caller)
    (Decides-and _ _ (covers-Decides rule.scope rule.at asked.name)
    (Decides-and _ _ (has-Decides same_type same_type-Decides rule.types asked.record_type) (has-Decides same_action same_action-Decides rule.actions asked.action))))
