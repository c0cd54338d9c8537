-- The wildcards that may answer for a name, by the name above it.
use Rattle.std.proofs.Common.{◌≡◌, ℕ, List, [], ◌∷◌, ◌&&◌, ◌||◌, not, Bool, true, false, Some, Result, IfOk, sym, ap, ◌∙◌}
use Rattle.std.proofs.lemmas.Result.{IfOk-weaker}
use Rattle.std.specs.declared.alloc.AllocError.{AllocError}
use Rattle.dns_names.specs.Labels.{parent_of}
use Rattle.dns_data.specs.declared.record.Record.{Record}
use Rattle.grant_policy.specs.declared.rule.Rule.{Rule}
use Rattle.zone_answers.specs.declared.query_type.QueryType.{QueryType}
use Rattle.zone_answers.specs.Answers.{Name}
use Rattle.answer_reach.specs.declared.reach_map.ReachMap.{ReachMap}
use Rattle.answer_reach.specs.ReachTests.{has_name, may_exist, wildcard_may_change, wildcards_may_change}

module _ (rules : List Rule) (caller : List ℕ) (origin : Name) (rs : List Record) (m : ReachMap) (asked : QueryType) where
  abbrev pub beside : Name → Name → Bool
  beside name above = not (has_name m.staying.items name) && wildcard_may_change rules caller origin rs m above (may_exist rules caller origin rs m name) asked

  pub one_may : (name above : Name) → Some above ≡ parent_of name → beside name above ≡ true → true ≡ wildcards_may_change rules caller origin rs m name asked
  one_may [] above e t = absurd cc
  one_may (label ∷ labels) above e t =
      let same : above ≡ labels = cc in
      sym (ap (λ (b : Bool). b || wildcards_may_change rules caller origin rs m labels asked) (ap (beside (label ∷ labels)) (sym same) ∙ t))

  pub others_may : (name above : Name) → Some above ≡ parent_of name → beside name above ≡ false → (r : Result Bool AllocError)
      → IfOk r (λ b. b ≡ wildcards_may_change rules caller origin rs m above asked) → IfOk r (λ b. b ≡ wildcards_may_change rules caller origin rs m name asked)
  others_may [] above e t r h = absurd cc
  others_may (label ∷ labels) above e t r h =
      let same : above ≡ labels = cc in
      let none : wildcards_may_change rules caller origin rs m (label ∷ labels) asked ≡ wildcards_may_change rules caller origin rs m labels asked =
      ap (λ (b : Bool). b || wildcards_may_change rules caller origin rs m labels asked) (ap (beside (label ∷ labels)) (sym same) ∙ t) in
      IfOk-weaker r (λ b. b ≡ wildcards_may_change rules caller origin rs m above asked) (λ b. b ≡ wildcards_may_change rules caller origin rs m (label ∷ labels) asked)
      (λ b x. x ∙ ap (λ (n : Name). wildcards_may_change rules caller origin rs m n asked) same ∙ sym none) h
