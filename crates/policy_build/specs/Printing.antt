-- The values of the office's TOML that a rule is printed as.
use Rattle.std.specs.Prelude.{ℕ, List, [], ◌∷◌, Option, Some, None, option_map, codes}
use Rattle.std.specs.Ordering.{nat_cmp, match_ordering}
use Rattle.std.specs.Cmp.Lexicographic.{slice_cmp}
use Rattle.grant_policy.specs.declared.rule.Rule.{Rule}
use Rattle.policy_build.specs.declared.printing.RuleParts.{RuleParts}
use Rattle.toml.specs.Data.{Data, string, array, Items, no_items, item, Members, no_members, member}

-- a table with a value at a key, in the order of keys
abbrev pub put_member : List ℕ → Data → Members → Members
put_member k d no_members = member k d no_members
put_member k d (member l e ms) = match_ordering (slice_cmp nat_cmp k l) (member k d (member l e ms)) (member l d ms) (member l e (put_member k d ms))

-- texts, one for each word
abbrev pub words_data : {X : Type 0} → (X → List ℕ) → List X → Items
words_data text [] = no_items
words_data text (x ∷ xs) = item (string (text x)) (words_data text xs)

-- `*`, or an array of words
abbrev pub selection_data : {X : Type 0} → (X → List ℕ) → Option (List X) → Data
selection_data text None = string (codes "*")
selection_data text (Some xs) = array (words_data text xs)

-- the rule of these parts
abbrev pub rule_with : RuleParts → Rule
rule_with p = record {
  id = p.id.now;
  effect = p.effect;
  callers = p.callers.now;
  scope = p.scope;
  at = p.at.now;
  types = option_map (λ types. types.now) p.types;
  actions = option_map (λ actions. actions.now) p.actions;
}
