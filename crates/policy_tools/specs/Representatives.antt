-- Names that represent all names, as far as rules can tell.
use Rattle.std.specs.Prelude.{◌≡◌, ℕ, List}
use Rattle.std.specs.List.{All, Contains}
use Rattle.dns_names.specs.Labels.{IsName}
use Rattle.grant_policy.specs.declared.rule.Rule.{Rule}
use Rattle.grant_policy.specs.Scopes.{covers}

-- each rule covers both names, or neither
abbrev pub AreAlike : List Rule → List (List ℕ) → List (List ℕ) → Type 0
AreAlike rules name other = (rule : Rule) → Contains rules rule → covers rule.scope rule.at name ≡ covers rule.scope rule.at other

-- each name is like one of these names
pub record Represent (rules : List Rule) (names : List (List (List ℕ))) : Type 0 where
  pub valid : All IsName names
  pub each : (name : List (List ℕ)) → IsName name → (other : List (List ℕ)) × Contains names other × AreAlike rules name other
