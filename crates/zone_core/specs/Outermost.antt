-- Names that are within no other.
use Rattle.std.specs.Prelude.{◌≡◌, ℕ, List, false}
use Rattle.std.specs.declared.cmp.Ordering.TheVariants.{Less}
use Rattle.std.specs.List.{All, AllPairs, Contains, list_any}
use Rattle.dns_names.specs.Labels.{is_within}
use Rattle.dns_names.specs.Order.{canonical_cmp}

-- names in canonical order, none of which is within another
abbrev pub AreApart : List (List (List ℕ)) → Type 0
AreApart names = AllPairs (λ a b. (canonical_cmp a b ≡ Less) × (is_within b a ≡ false)) names

-- the outermost of some names: those that are within no other, each once
pub record AreOutermost (names tops : List (List (List ℕ))) : Type 0 where
  pub each : All (λ top. Contains names top) tops
  pub covers : (name : List (List ℕ)) → list_any (λ top. is_within name top) tops ≡ list_any (λ top. is_within name top) names
  pub apart : AreApart tops
