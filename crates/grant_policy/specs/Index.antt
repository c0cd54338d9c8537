-- The index of a list of rules: the number of each, by whose rule it is and at which key.
use Rattle.std.specs.Prelude.{◌≡◌, ℕ, ◌+◌, ◌<◌, ◌&&◌, List, [], ◌∷◌, length, slice_index_or, Bool, Option, Some, None, bytes_eq}
use Rattle.std.specs.declared.cmp.Ordering.{Ordering}
use Rattle.std.specs.Ordering.{nat_cmp, on, then_cmp, is_lt}
use Rattle.std.specs.Option.{option_cmp, option_eq}
use Rattle.std.specs.Cmp.Lexicographic.{slice_cmp, nat_list_cmp_total, options_total}
use Rattle.std.specs.Cmp.{IsTotalOrder, on_total, then_total}
use Rattle.std.specs.List.{All}
use Rattle.std.specs.List.Sorted.{IsPermutation, IsSortedBy}
use Rattle.dns_names.specs.Keys.{key_of, IsKeyOfOne}
use Rattle.grant_policy.specs.declared.callers.Callers.{Callers}
use Rattle.grant_policy.specs.declared.callers.Callers.TheVariants.{Every, One}
use Rattle.grant_policy.specs.declared.rule.Rule.{Rule}

-- whose rules, where none is every caller's, and at the name of which key
pub record IndexKey : Type 0 where
  pub caller : Option (List ℕ)
  pub key : List ℕ

-- a row of the index
pub record RowOf : Type 0 where
  pub place : IndexKey
  pub number : ℕ

abbrev pub place_cmp : IndexKey → IndexKey → Ordering
place_cmp = then_cmp (on (λ p. p.caller) (option_cmp (slice_cmp nat_cmp))) (on (λ p. p.key) (slice_cmp nat_cmp))

pub place_total : IsTotalOrder place_cmp
place_total = then_total (on_total (λ p. p.caller) (options_total nat_list_cmp_total)) (on_total (λ p. p.key) nat_list_cmp_total)

abbrev pub one_of : Callers → Option (List ℕ)
one_of Every = None
one_of (One identifier) = Some identifier

abbrev pub place_of : Rule → IndexKey
place_of rule = record { caller = one_of rule.callers; key = key_of rule.at }

-- a row for each rule, in order, where n rules stand before
abbrev pub rows_from : ℕ → List Rule → List RowOf
rows_from n [] = []
rows_from n (rule ∷ rules) = record { place = place_of rule; number = n } ∷ rows_from (n + 1) rules

-- whether a rule stands at a place
abbrev pub is_at : Option (List ℕ) → List ℕ → Rule → Bool
is_at caller key rule = option_eq bytes_eq (one_of rule.callers) caller && bytes_eq (key_of rule.at) key

-- the rows of the rules, by place
pub record IsIndex (rules : List Rule) (index : List RowOf) : Type 0 where
  pub sorted : IsSortedBy (λ a b. is_lt (place_cmp a.place b.place)) index
  pub moved : IsPermutation (rows_from 0 rules) index
  pub keys : All (λ rule. IsKeyOfOne rule.at) rules

-- the row names a rule at its place
pub record IsRow (rules : List Rule) (row : RowOf) : Type 0 where
  pub below : row.number < length rules
  pub at : (d : Rule) → place_of (slice_index_or rules row.number d) ≡ row.place

-- some row names the rule
pub record Names (rows : List RowOf) (number : ℕ) : Type 0 where
  pub place : ℕ
  pub below : place < length rows
  pub is : (d : RowOf) → (slice_index_or rows place d).number ≡ number
