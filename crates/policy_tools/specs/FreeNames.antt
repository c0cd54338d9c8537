-- Free names, which no rule has, one label below another name.
use Rattle.std.specs.Prelude.{◌≡◌, ◌≢◌, ℕ, ◌+◌, ◌/◌, ◌%◌, List, [], ◌∷◌, ◌++◌, nat_lt, if◌then◌else◌, Option, Some, None}
use Rattle.std.specs.Char.{to_ascii_lowercase}
use Rattle.std.specs.List.{Contains}
use Rattle.std.specs.Option.{option_to_list}
use Rattle.dns_names.specs.Labels.{IsName}
use Rattle.grant_policy.specs.declared.rule.Rule.{Rule}

-- no rule has the name
abbrev pub IsFree : List Rule → List (List ℕ) → Type 0
IsFree rules name = (rule : Rule) → Contains rules rule → rule.at ≢ name

-- a free name one label below, or `None` if there is no such name
pub record IsFreeBelow (rules : List Rule) (top child : List (List ℕ)) : Type 0 where
  pub label : List ℕ
  pub is : child ≡ label ∷ top
  pub name : IsName child
  pub free : IsFree rules child

abbrev pub IsFreeChild : List Rule → List (List ℕ) → Option (List (List ℕ)) → Type 0
IsFreeChild rules top (Some child) = IsFreeBelow rules top child
IsFreeChild rules top None = (label : List ℕ) → IsName (label ∷ top) → ¬ IsFree rules (label ∷ top)

-- the same for the label of one octet
abbrev pub IsFreeOctet : List Rule → List (List ℕ) → ℕ → Option (List (List ℕ)) → Type 0
IsFreeOctet rules top octet (Some child) = IsFreeBelow rules top child
IsFreeOctet rules top octet None = to_ascii_lowercase octet ≡ octet → ¬ IsFree rules ((octet ∷ []) ∷ top)

-- a name is added, and a free one below it, if there is one
pub record AddsServed (rules : List Rule) (top : List (List ℕ)) (old new : List (List (List ℕ))) : Type 0 where
  pub child : Option (List (List ℕ))
  pub free : IsFreeChild rules top child
  pub added : new ≡ (old ++ top ∷ []) ++ option_to_list child

-- ---- labels by number

-- a to z, then from 0 to @, and then from ] to `: folded octets that stand for themselves in a label
abbrev pub letter_of : ℕ → ℕ
letter_of n = if nat_lt n 26 then 97 + n else (if nat_lt n 43 then 22 + n else 50 + n)

abbrev pub pair_of : ℕ → List ℕ
pair_of n = letter_of (n / 47) ∷ letter_of (n % 47) ∷ []
