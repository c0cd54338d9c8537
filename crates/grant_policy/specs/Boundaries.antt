-- Where along the canonical order of names (RFC 4034 section 6.1) a policy can begin to decide otherwise.
use Rattle.std.specs.Prelude.{◌≡◌, ℕ, List, [], ◌∷◌, ◌++◌, Bool, if◌then◌else◌, Option, Some, None}
use Rattle.std.specs.List.{AllByRecursion, count_by, flat_map}
use Rattle.std.specs.Ordering.{nat_cmp, is_le}
use Rattle.std.specs.Cmp.Lexicographic.{slice_cmp}
use Rattle.dns_names.specs.Keys.{key_of, key_end}
use Rattle.dns_data.specs.declared.record_type.RecordType.{RecordType}
use Rattle.grant_policy.specs.declared.action.Action.{Action}
use Rattle.grant_policy.specs.declared.rule.Rule.{Rule}
use Rattle.grant_policy.specs.Rules.{is_of}
use Rattle.grant_policy.specs.Decisions.{decision}

-- the end of a range, where it has one
abbrev pub end_in : Option (List ℕ) → List (List ℕ)
end_in None = []
end_in (Some end) = end ∷ []

-- the boundaries of a name: its key, the first key after it, and the first after those of the names within
abbrev pub boundaries_at : List (List ℕ) → List (List ℕ)
boundaries_at at = key_of at ∷ (key_of at ++ 0 ∷ []) ∷ end_in (key_end at)

-- those of the name of a rule, if it is a rule of the caller or of every caller
abbrev pub boundaries_of : List ℕ → Rule → List (List ℕ)
boundaries_of caller rule = if is_of rule.callers caller then boundaries_at rule.at else []

-- those of a list of rules
abbrev pub boundaries : List ℕ → List Rule → List (List ℕ)
boundaries caller rules = flat_map (boundaries_of caller) rules

-- whether a boundary is at a key or before it
abbrev pub is_reached : List ℕ → List ℕ → Bool
is_reached key boundary = is_le (slice_cmp nat_cmp boundary key)

-- how many boundaries are at a key or before it
abbrev pub region_of : List (List ℕ) → List ℕ → ℕ
region_of bs key = count_by (is_reached key) bs

-- no boundary is between two keys
abbrev pub AreTogether : List (List ℕ) → List ℕ → List ℕ → Type 0
AreTogether bs key other = AllByRecursion (λ b. is_reached key b ≡ is_reached other b) bs

-- between boundaries a policy decides alike at all names
abbrev pub DecidesAlike : Type 0
DecidesAlike =
    (rules : List Rule) (caller : List ℕ) (name other : List (List ℕ)) (record_type : RecordType) (action : Action)
    → AreTogether (boundaries caller rules) (key_of name) (key_of other)
    → decision (record { caller = caller; name = name; record_type = record_type; action = action }) rules
    ≡ decision (record { caller = caller; name = other; record_type = record_type; action = action }) rules
