-- What the parts of an update have of it.
use Rattle.std.specs.Prelude.{◌≡◌, ℕ, ◌^◌, ◌<◌, ◌≤◌, length, List, []}
use Rattle.std.specs.List.{AllByRecursion, filter}
use Rattle.std.specs.List.Sorted.{IsPermutation}
use Rattle.dns_names.specs.Order.{same_name}
use Rattle.zone_core.specs.declared.update.Prerequisite.{Prerequisite}
use Rattle.zone_core.specs.declared.update.Operation.{Operation}
use Rattle.zone_core.specs.Serials.{IsLess, serial_sum}
use Rattle.zone_core.specs.Updates.{UpdateOf, tested_name}
use Rattle.zone_tools.specs.UpdatesInTurn.{operations_of, prerequisites_of, AreTestedFirst, HasWholeSets}
use Rattle.cli_updates.specs.Pieces.{split_of}

-- The parts have the operations in their order, and each prerequisite once. No part before that of a prerequisite has an operation at its
-- name, or any at all if the data of an SOA are tested; and the prerequisites of a record set are in one part.
pub record IsSplit (tests : List Prerequisite) (operations : List Operation) (parts : List UpdateOf) : Type 0 where
  pub in_order : operations_of parts ≡ operations
  pub once : IsPermutation tests (prerequisites_of parts)
  pub first : AreTestedFirst [] parts
  pub together : AllByRecursion (HasWholeSets tests) parts

abbrev pub SplitsArePartsOf : Type 0
SplitsArePartsOf = (id : List ℕ) (tests : List Prerequisite) (operations : List Operation) → IsSplit tests operations (split_of id tests operations)

-- at most 64 prerequisites and 256 operations
abbrev pub HasFewItems : UpdateOf → Type 0
HasFewItems u = (length u.prerequisites ≤ 64) × (length u.operations ≤ 256)

-- at most 64 prerequisites at each name
abbrev pub AreFewAtNames : List Prerequisite → Type 0
AreFewAtNames tests = (name : List (List ℕ)) → length (filter (λ p. same_name name (tested_name p)) tests) ≤ 64

-- then no part has more items than an update may have, however many there are in all
abbrev pub SplitsHaveFewItems : Type 0
SplitsHaveFewItems =
    (id : List ℕ) (tests : List Prerequisite) (operations : List Operation) → AreFewAtNames tests → AllByRecursion HasFewItems (split_of id tests operations)

-- a serial that is greater than another stays so if both are advanced as often (RFC 1982)
abbrev pub AdvancesKeepOrder : Type 0
AdvancesKeepOrder = (s t n : ℕ) → s < 2 ^ 32 → t < 2 ^ 32 → IsLess s t → IsLess (serial_sum s n) (serial_sum t n)
