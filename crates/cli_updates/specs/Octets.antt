-- How many octets the items of an update add to the body that has them.
use Rattle.std.specs.Prelude.{ℕ, ◌+◌, ◌-◌, List, [], ◌∷◌, fold, length, min}
use Rattle.zone_core.specs.declared.update.Prerequisite.{Prerequisite}
use Rattle.zone_core.specs.declared.update.Operation.{Operation}
use Rattle.zone_core.specs.Updates.{UpdateOf}
use Rattle.update_lines.specs.Reading.{no_items}
use Rattle.wire_json.specs.UpdateTexts.{update_text}

-- octets are counted up to 65,535
abbrev pub capped : ℕ → ℕ
capped n = min n 65535

abbrev pub sum_up : ℕ → ℕ → ℕ
sum_up n m = min (n + m) 65535

-- an update of one prerequisite, and of one operation
abbrev pub one_test : Prerequisite → UpdateOf
one_test p = record { prerequisites = p ∷ []; operations = [] }

abbrev pub one_operation : Operation → UpdateOf
one_operation op = record { prerequisites = []; operations = op ∷ [] }

-- the octets of the body of an update without items
abbrev pub bare_length : List ℕ → ℕ
bare_length id = length (update_text id no_items)

-- the octets that an item adds to a body: its own, and a comma
abbrev pub added : List ℕ → UpdateOf → ℕ
added id u = capped (length (update_text id u) - bare_length id + 1)

abbrev pub test_octets : List ℕ → Prerequisite → ℕ
test_octets id p = added id (one_test p)

abbrev pub operation_octets : List ℕ → Operation → ℕ
operation_octets id op = added id (one_operation op)

-- the same of several prerequisites
abbrev pub tests_octets : List ℕ → List Prerequisite → ℕ
tests_octets id tests = fold (λ n p. sum_up n (test_octets id p)) 0 tests
