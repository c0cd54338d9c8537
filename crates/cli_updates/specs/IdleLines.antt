-- What `plan --explain` prints of the operations that change nothing.
use Rattle.std.specs.Prelude.{ℕ, suc, List, [], ◌∷◌, ◌++◌, map, codes, decimal, Option, Some, None}
use Rattle.zone_core.specs.Zones.{ZoneOf}
use Rattle.zone_core.specs.Updates.{UpdateOf, acted_name}
use Rattle.zone_core.specs.Parts.{part_of, at_names}
use Rattle.zone_tools.specs.declared.idle.Idleness.{Idleness}
use Rattle.zone_tools.specs.IdleOperations.{idleness_text, idle_operations}

-- the number of an operation, from 0, and why it changes nothing, if it does not
abbrev pub idle_line : ℕ → Option Idleness → List ℕ
idle_line item None = []
idle_line item (Some why) = codes "operations " ++ (decimal item ++ (codes " changes nothing: " ++ (idleness_text why ++ 10 ∷ [])))

-- of operations from a number on
abbrev pub idle_lines_from : ℕ → List (Option Idleness) → List ℕ
idle_lines_from item [] = []
idle_lines_from item (found ∷ rest) = idle_line item found ++ idle_lines_from (suc item) rest

-- the part of a zone at the names of operations, which is all that they read
abbrev pub part_read : ZoneOf → UpdateOf → ZoneOf
part_read zone update = part_of zone (at_names zone.origin (map acted_name update.operations))

-- of the operations of an update of a zone
abbrev pub idle_lines : ZoneOf → UpdateOf → List ℕ
idle_lines zone update = idle_lines_from 0 (idle_operations (part_read zone update) update)
