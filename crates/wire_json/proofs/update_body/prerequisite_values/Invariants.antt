use Rattle.std.proofs.Common.{◌≡◌, map, take}
use Rattle.serde_json.specs.View.{view}
use Rattle.wire_json.specs.UpdateTexts.{prerequisite_value}
use Rattle.wire_json.proofs.update_body.prerequisite_values.Given as goal

-- the values of the prerequisites so far
abbrev pub invariant-loop-prerequisite : goal.invariant-loop-prerequisite
invariant-loop-prerequisite l = map view l.values.items ≡ map prerequisite_value (take l.prerequisite-index l.prerequisites)
