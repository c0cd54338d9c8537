use Rattle.std.proofs.Common.{◌≡◌, take}
use Rattle.std.specs.List.{flat_map}
use Rattle.cli_checks.specs.RightsCheck.{type_if}
use Rattle.cli_checks.proofs.rights_check.types_among.Given as goal

-- the types so far
abbrev pub invariant-loop-record_type : goal.invariant-loop-record_type
invariant-loop-record_type l = l.text.items ≡ flat_map (type_if l.rights l.action) (take l.record_type-index l.types)
