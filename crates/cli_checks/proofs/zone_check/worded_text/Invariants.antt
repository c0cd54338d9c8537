use Rattle.std.proofs.Common.{◌≡◌, take}
use Rattle.std.specs.List.{flat_map}
use Rattle.cli_checks.specs.ZoneCheck.{worded}
use Rattle.cli_checks.proofs.zone_check.worded_text.Given as goal

-- the lines of the records so far
abbrev pub invariant-loop-record : goal.invariant-loop-record
invariant-loop-record l = l.text.items ≡ flat_map (worded l.word) (take l.record-index l.records)
