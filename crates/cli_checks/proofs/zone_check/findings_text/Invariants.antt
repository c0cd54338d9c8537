use Rattle.std.proofs.Common.{◌≡◌, take}
use Rattle.std.specs.List.{flat_map}
use Rattle.cli_checks.specs.ZoneCheck.{finding_text}
use Rattle.cli_checks.proofs.zone_check.findings_text.Given as goal

-- the findings so far
abbrev pub invariant-loop-finding : goal.invariant-loop-finding
invariant-loop-finding l = l.text.items ≡ flat_map (finding_text l.tests l.records) (take l.finding-index l.found)
