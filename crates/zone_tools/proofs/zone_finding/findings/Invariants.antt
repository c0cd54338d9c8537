use Rattle.std.proofs.Common.{◌≡◌, take}
use Rattle.zone_core.specs.Sets.{listing}
use Rattle.zone_tools.specs.ZoneFindings.{findings_from}
use Rattle.zone_tools.proofs.zone_finding.findings.Given as goal

abbrev pub invariant-loop-place : goal.invariant-loop-place
invariant-loop-place l =
    l.found.items ≡ findings_from l.survey.zone.now.origin (listing l.survey.zone.now.records) 0 (take l.place l.record-items)
