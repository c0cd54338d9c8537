use Rattle.std.proofs.Common.{◌≡◌, ◌++◌, take}
use Rattle.zone_core.specs.Sets.{listing}
use Rattle.zone_tools.specs.ZoneFindings.{findings_by}
use Rattle.zone_tools.proofs.zone_faults.with_findings_by.Given as goal

abbrev pub invariant-loop-rule : goal.invariant-loop-rule
invariant-loop-rule l =
    l.found.items
    ≡ l.initial.found.items ++ findings_by l.survey.zone.now.origin (listing l.survey.zone.now.records) l.place l.rr (take l.rule-index l.rules)
