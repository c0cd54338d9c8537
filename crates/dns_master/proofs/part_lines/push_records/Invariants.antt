use Rattle.std.proofs.Common.{◌≡◌, ◌++◌, take}
use Rattle.std.specs.List.{flat_map}
use Rattle.dns_master.specs.ZoneText.{ended_line}
use Rattle.dns_master.proofs.part_lines.push_records.Given as goal

abbrev pub invariant-loop-rr : goal.invariant-loop-rr
invariant-loop-rr l = l.text.items ≡ l.initial.text.items ++ flat_map ended_line (take l.rr-index l.records)
