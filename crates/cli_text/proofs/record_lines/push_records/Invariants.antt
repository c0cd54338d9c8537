use Rattle.std.proofs.Common.{◌≡◌, ◌++◌, take}
use Rattle.cli_text.specs.RecordLines.{records_text}
use Rattle.cli_text.proofs.record_lines.push_records.Given as goal

-- the lines so far
abbrev pub invariant-loop-record : goal.invariant-loop-record
invariant-loop-record l = l.text.items ≡ l.initial.text.items ++ records_text (take l.record-index l.records)
