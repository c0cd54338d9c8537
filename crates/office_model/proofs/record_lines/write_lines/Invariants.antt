use Rattle.std.proofs.Common.{◌≡◌, take}
use Rattle.std.specs.Prelude.{string_bytes}
use Rattle.dns_master.specs.ZoneText.{records_text}
use Rattle.office_model.proofs.record_lines.write_lines.Given as goal

abbrev pub invariant-loop-rr : goal.invariant-loop-rr
invariant-loop-rr l = string_bytes l.room ≡ records_text (take l.rr-index l.records)
