use Rattle.std.proofs.Common.{◌≡◌, ◌++◌, take}
use Rattle.std.specs.Prelude.{string_bytes}
use Rattle.cli_updates.specs.Plan.{signed_lines}
use Rattle.cli_updates.proofs.plan.push_signed.Given as goal

abbrev pub invariant-loop-record : goal.invariant-loop-record
invariant-loop-record l = string_bytes l.text ≡ string_bytes l.initial.text ++ signed_lines l.sign (take l.record-index l.records)
