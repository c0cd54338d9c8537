use Rattle.std.proofs.Common.{◌≡◌, ◌++◌, drop}
use Rattle.std.specs.Prelude.{string_bytes}
use Rattle.cli_updates.specs.IdleLines.{idle_lines_from}
use Rattle.cli_updates.proofs.idle_lines.push_each.Given as goal

-- the lines so far, and those of the operations that are left
abbrev pub invariant-loop-i : goal.invariant-loop-i
invariant-loop-i l = string_bytes l.text ++ idle_lines_from l.i (drop l.i l.found) ≡ string_bytes l.initial.text ++ idle_lines_from 0 l.found
