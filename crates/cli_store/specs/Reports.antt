-- How what a command made, or the fault that it met, is written.
use Rattle.std.specs.Prelude.{◌≡◌, ℕ, ◌<◌, List, Option, Result, Ok, Err}
use Rattle.std.specs.Io.KnownBytes.{Appends}
use Rattle.cli_core.specs.declared.line_fault.LineFault.{LineFault}
use Rattle.cli_core.specs.declared.line_fault.JobFault.{JobFault}
use Rattle.cli_core.specs.declared.line_fault.JobFault.TheVariants.{Reported, WriteFailed}
use Rattle.cli_core.specs.Device.{AppendsFront}
use Rattle.cli_core.specs.Replies.{IsRefusalWritten, IsPrinted}

-- What was made, what the writer held before and after, how the command went, and the writer's failures before and after: the text is
-- written, or the line of the fault.
abbrev pub IsReported : Result (List ℕ) LineFault → Option (List ℕ) → Option (List ℕ) → Result (Unit {0}) JobFault → ℕ → ℕ → Type 0
IsReported (Ok text) old new (Ok done) before after = Appends old new text × (after ≡ before)
IsReported (Ok text) old new (Err WriteFailed) before after = AppendsFront old new text × (before < after)
IsReported (Ok text) old new (Err (Reported fault)) before after = ⊥
IsReported (Err fault) old new result before after = IsRefusalWritten old new fault result before after

-- the same of a text that takes memory while it is written
abbrev pub IsShown : Result (List ℕ) LineFault → Option (List ℕ) → Option (List ℕ) → Result (Unit {0}) JobFault → ℕ → ℕ → Type 0
IsShown (Ok text) old new result before after = IsPrinted old new text result before after
IsShown (Err fault) old new result before after = IsRefusalWritten old new fault result before after
