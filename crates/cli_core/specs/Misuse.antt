-- What is told of words that ask for no job.
use Rattle.std.specs.Prelude.{◌≡◌, ◌⊎◌, ⊤, Bool, true, false, not, List, [], None, string_bytes}
use Rattle.std.specs.List.{list_any}
use Rattle.clap.specs.Words.{IsAmong, Text, fault_of}
use Rattle.clap.specs.declared.error.ErrorKind.{ErrorKind}
use Rattle.clap.specs.declared.error.ErrorKind.TheVariants as kind
use Rattle.cli_core.specs.Commands.{office}
use Rattle.cli_core.specs.Help.{command_helped, version_line, IsHelpOf}
use Rattle.cli_core.specs.Words.{job_of}
use Rattle.cli_core.specs.declared.words.WordsFault.{WordsFault}
use Rattle.cli_core.specs.declared.words.WordsFault.TheVariants as fault

-- the kind of an answer that is no mistake: the help, or the version
abbrev pub is_help : ErrorKind → Bool
is_help kind.DisplayHelp = true
is_help kind.DisplayVersion = true
is_help _ = false

abbrev pub is_mistake : ErrorKind → Bool
is_mistake k = not (is_help k)

-- the text that answers words that ask for help, or for the version
abbrev pub IsAnswer : List Text → ErrorKind → Text → Type 0
IsAnswer words kind.DisplayHelp text = IsHelpOf (command_helped words) text
IsAnswer words kind.DisplayVersion text = text ≡ version_line
IsAnswer words _ text = ⊥

-- the help or the version where the words ask for it, and misuse where there is a mistake in them, or none and they name no job
abbrev pub IsReported : List Text → WordsFault → Type 0
IsReported words (fault.Help text) = (k : ErrorKind) × IsAmong k (fault_of office words) × IsAnswer words k (string_bytes text)
IsReported words (fault.Misused text) = (list_any is_mistake (fault_of office words) ≡ true) ⊎ ((fault_of office words ≡ []) × (job_of words ≡ None))
IsReported words fault.NoMemory = ⊤

-- the same of one error
abbrev pub IsReportedAs : List Text → ErrorKind → WordsFault → Type 0
IsReportedAs words k (fault.Help text) = IsAnswer words k (string_bytes text)
IsReportedAs words k (fault.Misused text) = is_mistake k ≡ true
IsReportedAs words k fault.NoMemory = ⊤
