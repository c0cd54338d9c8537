-- The help that words ask for: that of the program, from the table of its commands, and that of a command.
use Rattle.std.specs.Prelude.{◌≡◌, ◌-◌, List, [], ◌∷◌, ◌++◌, Option, Some, None, option_and_then, bytes_eq, codes, length, slice_get, if◌then◌else◌}
use Rattle.std.specs.List.{flat_map, repeat}
use Rattle.clap.specs.Words.{Text}
use Rattle.cli_core.specs.Commands.{all_commands, command_of, command_word}
use Rattle.cli_core.specs.declared.commands.Command.{Command}
use Rattle.cli_core.specs.declared.commands.Command.TheVariants as command

-- ---- the table of commands

-- what a command does
abbrev pub command_about : Command → Text
command_about command.Apply = codes "Updates a zone, as without any word"
command_about command.Canon = codes "Prints a zone in canonical form"
command_about command.Diff = codes "Prints the items that lead from a zone to another"
command_about command.Request = codes "Prints the body of an update, or the bodies of its parts, for the HTTP service"
command_about command.Import = codes "Puts a zone into a store, or those of a list"
command_about command.Export = codes "Prints a zone of a store"
command_about command.Zones = codes "Prints the zones of a store"
command_about command.Log = codes "Prints the changes of a zone of a store, and the receipts"
command_about command.Blame = codes "Prints the records of a zone of a store, each after the change that brought it"
command_about command.Undo = codes "Prints the items that undo a change of a zone of a store, or are refused"
command_about command.Migrate = codes "Takes a store of version 1 to version 2"
command_about command.Remove = codes "Takes a zone out of a store, with its changes; receipts stay"
command_about command.Rights = codes "Asks a policy whether a caller may do something"
command_about command.Plan = codes "Says what the office would answer to an update of a zone"
command_about command.Serve = codes "Answers callers over HTTP"
command_about command.Check = codes "Checks a policy, the isolation of a caller, or a zone; or prints who may do what"
command_about command.Policy = codes "Prints a policy: made from groups and templates, or only the rules that matter in some zones"
command_about command.Answer = codes "Prints what a server answers from a zone"
command_about command.Reverse = codes "Prints the PTR records that addresses call for"
command_about command.Split = codes "Prints what the office keeps of a master file of any types, or the rest"
command_about command.Explain = codes "Says what the number of a refusal means"

-- how it is used
abbrev pub command_example : Command → Text
command_example command.Apply = codes "Example: zoneoffice apply < update.txt"
command_example command.Canon = codes "Example: zoneoffice canon --origin example.org. < zone.txt"
command_example command.Diff = codes "Example: zoneoffice diff --origin example.org. old.zone new.zone"
command_example command.Request = codes "Example: zoneoffice diff --guard --origin example.org. old.zone new.zone | zoneoffice request --id a1"
command_example command.Import = codes "Example: zoneoffice import --store office.db --origin example.org. < zone.txt"
command_example command.Export = codes "Example: zoneoffice export --store office.db --origin example.org."
command_example command.Zones = codes "Example: zoneoffice zones --store office.db"
command_example command.Log = codes "Example: zoneoffice log --store office.db --origin example.org. --name www.example.org."
command_example command.Blame = codes "Example: zoneoffice blame --store office.db --origin example.org. --name www.example.org."
command_example command.Undo = codes "Example: zoneoffice undo --store office.db --origin example.org. --change 17 | zoneoffice request --id u17"
command_example command.Migrate = codes "Example: zoneoffice migrate --store office.db"
command_example command.Remove = codes "Example: zoneoffice remove --store office.db --origin example.org."
command_example command.Rights = codes "Example: zoneoffice rights --policy policy.toml --caller phys www.example.org. A add"
command_example command.Plan = codes "Example: zoneoffice plan --policy policy.toml --caller phys < update.txt"
command_example command.Serve = codes "Example: zoneoffice serve --store office.db --policy policy.toml --listen 127.0.0.1:8053"
command_example command.Check = codes "Example: zoneoffice check policy --policy policy.toml"
command_example command.Policy = codes "Example: zoneoffice policy build groups.toml > policy.toml"
command_example command.Answer = codes "Example: zoneoffice answer --origin example.org. zone.txt www.example.org. A"
command_example command.Reverse = codes "Example: zoneoffice reverse --origin 2.0.192.in-addr.arpa. zone.txt"
command_example command.Split = codes "Example: zoneoffice split --rest --origin example.org. zone.txt"
command_example command.Explain = codes "Example: zoneoffice explain 29.19.1"

-- ---- the help of the program

-- a line of a command, with its word in nine columns
abbrev pub command_line : Command → Text
command_line c = codes "  " ++ (command_word c ++ (repeat (9 - length (command_word c)) (codes " ") ++ (command_about c ++ 10 ∷ [])))

abbrev pub before_commands : Text
before_commands = codes "Usage: zoneoffice [COMMAND]" ++ (10 ∷ 10 ∷ (codes "Commands:" ++ 10 ∷ []))

abbrev pub after_commands : Text
after_commands =
    codes "  help     Print this message or the help of the given subcommand(s)"
    ++ (10 ∷ 10 ∷ (codes "Options:"
    ++ (10 ∷ (codes "  -h, --help     Print help" ++ (10 ∷ (codes "  -V, --version  Print version" ++ 10 ∷ []))))))

-- all commands, each with what it does
abbrev pub program_help : Text
program_help = before_commands ++ flat_map command_line all_commands ++ after_commands

abbrev pub version_line : Text
version_line = codes "zoneoffice 1.0.0" ++ 10 ∷ []

-- ---- what words ask for

-- the command whose help words ask for: the one that the first word names, or the second after `help`
abbrev pub command_helped : List Text → Option Command
command_helped words =
    option_and_then (λ word. if bytes_eq word (codes "help") then option_and_then command_of (slice_get words 1) else command_of word) (slice_get words 0)

-- The help of a command says first what it does, and last how it is used. Between the two are its usage and its options, as clap lays them
-- out.
abbrev pub IsHelpOf : Option Command → Text → Type 0
IsHelpOf None text = text ≡ program_help
IsHelpOf (Some c) text = (usage : Text) × (text ≡ command_about c ++ (10 ∷ 10 ∷ (usage ++ (10 ∷ (command_example c ++ 10 ∷ [])))))
