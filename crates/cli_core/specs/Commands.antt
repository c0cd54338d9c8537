-- The commands and what each takes after its word, and the rules that clap reads words by.
use Rattle.std.specs.Prelude.{true, List, [], ◌∷◌, Option, Some, bytes_eq, codes, find, fold}
use Rattle.clap.specs.Words.{App, Rule, Shape, Text, new_app, new_rule, with_rule, with_subcommand}
use Rattle.clap.specs.Simple.{on_top}
use Rattle.clap.specs.declared.builder.ArgAction.TheVariants.{Set, SetTrue}
use Rattle.clap.specs.declared.builder.value_parser.ValueParser.TheVariants as value
use Rattle.cli_core.specs.declared.argument.Argument.{Argument}
use Rattle.cli_core.specs.declared.argument.Argument.TheVariants as argument
use Rattle.cli_core.specs.declared.argument.Form.{Form}
use Rattle.cli_core.specs.declared.argument.Form.TheVariants.{Needed, Number, Flag, Optional, Asked, Place, OptionalPlace}
use Rattle.cli_core.specs.declared.commands.Command.{Command}
use Rattle.cli_core.specs.declared.commands.Command.TheVariants as command

-- ---- the table of arguments

-- the name of an argument, and how it is written
abbrev pub argument_row : Argument → Text × Form
argument_row argument.Store = (codes "store", Needed)
argument_row argument.Policy = (codes "policy", Needed)
argument_row argument.Origin = (codes "origin", Needed)
argument_row argument.Caller = (codes "caller", Needed)
argument_row argument.Name = (codes "name", Place)
argument_row argument.Type = (codes "type", Place)
argument_row argument.Action = (codes "action", Place)
argument_row argument.Listen = (codes "listen", Needed)
argument_row argument.ImportedOrigin = (codes "origin", Optional)
argument_row argument.List = (codes "list", Optional)
argument_row argument.Replace = (codes "replace", Flag)
argument_row argument.At = (codes "at", Number)
argument_row argument.Changed = (codes "change", Number)
argument_row argument.To = (codes "to", Number)
argument_row argument.Relative = (codes "relative", Flag)
argument_row argument.Connections = (codes "connections", Number)
argument_row argument.Patience = (codes "patience", Number)
argument_row argument.Longest = (codes "longest", Number)
argument_row argument.Memory = (codes "memory", Number)
argument_row argument.Number = (codes "number", OptionalPlace)
argument_row argument.Subject = (codes "subject", Place)
argument_row argument.CheckedPolicy = (codes "policy", Asked)
argument_row argument.Against = (codes "against", Optional)
argument_row argument.Zones = (codes "zones", Optional)
argument_row argument.Reader = (codes "reader", Optional)
argument_row argument.CheckedOrigin = (codes "origin", Asked)
argument_row argument.CheckedName = (codes "name", OptionalPlace)
argument_row argument.Isolated = (codes "caller", Asked)
argument_row argument.Only = (codes "only", Optional)
argument_row argument.Not = (codes "not", Optional)
argument_row argument.Server = (codes "server", Optional)
argument_row argument.Most = (codes "most", Number)
argument_row argument.Warn = (codes "warn", Flag)
argument_row argument.Example = (codes "example", Flag)
argument_row argument.Source = (codes "source", Place)
argument_row argument.SourceFile = (codes "file", OptionalPlace)
argument_row argument.Slice = (codes "slice", Optional)
argument_row argument.Json = (codes "json", Flag)
argument_row argument.Guard = (codes "guard", Flag)
argument_row argument.GuardSets = (codes "guard-sets", Flag)
argument_row argument.Answers = (codes "answers", Flag)
argument_row argument.Explain = (codes "explain", Flag)
argument_row argument.Old = (codes "old", Place)
argument_row argument.New = (codes "new", Place)
argument_row argument.Id = (codes "id", Optional)
argument_row argument.Split = (codes "split", Optional)
argument_row argument.Rest = (codes "rest", Flag)
argument_row argument.Signer = (codes "signer", Flag)
argument_row argument.Receipts = (codes "receipts", Flag)
argument_row argument.From = (codes "from", Number)
argument_row argument.Within = (codes "name", Optional)
argument_row argument.Asker = (codes "caller", Optional)
argument_row argument.File = (codes "file", Place)
argument_row argument.AskedName = (codes "name", Place)
argument_row argument.AskedType = (codes "type", OptionalPlace)

abbrev pub argument_name : Argument → Text
argument_name a = (argument_row a).0

abbrev pub argument_form : Argument → Form
argument_form a = (argument_row a).1

-- ---- the table of commands

-- the word of a command, and what it takes after it
abbrev pub command_row : Command → Text × List Argument
command_row command.Apply = (codes "apply", [])
command_row command.Canon = (codes "canon", argument.Origin ∷ argument.Relative ∷ [])
command_row command.Diff = (codes "diff", argument.Origin ∷ argument.Guard ∷ argument.GuardSets ∷ argument.Answers ∷ argument.Json ∷ argument.Old ∷ argument.New ∷ [])
command_row command.Request = (codes "request", argument.Id ∷ argument.Split ∷ [])
command_row command.Import = (codes "import", argument.Store ∷ argument.ImportedOrigin ∷ argument.List ∷ argument.Replace ∷ [])
command_row command.Export = (codes "export", argument.Store ∷ argument.Origin ∷ argument.At ∷ argument.Relative ∷ [])
command_row command.Zones = (codes "zones", argument.Store ∷ [])
command_row command.Log = (codes "log", argument.Store ∷ argument.Origin ∷ argument.From ∷ argument.Within ∷ argument.Asker ∷ argument.Json ∷ [])
command_row command.Blame = (codes "blame", argument.Store ∷ argument.Origin ∷ argument.Within ∷ argument.Receipts ∷ [])
command_row command.Undo = (codes "undo", argument.Store ∷ argument.Origin ∷ argument.Changed ∷ argument.To ∷ [])
command_row command.Migrate = (codes "migrate", argument.Store ∷ [])
command_row command.Remove = (codes "remove", argument.Store ∷ argument.Origin ∷ [])
command_row command.Rights =
    (codes "rights", argument.Policy ∷ argument.Caller ∷ argument.Name ∷ argument.Type ∷ argument.Action ∷ argument.Json ∷ [])
command_row command.Plan = (codes "plan", argument.Policy ∷ argument.Caller ∷ argument.Answers ∷ argument.Explain ∷ argument.Json ∷ [])
command_row command.Serve =
    (codes "serve", argument.Store ∷ argument.Policy ∷ argument.Listen ∷ argument.Connections ∷ argument.Patience ∷ argument.Longest ∷ argument.Memory ∷ [])
command_row command.Check =
    (codes "check", argument.Subject ∷ argument.CheckedName ∷ argument.CheckedPolicy ∷ argument.Against ∷ argument.Zones ∷ argument.Reader ∷ argument.Isolated ∷ argument.CheckedOrigin ∷ argument.Only ∷ argument.Not ∷ argument.Server ∷ argument.Most ∷ argument.Warn ∷ argument.Example ∷ argument.Json ∷ [])
command_row command.Policy = (codes "policy", argument.Source ∷ argument.SourceFile ∷ argument.Slice ∷ [])
command_row command.Answer = (codes "answer", argument.Origin ∷ argument.File ∷ argument.AskedName ∷ argument.AskedType ∷ argument.Json ∷ [])
command_row command.Reverse = (codes "reverse", argument.Origin ∷ argument.File ∷ [])
command_row command.Split = (codes "split", argument.Origin ∷ argument.Rest ∷ argument.Signer ∷ argument.File ∷ [])
command_row command.Explain = (codes "explain", argument.Number ∷ argument.Json ∷ [])

abbrev pub command_word : Command → Text
command_word c = (command_row c).0

abbrev pub arguments_of : Command → List Argument
arguments_of c = (command_row c).1

abbrev pub all_commands : List Command
all_commands =
    command.Apply ∷ command.Canon ∷ command.Diff ∷ command.Request ∷ command.Import ∷ command.Export ∷ command.Zones ∷ command.Log ∷ command.Blame
    ∷ command.Undo ∷ command.Migrate ∷ command.Remove ∷ command.Rights ∷ command.Plan ∷ command.Serve ∷ command.Check ∷ command.Policy ∷ command.Answer
    ∷ command.Reverse ∷ command.Split ∷ command.Explain ∷ []

-- the command that a word names
abbrev pub command_of : Text → Option Command
command_of word = find (λ c. bytes_eq (command_word c) word) all_commands

-- ---- the rules that clap reads words by

abbrev pub in_form : Form → Text → Rule → Rule
in_form Needed name r = record r { long = Some name; required = true; action = Some Set }
in_form Number name r = record r { long = Some name; action = Some Set; parser = Some (value.Unsigned 0 18446744073709551615) }
in_form Flag name r = record r { long = Some name; action = Some SetTrue }
in_form Optional name r = record r { long = Some name; action = Some Set }
in_form Asked name r = record r { long = Some name; action = Some Set }
in_form Place name r = record r { required = true; action = Some Set }
in_form OptionalPlace name r = record r { action = Some Set }

abbrev pub rule_for : Argument → Rule
rule_for a = in_form (argument_form a) (argument_name a) (new_rule (argument_name a))

abbrev pub with_argument : App → Argument → App
with_argument app a = with_rule app (rule_for a)

abbrev pub app_for : Command → App
app_for c = fold with_argument (new_app (command_word c)) (arguments_of c)

-- the first word is not the program's name, and `--version` prints the version
abbrev pub of_program : Shape → Shape
of_program s = record s { no_binary_name = true; has_version = true }

abbrev pub bare_office : App
bare_office = on_top of_program (new_app (codes "zoneoffice"))

abbrev pub with_command : App → Command → App
with_command app c = with_subcommand app (app_for c).top

-- the program, with all commands
unfoldable pub office : App
office = fold with_command bare_office all_commands
