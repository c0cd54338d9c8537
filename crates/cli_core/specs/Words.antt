-- What a command line asks for, by the words after the program's name.
use Rattle.std.specs.Prelude.{◌&&◌, ◌||◌, Bool, true, false, not, List, [], ◌∷◌, Option, Some, None, is_some, option_map, option_and_then, codes, find, unwrap_or, if◌then◌else◌}
use Rattle.std.specs.Str.{bytes_eq}
use Rattle.std.specs.List.{list_any}
use Rattle.clap.specs.Words.{Row, Text, first_of, subcommand_of}
use Rattle.cli_core.specs.Commands.{argument_name, arguments_of, command_of, office}
use Rattle.cli_core.specs.Jobs.{JobOf, subject}
use Rattle.cli_core.specs.Values.{Given, Value, text, number, flag, flag_if, given, values_in}
use Rattle.cli_core.specs.declared.argument.Argument.{Argument}
use Rattle.cli_core.specs.declared.argument.Argument.TheVariants as argument
use Rattle.cli_core.specs.declared.commands.Command.{Command}
use Rattle.cli_core.specs.declared.commands.Command.TheVariants as command

-- what `check` reads, by the word of its subject
abbrev pub subjects : List (Text × List Argument)
subjects =
    (codes "policy", argument.CheckedPolicy ∷ argument.Against ∷ argument.Zones ∷ argument.Reader ∷ argument.Json ∷ [])
    ∷ (codes "isolation", argument.CheckedPolicy ∷ argument.Isolated ∷ argument.Json ∷ [])
    ∷ (codes "rights", argument.CheckedName ∷ argument.CheckedPolicy ∷ argument.Json ∷ [])
    ∷ (codes "expect", argument.CheckedName ∷ argument.CheckedPolicy ∷ argument.Json ∷ [])
    ∷ (codes "reach", argument.CheckedName ∷ argument.CheckedPolicy ∷ argument.Isolated ∷ argument.CheckedOrigin ∷ argument.Example ∷ argument.Json ∷ [])
    ∷ (codes "zone", argument.CheckedOrigin ∷ argument.Only ∷ argument.Not ∷ argument.Server ∷ argument.Most ∷ argument.Warn ∷ argument.Json ∷ []) ∷ []

-- the arguments that a job of a command reads: those of its row, and of `check` those of its subject
abbrev pub arguments_read : Command → Option Text → Option (List Argument)
arguments_read command.Check subject =
    option_and_then (λ t. option_map (λ s. argument.Subject ∷ s.1) (find (λ s. bytes_eq s.0 t) subjects)) subject
arguments_read c subject = Some (arguments_of c)

-- the value among these of an argument
abbrev pub value_of : Argument → List Given → Value
value_of a gs = unwrap_or (option_map (λ g. g.1) (find (λ g. bytes_eq (argument_name g.0) (argument_name a)) gs)) (text None)

abbrev pub text_of : Value → Option Text
text_of (text t) = t
text_of _ = None

abbrev pub is_given : Value → Bool
is_given (text t) = is_some t
is_given (number n) = is_some n
is_given (flag is) = is

-- standard input, `-`
abbrev pub is_input : Value → Bool
is_input (text (Some path)) = bytes_eq path (codes "-")
is_input _ = false

-- whether values go together: one of two files at most is standard input, and a diff prints prerequisites of one scope, or answers; an
-- update has an identifier, or what stands before those of its parts, and only one of them; an import has an origin, or a list of zones,
-- and only one of them; standard input is not both a zone and the questions to it, which have their types; a zone is not checked both by
-- one rule only and by all but one; a policy is not checked both against another and beside zones, and a reader is given with zones only;
-- examples of what is reached are lines only;
-- a plan has answers, and then only lines, or what is decided of each item; a policy is printed from groups or from rules; and of a file one
-- part is printed
abbrev pub go_together : Command → List Given → Bool
go_together command.Diff gs =
    not (is_input (value_of argument.Old gs) && is_input (value_of argument.New gs))
    && (not (is_given (value_of argument.Guard gs) && is_given (value_of argument.GuardSets gs))
    && not (is_given (value_of argument.Answers gs) && (is_given (value_of argument.Guard gs) || is_given (value_of argument.GuardSets gs))))
go_together command.Answer gs =
    not (is_input (value_of argument.File gs) && is_input (value_of argument.AskedName gs))
    && not (is_input (value_of argument.AskedName gs) && is_given (value_of argument.AskedType gs))
go_together command.Request gs =
    if is_given (value_of argument.Id gs) then not (is_given (value_of argument.Split gs)) else is_given (value_of argument.Split gs)
go_together command.Import gs =
    if is_given (value_of argument.ImportedOrigin gs) then not (is_given (value_of argument.List gs)) else is_given (value_of argument.List gs)
go_together command.Check gs =
    not (is_given (value_of argument.Only gs) && is_given (value_of argument.Not gs))
    && ((if is_given (value_of argument.Zones gs) then not (is_given (value_of argument.Against gs)) else not (is_given (value_of argument.Reader gs)))
    && not (is_given (value_of argument.Example gs) && is_given (value_of argument.Json gs)))
go_together command.Plan gs = not (is_given (value_of argument.Answers gs) && is_given (value_of argument.Explain gs))
go_together command.Policy gs = list_any (bytes_eq (unwrap_or (text_of (value_of argument.Source gs)) [])) (codes "build" ∷ codes "print" ∷ [])
go_together command.Split gs = not (is_given (value_of argument.Rest gs) && is_given (value_of argument.Signer gs))
go_together c gs = true

abbrev pub job_with : Command → List Given → Option JobOf
job_with c gs = if go_together c gs then Some (c, gs) else None

-- whether JSON is asked for
abbrev pub json_given : List Row → List Given
json_given rows = (argument.Json, flag (flag_if (first_of (argument_name argument.Json) rows))) ∷ []

-- the job of `check` with this subject
abbrev pub check_by : Text → List Row → Option JobOf
check_by t rows =
    option_and_then (λ s. option_and_then (job_with command.Check) (option_map (λ gs. subject t ∷ gs) (values_in s.1 rows))) (find (λ s. bytes_eq s.0 t) subjects)

-- the job of `policy` with the word of a source
abbrev pub policy_by : Text → List Row → Option JobOf
policy_by t rows =
    option_and_then (job_with command.Policy) (option_map (λ gs. (argument.Source, given t) ∷ gs) (values_in (argument.SourceFile ∷ argument.Slice ∷ []) rows))

-- the job of a command, by what was matched
abbrev pub job_by : Command → List Row → Option JobOf
job_by c rows =
    option_and_then (job_with c) (option_and_then (λ read. values_in read rows) (arguments_read c (first_of (argument_name argument.Subject) rows)))

-- the job of the command that a word names
abbrev pub job_named : Text → List Row → Option JobOf
job_named word rows = option_and_then (λ c. job_by c rows) (command_of word)

-- no word at all is `apply`, and words without a command, as `--`, are no job
abbrev pub job_without_command : List Text → Option JobOf
job_without_command [] = Some (command.Apply, [])
job_without_command (_ ∷ _) = None

abbrev pub job_met : List Text → Option (Text × List Row) → Option JobOf
job_met words None = job_without_command words
job_met words (Some p) = job_named p.0 p.1

-- the job of words, as they are told apart by the rules of the commands
abbrev pub job_of : List Text → Option JobOf
job_of words = job_met words (subcommand_of office words)
