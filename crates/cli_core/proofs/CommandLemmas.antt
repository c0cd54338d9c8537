-- What the walk over the words of a command line comes to.
use Rattle.std.proofs.Common.{◌≡◌, ◌∙◌, ap, true, false, refl, ℕ, List, [], ◌∷◌, ◌++◌, Option, Some, None, nat_lt, append_assoc, append-nil, sym}
use Rattle.std.specs.Prelude.{fold, if◌then◌else◌, option_and_then}
use Rattle.clap.specs.Words.{Row, Rule, Text, is_simple}
use Rattle.clap.specs.Faults.{is_simple_and_free}
use Rattle.clap.specs.Walk.{Held, Names, Waiting, Walk, arg_by_id, arg_by_index, finished, idle, most_values, nothing_held, option, pending_count, pushed, rows_after, to_positional, walk_from, walked}
use Rattle.clap.specs.Simple.{entered, built, names_of, filled_from, help_rule}
use Rattle.clap.proofs.OnLiterals.{clap_on_literals}
use Rattle.cli_core.specs.Commands.{app_for, command_of, command_word, office}
use Rattle.cli_core.specs.declared.commands.Command.{Command}
use Rattle.cli_core.specs.declared.commands.Command.TheVariants as command
use Rattle.cli_core.specs.PlainForms.{IsValue}
use Rattle.cli_core.specs.Words.{job_by, job_met, job_of}

pub office_simple : is_simple office ≡ true
unfolding office clap_on_literals
office_simple = refl

pub office_free : is_simple_and_free office ≡ true
unfolding office clap_on_literals
office_free = refl

-- ---- the words after a command's word

-- once a subcommand is met, the walk only gathers the words after it
gathered : (c : List Rule) (names : Names) (w : Walk) (name : Text) (before words : List Text) → w.stopped ≡ Some (name, before)
    → (fold (walked c names) w words).stopped ≡ Some (name, before ++ words)
unfolding walked
gathered c names w name before [] e = e ∙ ap (λ ws. Some (name, ws)) (sym (append-nil before))
gathered c names w name before (word ∷ words) e =
    gathered c names (walked c names w word) name (before ++ word ∷ []) words (rw e refl)
    ∙ ap (λ ws. Some (name, ws)) (append_assoc before (word ∷ []) words)

-- the rules of a command, as clap builds them
abbrev pub rules_of : Command → List Rule
rules_of c = filled_from 1 ((app_for c).top.rules ++ help_rule ∷ [])

abbrev entered_at : Option (Text × List Text) → Option (Text × List Row)
entered_at = entered (built office)

abbrev first_walked : Command → Walk
first_walked c = walked (built office).top.rules (names_of (built office)) (walk_from nothing_held) (command_word c)

met : (c : Command) → (first_walked c).stopped ≡ Some (command_word c, [])
unfolding office clap_on_literals
met command.Apply = refl
met c = refl

entered_by : (c : Command) (words : List Text) → entered_at (Some (command_word c, words)) ≡ Some (command_word c, rows_after (rules_of c) [] words)
unfolding office clap_on_literals
entered_by command.Apply words = refl
entered_by c words = refl

read_back : (c : Command) → command_of (command_word c) ≡ Some c
read_back command.Apply = refl
read_back c = refl

-- the words after a command's word are read by its own rules
pub job_of_command : (c : Command) (words : List Text) → job_of (command_word c ∷ words) ≡ job_by c (rows_after (rules_of c) [] words)
unfolding office
job_of_command c words =
    ap (job_met (command_word c ∷ words)) (ap entered_at (gathered (built office).top.rules (names_of (built office)) (first_walked c) (command_word c) [] words (met c)) ∙ entered_by c words)
    ∙ ap (option_and_then (λ x. job_by x (rows_after (rules_of c) [] words))) (read_back c)

-- ---- the words of options and places

abbrev pub standing : ℕ → Held → Waiting → Walk
standing position h waiting = record { held = h; waiting = waiting; position = position; is_trailing = false; stopped = None }

-- a value after the option that waits for it
pub value_walked : (c : List Rule) (position : ℕ) (id v : Text) (a : Rule) (h : Held) → IsValue v → arg_by_id c id ≡ Some a
    → walked c [] (standing position h (option id)) v
    ≡ standing position (pushed id v h) (if nat_lt (pending_count a (pushed id v h).pending) (most_values a) then option id else idle)
unfolding walked
value_walked c position id v a h is found = rw (is.dashes, is.long, is.short, found) refl

-- a word in its place
pub place_walked : (c : List Rule) (position : ℕ) (v : Text) (a : Rule) (h : Held) → IsValue v → arg_by_index c position ≡ Some a
    → walked c [] (standing position h idle) v ≡ to_positional c (Some a) v (standing position h idle) h
unfolding walked
place_walked c position v a h is found = rw (is.dashes, is.long, is.short, found) refl

pub no_words : job_of [] ≡ Some (command.Apply, [])
unfolding office clap_on_literals
no_words = refl

-- what is found at the end of a walk over further words
abbrev pub rows_from : List Rule → Walk → List Text → List Row
rows_from c w words = finished c (fold (walked c []) w words).held
