-- The plain form of each job: the words that ask for it as a manual writes them.
use Rattle.std.specs.Prelude.{◌≡◌, ◌⊎◌, true, false, List, [], ◌∷◌, ◌++◌, Some, None, codes, map}
use Rattle.std.specs.Str.{bytes_eq}
use Rattle.clap.specs.Words.{Text}
use Rattle.clap.specs.Lexer.{long_of, short_of}
use Rattle.cli_core.specs.Commands.{argument_form, argument_name, command_word}
use Rattle.cli_core.specs.Values.{Given, Value, text, number, flag, number_in}
use Rattle.cli_core.specs.Jobs.{JobOf}
use Rattle.cli_core.specs.Words.{arguments_read, go_together, text_of, value_of}
use Rattle.cli_core.specs.declared.argument.Argument.TheVariants as argument
use Rattle.cli_core.specs.declared.argument.Form.{Form}
use Rattle.cli_core.specs.declared.argument.Form.TheVariants.{Needed, Number, Flag, Optional, Asked, Place, OptionalPlace}
use Rattle.cli_core.specs.declared.commands.Command.TheVariants as command

-- a word that may stand as the value of an option: it is no `--`, and no flag
pub record IsValue (v : Text) : Type 0 where
  pub dashes : bytes_eq v (codes "--") ≡ false
  pub long : long_of v ≡ None
  pub short : short_of v ≡ None

abbrev pub option_word : Text → Text
option_word name = codes "--" ++ name

-- the words of an argument of a form and a name that has a value: `--name VALUE`, the flag `--name`, or a word in its place; and no word
-- where it is left out
abbrev pub IsWritten : Form → Text → Value → List Text → Type 0
IsWritten Needed name (text (Some v)) words = IsValue v × (words ≡ option_word name ∷ v ∷ [])
IsWritten Asked name (text (Some v)) words = IsValue v × (words ≡ option_word name ∷ v ∷ [])
IsWritten Optional name (text (Some v)) words = IsValue v × (words ≡ option_word name ∷ v ∷ [])
IsWritten Optional name (text None) words = words ≡ []
IsWritten Number name (number (Some n)) words = (t : Text) × IsValue t × (number_in t ≡ Some n) × (words ≡ option_word name ∷ t ∷ [])
IsWritten Number name (number None) words = words ≡ []
IsWritten Flag name (flag true) words = words ≡ option_word name ∷ []
IsWritten Flag name (flag false) words = words ≡ []
IsWritten Place name (text (Some v)) words = IsValue v × (words ≡ v ∷ [])
IsWritten OptionalPlace name (text (Some v)) words = IsValue v × (words ≡ v ∷ [])
IsWritten OptionalPlace name (text None) words = words ≡ []
IsWritten _ name value words = ⊥

-- one after another
abbrev pub AreWritten : List Given → List Text → Type 0
AreWritten [] words = words ≡ []
AreWritten (g ∷ gs) words =
    (here : List Text) × (rest : List Text) × IsWritten (argument_form g.0) (argument_name g.0) g.1 here × AreWritten gs rest × (words ≡ here ++ rest)

-- the words are the plain form of a job: the word of its command, and what it reads, in the order of the table; and `apply` may be left out
abbrev pub IsPlain : List Text → JobOf → Type 0
IsPlain words x =
    ((words ≡ []) × (x ≡ (command.Apply, [])))
    ⊎ ((rest : List Text) × (words ≡ command_word x.0 ∷ rest) × AreWritten x.1 rest
    × (arguments_read x.0 (text_of (value_of argument.Subject x.1)) ≡ Some (map (λ g. g.0) x.1)) × (go_together x.0 x.1 ≡ true))
