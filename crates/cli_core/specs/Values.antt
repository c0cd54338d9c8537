-- The values of arguments, by what is matched of the words of a command.
use Rattle.std.specs.Prelude.{ℕ, ◌&&◌, ◌^◌, Bool, false, List, [], ◌∷◌, length, Option, Some, None, option_map, option_and_then, codes, nat_lt, if◌then◌else◌}
use Rattle.std.specs.Char.{digit_value}
use Rattle.std.specs.List.{list_all}
use Rattle.std.specs.Str.{bytes_eq}
use Rattle.std.specs.Str.Parse.{digits_value, without_leading_plus}
use Rattle.clap.specs.Words.{Row, Text, first_of, one_of}
use Rattle.cli_core.specs.Commands.{argument_form, argument_name}
use Rattle.cli_core.specs.declared.argument.Argument.{Argument}
use Rattle.cli_core.specs.declared.argument.Form.{Form}
use Rattle.cli_core.specs.declared.argument.Form.TheVariants.{Needed, Number, Flag, Optional, Asked, Place, OptionalPlace}

-- what an argument has: its text or its number, where one is given, or whether it is given
pub data Value : Type 0 where
  text : Option Text → Value
  number : Option ℕ → Value
  flag : Bool → Value

-- the value of an argument that has this text
abbrev pub given : Text → Value
given t = text (Some t)

-- an argument with its value
abbrev pub Given : Type 0
Given = Argument × Value

-- a decimal number of 64 bits, with or without a plus before it
abbrev pub number_in : Text → Option ℕ
number_in t =
    let ds = without_leading_plus t in
    if nat_lt 0 (length ds) && list_all (λ d. nat_lt (digit_value d) 10) ds && nat_lt (digits_value 10 ds) (2 ^ 64) then Some (digits_value 10 ds) else None

-- a number that may be left out
abbrev pub number_if : Option Text → Option (Option ℕ)
number_if None = Some None
number_if (Some t) = option_map (λ n. Some n) (number_in t)

-- whether a flag is given
abbrev pub flag_if : Option Text → Bool
flag_if None = false
flag_if (Some t) = bytes_eq t (codes "true")

-- the value of an argument that is written so, if it has one
abbrev pub value_by : Form → Text → List Row → Option Value
value_by Needed name rows = option_map (λ t. text (Some t)) (first_of name rows)
value_by Asked name rows = option_map (λ t. text (Some t)) (first_of name rows)
value_by Place name rows = option_map (λ t. text (Some t)) (first_of name rows)
value_by Optional name rows = Some (text (first_of name rows))
value_by OptionalPlace name rows = Some (text (first_of name rows))
value_by Number name rows = option_map (λ n. number n) (number_if (one_of name rows))
value_by Flag name rows = Some (flag (flag_if (first_of name rows)))

-- the values of arguments, if each has one
abbrev pub values_in : List Argument → List Row → Option (List Given)
values_in [] rows = Some []
values_in (a ∷ rest) rows =
    option_and_then (λ v. option_map (λ gs. (a, v) ∷ gs) (values_in rest rows)) (value_by (argument_form a) (argument_name a) rows)
