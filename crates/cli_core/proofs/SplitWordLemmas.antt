-- The job of `split`, by what is matched of its words.
use Rattle.std.proofs.Common.{◌≡◌, ◌∙◌, ap, sym, refl, true≢false, Bool, true, false, List, [], ◌∷◌, Option, Some, None, is_some}
use Rattle.std.specs.Prelude.{◌&&◌, not, option_map, option_and_then, if◌then◌else◌}
use Rattle.clap.specs.Words.{Row, Text, first_of}
use Rattle.dns_master.specs.declared.parting.FilePart.{FilePart}
use Rattle.dns_master.specs.declared.parting.FilePart.TheVariants as part
use Rattle.cli_core.specs.declared.argument.Argument.{Argument}
use Rattle.cli_core.specs.declared.argument.Argument.TheVariants as argument
use Rattle.cli_core.specs.declared.commands.Command.TheVariants as command
use Rattle.cli_core.specs.Commands.{argument_name}
use Rattle.cli_core.specs.Jobs.{JobOf, part_by, is_rest, is_of_signer}
use Rattle.cli_core.specs.Values.{Given, Value, text, flag, given, flag_if}
use Rattle.cli_core.specs.Words.{job_by, job_with}

-- ---- the part of flags

abbrev part_in : Option FilePart → FilePart
part_in (Some p) = p
part_in None = part.Kept

of_part : {B : Type 0} (f : FilePart → B) (x p : FilePart) → Some p ≡ Some x → f p ≡ f x
of_part f x p e = ap (λ o. f (part_in o)) e

-- flags go together
abbrev fits : Bool → Bool → Bool
fits rest signer = not (rest && signer)

record HasFlags (p : FilePart) (rest signer : Bool) : Type 0 where
  pub of_rest : is_rest p ≡ rest
  pub of_signer : is_of_signer p ≡ signer
  pub fit : fits rest signer ≡ true

is_part : (x p : FilePart) → Some p ≡ Some x → fits (is_rest x) (is_of_signer x) ≡ true → HasFlags p (is_rest x) (is_of_signer x)
is_part x p e fit = record { of_rest = of_part is_rest x p e; of_signer = of_part is_of_signer x p e; fit = fit }

flags_of : (rest signer : Bool) (p : FilePart) → Some p ≡ part_by rest signer → HasFlags p rest signer
flags_of false false p e = is_part part.Kept p e refl
flags_of true false p e = is_part part.Rest p e refl
flags_of false true p e = is_part part.Signer p e refl
flags_of true true p e = absurd (true≢false (ap is_some e))

-- ---- the job

abbrev got : Argument → Option Value → Option (List Given) → Option (List Given)
got a v rest = option_and_then (λ v. option_map (λ gs. (a, v) ∷ gs) rest) v

abbrev text_if : Option Text → Option Value
text_if o = option_map (λ t. text (Some t)) o

abbrev job_for : Option Text → Bool → Bool → Option Text → Option JobOf
job_for origin rest signer file =
    option_and_then (job_with command.Split) (got argument.Origin (text_if origin) (got argument.Rest (Some (flag rest))
    (got argument.Signer (Some (flag signer)) (got argument.File (text_if file) (Some [])))))

abbrev values : Text → Bool → Bool → Text → List Given
values origin rest signer file = (argument.Origin, given origin) ∷ (argument.Rest, flag rest) ∷ (argument.Signer, flag signer) ∷ (argument.File, given file) ∷ []

job_is : (origin file : Text) (rest signer : Bool) → fits rest signer ≡ true → job_for (Some origin) rest signer (Some file) ≡ Some (command.Split, values origin rest signer file)
job_is origin file rest signer fit = ap (λ b. if b then Some (command.Split, values origin rest signer file) else None) fit

pub split_job : (rows : List Row) (origin file : Text) (p : FilePart) → Some origin ≡ first_of (argument_name argument.Origin) rows
    → Some file ≡ first_of (argument_name argument.File) rows
    → Some p ≡ part_by (flag_if (first_of (argument_name argument.Rest) rows)) (flag_if (first_of (argument_name argument.Signer) rows))
    → Some (command.Split, values origin (is_rest p) (is_of_signer p) file) ≡ job_by command.Split rows
split_job rows origin file p has_origin has_file is =
    let rest = flag_if (first_of (argument_name argument.Rest) rows) in
    let signer = flag_if (first_of (argument_name argument.Signer) rows) in
    let has = flags_of rest signer p is in
    let whole : job_for (Some origin) rest signer (Some file) ≡ job_by command.Split rows = λ i. job_for (has_origin i) rest signer (has_file i) in
    (λ i. Some (command.Split, values origin (has.of_rest i) (has.of_signer i) file)) ∙ (sym (job_is origin file rest signer has.fit) ∙ whole)
