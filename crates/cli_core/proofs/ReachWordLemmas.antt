-- The job of `check reach`, by what is matched of its words.
use Rattle.std.proofs.Common.{◌≡◌, ◌∙◌, ap, sym, refl, true≢false, Bool, true, false, List, [], ◌∷◌, Option, Some, None, is_some}
use Rattle.std.specs.Prelude.{◌&&◌, not, codes, option_map, option_and_then, if◌then◌else◌}
use Rattle.clap.specs.Words.{Row, Text, first_of}
use Rattle.cli_core.specs.declared.argument.Argument.{Argument}
use Rattle.cli_core.specs.declared.argument.Argument.TheVariants as argument
use Rattle.cli_core.specs.declared.commands.Command.TheVariants as command
use Rattle.cli_core.specs.declared.job.ReachContent.{ReachContent}
use Rattle.cli_core.specs.declared.job.ReachContent.TheVariants.{Groups, Examples}
use Rattle.cli_core.specs.Commands.{argument_name}
use Rattle.cli_core.specs.Jobs.{JobOf, has_examples, reach_content_by, subject}
use Rattle.cli_core.specs.Values.{Given, Value, text, flag, given, flag_if}
use Rattle.cli_core.specs.Words.{check_by, job_with, json_given}

-- ---- the content of flags

abbrev content_in : Option ReachContent → ReachContent
content_in (Some content) = content
content_in None = Groups

-- flags go together
abbrev fits : Bool → Bool → Bool
fits example json = not (example && json)

record HasFlags (content : ReachContent) (example json : Bool) : Type 0 where
  pub of_example : has_examples content ≡ example
  pub fit : fits example json ≡ true

flags_of : (example json : Bool) (content : ReachContent) → Some content ≡ reach_content_by example json → HasFlags content example json
flags_of false json content e = record { of_example = ap (λ o. has_examples (content_in o)) e; fit = refl }
flags_of true false content e = record { of_example = ap (λ o. has_examples (content_in o)) e; fit = refl }
flags_of true true content e = absurd (true≢false (ap is_some e))

-- ---- the job

abbrev got : Argument → Option Value → Option (List Given) → Option (List Given)
got a v rest = option_and_then (λ v. option_map (λ gs. (a, v) ∷ gs) rest) v

abbrev text_if : Option Text → Option Value
text_if o = option_map (λ t. text (Some t)) o

abbrev job_for : Option Text → Option Text → Option Text → Option Text → Bool → Bool → Option JobOf
job_for file policy caller origin example json =
    option_and_then (job_with command.Check) (option_map (λ gs. subject (codes "reach") ∷ gs) (got argument.CheckedName (Some (text file))
    (got argument.CheckedPolicy (text_if policy) (got argument.Isolated (text_if caller) (got argument.CheckedOrigin (text_if origin)
    (got argument.Example (Some (flag example)) (got argument.Json (Some (flag json)) (Some []))))))))

abbrev values : Option Text → Text → Text → Text → Bool → List Given → List Given
values file policy caller origin example gs =
    subject (codes "reach") ∷ (argument.CheckedName, text file) ∷ (argument.CheckedPolicy, given policy) ∷ (argument.Isolated, given caller)
    ∷ (argument.CheckedOrigin, given origin) ∷ (argument.Example, flag example) ∷ gs

abbrev json_value : Bool → List Given
json_value json = (argument.Json, flag json) ∷ []

job_is : (file : Option Text) (policy caller origin : Text) (example json : Bool) → fits example json ≡ true
    → job_for file (Some policy) (Some caller) (Some origin) example json ≡ Some (command.Check, values file policy caller origin example (json_value json))
job_is file policy caller origin example json fit =
    ap (λ b. if b then Some (command.Check, values file policy caller origin example (json_value json)) else None) fit

pub reach_job : (rows : List Row) (file : Option Text) (policy caller origin : Text) (content : ReachContent)
    → file ≡ first_of (argument_name argument.CheckedName) rows → Some policy ≡ first_of (argument_name argument.CheckedPolicy) rows
    → Some caller ≡ first_of (argument_name argument.Isolated) rows → Some origin ≡ first_of (argument_name argument.CheckedOrigin) rows
    → Some content ≡ reach_content_by (flag_if (first_of (argument_name argument.Example) rows)) (flag_if (first_of (argument_name argument.Json) rows))
    → Some (command.Check, values file policy caller origin (has_examples content) (json_given rows)) ≡ check_by (codes "reach") rows
reach_job rows file policy caller origin content has_file has_policy has_caller has_origin is =
    let example = flag_if (first_of (argument_name argument.Example) rows) in
    let json = flag_if (first_of (argument_name argument.Json) rows) in
    let has = flags_of example json content is in
    let whole : job_for file (Some policy) (Some caller) (Some origin) example json ≡ check_by (codes "reach") rows =
    λ i. job_for (has_file i) (has_policy i) (has_caller i) (has_origin i) example json in
    (λ i. Some (command.Check, values file policy caller origin (has.of_example i) (json_given rows)))
    ∙ (sym (job_is file policy caller origin example json has.fit) ∙ whole)
