-- The job of `plan`, by what is matched of its words.
use Rattle.std.proofs.Common.{◌≡◌, ◌∙◌, ap, sym, refl, true≢false, Bool, true, false, List, [], ◌∷◌, Option, Some, None, is_some}
use Rattle.std.specs.Prelude.{◌&&◌, ◌||◌, not, option_map, option_and_then, if◌then◌else◌}
use Rattle.clap.specs.Words.{Row, Text, first_of}
use Rattle.cli_core.specs.declared.argument.Argument.{Argument}
use Rattle.cli_core.specs.declared.argument.Argument.TheVariants as argument
use Rattle.cli_core.specs.declared.commands.Command.TheVariants as command
use Rattle.cli_core.specs.declared.job.PlanForm.{PlanForm}
use Rattle.cli_core.specs.declared.job.PlanForm.TheVariants.{Lines, Object}
use Rattle.cli_core.specs.declared.job.PlanLines.TheVariants as plan_lines
use Rattle.cli_core.specs.declared.job.PlanObject.TheVariants as plan_object
use Rattle.cli_core.specs.Commands.{argument_name}
use Rattle.cli_core.specs.Jobs.{JobOf, plan_form_by, tells_answers, explains, is_object}
use Rattle.cli_core.specs.Values.{Given, Value, text, flag, given, flag_if}
use Rattle.cli_core.specs.Words.{job_by, job_with}

-- ---- the form of flags

abbrev form_in : Option PlanForm → PlanForm
form_in (Some form) = form
form_in None = Lines plan_lines.Records

of_form : {B : Type 0} (f : PlanForm → B) (x form : PlanForm) → Some form ≡ Some x → f form ≡ f x
of_form f x form e = ap (λ o. f (form_in o)) e

-- flags go together
abbrev fits : Bool → Bool → Bool
fits answers explain = not (answers && explain)

no_form : {X : Type 0} (form : PlanForm) → Some form ≡ None → X
no_form form e = absurd (true≢false (ap is_some e))

record HasFlags (form : PlanForm) (answers explain json : Bool) : Type 0 where
  pub of_answers : tells_answers form ≡ answers
  pub of_explain : explains form ≡ explain
  pub of_json : is_object form ≡ json
  pub fit : fits answers explain ≡ true

is_form : (x form : PlanForm) → Some form ≡ Some x → fits (tells_answers x) (explains x) ≡ true → HasFlags form (tells_answers x) (explains x) (is_object x)
is_form x form e fit = record { of_answers = of_form tells_answers x form e; of_explain = of_form explains x form e; of_json = of_form is_object x form e; fit = fit }

flags_of : (answers explain json : Bool) (form : PlanForm) → Some form ≡ plan_form_by answers explain json → HasFlags form answers explain json
flags_of false false false form e = is_form (Lines plan_lines.Records) form e refl
flags_of true false false form e = is_form (Lines plan_lines.Answers) form e refl
flags_of false true false form e = is_form (Lines plan_lines.Explained) form e refl
flags_of false false true form e = is_form (Object plan_object.Reply) form e refl
flags_of false true true form e = is_form (Object plan_object.Explained) form e refl
flags_of true true false form e = no_form form e
flags_of true false true form e = is_form (Object plan_object.Answers) form e refl
flags_of true true true form e = no_form form e

-- ---- the job

abbrev got : Argument → Option Value → Option (List Given) → Option (List Given)
got a v rest = option_and_then (λ v. option_map (λ gs. (a, v) ∷ gs) rest) v

abbrev text_if : Option Text → Option Value
text_if o = option_map (λ t. text (Some t)) o

abbrev job_for : Option Text → Option Text → Bool → Bool → Bool → Option JobOf
job_for policy caller answers explain json =
    option_and_then (job_with command.Plan) (got argument.Policy (text_if policy) (got argument.Caller (text_if caller) (got argument.Answers (Some (flag answers))
    (got argument.Explain (Some (flag explain)) (got argument.Json (Some (flag json)) (Some []))))))

abbrev values : Text → Text → Bool → Bool → Bool → List Given
values policy caller answers explain json =
    (argument.Policy, given policy) ∷ (argument.Caller, given caller) ∷ (argument.Answers, flag answers) ∷ (argument.Explain, flag explain) ∷ (argument.Json, flag json) ∷ []

job_is : (policy caller : Text) (answers explain json : Bool) → fits answers explain ≡ true
    → job_for (Some policy) (Some caller) answers explain json ≡ Some (command.Plan, values policy caller answers explain json)
job_is policy caller answers explain json fit = ap (λ b. if b then Some (command.Plan, values policy caller answers explain json) else None) fit

pub plan_job : (rows : List Row) (policy caller : Text) (form : PlanForm) → Some policy ≡ first_of (argument_name argument.Policy) rows
    → Some caller ≡ first_of (argument_name argument.Caller) rows
    → Some form ≡ plan_form_by (flag_if (first_of (argument_name argument.Answers) rows)) (flag_if (first_of (argument_name argument.Explain) rows)) (flag_if (first_of (argument_name argument.Json) rows))
    → Some (command.Plan, values policy caller (tells_answers form) (explains form) (is_object form)) ≡ job_by command.Plan rows
plan_job rows policy caller form has_policy has_caller is =
    let answers = flag_if (first_of (argument_name argument.Answers) rows) in
    let explain = flag_if (first_of (argument_name argument.Explain) rows) in
    let json = flag_if (first_of (argument_name argument.Json) rows) in
    let has = flags_of answers explain json form is in
    let whole : job_for (Some policy) (Some caller) answers explain json ≡ job_by command.Plan rows = λ i. job_for (has_policy i) (has_caller i) answers explain json in
    (λ i. Some (command.Plan, values policy caller (has.of_answers i) (has.of_explain i) (has.of_json i))) ∙ (sym (job_is policy caller answers explain json has.fit) ∙ whole)
