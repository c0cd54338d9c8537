-- The job of `diff`, by what is matched of its words.
use Rattle.std.proofs.Common.{◌≡◌, ◌∙◌, ap, sym, refl, true≢false, Bool, true, false, List, [], ◌∷◌, Option, Some, None, is_some}
use Rattle.std.specs.Prelude.{◌&&◌, ◌||◌, not, codes, option_map, option_and_then, if◌then◌else◌}
use Rattle.std.specs.Option.{option_zip}
use Rattle.std.specs.Str.{bytes_eq}
use Rattle.clap.specs.Words.{Row, Text, first_of}
use Rattle.cli_core.specs.declared.argument.Argument.{Argument}
use Rattle.cli_core.specs.declared.argument.Argument.TheVariants as argument
use Rattle.cli_core.specs.declared.commands.Command.TheVariants as command
use Rattle.cli_core.specs.declared.job.DiffContent.{DiffContent}
use Rattle.cli_core.specs.declared.job.DiffContent.TheVariants.{Items, Answers}
use Rattle.cli_core.specs.declared.job.ItemForm.TheVariants.{Bare, Guarded}
use Rattle.cli_core.specs.declared.job.GuardScope.TheVariants.{Names, Sets}
use Rattle.cli_core.specs.Commands.{argument_name}
use Rattle.cli_core.specs.Jobs.{JobOf, content_by, is_guarded, is_guarded_by_sets, is_of_answers}
use Rattle.cli_core.specs.Values.{Given, Value, text, flag, given, flag_if}
use Rattle.cli_core.specs.Words.{job_by, job_with}

-- ---- the form of flags

abbrev form_in : Option DiffContent → DiffContent
form_in (Some form) = form
form_in None = Answers

of_form : {B : Type 0} (f : DiffContent → B) (x form : DiffContent) → Some form ≡ Some x → f form ≡ f x
of_form f x form e = ap (λ o. f (form_in o)) e

-- flags go together
abbrev fits : Bool → Bool → Bool → Bool
fits guard sets answers = not (guard && sets) && not (answers && (guard || sets))

no_form : {X : Type 0} (form : DiffContent) → Some form ≡ None → X
no_form form e = absurd (true≢false (ap is_some e))

record HasFlags (form : DiffContent) (guard sets answers : Bool) : Type 0 where
  pub of_guard : is_guarded form ≡ guard
  pub of_sets : is_guarded_by_sets form ≡ sets
  pub of_answers : is_of_answers form ≡ answers
  pub fit : fits guard sets answers ≡ true

is_form : (x form : DiffContent) → Some form ≡ Some x → fits (is_guarded x) (is_guarded_by_sets x) (is_of_answers x) ≡ true
    → HasFlags form (is_guarded x) (is_guarded_by_sets x) (is_of_answers x)
is_form x form e fit = record { of_guard = of_form is_guarded x form e; of_sets = of_form is_guarded_by_sets x form e; of_answers = of_form is_of_answers x form e; fit = fit }

flags_of : (guard sets answers : Bool) (form : DiffContent) → Some form ≡ content_by guard sets answers → HasFlags form guard sets answers
flags_of false false false form e = is_form (Items Bare) form e refl
flags_of true false false form e = is_form (Items (Guarded Names)) form e refl
flags_of false true false form e = is_form (Items (Guarded Sets)) form e refl
flags_of false false true form e = is_form Answers form e refl
flags_of true true false form e = no_form form e
flags_of true false true form e = no_form form e
flags_of false true true form e = no_form form e
flags_of true true true form e = no_form form e

-- ---- the job

abbrev got : Argument → Option Value → Option (List Given) → Option (List Given)
got a v rest = option_and_then (λ v. option_map (λ gs. (a, v) ∷ gs) rest) v

abbrev text_if : Option Text → Option Value
text_if o = option_map (λ t. text (Some t)) o

abbrev job_for : Option Text → Bool → Bool → Bool → Bool → Option Text → Option Text → Option JobOf
job_for origin guard sets answers json old new =
    option_and_then (job_with command.Diff) (got argument.Origin (text_if origin) (got argument.Guard (Some (flag guard)) (got argument.GuardSets (Some (flag sets))
    (got argument.Answers (Some (flag answers)) (got argument.Json (Some (flag json)) (got argument.Old (text_if old) (got argument.New (text_if new) (Some []))))))))

abbrev values : Text → Bool → Bool → Bool → Bool → Text → Text → List Given
values origin guard sets answers json old new =
    (argument.Origin, given origin) ∷ (argument.Guard, flag guard) ∷ (argument.GuardSets, flag sets) ∷ (argument.Answers, flag answers) ∷ (argument.Json, flag json)
    ∷ (argument.Old, given old) ∷ (argument.New, given new) ∷ []

job_is : (origin old new : Text) (guard sets answers json : Bool) → (bytes_eq old (codes "-") && bytes_eq new (codes "-")) ≡ false → fits guard sets answers ≡ true
    → job_for (Some origin) guard sets answers json (Some old) (Some new) ≡ Some (command.Diff, values origin guard sets answers json old new)
job_is origin old new guard sets answers json one fit =
    let job = values origin guard sets answers json old new in
    ap (λ b. if not b && fits guard sets answers then Some (command.Diff, job) else None) one
    ∙ ap (λ b. if b then Some (command.Diff, job) else None) fit

pub diff_job : (rows : List Row) (origin old new : Text) (form : DiffContent) (json : Bool) → Some origin ≡ first_of (argument_name argument.Origin) rows
    → Some old ≡ first_of (argument_name argument.Old) rows → Some new ≡ first_of (argument_name argument.New) rows
    → Some form ≡ content_by (flag_if (first_of (argument_name argument.Guard) rows)) (flag_if (first_of (argument_name argument.GuardSets) rows)) (flag_if (first_of (argument_name argument.Answers) rows))
    → json ≡ flag_if (first_of (argument_name argument.Json) rows) → (bytes_eq old (codes "-") && bytes_eq new (codes "-")) ≡ false
    → Some (command.Diff, values origin (is_guarded form) (is_guarded_by_sets form) (is_of_answers form) json old new) ≡ job_by command.Diff rows
diff_job rows origin old new form json has_origin has_old has_new is has_json one =
    let guard = flag_if (first_of (argument_name argument.Guard) rows) in
    let sets = flag_if (first_of (argument_name argument.GuardSets) rows) in
    let answers = flag_if (first_of (argument_name argument.Answers) rows) in
    let has = flags_of guard sets answers form is in
    let whole : job_for (Some origin) guard sets answers json (Some old) (Some new) ≡ job_by command.Diff rows =
    λ i. job_for (has_origin i) guard sets answers (has_json i) (has_old i) (has_new i) in
    (λ i. Some (command.Diff, values origin (has.of_guard i) (has.of_sets i) (has.of_answers i) json old new))
    ∙ (sym (job_is origin old new guard sets answers json one has.fit) ∙ whole)

-- two texts that are there
pub both_there : (first second : Option Text) (a b : Text) → Some (a, b) ≡ option_zip first second → (Some a ≡ first) × (Some b ≡ second)
both_there (Some x) (Some y) a b e = (ap (λ o. option_map (λ p. p.0) o) e, ap (λ o. option_map (λ p. p.1) o) e)
both_there (Some x) None a b e = absurd (true≢false (ap is_some e))
both_there None (Some y) a b e = absurd (true≢false (ap is_some e))
both_there None None a b e = absurd (true≢false (ap is_some e))
